-- What the private function that makes a row of A or B asks of its caller. No public call asks anything.
-- Assumes nothing.
use Rattle.std.specs.Prelude.{ℕ, ◌≤◌, ◌<◌}
use Rattle.dpch.specs.declared.Format.{Format}
use Rattle.dpch.specs.Formats.{kind_b}

-- the kind is A or B, no field is longer than a slot, and Data2 can give up as many digits as the TFCI has
pub record Beside (kind : ℕ) (f : Format) : Type 0 where
  pub some : 0 < kind
  pub most : kind ≤ kind_b
  pub data1 : f.data1 ≤ 1280
  pub data2 : f.data2 ≤ 1280
  pub tpc : f.tpc ≤ 1280
  pub tfci : f.tfci ≤ 1280
  pub pilot : f.pilot ≤ 1280
  pub slot : f.slot ≤ 1280
  pub gives_up : f.tfci ≤ f.data2
