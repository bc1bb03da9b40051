-- What a packed answer tells, where number, place and value fit their fields, as in every C call (the statement `..Tells` of each crate slt_NAME).
-- Assumes nothing.
use Rattle.std.specs.Prelude.{ℕ, ◌<◌, ◌^◌, ◌≡◌}
use Rattle.run.specs.Verdict.{Verdict}
use Rattle.run.specs.Verdicts.{Narrow}
use Rattle.packed.specs.Rule.{packed, number_in, place_in, value_in}
use Rattle.packed.specs.Outcome.{packed_cut}

-- number, place and value are had back from an answer
pub record Tells (answer : ℕ) (v : Verdict) (value : ℕ) : Type 0 where
  pub fits : answer < 2 ^ 64
  pub number_is : number_in answer ≡ v.number
  pub place_is : place_in answer ≡ v.place
  pub value_is : value_in answer ≡ value

-- ---- theorems, each proved in proofs/Exact.antt under its name in small letters

abbrev pub Unpacks : Type 0
Unpacks = (v : Verdict) (value : ℕ) → Narrow v → value < 65536 → Tells (packed v value) v value

-- nothing is cut off
abbrev pub Uncut : Type 0
Uncut = (v : Verdict) (value : ℕ) → Narrow v → value < 65536 → packed_cut v value ≡ packed v value
