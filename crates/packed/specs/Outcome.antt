-- What `pack` answers, for all inputs: each part's low bits, as many as its field has.
-- Assumes nothing.
use Rattle.std.specs.Prelude.{ℕ, ◌%◌}
use Rattle.run.specs.Verdict.{Verdict}
use Rattle.packed.specs.Rule.{packed}

abbrev pub packed_cut : Verdict → ℕ → ℕ
packed_cut v value = packed (record { number = v.number % 65536; place = v.place % 4294967296 }) (value % 65536)
