-- docs/RULES.md, 'Packed answers': number, place and value in one number of 64 bits, at bits 0 to 15, 16 to 47 and 48 to 63.
-- Assumes nothing.
use Rattle.std.specs.Prelude.{ℕ, ◌+◌, ◌*◌, ◌/◌, ◌%◌}
use Rattle.run.specs.Verdict.{Verdict}

abbrev pub packed : Verdict → ℕ → ℕ
packed v value = v.number + 65536 * v.place + 281474976710656 * value

-- the fields of a packed number, as the macros of slt.h read them
abbrev pub number_in : ℕ → ℕ
number_in answer = answer % 65536

abbrev pub place_in : ℕ → ℕ
place_in answer = answer / 65536 % 4294967296

abbrev pub value_in : ℕ → ℕ
value_in answer = answer / 281474976710656
