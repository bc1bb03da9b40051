-- docs/RULES.md, 'HS-PDSCH': what each call answers and leaves in each lent run, for all inputs.
-- Assumes nothing.
use Rattle.std.specs.Prelude.{ℕ, ◌%◌, ◌≡◌, cond, ◌&&◌, List, [], ◌∷◌, eqb, length}
use Rattle.std.specs.Int.Bits.{bit_xor}
use Rattle.run.specs.Verdict.{Verdict}
use Rattle.run.specs.First.{at_most, agree}
use Rattle.run.specs.Refusals.{digit_refused, frame_refused}
use Rattle.run.specs.Verdicts.{or_else, each, leaves}
use Rattle.dpch.specs.Heads.{frame_head}
use Rattle.hspdsch.specs.Rule.{size, coded, second_of}

-- map: 1, 3 (data, antenna 1, antenna 2), 4 above 1
unfoldable pub map_verdict : ℕ → List ℕ → ℕ → ℕ → Verdict
map_verdict format d length1 length2 =
    or_else (frame_head 1 format (eqb (length d) (size format) ∷ eqb length1 (size format) ∷ eqb length2 (size format) ∷ []))
    (each 0 digit_refused (at_most 1 d) (length d))

pub record Map (format : ℕ) (d antenna1 antenna2 : List ℕ) (answer : Verdict) (antenna1_after antenna2_after : List ℕ) : Type 0 where
  pub verdict_is : answer ≡ map_verdict format d (length antenna1) (length antenna2)
  pub antenna1_is : antenna1_after ≡ leaves (map_verdict format d (length antenna1) (length antenna2)) d antenna1
  pub antenna2_is : antenna2_after ≡ leaves (map_verdict format d (length antenna1) (length antenna2)) (second_of format d) antenna2

-- read: 1, 3 (antenna 1, antenna 2, data) ..
unfoldable pub read_head : ℕ → ℕ → ℕ → ℕ → Verdict
read_head format length1 length2 dataLength =
    frame_head 1 format (eqb length1 (size format) ∷ eqb length2 (size format) ∷ eqb dataLength (size format) ∷ [])

-- .. then 4 above 1 and 9 where antenna 2 first differs from what antenna 1 gives; antenna 2's places start at the subframe's length
unfoldable pub read_body : ℕ → List ℕ → List ℕ → Verdict
read_body format antenna1 antenna2 =
    or_else (each 0 digit_refused (at_most 1 antenna1) (length antenna1))
    (or_else (each (size format) digit_refused (at_most 1 antenna2) (length antenna2))
    (each (size format) frame_refused (agree (second_of format antenna1) antenna2) (length antenna2)))

unfoldable pub read_verdict : ℕ → List ℕ → List ℕ → ℕ → Verdict
read_verdict format antenna1 antenna2 dataLength =
    or_else (read_head format (length antenna1) (length antenna2) dataLength) (read_body format antenna1 antenna2)

pub record Read (format : ℕ) (antenna1 antenna2 d : List ℕ) (answer : Verdict) (d_after : List ℕ) : Type 0 where
  pub verdict_is : answer ≡ read_verdict format antenna1 antenna2 (length d)
  pub data_is : d_after ≡ leaves (read_verdict format antenna1 antenna2 (length d)) antenna1 d

-- a number with its lowest bit changed: of a bit the other, which is its bar
unfoldable pub flip : ℕ → ℕ
flip d = bit_xor d 1

-- the part `encode`, which asks no digit whether it is a bit: a run of whole eights is encoded, with `flip` for the bar, into a run of its length; any other run is left as it was
unfoldable pub encoded_over : ℕ → List ℕ → List ℕ → List ℕ
encoded_over format input out = cond (eqb (length input % 8) 0 && eqb (length out) (length input)) (coded flip format input) out
