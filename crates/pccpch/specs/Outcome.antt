-- docs/RULES.md, 'P-CCPCH': what each call answers and leaves in each lent run, for all inputs.
-- Assumes nothing.
use Rattle.std.specs.Prelude.{ℕ, ◌≡◌, Bool, cond, not, List, eqb, length, get_or}
use Rattle.run.specs.Verdict.{Verdict}
use Rattle.run.specs.Digits.{dtx}
use Rattle.run.specs.First.{at_most, agree}
use Rattle.run.specs.Refusals.{length_refused, digit_refused, frame_refused}
use Rattle.run.specs.Verdicts.{or_else, unless, each, leaves}
use Rattle.pccpch.specs.Rule.{frame_of, second_of, data_in, silent}

-- map: 3 (data, antenna 1, antenna 2), 4 above 1
unfoldable pub map_verdict : List ℕ → ℕ → ℕ → Verdict
map_verdict digits length1 length2 =
    or_else (unless (eqb (length digits) 270) length_refused 0)
    (or_else (unless (eqb length1 300) length_refused 1)
    (or_else (unless (eqb length2 300) length_refused 2)
    (each 0 digit_refused (at_most 1 digits) (length digits))))

pub record Map (digits antenna1 antenna2 : List ℕ) (answer : Verdict) (antenna1_after antenna2_after : List ℕ) : Type 0 where
  pub verdict_is : answer ≡ map_verdict digits (length antenna1) (length antenna2)
  pub antenna1_is : antenna1_after ≡ leaves (map_verdict digits (length antenna1) (length antenna2)) (frame_of digits) antenna1
  pub antenna2_is : antenna2_after ≡ leaves (map_verdict digits (length antenna1) (length antenna2)) (second_of digits) antenna2

-- read: 3 (antenna 1, antenna 2, data), 4 above 2; places 0 to 299 on antenna 1, 300 to 599 on antenna 2 ..
unfoldable pub read_head : List ℕ → List ℕ → ℕ → Verdict
read_head antenna1 antenna2 dataLength =
    or_else (unless (eqb (length antenna1) 300) length_refused 0)
    (or_else (unless (eqb (length antenna2) 300) length_refused 1)
    (or_else (unless (eqb dataLength 270) length_refused 2)
    (or_else (each 0 digit_refused (at_most 2 antenna1) (length antenna1))
    (each 300 digit_refused (at_most 2 antenna2) (length antenna2)))))

-- digit k of antenna 1 is of its place's kind: DTX where the channel is silent, and not DTX where a data digit stands
unfoldable pub right_kind : List ℕ → ℕ → Bool
right_kind antenna1 k = cond (silent k) (eqb (get_or antenna1 k 0) dtx) (not (eqb (get_or antenna1 k 0) dtx))

-- .. then 9, at the first antenna 1 digit of the wrong kind, else at the first antenna 2 digit that differs from what antenna 1 implies
unfoldable pub read_body : List ℕ → List ℕ → Verdict
read_body antenna1 antenna2 =
    or_else (each 0 frame_refused (right_kind antenna1) 300)
    (each 300 frame_refused (agree (second_of (data_in antenna1)) antenna2) 300)

unfoldable pub read_verdict : List ℕ → List ℕ → ℕ → Verdict
read_verdict antenna1 antenna2 dataLength = or_else (read_head antenna1 antenna2 dataLength) (read_body antenna1 antenna2)

pub record Read (antenna1 antenna2 digits : List ℕ) (answer : Verdict) (digits_after : List ℕ) : Type 0 where
  pub verdict_is : answer ≡ read_verdict antenna1 antenna2 (length digits)
  pub digits_is : digits_after ≡ leaves (read_verdict antenna1 antenna2 (length digits)) (data_in antenna1) digits
