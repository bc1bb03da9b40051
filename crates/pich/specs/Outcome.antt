-- docs/RULES.md, 'PICH': what each call answers and leaves in each lent run, for all inputs.
-- Assumes nothing.
use Rattle.std.specs.Prelude.{ℕ, ◌*◌, ◌/◌, ◌≡◌, Bool, cond, not, ◌&&◌, List, length, get_or, eqb, ltb}
use Rattle.run.specs.Verdict.{Verdict}
use Rattle.run.specs.Digits.{dtx}
use Rattle.run.specs.First.{at_most}
use Rattle.run.specs.Refusals.{length_refused, digit_refused, np_refused, frame_refused, range_refused}
use Rattle.run.specs.Verdicts.{or_else, unless, each, leaves}
use Rattle.pich.specs.declared.Pi.{Pi}
use Rattle.pich.specs.Paging.{Paging}
use Rattle.pich.specs.Rule.{is_np, width, frame_of, indicators_in, q_of}

-- q: 8, then 11 (place 0 PI, 1 SFN); PI is 0 to Np - 1, SFN 0 to 4095
unfoldable pub q_verdict : ℕ → Pi → ℕ → Verdict
q_verdict np pi sfn =
    or_else (unless (is_np np) np_refused 0)
    (or_else (unless (ltb pi.0 np) range_refused 0)
    (unless (ltb sfn 4096) range_refused 1))

pub record Q (np : ℕ) (pi : Pi) (sfn : ℕ) (answer : Paging) : Type 0 where
  pub verdict_is : answer.verdict ≡ q_verdict np pi sfn
  pub q_is : answer.q.0 ≡ leaves (q_verdict np pi sfn) (q_of np pi.0 sfn) 0

-- map: 8, 3 (indicators, frame), 4 above 1
unfoldable pub map_verdict : ℕ → List ℕ → ℕ → Verdict
map_verdict np indicators frameLength =
    or_else (unless (is_np np) np_refused 0)
    (or_else (unless (eqb (length indicators) np) length_refused 0)
    (or_else (unless (eqb frameLength 300) length_refused 1)
    (each 0 digit_refused (at_most 1 indicators) (length indicators))))

pub record Map (np : ℕ) (indicators frame : List ℕ) (answer : Verdict) (frame_after : List ℕ) : Type 0 where
  pub verdict_is : answer ≡ map_verdict np indicators (length frame)
  pub frame_is : frame_after ≡ leaves (map_verdict np indicators (length frame)) (frame_of np indicators) frame

-- digit k may stand in a frame: one of the first 288 is not DTX and equals the first of its group; a tail digit is DTX
unfoldable pub stands : ℕ → List ℕ → ℕ → Bool
stands np frame k =
    cond (ltb k 288)
    (not (eqb (get_or frame k 0) dtx) && eqb (get_or frame k 0) (get_or frame (width np * (k / width np)) 0))
    (eqb (get_or frame k 0) dtx)

-- read: 8, 3 (frame, indicators), 4 above 2 ..
unfoldable pub read_head : ℕ → List ℕ → ℕ → Verdict
read_head np frame indicatorsLength =
    or_else (unless (is_np np) np_refused 0)
    (or_else (unless (eqb (length frame) 300) length_refused 0)
    (or_else (unless (eqb indicatorsLength np) length_refused 1)
    (each 0 digit_refused (at_most 2 frame) (length frame))))

-- .. then 9
unfoldable pub read_verdict : ℕ → List ℕ → ℕ → Verdict
read_verdict np frame indicatorsLength =
    or_else (read_head np frame indicatorsLength) (each 0 frame_refused (stands np frame) 300)

pub record Read (np : ℕ) (frame indicators : List ℕ) (answer : Verdict) (indicators_after : List ℕ) : Type 0 where
  pub verdict_is : answer ≡ read_verdict np frame (length indicators)
  pub indicators_is : indicators_after ≡ leaves (read_verdict np frame (length indicators)) (indicators_in np frame) indicators
