-- docs/RULES.md, 'The random access desk': what each call answers and leaves in each lent run, for all inputs.
-- Assumes nothing.
use Rattle.std.specs.Prelude.{ℕ, ◌≡◌, ◌&&◌, List, eqb, leb, length, ℤ}
use Rattle.run.specs.Verdict.{Verdict}
use Rattle.run.specs.Refusals.{length_refused, range_refused}
use Rattle.run.specs.Verdicts.{or_else, unless, leaves}
use Rattle.aich.specs.Rule.{values_of}
use Rattle.desk.specs.declared.Desk.{Desk}
use Rattle.desk.specs.Answers.{Served, Distance}
use Rattle.desk.specs.Rule.{candidate, indicators_of, last_after, fresh_last, to_aich, to_message}

pub record Fresh (answer : Desk) : Type 0 where
  pub last_is : answer.last ≡ fresh_last

-- serve: 3, then 11 (place 0 n, place 2 the desk); n is 1 to 16, the last one served 0 to 15
unfoldable pub serve_verdict : ℕ → ℕ → ℕ → Verdict
serve_verdict last n valuesLength =
    or_else (unless (eqb valuesLength 32) length_refused 0)
    (or_else (unless (leb 1 n && leb n 16) range_refused 0)
    (unless (leb last 15) range_refused 2))

pub record Serve (desk : Desk) (heard available n : ℕ) (values : List ℤ) (answer : Served) (values_after : List ℤ) : Type 0 where
  pub verdict_is : answer.verdict ≡ serve_verdict desk.last n (length values)
  pub desk_is : answer.desk.last ≡ leaves (serve_verdict desk.last n (length values)) (last_after (candidate heard available) desk.last n) desk.last
  pub values_is : values_after ≡ leaves (serve_verdict desk.last n (length values)) (values_of (indicators_of (candidate heard available) desk.last n)) values

-- a distance: 11, place 1; the timing is 0 or 1
unfoldable pub timing_verdict : ℕ → Verdict
timing_verdict timing = unless (leb timing 1) range_refused 1

pub record ToAich (timing : ℕ) (answer : Distance) : Type 0 where
  pub verdict_is : answer.verdict ≡ timing_verdict timing
  pub chips_is : answer.chips ≡ leaves (timing_verdict timing) (to_aich timing) 0

pub record ToMessage (timing : ℕ) (answer : Distance) : Type 0 where
  pub verdict_is : answer.verdict ≡ timing_verdict timing
  pub chips_is : answer.chips ≡ leaves (timing_verdict timing) (to_message timing) 0
