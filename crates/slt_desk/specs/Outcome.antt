-- The random access desk for C: the answer of the call behind each function, packed, and the same lent runs (docs/RULES.md, 'Packed answers'). The desk is a lent number.
-- Assumes nothing.
use Rattle.std.specs.Prelude.{ℕ, ◌≡◌, List, length, ℤ}
use Rattle.run.specs.Verdicts.{leaves}
use Rattle.aich.specs.Rule.{values_of}
use Rattle.desk.specs.Rule.{candidate, indicators_of, last_after, to_aich, to_message}
use Rattle.desk.specs.Outcome.{serve_verdict, timing_verdict}
use Rattle.packed.specs.Rule.{packed}

pub record DeskServe (last heard available n : ℕ) (values : List ℤ) (answer last_later : ℕ) (values_after : List ℤ) : Type 0 where
  pub answer_is : answer ≡ packed (serve_verdict last n (length values)) 0
  pub last_is : last_later ≡ leaves (serve_verdict last n (length values)) (last_after (candidate heard available) last n) last
  pub values_is : values_after ≡ leaves (serve_verdict last n (length values)) (values_of (indicators_of (candidate heard available) last n)) values

pub record DeskToAich (timing answer : ℕ) : Type 0 where
  pub answer_is : answer ≡ packed (timing_verdict timing) (leaves (timing_verdict timing) (to_aich timing) 0)

pub record DeskToMessage (timing answer : ℕ) : Type 0 where
  pub answer_is : answer ≡ packed (timing_verdict timing) (leaves (timing_verdict timing) (to_message timing) 0)
