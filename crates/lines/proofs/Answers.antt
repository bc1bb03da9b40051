-- What a call tells where one that it made refused.
-- Assumes nothing.
use mathlib.Core.Path.{◌≡◌, refl}
use Prim.Native.Nat.{ℕ}
use Rattle.std.specs.Prelude.{Result, Ok, Err}
use Rattle.std.specs.Result.{IsErrAnd, result_unwrap_or}
use Rattle.run.specs.declared.refusal.Refusal.{Refusal}
use Rattle.run.specs.Answers.{value_of}
use Rattle.lines.specs.Answers.{told_of, verdict_in}

pub told_refused : (r : Result ℕ Refusal) (x : Refusal) → IsErrAnd r (λ e. e ≡ x) → told_of r ≡ record { verdict = verdict_in x; length = 0 }
told_refused (Ok n) x h = absurd h
told_refused (Err e) x h = rw h

pub length_is : (r : Result ℕ Refusal) → result_unwrap_or r 0 ≡ value_of r
length_is (Ok n) = refl
length_is (Err x) = refl
