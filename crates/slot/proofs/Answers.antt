-- A call that refuses answers no value beside its refusal.
-- Assumes nothing.
use mathlib.Core.Path.{◌≡◌, refl}
use Prim.Native.Nat.{ℕ}
use Rattle.std.specs.Prelude.{Result, Ok, Err}
use Rattle.std.specs.Result.{IsErrAnd}
use Rattle.run.specs.declared.refusal.Refusal.{Refusal}
use Rattle.run.specs.Answers.{value_of}

pub no_value : (r : Result ℕ Refusal) (x : Refusal) → IsErrAnd r (λ e. e ≡ x) → value_of r ≡ 0
no_value (Ok a) x h = absurd h
no_value (Err e) x h = refl
