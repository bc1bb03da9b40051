-- What is known where no check refused.
-- Assumes nothing.
use mathlib.Core.Path.{◌≡◌, refl, sym, ap, ◌∙◌}
use mathlib.Core.Bool.{Bool, true, false}
use mathlib.Core.List.{List}
use Prim.Native.Nat.{ℕ}
use native.Mathlib.Omega.{arith}
use borrow.Author.Tests.{eqb-true}
use lib.ListN.{length, get_or}
use lib.IntN.{ℤ, pos, negsuc}
use Rattle.std.specs.Prelude.{Result, Ok, Err}
use Rattle.std.specs.Result.{IsErrAnd}
use Rattle.run.specs.declared.refusal.Refusal.{Refusal}
use Rattle.run.specs.Answers.{number_of}
use Rattle.run.specs.First.{all, Every}
use Rattle.run.specs.Ranges.{in_range}
use Rattle.run.specs.Refusals.{values_refused}
use Rattle.run.specs.Verdicts.{refused, done, unless}
use Rattle.run.proofs.Chain.{or_else_done, unless_done, each_done, unless_pass}
use Rattle.run.proofs.Chain.{number_0}
use Rattle.run.proofs.Answers.{refuses, goes_on, stops as ends}
use Rattle.run.proofs.Ranges.{range_parts}
use Rattle.whole.proofs.Bound.{b_range}
use Rattle.aich.specs.Rule.{indicators_in}
use Rattle.aich.specs.Outcome.{map_verdict, given, read_head, read_verdict}
use Rattle.aich.specs.Method.{Sixteen, half_of, firsts, alike, fits_at, Summed, with_sums}
use Rattle.run.proofs.Passing.{all_every, every_all}
use Rattle.aich.proofs.Reading.{all_alike, all_fit}

-- sixteen numbers in -1 to 1
pub units : (indicators : List ℤ) → length indicators ≡ 16 → Every (in_range (negsuc 0) (pos 1) indicators) 16 → Sixteen 1 indicators
units indicators e all =
    record {
      long = e;
      small = λ k h. let r = range_parts (negsuc 0) (pos 1) (get_or indicators k (pos 0)) (all k h) in b_range 0 (get_or indicators k (pos 0)) r.0 r.1;
    }

pub record Taken (indicators : List ℤ) (values_length : ℕ) : Type 0 where
  pub indicators_ok : Sixteen 1 indicators
  pub values_ok : values_length ≡ 32

pub taken : (indicators : List ℤ) (values_length : ℕ) → (map_verdict indicators values_length).number ≡ 0 → Taken indicators values_length
unfolding map_verdict
taken indicators values_length h =
    let c1 = or_else_done _ _ h in
    let c2 = or_else_done _ _ c1.rest in
    let e : length indicators ≡ 16 = eqb-true _ _ (unless_done _ 3 0 (omega arith) c1.first) in
    record {
      indicators_ok = units indicators e (rw e at (each_done 0 11 (in_range (negsuc 0) (pos 1) indicators) (length indicators) (omega arith) c2.rest));
      values_ok = eqb-true _ _ (unless_done _ 3 1 (omega arith) c2.first);
    }

pub record Headed (values_length indicators_length : ℕ) : Type 0 where
  pub values_ok : values_length ≡ 32
  pub indicators_ok : indicators_length ≡ 16

pub headed : (values_length indicators_length : ℕ) → (read_head values_length indicators_length).number ≡ 0 → Headed values_length indicators_length
unfolding read_head
headed values_length indicators_length h =
    let c1 = or_else_done _ _ h in
    record {
      values_ok = eqb-true _ _ (unless_done _ 3 0 (omega arith) c1.first);
      indicators_ok = eqb-true _ _ (unless_done _ 3 1 (omega arith) c1.rest);
    }

pub record Accepted (values : List ℤ) (indicators_length : ℕ) : Type 0 where
  pub head : Headed (length values) indicators_length
  pub gives : given (indicators_in values) values ≡ true

pub accepted : (values : List ℤ) (indicators_length : ℕ) → (read_verdict values indicators_length).number ≡ 0 → Accepted values indicators_length
unfolding read_verdict
accepted values indicators_length h =
    let c1 = or_else_done _ _ h in
    record {
      head = headed (length values) indicators_length c1.first;
      gives = unless_done _ 10 0 (omega arith) c1.rest;
    }

-- ---- how `read` ends, past its head

-- a pass that found a place to fail, where indicators that give the values would have it pass
stops : (v : List ℤ) (ok : ℕ → Bool) → (given (indicators_in v) v ≡ true → Every ok 16) → all 16 ok ≡ false → given (indicators_in v) v ≡ false
stops v ok every e = side (given (indicators_in v) v) refl
  where
    side : (b : Bool) → given (indicators_in v) v ≡ b → b ≡ false
    side true t = sym (every_all 16 ok (every t)) ∙ e
    side false t = refl

pub unlike_stops : (v : List ℤ) → all 16 (alike v) ≡ false → given (indicators_in v) v ≡ false
unlike_stops v = stops v (alike v) (all_alike v)

pub unfit_stops : (v sums : List ℤ) → sums ≡ half_of (firsts v) → all 16 (fits_at sums) ≡ false → given (indicators_in v) v ≡ false
unfit_stops v sums e = stops v (fits_at sums) (λ t. rw e (all_fit v t))

pub sums_fit : (v sums : List ℤ) {good : Bool} → sums ≡ half_of (firsts v) → good ≡ all 16 (fits_at sums) → good ≡ true → Every (fits_at (half_of (firsts v))) 16
sums_fit v sums e f h = rw e at (all_every 16 (fits_at sums) (sym f ∙ h))

-- a check that refused failed
refused_fails : (x : Refusal) (ok : Bool) (number place : ℕ) → refused (number_of x.reason) x.place ≡ unless ok number place → ok ≡ false
unfolding unless
refused_fails x true number place e = absurd (refuses x x.place (number_0 e))
refused_fails x false number place e = refl

module _ (v : List ℤ) (n : ℕ) where
  -- a refusal that is handed on
  pub summed_err : (r : Result (Unit {0}) Refusal) (sums : List ℤ) (x : Refusal) → IsErrAnd r (λ e. e ≡ x) → refused (number_of x.reason) x.place ≡ read_verdict v n → Summed v n (with_sums r sums)
  summed_err (Ok u) sums x h e = absurd h
  summed_err (Err y) sums x h e = record { verdict_is = ap (λ z. refused (number_of z.reason) z.place) h ∙ e; sums_are = tt }

  pub head_refuses : (x : Refusal) → refused (number_of x.reason) x.place ≡ read_head (length v) n → refused (number_of x.reason) x.place ≡ read_verdict v n
  unfolding read_verdict
  head_refuses x e = ends {A = Unit {0}} (Err x) x _ refl e

  module _ (head : done ≡ read_head (length v) n) where
    -- a check of the values refuses where no indicators give them
    pub values_refuse : (x : Refusal) {ok : Bool} → refused (number_of x.reason) x.place ≡ unless ok values_refused 0
        → (ok ≡ false → given (indicators_in v) v ≡ false) → refused (number_of x.reason) x.place ≡ read_verdict v n
    unfolding read_verdict
    values_refuse x {ok} e fails = let f = refused_fails x ok 10 0 e in goes_on head (rw (fails f) (rw f at e))

    pub values_given : given (indicators_in v) v ≡ true → done ≡ read_verdict v n
    unfolding read_verdict
    values_given e = goes_on head (sym (unless_pass 10 0 e))
