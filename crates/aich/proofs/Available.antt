-- The theorems of specs/Available.antt, and how the calls under a set end. The verdict of such a call is the base's with the check of the set behind it: all else
-- follows from what is proved of the base.
-- Assumes nothing.
use mathlib.Core.Path.{◌≡◌, refl, sym, ap, ◌∙◌}
use mathlib.Core.Bool.{Bool, true, false, ◌||◌}
use mathlib.Core.List.{List}
use Prim.Native.Nat.{ℕ, ◌<◌}
use native.Mathlib.Omega.{arith}
use lib.Dec.{lit<}
use lib.ListN.{length, get_or}
use lib.IntN.{ℤ, pos}
use Rattle.run.specs.Verdict.{Verdict}
use Rattle.run.specs.First.{first_bad, all, Every}
use Rattle.run.specs.Refusals.{signature_refused}
use Rattle.run.specs.Verdicts.{refused, done, or_else, each, leaves}
use Rattle.run.proofs.First.{first_below, first_fails, first_same, every_by}
use Rattle.run.proofs.Chain.{or_else_done, or_else_pass, or_else_plain, or_else_last, unless_plain, each_plain, each_done, each_pass, each_told, one_outcome, number_0}
use Rattle.whole.specs.Equal.{eq_z}
use Rattle.whole.proofs.Equal.{eq_z_true, eq_eq_z}
use Rattle.aich.specs.Rule.{values_of, indicators_in, offers, allows}
use Rattle.aich.specs.Outcome.{map_verdict, given, read_head, read_verdict, set_verdict, map_available_verdict, read_available_verdict}
use Rattle.aich.specs.Method.{firsts, half_of}
use Rattle.aich.specs.Exact.{Gives}
use Rattle.aich.specs.Available.{Zero, SetIs, GivesUnder, AvailableExact, AllAvailable, Within, LargerSet, AvailableOnce}
use Rattle.aich.proofs.Laws.{fit_zero}
use Rattle.aich.proofs.Reading.{indicator_is, all_alike, all_fit}
use Rattle.aich.proofs.Exact.{read_exact}

-- ---- the check of the set

module _ (available : ℕ) (x : List ℤ) (s : ℕ) where
  allows_zero : allows available x s ≡ true → Zero available x s
  unfolding allows
  allows_zero e f = eq_z_true _ _ (rw f at e)

  zero_allows : Zero available x s → allows available x s ≡ true
  unfolding allows
  zero_allows z = side (offers available s) refl
    where
      side : (b : Bool) → offers available s ≡ b → (b || eq_z (get_or x s (pos 0)) (pos 0)) ≡ true
      side true e = refl
      side false e = eq_eq_z _ _ (z e)

true_false : {b : Bool} → b ≡ true → b ≡ false → ⊥
true_false p q = let z : ◌≡◌ {A = ℕ} 0 1 = cc in omega arith

-- what a set allows, a larger one allows
allows_more : (small large : ℕ) → Within small large → (x : List ℤ) → Every (allows small x) 16 → Every (allows large x) 16
allows_more small large within x all s h = zero_allows large x s (λ f. allows_zero small x s (all s h) (outside (offers small s) refl f))
  where
    outside : (b : Bool) → offers small s ≡ b → offers large s ≡ false → b ≡ false
    outside true e f = absurd (true_false (within s h e) f)
    outside false e f = refl

module _ (available : ℕ) (x : List ℤ) where
  set_every : (set_verdict available x).number ≡ 0 → Every (allows available x) 16
  unfolding set_verdict
  set_every h = each_done 0 26 _ 16 (lit< tt) h

  every_set : Every (allows available x) 16 → set_verdict available x ≡ done
  unfolding set_verdict
  every_set all = each_pass 0 26 _ 16 all

  set_told : (s : ℕ) → set_verdict available x ≡ refused signature_refused s → (s ≡ first_bad (allows available x) 16) × (s < 16)
  unfolding set_verdict
  set_told s e = each_told 26 (allows available x) 16 s (lit< tt) e

pub set_is : SetIs
set_is available x =
    record {
      passes = (
        λ e s h. allows_zero available x s (set_every available x (number_0 e) s h),
        λ all. every_set available x (λ s h. zero_allows available x s (all s h)),
      );
      told = λ s e.
          let t = set_told available x s e in
          (t.1, λ z. true_false (zero_allows available x s z) (rw t.0 (first_fails _ 16 (rw t.0 at t.1))));
      lowest = λ s e k h. allows_zero available x k (first_below _ 16 k (rw (set_told available x s e).0 at h));
    }

all_allowed : (x : List ℤ) → Every (allows 65535 x) 16
unfolding offers first_bad
all_allowed x s h = zero_allows 65535 x s (λ f. absurd (true_false (every_by (offers 65535) 16 refl s h) f))

-- ---- a verdict `base` with the check of the set behind it

module _ (base : Verdict) (plain : base.number ≡ 0 → base ≡ done) (x : List ℤ) where
  under : (available : ℕ) → base ≡ done → Every (allows available x) 16 → or_else base (set_verdict available x) ≡ done
  under available e all = or_else_pass e (every_set available x all)

  parts : (available : ℕ) → or_else base (set_verdict available x) ≡ done → (base ≡ done) × Every (allows available x) 16
  parts available e = let b = or_else_done _ _ (number_0 e) in (plain b.first, set_every available x b.rest)

  under_larger : (small large : ℕ) → Within small large → or_else base (set_verdict small x) ≡ done → or_else base (set_verdict large x) ≡ done
  under_larger small large within e =
      let p = parts small e in
      under large p.0 (allows_more small large within x p.1)

  under_all : or_else base (set_verdict 65535 x) ≡ base
  under_all = rw (every_set 65535 x (all_allowed x)) (or_else_last base plain)

map_plain : (x : List ℤ) (n : ℕ) → (map_verdict x n).number ≡ 0 → map_verdict x n ≡ done
unfolding map_verdict
map_plain x n =
    or_else_plain _ _ (unless_plain _ 3 0 (lit< tt)) (or_else_plain _ _ (unless_plain _ 3 1 (lit< tt)) (each_plain 0 11 _ _ (lit< tt)))

read_plain : (v : List ℤ) (n : ℕ) → (read_verdict v n).number ≡ 0 → read_verdict v n ≡ done
unfolding read_verdict read_head
read_plain v n =
    or_else_plain _ _ (or_else_plain _ _ (unless_plain _ 3 0 (lit< tt)) (unless_plain _ 3 1 (lit< tt))) (unless_plain _ 10 0 (lit< tt))

-- ---- exactness

gives : {available : ℕ} {x v : List ℤ} → GivesUnder available x v → Gives x v × Every (allows available x) 16
unfolding map_available_verdict
gives {available} {x} g =
    let p = parts _ (map_plain x 32) x available g.taken in
    (record { taken = p.0; written = g.written }, p.1)

pub available_exact : AvailableExact
unfolding map_available_verdict read_available_verdict
available_exact available v =
    let base = read_exact v in
    record {
      accepts = (
        λ e.
            let p = parts _ (read_plain v 16) (indicators_in v) available e in
            let found = base.accepts.0 p.0 in
            let x = found.0 in
            let all = rw (base.hands_back x found.1) at p.1 in
            (x, record { taken = under _ (map_plain x 32) x available found.1.taken all; written = found.1.written }),
        λ found.
            let x = found.0 in
            let g = gives found.1 in
            under _ (read_plain v 16) (indicators_in v) available (base.accepts.1 (x, g.0)) (rw (base.hands_back x g.0) g.1),
      );
      hands_back = λ x g. base.hands_back x (gives g).0;
      one_set = λ x y g h. base.one_set x y (gives g).0 (gives h).0;
    }

-- ---- all sixteen, and larger sets

-- what a run holds afterwards, by an equal verdict
left_as : {v w : Verdict} {after : List ℤ} (new old : List ℤ) → v ≡ w → after ≡ leaves v new old → after ≡ leaves w new old
left_as new old e p = p ∙ ap (λ (u : Verdict). leaves u new old) e

pub all_available : AllAvailable
unfolding map_available_verdict read_available_verdict
all_available =
    record {
      map = λ x v answer after.
          let e = under_all _ (map_plain x (length v)) x in (
            λ p. record { verdict_is = p.verdict_is ∙ e; values_is = left_as (values_of x) v e p.values_is },
            λ p. record { verdict_is = p.verdict_is ∙ sym e; values_is = left_as (values_of x) v (sym e) p.values_is },
          );
      read = λ v x answer after.
          let e = under_all _ (read_plain v (length x)) (indicators_in v) in (
            λ p. record { verdict_is = p.verdict_is ∙ e; indicators_is = left_as (indicators_in v) x e p.indicators_is },
            λ p. record { verdict_is = p.verdict_is ∙ sym e; indicators_is = left_as (indicators_in v) x (sym e) p.indicators_is },
          );
    }

pub larger_set : LargerSet
unfolding map_available_verdict read_available_verdict
larger_set small large within =
    record {
      map = λ x v after p.
          let is = under_larger _ (map_plain x (length v)) x small large within (sym p.verdict_is) in
          record { verdict_is = sym is; values_is = left_as (values_of x) v (sym p.verdict_is ∙ sym is) p.values_is };
      read = λ v x after p.
          let is = under_larger _ (read_plain v (length x)) (indicators_in v) small large within (sym p.verdict_is) in
          record { verdict_is = sym is; indicators_is = left_as (indicators_in v) x (sym p.verdict_is ∙ sym is) p.indicators_is };
    }

pub available_once : AvailableOnce
available_once =
    record {
      map = λ available x v a b y z p r. (one_outcome p.verdict_is r.verdict_is, one_outcome p.values_is r.values_is);
      read = λ available v x a b y z p r. (one_outcome p.verdict_is r.verdict_is, one_outcome p.indicators_is r.indicators_is);
    }

-- ---- the set is asked of the sums, each of which is 0 where its indicator is

module _ (available : ℕ) (v : List ℤ) (is : given (indicators_in v) v ≡ true) where
  same_first : first_bad (allows available (half_of (firsts v))) 16 ≡ first_bad (allows available (indicators_in v)) 16
  unfolding allows
  same_first =
      let fit = all_fit v is in
      first_same _ _ 16
      (λ s h. ap (λ (b : Bool). offers available s || b) (fit_zero _ (fit s h) ∙ ap (λ (z : ℤ). eq_z z (pos 0)) (sym (indicator_is v (all_alike v is) fit s h))))

  pub asked : set_verdict available (half_of (firsts v)) ≡ set_verdict available (indicators_in v)
  unfolding set_verdict each
  asked = rw same_first
