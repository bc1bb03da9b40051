-- What the mapper takes, and what a slot writes.
-- Assumes nothing.
use mathlib.Core.Path.{◌≡◌, refl, sym, ap, ◌∙◌, fun_ext}
use mathlib.Core.Bool.{Bool, true, false, cond, ◌&&◌, and-false}
use mathlib.Core.List.{List}
use Prim.Native.Nat.{ℕ, ◌/◌, ◌%◌, ◌^◌, ◌≤◌, ◌<◌}
use native.Mathlib.Omega.{arith}
use borrow.Author.Tests.{eqb-true, eqb-false, eq-eqb, ne_eqb, le-leb, leb-true}
use lib.Bits.{bit_and, and_shr, and_step}
use lib.Dec.{eqb, ltb, leb, lit<}
use lib.ListN.{length, get_or}
use lib.IntN.{ℤ, pos, negsuc}
use Rattle.std.specs.Prelude.{Result, Ok, Err}
use Rattle.std.specs.Result.{IsErrAnd}
use Rattle.run.specs.Verdict.{Verdict}
use Rattle.run.specs.declared.refusal.Refusal.{Refusal}
use Rattle.run.specs.Answers.{number_of}
use Rattle.run.specs.Verdicts.{refused, done}
use Rattle.run.specs.Ranges.{between}
use Rattle.run.proofs.Answers.{left}
use Rattle.run.proofs.Bools.{and_left, and_right}
use Rattle.run.proofs.Chain.{or_else_done, or_else_pass, unless_done, unless_pass, each_pass, leaves_done, number_0}
use Rattle.run.proofs.Table.{tab_length, tab_at, tab_same}
use Rattle.aich.specs.Rule.{offers, values_of}
use Rattle.aich.specs.Outcome.{map_verdict, Map, map_available_verdict}
use Rattle.aich.proofs.Available.{set_is}
use Rattle.desk.specs.declared.Desk.{Desk}
use Rattle.desk.specs.Answers.{served_of}
use Rattle.desk.specs.Rule.{candidate, place_of, ahead, indicator_of, indicators_of, last_after}
use Rattle.desk.specs.Outcome.{serve_verdict, Serve}
use Rattle.desk.specs.Method.{mark_of, marks_of}
use Rattle.desk.proofs.Serving.{somebody, up_to}

-- ---- the checks

pub record Taken (last n values_length : ℕ) : Type 0 where
  pub values_ok : values_length ≡ 32
  pub n_low : 1 ≤ n
  pub n_high : n ≤ 16
  pub desk_ok : last ≤ 15

pub taken : (last n values_length : ℕ) → (serve_verdict last n values_length).number ≡ 0 → Taken last n values_length
unfolding serve_verdict
taken last n values_length h =
    let c1 = or_else_done _ _ h in
    let c2 = or_else_done _ _ c1.rest in
    let numbers = unless_done _ 11 0 (lit< tt) c2.first in
    record {
      values_ok = eqb-true _ _ (unless_done _ 3 0 (lit< tt) c1.first);
      n_low = leb-true 1 n (and_left (leb 1 n) (leb n 16) numbers);
      n_high = leb-true n 16 (and_right (leb 1 n) (leb n 16) numbers);
      desk_ok = leb-true _ _ (unless_done _ 11 2 (lit< tt) c2.rest);
    }

pub takes : {last n values_length : ℕ} → Taken last n values_length → serve_verdict last n values_length ≡ done
unfolding serve_verdict
takes {last} {n} t =
    or_else_pass (unless_pass 3 0 (eq-eqb _ _ t.values_ok))
    (or_else_pass (unless_pass 11 0 (rw (le-leb 1 n t.n_low, le-leb n 16 t.n_high)))
    (unless_pass 11 2 (le-leb last 15 t.desk_ok)))

-- ---- the indicators

pub indicators_length : (asks : ℕ → Bool) (last n : ℕ) → length (indicators_of asks last n) ≡ 16
unfolding indicators_of
indicators_length asks last n = tab_length 16 _

pub indicator_at : (asks : ℕ → Bool) (last n s : ℕ) → s < 16 → get_or (indicators_of asks last n) s (pos 0) ≡ indicator_of asks last n s
unfolding indicators_of
indicator_at asks last n s h = tab_at 16 _ s (pos 0) h

small : (a b : Bool) → between (negsuc 0) (pos 1) (cond a (cond b (pos 1) (negsuc 0)) (pos 0)) ≡ true
unfolding between
small true true = refl
small true false = refl
small false b = refl

pub map_takes : (asks : ℕ → Bool) (last n : ℕ) → map_verdict (indicators_of asks last n) 32 ≡ done
unfolding map_verdict indicator_of
map_takes asks last n =
    let l = indicators_length asks last n in
    or_else_pass (unless_pass 3 0 (rw l))
    (or_else_pass (unless_pass 3 1 refl)
    (each_pass 0 11 _ _ (λ s h. rw (indicator_at asks last n s (rw l at h)) (small (asks s) (ltb (ahead asks last s) n)))))

-- what the set does not offer does not ask
outside : (heard available s : ℕ) → offers available s ≡ false → candidate heard available s ≡ false
unfolding candidate
outside heard available s e = rw e (and-false (offers heard s))

pub silent : (asks : ℕ → Bool) (last n s : ℕ) → s < 16 → asks s ≡ false → get_or (indicators_of asks last n) s (pos 0) ≡ pos 0
unfolding indicator_of
silent asks last n s h e = indicator_at asks last n s h ∙ rw e

pub map_available_takes : (heard available last n : ℕ) → map_available_verdict available (indicators_of (candidate heard available) last n) 32 ≡ done
unfolding map_available_verdict
map_available_takes heard available last n =
    or_else_pass (map_takes (candidate heard available) last n)
    ((set_is available (indicators_of (candidate heard available) last n)).passes.1
    (λ s h e. silent (candidate heard available) last n s h (outside heard available s e)))

-- ---- as the code finds them

-- a bit of both sets
both : (x y : ℕ) → eqb (bit_and x y % 2) 1 ≡ (eqb (x % 2) 1 && eqb (y % 2) 1)
both x y = side (eqb (x % 2) 1) refl (eqb (y % 2) 1) refl
  where
    side : (a : Bool) → eqb (x % 2) 1 ≡ a → (b : Bool) → eqb (y % 2) 1 ≡ b → eqb (bit_and x y % 2) 1 ≡ (a && b)
    side true e true f =
        let p = eqb-true (x % 2) 1 e in
        let q = eqb-true (y % 2) 1 f in
        eq-eqb (bit_and x y % 2) 1 (omega (arith, and_step x y))
    side true e false f = let q = eqb-false (y % 2) 1 f in ne_eqb (bit_and x y % 2) 1 (λ is. let z : ⊥ = omega (arith, and_step x y, q) in z)
    side false e b f = let p = eqb-false (x % 2) 1 e in ne_eqb (bit_and x y % 2) 1 (λ is. let z : ⊥ = omega (arith, and_step x y, p) in z)

pub candidates_are : (heard available : ℕ) → offers (bit_and heard available) ≡ candidate heard available
unfolding candidate offers
candidates_are heard available =
    fun_ext (λ s. rw (and_shr heard available s) (both (heard / 2 ^ s) (available / 2 ^ s)))

pub marks_are : (asks : ℕ → Bool) (last n : ℕ) → last ≤ 15 → 1 ≤ n → marks_of asks last (place_of last (last_after asks last n)) ≡ indicators_of asks last n
unfolding marks_of indicators_of mark_of indicator_of
marks_are asks last n fits some = tab_same 16 _ _ (λ s h. side s h (asks s) refl)
  where
    side : (s : ℕ) → s < 16 → (b : Bool) → asks s ≡ b
        → cond b (cond (leb (place_of last s) (place_of last (last_after asks last n))) (pos 1) (negsuc 0)) (pos 0)
        ≡ cond b (cond (ltb (ahead asks last s) n) (pos 1) (negsuc 0)) (pos 0)
    side s h true e = rw (up_to asks last n fits s h e (somebody asks last n fits some s h e))
    side s h false e = refl

-- ---- how the call ends

module _ (desk : Desk) (heard available n : ℕ) (values : List ℤ) where
  abbrev verdict : Verdict
  verdict = serve_verdict desk.last n (length values)

  pub serve_refused : (r : Result Desk Refusal) (x : Refusal) → IsErrAnd r (λ e. e ≡ x) → refused (number_of x.reason) x.place ≡ verdict
      → Serve desk heard available n values (served_of desk r) values
  serve_refused (Ok after) x h e = absurd h
  serve_refused (Err y) x h e =
      record { verdict_is = ap (λ z. refused (number_of z.reason) z.place) h ∙ e; desk_is = left x _ _ e; values_is = left x _ _ e }

  module _ (h : done ≡ verdict) {after q : ℕ} {marks written : List ℤ} {answer : Verdict} (e : after ≡ last_after (offers (bit_and heard available)) desk.last n)
      (p : q ≡ place_of desk.last after) (m : marks ≡ marks_of (offers (bit_and heard available)) desk.last q) (mapped : Map marks values answer written) where
    ready : Taken desk.last n (length values)
    ready = taken desk.last n (length values) (number_0 (sym h))

    moved : after ≡ last_after (candidate heard available) desk.last n
    moved = rw (candidates_are heard available) at e

    marks_is : marks ≡ indicators_of (candidate heard available) desk.last n
    marks_is = rw (p, moved, candidates_are heard available) at m ∙ marks_are (candidate heard available) desk.last n ready.desk_ok ready.n_low

    mapper_takes : map_verdict marks (length values) ≡ done
    mapper_takes = rw (marks_is, ready.values_ok) (map_takes (candidate heard available) desk.last n)

    pub serve_done : Serve desk heard available n values (record { verdict = done; desk = record { last = after } }) written
    serve_done =
        record {
          verdict_is = h;
          desk_is = moved ∙ sym (leaves_done _ _ _ (number_0 (sym h)));
          values_is = mapped.values_is ∙ leaves_done _ _ _ (number_0 mapper_takes) ∙ ap values_of marks_is ∙ sym (leaves_done _ _ _ (number_0 (sym h)));
        }

    -- the mapper refuses nothing here
    pub mapper_done : answer ≡ done
    mapper_done = mapped.verdict_is ∙ mapper_takes
