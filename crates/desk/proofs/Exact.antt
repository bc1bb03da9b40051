-- The theorems of specs/Exact.antt.
-- Assumes nothing.
use mathlib.Core.Path.{◌≡◌, refl, sym, ap, ◌∙◌}
use mathlib.Core.Bool.{Bool, true, false, cond, ◌&&◌, not}
use mathlib.Core.List.{List}
use mathlib.Core.Logic.{◌⊎◌, inl, inr}
use Prim.Native.Nat.{ℕ, zero, suc, ◌+◌, ◌≤◌, ◌<◌}
use native.Mathlib.Numerals.{add-one}
use native.Mathlib.Omega.{arith}
use borrow.Author.Tests.{ltb-true, ltb-false, le-ltb, not-true, not-false}
use lib.Dec.{eqb, ltb, lit<}
use lib.ListN.{length}
use lib.IntN.{ℤ, pos, negsuc, ◌*ℤ◌, zero-*ℤ}
use Rattle.run.specs.First.{first_bad}
use Rattle.run.specs.Verdicts.{done, Narrow}
use Rattle.run.proofs.First.{first_fails, none_first}
use Rattle.run.proofs.Chain.{check_narrow, unless_narrow, leaves_done, leaves_small, number_0, one_outcome}
use Rattle.run.proofs.Table.{tab_same}
use Rattle.whole.specs.Equal.{eq_z}
use Rattle.whole.specs.Sum.{sum}
use Rattle.whole.proofs.Equal.{eq_z_true, eq_eq_z}
use Rattle.whole.proofs.Sum.{sum_same}
use Rattle.aich.specs.Rule.{offers, value_at, values_of}
use Rattle.desk.specs.declared.Desk.{Desk}
use Rattle.desk.specs.Answers.{Served}
use Rattle.desk.specs.Rule.{candidate, place_of, ahead, served, indicator_of, indicators_of, last_after, fresh_last, to_aich, to_message}
use Rattle.desk.specs.Outcome.{serve_verdict, Serve, timing_verdict}
use Rattle.desk.specs.Exact.{Gets, got_one, SlotFair, DeskMoves, NobodyServed, Circle, MapperTakes, desk_at, turns, ServedIn, Fairness, Tight, RowIs, CallsRow, DeskOnce, Packs}
use Rattle.run.proofs.Count.{count_same, count_some, none_counted}
use Rattle.desk.proofs.Circle.{place_at, at_place}
use Rattle.desk.proofs.Serving.{served_all, served_before, after_small, after_nobody, after_somebody, highest_served, highest_last}
use Rattle.desk.proofs.Slot.{takes, indicator_at, silent, map_available_takes}
use Rattle.desk.proofs.Rows.{turns_enough, turns_needed, desk_small, waits, all_behind}

-- ---- the indicator of a signature, by the two tests that decide it

plus : (a b : Bool) → eq_z (cond a (cond b (pos 1) (negsuc 0)) (pos 0)) (pos 1) ≡ (a && b)
plus true true = refl
plus true false = refl
plus false b = refl

minus : (a b : Bool) → cond a (cond b (pos 1) (negsuc 0)) (pos 0) ≡ negsuc 0 → (a ≡ true) × (b ≡ false)
minus true true e = absurd (let z : ◌≡◌ {A = ℕ} 0 1 = cc in omega arith)
minus true false e = (refl, refl)
minus false b e = absurd (let z : ◌≡◌ {A = ℕ} 0 1 = cc in omega arith)

module _ (asks : ℕ → Bool) (last n s : ℕ) (h : s < 16) where
  got_served : got_one asks last n s ≡ served asks last n s
  unfolding indicator_of served
  got_served = rw (indicator_at asks last n s h) (plus (asks s) (ltb (ahead asks last s) n))

  one_served : Gets asks last n s (pos 1) → served asks last n s ≡ true
  one_served e = sym got_served ∙ eq_eq_z _ _ e

  served_one : served asks last n s ≡ true → Gets asks last n s (pos 1)
  served_one e = eq_z_true _ _ (got_served ∙ e)

  minus_behind : Gets asks last n s (negsuc 0) → n ≤ ahead asks last s
  unfolding indicator_of
  minus_behind e = ltb-false _ _ (minus (asks s) (ltb (ahead asks last s) n) (sym (indicator_at asks last n s h) ∙ e)).1

  told : asks s ≡ true → Gets asks last n s (pos 1) ⊎ Gets asks last n s (negsuc 0)
  unfolding indicator_of
  told e = side (ltb (ahead asks last s) n) refl
    where
      side : (b : Bool) → ltb (ahead asks last s) n ≡ b → Gets asks last n s (pos 1) ⊎ Gets asks last n s (negsuc 0)
      side true t = inl (indicator_at asks last n s h ∙ rw (e, t))
      side false t = inr (indicator_at asks last n s h ∙ rw (e, t))

  unserved_behind : asks s ≡ true → got_one asks last n s ≡ false → n ≤ ahead asks last s
  unfolding served
  unserved_behind e none = ltb-false _ _ (rw e at (sym got_served ∙ none))

pub slot_fair : SlotFair
slot_fair asks last n fits =
    record {
      as_many = count_same 16 _ _ (got_served asks last n) ∙ served_all asks last n fits;
      others_nothing = silent asks last n;
      askers_told = told asks last n;
      refused_behind = λ s h e.
          let l = minus_behind asks last n s h e in
          count_same 16 _ _ (λ t m. rw (got_served asks last n t m)) ∙ served_before asks last n fits s ∙ omega arith;
    }

pub desk_moves : DeskMoves
desk_moves asks last n fits =
    let same = count_same 16 (got_one asks last n) (served asks last n) (got_served asks last n) in
    let small = after_small asks last n fits in
    record {
      nobody = λ none. after_nobody asks last n fits (sym same ∙ none);
      one_served = λ some. served_one asks last n _ (omega arith) (highest_served asks last n fits (after_somebody asks last n fits (rw same at some)));
      latest = λ s h e.
          let is = one_served asks last n s h e in
          highest_last asks last n fits (after_somebody asks last n fits (count_some 16 s _ h is)) s h is;
      signature = small;
    }

-- where nobody asks every value is a sum of zeros
zeros : sum 16 (λ (s : ℕ). pos 0) ≡ pos 0
unfolding sum
zeros = refl

times_none : (z w : ℤ) → z ≡ pos 0 → z *ℤ w ≡ pos 0
times_none z w e = ap (λ (x : ℤ). x *ℤ w) e ∙ zero-*ℤ w

silent_value : (asks : ℕ → Bool) (last n : ℕ) → ((s : ℕ) → s < 16 → asks s ≡ false) → (j : ℕ) → value_at (indicators_of asks last n) j ≡ pos 0
unfolding value_at
silent_value asks last n silence j =
    sum_same 16 _ (λ (s : ℕ). pos 0) (λ s h. times_none _ _ (silent asks last n s h (silence s h))) ∙ zeros

pub nobody_served : NobodyServed
unfolding values_of
nobody_served asks last n fits some none =
    let served-none = sym (count_same 16 (got_one asks last n) (served asks last n) (got_served asks last n)) ∙ none in
    let is = served_all asks last n fits in
    let silence = none_counted 16 asks (omega arith) in
    record {
      nobody_asks = silence;
      all_0 = tab_same 32 _ _ (λ j h. silent_value asks last n silence j);
    }

pub circle : Circle
unfolding place_of
circle =
    record {
      there = λ last s fits h. at_place last fits s h;
      back = λ last p fits h. place_at last fits p h;
      from_0 = λ s h. omega arith;
    }

pub mapper_takes : MapperTakes
mapper_takes heard available last n = record { taken = map_available_takes heard available last n; written = refl }

-- ---- slots in a row

asks_true : (heard available s : ℕ) → offers available s ≡ true → offers heard s ≡ true → candidate heard available s ≡ true
unfolding candidate
asks_true heard available s e f = rw (f, e)

-- whether signature s gets nothing but -1 in slot k
missed : (ℕ → ℕ) → ℕ → ℕ → ℕ → ℕ → ℕ → Bool
missed heard available n last s k = not (got_one (candidate (heard k) available) (desk_at heard available n last k) n s)

pub fairness : Fairness
unfolding missed
fairness heard available n last s start low high fits h offered all = side (ltb (first_bad test (turns n)) (turns n)) refl
  where
    test : ℕ → Bool
    test k = missed heard available n last s (start + k)

    side : (b : Bool) → ltb (first_bad test (turns n)) (turns n) ≡ b → (k : ℕ) × (k < turns n) × ServedIn heard available n last s (start + k)
    side true e =
        let l = ltb-true _ _ e in
        let k = first_bad test (turns n) in
        (k, l, eq_z_true _ _ (not-false _ (first_fails test (turns n) l)))
    side false e =
        let none = none_first test (turns n) (ltb-false _ _ e) in
        let near = waits heard available n last low fits s start h (turns n)
        (λ j l.
        let asked = asks_true (heard (start + j)) available s offered (all j l) in
        (asked, unserved_behind _ _ n s h asked (not-true _ (none j l))))
        in
        let enough = turns_enough n low high in
        absurd (let z : ⊥ = omega arith in z)

pub tight : Tight
unfolding indicator_of candidate offers
tight n k low high l =
    let behind = all_behind n low high k (turns_needed n k low high l) in
    let d = desk_at (λ (j : ℕ). 65535) 65535 n fresh_last k in
    indicator_at (candidate 65535 65535) d n 15 (omega arith) ∙ rw (le-ltb (ahead (candidate 65535 65535) d 15) n behind)

-- one call of the row, given the desk d
module _ {desk : Desk} {heard available n d : ℕ} {run after : List ℤ} {answer : Served} (low : 1 ≤ n) (high : n ≤ 16) (e : desk.last ≡ d) (fits : d ≤ 15)
    (sized : length run ≡ 32) (p : Serve desk heard available n run answer after) where
  goes : serve_verdict desk.last n (length run) ≡ done
  goes = takes (record { values_ok = sized; n_low = low; n_high = high; desk_ok = omega arith })

  goes_done : answer.verdict ≡ done
  goes_done = p.verdict_is ∙ goes

  goes_desk : answer.desk.last ≡ last_after (candidate heard available) d n
  goes_desk = p.desk_is ∙ leaves_done _ _ _ (number_0 goes) ∙ ap (λ (l : ℕ). last_after (candidate heard available) l n) e

  goes_values : after ≡ values_of (indicators_of (candidate heard available) d n)
  goes_values = p.values_is ∙ leaves_done _ _ _ (number_0 goes) ∙ ap (λ (l : ℕ). values_of (indicators_of (candidate heard available) l n)) e

-- .. as call k of the row
module _ {heard : ℕ → ℕ} {available n : ℕ} {answers : ℕ → Served} {values : ℕ → List ℤ} {start : Desk} (low : 1 ≤ n) (high : n ≤ 16) (fits : start.last ≤ 15) where
  row_call : (k : ℕ) {desk : Desk} {run : List ℤ} → desk.last ≡ desk_at heard available n start.last k → length run ≡ 32
      → Serve desk (heard k) available n run (answers k) (values k) → RowIs heard available n answers values start k
  unfolding desk_at
  row_call k e sized p =
      let small = desk_small heard available n start.last low fits k in
      record {
        is_done = goes_done low high e small sized p;
        desk_is = rw (add-one k) (goes_desk low high e small sized p);
        values_are = goes_values low high e small sized p;
      }

pub calls_row : CallsRow
unfolding desk_at
calls_row heard available n answers values start m low high fits row zero l = let f = row.first l in row_call low high fits 0 refl f.1 f.2
calls_row heard available n answers values start m low high fits row (suc k) l =
    let before = (calls_row heard available n answers values start m low high fits row k (omega arith)).desk_is in
    let next = row.next k (omega arith) in
    rw (add-one k) at (row_call {heard = heard} {available = available} {n = n} {answers = answers} {values = values} {start = start} low high fits (k + 1) before next.1 next.2)

-- ---- what a promise allows

pub desk_once : DeskOnce
desk_once =
    record {
      fresh = λ a b p r. λ i. record { last = one_outcome p.last_is r.last_is i };
      serve = λ desk heard available n values a b x y p r. (
        λ i. record { verdict = one_outcome p.verdict_is r.verdict_is i; desk = record { last = one_outcome p.desk_is r.desk_is i } },
        one_outcome p.values_is r.values_is,
      );
      to_aich_lem = λ timing a b p r. λ i. record { verdict = one_outcome p.verdict_is r.verdict_is i; chips = one_outcome p.chips_is r.chips_is i };
      to_message_lem = λ timing a b p r. λ i. record { verdict = one_outcome p.verdict_is r.verdict_is i; chips = one_outcome p.chips_is r.chips_is i };
    }

serve_narrow : (last n values_length : ℕ) → Narrow (serve_verdict last n values_length)
unfolding serve_verdict
serve_narrow last n values_length =
    check_narrow _ 3 0 _ (lit< tt) (lit< tt) (lit< tt)
    (λ _. check_narrow _ 11 0 _ (lit< tt) (lit< tt) (lit< tt)
    (λ _. unless_narrow _ 11 2 (lit< tt) (lit< tt)))

timing_narrow : (timing : ℕ) → Narrow (timing_verdict timing)
unfolding timing_verdict
timing_narrow timing = unless_narrow _ 11 1 (lit< tt) (lit< tt)

either_small : (b : Bool) (x y : ℕ) → x < 65536 → y < 65536 → cond b x y < 65536
either_small true x y h l = h
either_small false x y h l = l

pub packs : Packs
unfolding to_aich to_message
packs =
    record {
      serve_narrow = serve_narrow;
      timing_narrow = timing_narrow;
      to_aich_small = λ timing. leaves_small (timing_verdict timing) _ 65536 (λ _. either_small (eqb timing 0) 7680 12800 (lit< tt) (lit< tt)) (lit< tt);
      to_message_small = λ timing. leaves_small (timing_verdict timing) _ 65536 (λ _. either_small (eqb timing 0) 15360 20480 (lit< tt) (lit< tt)) (lit< tt);
    }
