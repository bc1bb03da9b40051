-- The theorems of specs/Exact.antt.
-- Assumes nothing.
use mathlib.Core.Path.{◌≡◌, refl, sym, ap, ◌∙◌, subst}
use mathlib.Core.Bool.{Bool, true, false, not}
use mathlib.Core.List.{List}
use Prim.Native.Nat.{ℕ, ◌*◌, ◌/◌, ◌≤◌, ◌<◌}
use native.Mathlib.Nat.{add-zero, mod-lt}
use native.Mathlib.Omega.{arith}
use borrow.Author.Tests.{eqb-true, eqb-false, leb-true, ltb-true, ltb-false, lt-ltb, le-ltb, le-leb, eq-eqb, ne_eqb, not-true}
use lib.Dec.{eqb, ltb, lit<}
use lib.ListN.{length, get_or}
use lib.Seq.{ext_get_or}
use Rattle.run.specs.Digits.{dtx}
use Rattle.run.specs.First.{Every, at_most}
use Rattle.run.specs.Verdicts.{done, leaves, Narrow}
use Rattle.run.proofs.Bools.{and_left, and_right}
use Rattle.run.proofs.Chain.{or_else_pass, unless_pass, each_pass, or_else_narrow, unless_narrow, check_narrow, each_narrow, leaves_done, leaves_refused, one_outcome, number_0}
use Rattle.pich.specs.declared.Pi.{Pi}
use Rattle.pich.specs.Rule.{width, frame_of, indicators_in, q_of}
use Rattle.pich.specs.Outcome.{q_verdict, map_verdict, stands, read_head, read_verdict}
use Rattle.pich.specs.Exact.{Gives, ReadExact, FrameFilled, QBelow, QOnce, MapOnce, ReadOnce, Packs}
use Rattle.pich.proofs.Laws.{groups, frame_length, digit_at, tail_at, filled_at, indicators_length, indicator_at, asked, Taken, taken, Accepted, accepted}

-- what `stands` says of a digit, on either side of 288
module _ (np : ℕ) (frame : List ℕ) (k : ℕ) where
  stands_group : k < 288 → stands np frame k ≡ true
      → (get_or frame k 0 ≡ dtx → ⊥) × (get_or frame k 0 ≡ get_or frame (width np * (k / width np)) 0)
  unfolding stands
  stands_group h e =
      let t = rw (lt-ltb k 288 h) at e in
      (eqb-false _ _ (not-true _ (and_left _ _ t)), eqb-true _ _ (and_right (not (eqb (get_or frame k 0) dtx)) _ t))

  stands_tail : 288 ≤ k → stands np frame k ≡ true → get_or frame k 0 ≡ dtx
  unfolding stands
  stands_tail h e = eqb-true _ _ (rw (le-ltb k 288 h) at e)

  group_stands : k < 288 → (get_or frame k 0 ≡ dtx → ⊥) → get_or frame k 0 ≡ get_or frame (width np * (k / width np)) 0 → stands np frame k ≡ true
  unfolding stands
  group_stands h d e = rw (lt-ltb k 288 h, ne_eqb _ _ d, eq-eqb _ _ e)

  tail_stands : 288 ≤ k → get_or frame k 0 ≡ dtx → stands np frame k ≡ true
  unfolding stands
  tail_stands h e = rw (le-ltb k 288 h, e)

-- below 288 or from there on
split : (k : ℕ) {X : Type 0} → (k < 288 → X) → (288 ≤ k → X) → X
split k {X} f g = side (ltb k 288) refl
  where
    side : (b : Bool) → ltb k 288 ≡ b → X
    side true e = f (ltb-true _ _ e)
    side false e = g (ltb-false _ _ e)

-- ---- what reading accepts, its indicators give
module _ (np : ℕ) (frame : List ℕ) (a : Accepted np frame np) where
  read_frame : frame_of np (indicators_in np frame) ≡ frame
  read_frame =
      let h = a.head in
      let long = frame_length np (indicators_in np frame) in
      ext_get_or 0 (frame_of np (indicators_in np frame)) frame (long ∙ sym h.frame_ok) (λ k l. at_place k (rw long at l))
    where
      at_place : (k : ℕ) → k < 300 → get_or (frame_of np (indicators_in np frame)) k 0 ≡ get_or frame k 0
      at_place k l =
          split k
          (λ m.
          digit_at np _ k m
          ∙ indicator_at np frame (k / width np) ((groups np a.head.np_ok).in_a_group k m)
          ∙ sym (stands_group np frame k m (a.stand k l)).1)
          (λ m. tail_at np _ k m l ∙ sym (stands_tail np frame k m (a.stand k l)))

  read_digits : Every (at_most 1 (indicators_in np frame)) (length (indicators_in np frame))
  read_digits q l =
      let h = a.head in
      let below : q < np = rw (indicators_length np frame) at l in
      let g = groups np h.np_ok in
      let room = g.inside q below in
      let wide = g.wide in
      let long = h.frame_ok in
      let inside : width np * q < 288 = omega arith in
      let small : get_or frame (width np * q) 0 ≤ 2 = leb-true _ _ (h.digits_ok (width np * q) (omega arith)) in
      let bit = (stands_group np frame (width np * q) inside (a.stand (width np * q) (omega arith))).0 in
      le-leb (get_or (indicators_in np frame) q 0) 1 (rw (indicator_at np frame q below) (omega arith))

  read_taken : map_verdict np (indicators_in np frame) 300 ≡ done
  unfolding map_verdict
  read_taken =
      or_else_pass (unless_pass 8 0 a.head.np_ok)
      (or_else_pass (unless_pass 3 0 (eq-eqb _ _ (indicators_length np frame)))
      (or_else_pass (unless_pass 3 1 (eq-eqb 300 300 refl))
      (each_pass 0 4 _ _ read_digits)))

-- ---- what mapping gives, reading accepts, and gives the indicators back
module _ (np : ℕ) (indicators : List ℕ) (t : Taken np indicators 300) where
  small_at : (q : ℕ) → q < np → get_or indicators q 0 ≤ 1
  small_at q h = leb-true _ _ (t.digits_ok q (rw t.indicators_ok h))

  group_digit : (k : ℕ) → k < 288 → get_or (frame_of np indicators) k 0 ≤ 1
  group_digit k h = rw (digit_at np indicators k h) (small_at (k / width np) ((groups np t.np_ok).in_a_group k h))

  mapped_digit : (k : ℕ) → k < 300 → get_or (frame_of np indicators) k 0 ≤ 2
  mapped_digit k l =
      split k
      (λ m. let s = group_digit k m in omega arith)
      (λ m. let s = tail_at np indicators k m l in omega arith)

  first_of_group : (k : ℕ) → k < 288 → get_or (frame_of np indicators) (width np * (k / width np)) 0 ≡ get_or (frame_of np indicators) k 0
  first_of_group k h =
      let g = groups np t.np_ok in
      ap (λ (n : ℕ). get_or (frame_of np indicators) n 0) (sym (add-zero (width np * (k / width np))))
      ∙ filled_at np indicators t.np_ok (k / width np) 0 (g.in_a_group k h) g.wide
      ∙ sym (digit_at np indicators k h)

  mapped_stands : Every (stands np (frame_of np indicators)) 300
  mapped_stands k l =
      split k
      (λ m. group_stands np (frame_of np indicators) k m (λ e. let s = group_digit k m in omega arith) (sym (first_of_group k m)))
      (λ m. tail_stands np (frame_of np indicators) k m (tail_at np indicators k m l))

  pub mapped_accepted : read_verdict np (frame_of np indicators) np ≡ done
  unfolding read_verdict read_head
  mapped_accepted =
      let long = frame_length np indicators in
      or_else_pass
      (or_else_pass (unless_pass 8 0 t.np_ok)
      (or_else_pass (unless_pass 3 0 (eq-eqb _ _ long))
      (or_else_pass (unless_pass 3 1 (eq-eqb np np refl))
      (each_pass 0 4 _ _ (λ k l. le-leb _ 2 (mapped_digit k (rw long at l)))))))
      (each_pass 0 9 _ _ mapped_stands)

  mapped_back : indicators_in np (frame_of np indicators) ≡ indicators
  mapped_back =
      let n = indicators_length np (frame_of np indicators) in
      ext_get_or 0 (indicators_in np (frame_of np indicators)) indicators (n ∙ sym t.indicators_ok) (λ q l. back q (rw n at l))
    where
      back : (q : ℕ) → q < np → get_or (indicators_in np (frame_of np indicators)) q 0 ≡ get_or indicators q 0
      back q h =
          indicator_at np (frame_of np indicators) q h
          ∙ ap (λ (n : ℕ). get_or (frame_of np indicators) n 0) (sym (add-zero (width np * q)))
          ∙ filled_at np indicators t.np_ok q 0 h (groups np t.np_ok).wide

given : {np : ℕ} {indicators frame : List ℕ} → Gives np indicators frame → Taken np indicators 300
given {np} {indicators} g = taken np indicators 300 (number_0 g.taken)

handed : (np : ℕ) (frame indicators : List ℕ) → Gives np indicators frame → indicators_in np frame ≡ indicators
handed np frame indicators g = ap (indicators_in np) (sym g.written) ∙ mapped_back np indicators (given g)

pub read_exact : ReadExact
read_exact np frame np_ok long =
    record {
      accepts = (
        λ e.
            let a = accepted np frame np (number_0 e) in
            (indicators_in np frame, record { taken = read_taken np frame a; written = read_frame np frame a }),
        λ s. subst (λ (f : List ℕ). read_verdict np f np ≡ done) s.1.written (mapped_accepted np s.0 (given s.1)),
      );
      hands_back = handed np frame;
      one_set = λ is js g h. sym (handed np frame is g) ∙ handed np frame js h;
    }

pub frame_filled : FrameFilled
frame_filled np indicators ok =
    record { long = frame_length np indicators; fills = filled_at np indicators ok; tail = tail_at np indicators }

pub q_below : QBelow
unfolding q_of
q_below np pi sfn ok = mod-lt _ (groups np ok).some

pub q_once : QOnce
q_once np pi sfn a b p r =
    λ i. record { verdict = one_outcome p.verdict_is r.verdict_is i; q = record { 0 = one_outcome p.q_is r.q_is i } }

pub map_once : MapOnce
map_once np indicators frame a b x y p r = (one_outcome p.verdict_is r.verdict_is, one_outcome p.frame_is r.frame_is)

pub read_once : ReadOnce
read_once np frame indicators a b x y p r =
    (one_outcome p.verdict_is r.verdict_is, one_outcome p.indicators_is r.indicators_is)

-- the answered q, 0 where refused, fits 16 bits
pub q_fits : (np : ℕ) (pi : Pi) (sfn : ℕ) → leaves (q_verdict np pi sfn) (q_of np pi.0 sfn) 0 < 65536
q_fits np pi sfn = side (eqb (q_verdict np pi sfn).number 0) refl
  where
    side : (b : Bool) → eqb (q_verdict np pi sfn).number 0 ≡ b → leaves (q_verdict np pi sfn) (q_of np pi.0 sfn) 0 < 65536
    side true e =
        let z = eqb-true _ _ e in
        let ok = (asked np pi sfn z).np_ok in
        let few = (groups np ok).few in
        let below = q_below np pi.0 sfn ok in
        rw (leaves_done (q_verdict np pi sfn) (q_of np pi.0 sfn) 0 z) (omega arith)
    side false e = rw (leaves_refused (q_verdict np pi sfn) (q_of np pi.0 sfn) 0 (eqb-false _ _ e)) (lit< tt)

q_narrow : (np : ℕ) (pi : Pi) (sfn : ℕ) → Narrow (q_verdict np pi sfn)
unfolding q_verdict
q_narrow np pi sfn =
    check_narrow _ 8 0 _ (lit< tt) (lit< tt) (lit< tt)
    (λ _. check_narrow _ 11 0 _ (lit< tt) (lit< tt) (lit< tt)
    (λ _. unless_narrow _ 11 1 (lit< tt) (lit< tt)))

map_narrow : (np : ℕ) (indicators : List ℕ) (frame_len : ℕ) → Narrow (map_verdict np indicators frame_len)
unfolding map_verdict
map_narrow np indicators frame_len =
    check_narrow _ 8 0 _ (lit< tt) (lit< tt) (lit< tt)
    (λ ok. check_narrow _ 3 0 _ (lit< tt) (lit< tt) (lit< tt)
    (λ e. check_narrow _ 3 1 _ (lit< tt) (lit< tt) (lit< tt)
    (λ _. let few = (groups np ok).few in
    let n : length indicators ≡ np = eqb-true _ _ e in
    each_narrow 0 4 _ _ (lit< tt) (omega arith))))

read_narrow : (np : ℕ) (frame : List ℕ) (indicators_len : ℕ) → Narrow (read_verdict np frame indicators_len)
unfolding read_verdict read_head
read_narrow np frame indicators_len =
    or_else_narrow _ _
    (check_narrow _ 8 0 _ (lit< tt) (lit< tt) (lit< tt)
    (λ _. check_narrow _ 3 0 _ (lit< tt) (lit< tt) (lit< tt)
    (λ e. check_narrow _ 3 1 _ (lit< tt) (lit< tt) (lit< tt)
    (λ _. let n : length frame ≡ 300 = eqb-true _ _ e in each_narrow 0 4 _ _ (lit< tt) (omega arith)))))
    (λ _. each_narrow 0 9 _ _ (lit< tt) (lit< tt))

pub packs : Packs
packs =
    record {
      q_narrow = q_narrow;
      q_small = λ np pi sfn answer p. rw p.q_is (q_fits np pi sfn);
      map_narrow = map_narrow;
      read_narrow = read_narrow;
    }
