-- The theorems of specs/Exact.antt.
-- Assumes nothing.
use mathlib.Core.Path.{◌≡◌, refl, sym, ap, ◌∙◌, subst, subst₂}
use mathlib.Core.Bool.{true}
use mathlib.Core.List.{List}
use mathlib.Core.Logic.{◌↔◌}
use Prim.Native.Nat.{ℕ, ◌+◌, ◌*◌, ◌/◌, ◌%◌, ◌≤◌, ◌<◌}
use native.Mathlib.Omega.{arith}
use borrow.Author.Tests.{eqb-true, eqb-false, leb-true, ltb-true, ltb-false, lt-ltb, le-ltb, le-leb, eq-eqb, ne_eqb, not-true}
use lib.Dec.{lit<}
use lib.ListN.{length, get_or}
use lib.Seq.{ext_get_or}
use Rattle.run.specs.Digits.{dtx}
use Rattle.run.specs.First.{Every, at_most}
use Rattle.run.specs.Pairs.{Reads, PairGiven, PairRead}
use Rattle.run.specs.Verdicts.{done, Narrow}
use Rattle.run.proofs.Chain.{or_else_pass, unless_pass, each_pass, or_else_narrow, check_narrow, each_narrow, one_outcome, number_0}
use Rattle.run.proofs.First.{no_diff, diff_none}
use Rattle.run.proofs.Pairs.{pairs_exact}
use Rattle.sttd.specs.Rule.{sttd, bar_digit}
use Rattle.sttd.proofs.Bars.{bar_keeps_bit}
use Rattle.sttd.proofs.Laws.{sttd_keeps, block}
use Rattle.pccpch.specs.Rule.{place, frame_of, coded, second_of, data_in, silent}
use Rattle.pccpch.specs.Outcome.{map_verdict, read_head, right_kind, read_body, read_verdict}
use Rattle.pccpch.specs.Exact.{Gives, ReadExact, Positions, FramePlaced, DtxPlaces, Block, ByBlocks, Shared, EvenSlots, LastTwo, MapOnce, ReadOnce, Packs}
use Rattle.pccpch.proofs.Laws.{place_within, place_sounds, place_once, digit_of, digit_within, place_digit, split, frame_length, frame_silent, frame_at, frame_digit, second_length, data_length, data_at, coded_is, last_kept}
use Rattle.pccpch.proofs.Checks.{Taken, taken, Accepted, accepted}

pub positions : Positions
positions =
    record {
      within = place_within;
      sounds = λ d h. le-ltb (place d % 20) 2 (place_sounds d);
      one_to_one = place_once;
      onto = λ k h e.
          let l = ltb-false (k % 20) 2 e in
          (digit_of k, digit_within k h l, place_digit k l);
    }

pub frame_placed : FramePlaced
frame_placed digits =
    record {
      long = frame_length digits;
      stands = frame_at digits;
      quiet = λ k h e. frame_silent digits k h (ltb-true (k % 20) 2 e);
    }

-- what `right_kind` says of a digit, at a silent place and at another
module _ (frame : List ℕ) (k : ℕ) where
  kind_silent : k % 20 < 2 → right_kind frame k ≡ true → get_or frame k 0 ≡ dtx
  unfolding right_kind
  kind_silent l e = eqb-true _ _ (rw (lt-ltb (k % 20) 2 l) at e)

  kind_sounds : 2 ≤ k % 20 → right_kind frame k ≡ true → get_or frame k 0 ≡ dtx → ⊥
  unfolding right_kind
  kind_sounds l e = eqb-false _ _ (not-true _ (rw (le-ltb (k % 20) 2 l) at e))

  silent_kind : k % 20 < 2 → get_or frame k 0 ≡ dtx → right_kind frame k ≡ true
  unfolding right_kind
  silent_kind l e = rw (lt-ltb (k % 20) 2 l, e)

  sounds_kind : 2 ≤ k % 20 → (get_or frame k 0 ≡ dtx → ⊥) → right_kind frame k ≡ true
  unfolding right_kind
  sounds_kind l e = rw (le-ltb (k % 20) 2 l, ne_eqb _ _ e)

-- ---- a frame of antenna 1 that reads, its data gives
record FirstOk (antenna1 : List ℕ) : Type 0 where
  long : length antenna1 ≡ 300
  digits : Every (at_most 2 antenna1) (length antenna1)
  kinds : Every (right_kind antenna1) 300

module _ (antenna1 : List ℕ) (a : FirstOk antenna1) where
  read_first : frame_of (data_in antenna1) ≡ antenna1
  read_first =
      let long = frame_length (data_in antenna1) in
      ext_get_or 0 (frame_of (data_in antenna1)) antenna1 (long ∙ sym a.long) (λ k h. at_place k (rw long at h))
    where
      at_place : (k : ℕ) → k < 300 → get_or (frame_of (data_in antenna1)) k 0 ≡ get_or antenna1 k 0
      at_place k h =
          split k
          (λ l. frame_silent (data_in antenna1) k h l ∙ sym (kind_silent antenna1 k l (a.kinds k h)))
          (λ l.
          frame_digit (data_in antenna1) k h l
          ∙ data_at antenna1 (digit_of k) (digit_within k h l)
          ∙ ap (λ (n : ℕ). get_or antenna1 n 0) (place_digit k l))

  read_bits : Every (at_most 1 (data_in antenna1)) (length (data_in antenna1))
  read_bits d l =
      let h : d < 270 = rw (data_length antenna1) at l in
      let p = place_within d h in
      let long = a.long in
      let small : get_or antenna1 (place d) 0 ≤ 2 = leb-true _ _ (a.digits (place d) (omega arith)) in
      let bit = kind_sounds antenna1 (place d) (place_sounds d) (a.kinds (place d) p) in
      le-leb (get_or (data_in antenna1) d 0) 1 (rw (data_at antenna1 d h) (omega arith))

  read_taken : map_verdict (data_in antenna1) 300 300 ≡ done
  unfolding map_verdict
  read_taken =
      or_else_pass (unless_pass 3 0 (eq-eqb _ _ (data_length antenna1)))
      (or_else_pass (unless_pass 3 1 (eq-eqb 300 300 refl))
      (or_else_pass (unless_pass 3 2 (eq-eqb 300 300 refl))
      (each_pass 0 4 _ _ read_bits)))

-- what reading accepts: such a frame, and beside it what it implies
module _ (antenna1 antenna2 : List ℕ) (a : Accepted antenna1 antenna2 270) where
  accepted_first : FirstOk antenna1
  accepted_first = record { long = a.head.first_ok; digits = a.head.digits1_ok; kinds = a.kinds }

  read_second : second_of (data_in antenna1) ≡ antenna2
  read_second =
      let long = second_length (data_in antenna1) in
      no_diff (second_of (data_in antenna1)) antenna2 (long ∙ sym a.head.second_ok) (λ k h. a.agrees k (rw long at h))

-- ---- the frame of bits: DTX stands at the silent places, and nowhere else
module _ (digits : List ℕ) (bits : (d : ℕ) → d < 270 → get_or digits d 0 ≤ 1) where
  frame_bit : (k : ℕ) → k < 300 → 2 ≤ k % 20 → get_or (frame_of digits) k 0 ≤ 1
  frame_bit k h l = rw (frame_digit digits k h l) (bits (digit_of k) (digit_within k h l))

  frame_small : (k : ℕ) → k < 300 → get_or (frame_of digits) k 0 ≤ 2
  frame_small k h =
      split k
      (λ l. let e = frame_silent digits k h l in omega arith)
      (λ l. let e = frame_bit k h l in omega arith)

  frame_quiet : (k : ℕ) → k < 300 → (get_or (frame_of digits) k 0 ≡ dtx) ↔ (silent k ≡ true)
  frame_quiet k h = (
    λ e. split k (λ l. lt-ltb (k % 20) 2 l) (λ l. absurd (let z : ⊥ = omega (arith, frame_bit k h l) in z)),
    λ e. frame_silent digits k h (ltb-true (k % 20) 2 e),
  )

  frame_kinds : Every (right_kind (frame_of digits)) 300
  frame_kinds k h =
      split k
      (λ l. silent_kind (frame_of digits) k l (frame_silent digits k h l))
      (λ l. sounds_kind (frame_of digits) k l (λ e. let b = frame_bit k h l in omega arith))

-- ---- what mapping gives, reading accepts, and gives the data back
module _ (digits : List ℕ) (t : Taken digits 300 300) where
  bits : (d : ℕ) → d < 270 → get_or digits d 0 ≤ 1
  bits d h = leb-true _ _ (t.bits_ok d (rw t.data_ok h))

  coded_bits : (d : ℕ) → d < 270 → get_or (coded digits) d 0 ≤ 1
  coded_bits d h =
      rw (coded_is digits t.data_ok)
      (sttd_keeps bar_digit (λ (x : ℕ). x ≤ 1) bar_keeps_bit 0 digits (λ e l. bits e (rw t.data_ok at l)) d (rw t.data_ok h))

  second_small : (k : ℕ) → k < 300 → get_or (second_of digits) k 0 ≤ 2
  unfolding second_of
  second_small = frame_small (coded digits) coded_bits

  second_quiet : (k : ℕ) → k < 300 → (get_or (second_of digits) k 0 ≡ dtx) ↔ (silent k ≡ true)
  unfolding second_of
  second_quiet = frame_quiet (coded digits) coded_bits

  mapped_back : data_in (frame_of digits) ≡ digits
  mapped_back =
      let n = data_length (frame_of digits) in
      ext_get_or 0 (data_in (frame_of digits)) digits (n ∙ sym t.data_ok)
      (λ d l. let h : d < 270 = rw n at l in data_at (frame_of digits) d h ∙ frame_at digits d h)

  pub mapped_accepted : read_verdict (frame_of digits) (second_of digits) 270 ≡ done
  unfolding read_verdict read_head read_body
  mapped_accepted =
      let n = frame_length digits in
      let m = second_length digits in
      or_else_pass
      (or_else_pass (unless_pass 3 0 (eq-eqb _ _ n))
      (or_else_pass (unless_pass 3 1 (eq-eqb _ _ m))
      (or_else_pass (unless_pass 3 2 (eq-eqb 270 270 refl))
      (or_else_pass
      (each_pass 0 4 _ _ (λ k l. le-leb _ 2 (frame_small digits bits k (rw n at l))))
      (each_pass 300 4 _ _ (λ k l. le-leb _ 2 (second_small k (rw m at l))))))))
      (or_else_pass (each_pass 0 9 _ _ (frame_kinds digits bits))
      (each_pass 300 9 _ _ (diff_none _ _ 300 (ap second_of mapped_back))))

given : {digits antenna1 antenna2 : List ℕ} → Gives digits antenna1 antenna2 → Taken digits 300 300
given {digits} g = taken digits 300 300 (number_0 g.taken)

-- the reader of one frame, of which the reader of both is a case
abbrev TakenBoth : List ℕ → Type 0
TakenBoth digits = map_verdict digits 300 300 ≡ done

mapped_first : (digits : List ℕ) → TakenBoth digits → FirstOk (frame_of digits)
mapped_first digits e =
    let t = taken digits 300 300 (number_0 e) in
    let n = frame_length digits in
    record { long = n; digits = λ k l. le-leb _ 2 (frame_small digits (bits digits t) k (rw n at l)); kinds = frame_kinds digits (bits digits t) }

back : (digits : List ℕ) → TakenBoth digits → data_in (frame_of digits) ≡ digits
back digits e = mapped_back digits (taken digits 300 300 (number_0 e))

first_reads : Reads TakenBoth frame_of FirstOk data_in
first_reads =
    record {
      exactly = λ s. (
        λ a. record { fields = data_in s; taken = read_taken s a; gives = read_first s a },
        λ g. subst FirstOk g.gives (mapped_first g.fields g.taken),
      );
      back = back;
    }

pair : (antenna1 antenna2 : List ℕ) → PairRead TakenBoth frame_of second_of FirstOk data_in (λ (s : List ℕ). second_of (data_in s)) antenna1 antenna2
pair = pairs_exact (List ℕ) (List ℕ) TakenBoth frame_of second_of FirstOk data_in (λ (s : List ℕ). second_of (data_in s)) first_reads (λ x e. ap second_of (sym (back x e)))

abbrev as_pair : {digits antenna1 antenna2 : List ℕ} → Gives digits antenna1 antenna2 → PairGiven TakenBoth frame_of second_of antenna1 antenna2
as_pair {digits} g = record { fields = digits; taken = g.taken; first = g.first; second = g.second }

pub read_exact : ReadExact
read_exact antenna1 antenna2 =
    record {
      accepts = (
        λ e.
            let a = accepted antenna1 antenna2 270 (number_0 e) in
            let g = (pair antenna1 antenna2).exactly.0 (accepted_first antenna1 antenna2 a, read_second antenna1 antenna2 a) in
            (g.fields, record { taken = g.taken; first = g.first; second = g.second }),
        λ s. subst₂ (λ (f g : List ℕ). read_verdict f g 270 ≡ done) s.1.first s.1.second (mapped_accepted s.0 (given s.1)),
      );
      hands_back = λ digits g. (pair antenna1 antenna2).hands_back (as_pair g);
      one_set = λ digits others g h. (pair antenna1 antenna2).one_set (as_pair g) (as_pair h);
    }

pub dtx_places : DtxPlaces
dtx_places digits e k h =
    let t = taken digits 300 300 (number_0 e) in
    record { on_first = frame_quiet digits (bits digits t) k h; on_second = second_quiet digits t k h }

-- ---- antenna 2 by its places
module _ (digits : List ℕ) (long : length digits ≡ 270) where
  second_at : (d : ℕ) → d < 270 → get_or (second_of digits) (place d) 0 ≡ get_or (sttd bar_digit digits) d 0
  unfolding second_of
  second_at d h = frame_at (coded digits) d h ∙ ap (λ (t : List ℕ). get_or t d 0) (coded_is digits long)

  block_placed : (k : ℕ) → k < 67 → Block digits k
  block_placed k h =
      let b = block bar_digit digits 0 k (omega arith) in
      record {
        first = second_at (4 * k) (omega arith) ∙ b.first;
        second = second_at (4 * k + 1) (omega arith) ∙ b.second;
        third = second_at (4 * k + 2) (omega arith) ∙ b.third;
        fourth = second_at (4 * k + 3) (omega arith) ∙ b.fourth;
      }

  last_placed : (k : ℕ) → 298 ≤ k → k < 300 → get_or (second_of digits) k 0 ≡ get_or (frame_of digits) k 0
  unfolding second_of
  last_placed k h l =
      let sounds : 2 ≤ k % 20 = omega arith in
      let late : 268 ≤ digit_of k = omega arith in
      frame_digit (coded digits) k l sounds ∙ sym (last_kept digits long (digit_of k) late (digit_within k l sounds)) ∙ sym (frame_digit digits k l sounds)

  -- the block that slots n and n + 1 share is block 9·(n / 2) + 4
  shared : (n : ℕ) → n % 2 ≡ 0 → n < 14 → Shared (frame_of digits) (second_of digits) n
  shared n e h =
      let k : ℕ = 9 * (n / 2) + 4 in
      let b = block_placed k (omega arith) in
      let p0 : place (4 * k) ≡ 20 * n + 18 = omega arith in
      let p1 : place (4 * k + 1) ≡ 20 * n + 19 = omega arith in
      let p2 : place (4 * k + 2) ≡ 20 * (n + 1) + 2 = omega arith in
      let p3 : place (4 * k + 3) ≡ 20 * (n + 1) + 3 = omega arith in
      record {
        last_0 = there p0 ∙ b.first ∙ ap bar_digit (stands (4 * k + 2) (omega arith) p2);
        last_1 = there p1 ∙ b.second ∙ stands (4 * k + 3) (omega arith) p3;
        next_0 = there p2 ∙ b.third ∙ stands (4 * k) (omega arith) p0;
        next_1 = there p3 ∙ b.fourth ∙ ap bar_digit (stands (4 * k + 1) (omega arith) p1);
      }
    where
      there : {m k : ℕ} → m ≡ k → get_or (second_of digits) k 0 ≡ get_or (second_of digits) m 0
      there e = ap (λ (j : ℕ). get_or (second_of digits) j 0) (sym e)

      stands : (d : ℕ) {k : ℕ} → d < 270 → place d ≡ k → get_or digits d 0 ≡ get_or (frame_of digits) k 0
      stands d l e = sym (frame_at digits d l) ∙ ap (λ (j : ℕ). get_or (frame_of digits) j 0) e

pub by_blocks : ByBlocks
by_blocks = block_placed

pub last_two : LastTwo
last_two = last_placed

pub even_slots : EvenSlots
even_slots = shared

pub map_once : MapOnce
map_once digits antenna1 antenna2 a b x1 x2 y1 y2 p r =
    (one_outcome p.verdict_is r.verdict_is, one_outcome p.antenna1_is r.antenna1_is, one_outcome p.antenna2_is r.antenna2_is)

pub read_once : ReadOnce
read_once antenna1 antenna2 digits a b x y p r = (one_outcome p.verdict_is r.verdict_is, one_outcome p.digits_is r.digits_is)

map_narrow : (digits : List ℕ) (length1 length2 : ℕ) → Narrow (map_verdict digits length1 length2)
unfolding map_verdict
map_narrow digits length1 length2 =
    check_narrow _ 3 0 _ (lit< tt) (lit< tt) (lit< tt)
    (λ e. check_narrow _ 3 1 _ (lit< tt) (lit< tt) (lit< tt)
    (λ _. check_narrow _ 3 2 _ (lit< tt) (lit< tt) (lit< tt)
    (λ _. let n : length digits ≡ 270 = eqb-true _ _ e in each_narrow 0 4 _ _ (lit< tt) (omega arith))))

read_narrow : (antenna1 antenna2 : List ℕ) (data_len : ℕ) → Narrow (read_verdict antenna1 antenna2 data_len)
unfolding read_verdict read_head read_body
read_narrow antenna1 antenna2 data_len =
    or_else_narrow _ _
    (check_narrow _ 3 0 _ (lit< tt) (lit< tt) (lit< tt)
    (λ e. check_narrow _ 3 1 _ (lit< tt) (lit< tt) (lit< tt)
    (λ f. check_narrow _ 3 2 _ (lit< tt) (lit< tt) (lit< tt)
    (λ _.
    let n : length antenna1 ≡ 300 = eqb-true _ _ e in
    let m : length antenna2 ≡ 300 = eqb-true _ _ f in
    or_else_narrow _ _ (each_narrow 0 4 _ _ (lit< tt) (omega arith)) (λ _. each_narrow 300 4 _ _ (lit< tt) (omega arith))))))
    (λ _. or_else_narrow _ _ (each_narrow 0 9 _ _ (lit< tt) (lit< tt)) (λ _. each_narrow 300 9 _ _ (lit< tt) (lit< tt)))

pub packs : Packs
packs = record { map_narrow = map_narrow; read_narrow = read_narrow }
