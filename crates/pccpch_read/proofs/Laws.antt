-- Laws of the reader: its scan of antenna 1 slot by slot, antenna 2 against what antenna 1 implies, and the data slot after slot.
-- Assumes nothing.
use mathlib.Core.Path.{◌≡◌, refl, sym, ap, ◌∙◌, subst, subst₂}
use mathlib.Core.Bool.{Bool, true, false, not, ◌&&◌, false≢true}
use mathlib.Core.List.{List}
use Prim.Native.Nat.{ℕ, zero, suc, ◌+◌, ◌-◌, ◌*◌, ◌/◌, ◌%◌, ◌≤◌, ◌<◌, min}
use native.Mathlib.Omega.{arith}
use borrow.Rule.Slice.PartMut.{put_mid, mid_of}
use borrow.Author.Tests.{leb-true, lt-ltb, le-ltb, eqb-true, eqb-false}
use lib.Dec.{eqb, ltb, leb}
use lib.ListN.{length, get_or, take, drop}
use lib.Seq.{ext_get_or}
use Rattle.std.specs.Prelude.{Option}
use Rattle.std.specs.Option.{unwrap_or}
use Rattle.std.specs.declared.option.Option.TheVariants.{Some, None}
use Rattle.std.specs.List.{position, zip}
use Rattle.run.specs.Verdict.{Verdict}
use Rattle.run.specs.Digits.{dtx}
use Rattle.run.specs.First.{first_bad, all, Every, at_most, is_at, agree}
use Rattle.run.specs.Verdicts.{refused, done, unless, each}
use Rattle.run.proofs.Answers.{each_some, found_each}
use Rattle.run.proofs.Bools.{and_left, and_right}
use Rattle.run.proofs.Places.{above_first, other_first, difference_first, found_below}
use Rattle.run.specs.Written.{over}
use Rattle.run.proofs.Chain.{leaves_done, number_0}
use Rattle.run.proofs.First.{no_diff, first_in_part, part_passes}
use Rattle.run.proofs.Front.{Front}
use Rattle.run.proofs.Passing.{all_every}
use Rattle.run.proofs.Lent.{part_width, part_length, part_at, same_part, front_copied}
use Rattle.pccpch.specs.Rule.{place, frame_of, second_of, data_in}
use Rattle.pccpch.specs.Outcome.{right_kind, read_verdict, Read}
use Rattle.pccpch.proofs.Exact.{mapped_accepted}
use Rattle.pccpch.proofs.Laws.{digit_of, digit_within, place_digit, split, frame_length, frame_silent, frame_digit, second_length, data_length, data_at}
use Rattle.pccpch_read.specs.Method.{begins_at, given}

-- of a digit: at most 1 is as much as not DTX
bit_kind : (d : ℕ) → d ≤ 2 → leb d 1 ≡ not (eqb d 2)
bit_kind zero h = refl
bit_kind (suc zero) h = refl
bit_kind (suc (suc zero)) h = refl
bit_kind (suc (suc (suc d))) h = absurd (let z : ⊥ = omega arith in z)

module _ (antenna1 : List ℕ) (long : length antenna1 ≡ 300) (small : Every (at_most 2 antenna1) 300) where
  -- a slot's first two digits, and its other 18, as the code tests them
  starts : (s j : ℕ) → s < 15 → j < 2 → is_at dtx (take (20 * s + 2 - 20 * s) (drop (20 * s) antenna1)) j ≡ right_kind antenna1 (20 * s + j)
  unfolding right_kind
  starts s j h l =
      let quiet : (20 * s + j) % 20 < 2 = omega arith in
      rw (lt-ltb ((20 * s + j) % 20) 2 quiet, part_at antenna1 (20 * s) 2 j 0 l)

  sounds : (s j : ℕ) → s < 15 → j < 18 → at_most 1 (take (20 * s + 2 + 18 - (20 * s + 2)) (drop (20 * s + 2) antenna1)) j ≡ right_kind antenna1 (20 * s + 2 + j)
  unfolding right_kind
  sounds s j h l =
      let loud : 2 ≤ (20 * s + 2 + j) % 20 = omega arith in
      let d : get_or antenna1 (20 * s + 2 + j) 0 ≤ 2 = leb-true _ _ (small (20 * s + 2 + j) (omega arith)) in
      rw (le-ltb ((20 * s + 2 + j) % 20) 2 loud, part_at antenna1 (20 * s + 2) 18 j 0 l) (bit_kind (get_or antenna1 (20 * s + 2 + j) 0) d)

  module _ (s : ℕ) (h : s < 15) where
    abbrev Two : List ℕ
    Two = take (20 * s + 2 - 20 * s) (drop (20 * s) antenna1)

    abbrev Others : List ℕ
    Others = take (20 * s + 2 + 18 - (20 * s + 2)) (drop (20 * s + 2) antenna1)

    module _ (before : Every (right_kind antenna1) (20 * s)) {r : Option ℕ} (told : r ≡ position (λ (d : ℕ). not (eqb d dtx)) Two) where
      first_two : unwrap_or r 2 ≡ first_bad (is_at dtx Two) 2
      first_two = rw (part_length antenna1 (20 * s) 2 (omega arith)) at (other_first dtx Two told)

      pub starts_below : (i : ℕ) → r ≡ Some i → i < 2
      starts_below i is = rw (part_length antenna1 (20 * s) 2 (omega arith)) at (found_below (λ (d : ℕ). not (eqb d dtx)) Two i told is)

      pub starts_wrong : (i : ℕ) → r ≡ Some i → refused 9 (20 * s + i) ≡ each 0 9 (right_kind antenna1) 300
      starts_wrong i is =
          let l = starts_below i is in
          let e : i ≡ first_bad (is_at dtx Two) 2 = rw is at first_two in
          each_some 9 (right_kind antenna1) 300 (rw e (first_in_part (right_kind antenna1) (is_at dtx Two) (20 * s) 2 before (λ j m. starts s j h m) 300 (omega arith) (rw e at l))) (omega arith)

      pub starts_right : r ≡ None → Every (right_kind antenna1) (20 * s + 2)
      starts_right is =
          let e : 2 ≡ first_bad (is_at dtx Two) 2 = rw is at first_two in
          part_passes (right_kind antenna1) (is_at dtx Two) (20 * s) 2 before (λ j m. starts s j h m) (omega arith)

    module _ (before : Every (right_kind antenna1) (20 * s + 2)) {r : Option ℕ} (told : r ≡ position (ltb 1) Others) where
      others : unwrap_or r 18 ≡ first_bad (at_most 1 Others) 18
      others = rw (part_length antenna1 (20 * s + 2) 18 (omega arith)) at (above_first 1 Others told)

      pub sounds_below : (i : ℕ) → r ≡ Some i → i < 18
      sounds_below i is = rw (part_length antenna1 (20 * s + 2) 18 (omega arith)) at (found_below (ltb 1) Others i told is)

      pub sounds_wrong : (i : ℕ) → r ≡ Some i → refused 9 (20 * s + 2 + i) ≡ each 0 9 (right_kind antenna1) 300
      sounds_wrong i is =
          let l = sounds_below i is in
          let e : i ≡ first_bad (at_most 1 Others) 18 = rw is at others in
          each_some 9 (right_kind antenna1) 300 (rw e (first_in_part (right_kind antenna1) (at_most 1 Others) (20 * s + 2) 18 before (λ j m. sounds s j h m) 300 (omega arith) (rw e at l))) (omega arith)

      pub sounds_right : r ≡ None → Every (right_kind antenna1) (20 * (s + 1))
      sounds_right is =
          let e : 18 ≡ first_bad (at_most 1 Others) 18 = rw is at others in
          let next : 20 * s + 2 + 18 ≡ 20 * (s + 1) = omega arith in
          subst (λ (n : ℕ). Every (right_kind antenna1) n) next
          (part_passes (right_kind antenna1) (at_most 1 Others) (20 * s + 2) 18 before (λ j m. sounds s j h m) (omega arith))

-- antenna 2 against the frame that is made again from antenna 1's data
pub compared : (antenna1 antenna2 : List ℕ) (found : Option ℕ) {v : Verdict} → length antenna2 ≡ 300
    → found ≡ position (λ (p : ℕ × ℕ). not (eqb p.0 p.1)) (zip (second_of (data_in antenna1)) antenna2)
    → v ≡ unless (leb (length antenna2) (unwrap_or found (length antenna2))) 9 (300 + unwrap_or found (length antenna2))
    → v ≡ each 300 9 (agree (second_of (data_in antenna1)) antenna2) 300
compared antenna1 antenna2 found {v} long told e =
    let n = second_length (data_in antenna1) in
    let all : min (length (second_of (data_in antenna1))) (length antenna2) ≡ 300 = omega arith in
    found_each 300 9 _ 300 found (rw all at (difference_first (second_of (data_in antenna1)) antenna2 told)) (rw long at e)

-- a frame of antenna 1 whose slots begin with DTX is the frame of its data
module _ (antenna1 : List ℕ) (long : length antenna1 ≡ 300) (begins : Every (begins_at antenna1) 15) where
  begins_with : (s : ℕ) → s < 15 → (get_or antenna1 (20 * s) 0 ≡ dtx) × (get_or antenna1 (20 * s + 1) 0 ≡ dtx)
  begins_with s h = both (eqb (get_or antenna1 (20 * s) 0) dtx) (eqb (get_or antenna1 (20 * s + 1) 0) dtx) refl refl (begins s h)
    where
      both : (a b : Bool) → eqb (get_or antenna1 (20 * s) 0) dtx ≡ a → eqb (get_or antenna1 (20 * s + 1) 0) dtx ≡ b → (a && b) ≡ true
          → (get_or antenna1 (20 * s) 0 ≡ dtx) × (get_or antenna1 (20 * s + 1) 0 ≡ dtx)
      both true true e f h = (eqb-true _ _ e, eqb-true _ _ f)
      both true false e f h = absurd (false≢true h)
      both false b e f h = absurd (false≢true h)

  quiet : (k : ℕ) → k < 300 → k % 20 < 2 → get_or antenna1 k 0 ≡ dtx
  quiet k h l = side (eqb (k % 20) 0) refl
    where
      two : (get_or antenna1 (20 * (k / 20)) 0 ≡ dtx) × (get_or antenna1 (20 * (k / 20) + 1) 0 ≡ dtx)
      two = begins_with (k / 20) (omega arith)

      side : (b : Bool) → eqb (k % 20) 0 ≡ b → get_or antenna1 k 0 ≡ dtx
      side true e = let z : k % 20 ≡ 0 = eqb-true _ _ e in let is : 20 * (k / 20) ≡ k = omega arith in rw is at two.0
      side false e = let z : k % 20 ≡ 0 → ⊥ = eqb-false _ _ e in let is : 20 * (k / 20) + 1 ≡ k = omega arith in rw is at two.1

  pub own_frame : frame_of (data_in antenna1) ≡ antenna1
  own_frame =
      let n = frame_length (data_in antenna1) in
      ext_get_or 0 (frame_of (data_in antenna1)) antenna1 (n ∙ sym long) (λ k h. at_place k (rw n at h))
    where
      at_place : (k : ℕ) → k < 300 → get_or (frame_of (data_in antenna1)) k 0 ≡ get_or antenna1 k 0
      at_place k h =
          split k
          (λ l. frame_silent (data_in antenna1) k h l ∙ sym (quiet k h l))
          (λ l.
          frame_digit (data_in antenna1) k h l
          ∙ data_at antenna1 (digit_of k) (digit_within k h l)
          ∙ ap (λ (n : ℕ). get_or antenna1 n 0) (place_digit k l))

-- what a test of three parts, and of two in each of two, tells
three : (a b c d e f : Bool) → ((a && (b && c)) && (d && (e && f))) ≡ true → (a ≡ true) × (c ≡ true) × (f ≡ true)
three a b c d e f h =
    let own = and_left (a && (b && c)) (d && (e && f)) h in
    let other = and_right (a && (b && c)) (d && (e && f)) h in
    (and_left a (b && c) own, and_right b c (and_right a (b && c) own), and_right e f (and_right d (e && f) other))

pub lengths_told : (a b c : ℕ) → ((eqb a 300 && eqb b 300) && eqb c 270) ≡ true → (a ≡ 300) × (b ≡ 300) × (c ≡ 270)
lengths_told a b c h =
    let frames = and_left (eqb a 300 && eqb b 300) (eqb c 270) h in (
      eqb-true a 300 (and_left (eqb a 300) (eqb b 300) frames),
      eqb-true b 300 (and_right (eqb a 300) (eqb b 300) frames),
      eqb-true c 270 (and_right (eqb a 300 && eqb b 300) (eqb c 270) h),
    )

-- .. and where its data are bits, and antenna 2's frame is what they give, both are accepted
pub given_accepted : (antenna1 antenna2 : List ℕ) {digits : List ℕ} → length antenna1 ≡ 300 → length antenna2 ≡ 300 → digits ≡ data_in antenna1 → given antenna1 antenna2 digits ≡ true
    → read_verdict antenna1 antenna2 270 ≡ done
given_accepted antenna1 antenna2 {digits} l1 l2 e good =
    let n : length digits ≡ 270 = ap length e ∙ data_length antenna1 in
    let t =
    three (all 15 (begins_at antenna1)) (leb 270 (length digits)) (all 270 (at_most 1 digits)) (leb 300 (length (second_of digits))) (leb 300 (length antenna2)) (all 300 (agree (second_of digits) antenna2)) good
    in
    let begins = all_every 15 (begins_at antenna1) t.0 in
    let bits = all_every 270 (at_most 1 digits) t.1 in
    let alike = all_every 300 (agree (second_of digits) antenna2) t.2 in
    let m = second_length digits in
    let same : second_of digits ≡ antenna2 = no_diff (second_of digits) antenna2 (m ∙ sym l2) (λ k h. alike k (omega arith)) in
    subst₂ (λ (f g : List ℕ). read_verdict f g 270 ≡ done) (ap frame_of e ∙ own_frame antenna1 l1 begins) same
    (mapped_accepted digits (record { data_ok = n; first_ok = refl; second_ok = refl; bits_ok = λ k h. bits k (omega arith) }))

-- what is given is read at once
pub given_read : {antenna1 antenna2 digits after : List ℕ} → length digits ≡ 270 → (read_verdict antenna1 antenna2 270 ≡ done) × (after ≡ data_in antenna1)
    → Read antenna1 antenna2 digits done after
given_read {antenna1} {antenna2} {digits} long g =
    let v : read_verdict antenna1 antenna2 (length digits) ≡ done = rw long g.0 in
    record { verdict_is = sym v; digits_is = g.1 ∙ sym (leaves_done _ _ _ (number_0 v)) }

-- the data as it is read, slot after slot
module _ (frame : List ℕ) (long : length frame ≡ 300) (s : ℕ) (h : s < 15) where
  slot_read : take 18 (drop (20 * s + 2) frame) ≡ take 18 (drop (18 * s) (data_in frame))
  slot_read =
      let n = data_length frame in
      same_part 0 frame (data_in frame) (20 * s + 2) (18 * s) 18 (omega arith) (omega arith)
      (λ j l.
      let there : 20 * s + 2 + j ≡ place (18 * s + j) = omega arith in
      ap (λ (n : ℕ). get_or frame n 0) there ∙ sym (data_at frame (18 * s + j) (omega arith)))

  pub slot_taken : {d₀ d ys : List ℕ} → length d₀ ≡ 270 → Front (data_in frame) d₀ d (18 * s)
      → ys ≡ over (take (20 * s + 2 + 18 - (20 * s + 2)) (drop (20 * s + 2) frame)) (mid_of (18 * s) (18 * s + 18 - 18 * s) d)
      → Front (data_in frame) d₀ (put_mid (18 * s) (18 * s + 18 - 18 * s) d ys) (18 * (s + 1))
  slot_taken {d₀} {d} {ys} m f e =
      let src : length (take (20 * s + 2 + 18 - (20 * s + 2)) (drop (20 * s + 2) frame)) ≡ 18 = part_length frame (20 * s + 2) 18 (omega arith) in
      let is : take (20 * s + 2 + 18 - (20 * s + 2)) (drop (20 * s + 2) frame) ≡ take 18 (drop (18 * s) (data_in frame)) =
      rw (part_width (20 * s + 2) 18) slot_read
      in
      let next : 18 * s + 18 ≡ 18 * (s + 1) = omega arith in
      subst (λ (n : ℕ). Front (data_in frame) d₀ (put_mid (18 * s) (18 * s + 18 - 18 * s) d ys) n) next
      (front_copied _ (18 * s) 18 f (omega arith) src is e)
