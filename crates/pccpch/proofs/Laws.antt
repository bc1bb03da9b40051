-- Laws of the position rule, of a frame's digits and slots, and of antenna 2's digits.
-- Assumes nothing.
use mathlib.Core.Path.{◌≡◌, refl, sym, ap, ◌∙◌, subst}
use mathlib.Core.Bool.{Bool, true, false}
use mathlib.Core.List.{List, [], append-nil}
use Prim.Native.Nat.{ℕ, zero, suc, ◌+◌, ◌-◌, ◌*◌, ◌/◌, ◌%◌, ◌≤◌, ◌<◌}
use native.Mathlib.Nat.{not-suc-le-zero}
use native.Mathlib.Omega.{arith}
use borrow.Rule.Slice.PartMut.{put_mid, mid_of}
use borrow.Author.Tests.{eqb-true, eqb-false, ltb-true, ltb-false}
use lib.Dec.{eqb, ltb}
use lib.ListN.{length, get_or, set, take, drop, replicate, length-set, length-replicate, get_or-replicate, take-append-drop, length-drop, drop_of_length-le}
use lib.Seq.{get_or-set_same, get_or-set_other, get_or-drop, length-take-le}
use Rattle.run.specs.Digits.{dtx}
use Rattle.run.specs.Written.{over}
use Rattle.run.proofs.Front.{Front, front_none, front_length, front_part, front_store, front_all}
use Rattle.run.proofs.Lent.{part_width, part_length, same_part, front_copied}
use Rattle.run.proofs.Table.{tab_length, tab_at}
use Rattle.sttd.specs.Rule.{sttd, bar_digit}
use Rattle.sttd.specs.Outcome.{encoded_over}
use Rattle.sttd.proofs.Laws.{sttd_length, sttd_short, sttd_take, sttd_drop, tail_kept}
use Rattle.sttd.proofs.Runs.{encoded_whole}
use Rattle.pccpch.specs.Rule.{place, filled, frame_of, coded, second_of, data_in}

-- ---- the position rule
pub place_within : (d : ℕ) → d < 270 → place d < 300
place_within d h = omega arith

pub place_sounds : (d : ℕ) → 2 ≤ place d % 20
place_sounds d = omega arith

pub place_once : (d e : ℕ) → place d ≡ place e → d ≡ e
place_once d e h = omega arith

-- the data digit that stands at a place which is not silent
abbrev pub digit_of : ℕ → ℕ
digit_of k = 18 * (k / 20) + (k % 20 - 2)

pub digit_within : (k : ℕ) → k < 300 → 2 ≤ k % 20 → digit_of k < 270
digit_within k h l = omega arith

pub place_digit : (k : ℕ) → 2 ≤ k % 20 → place (digit_of k) ≡ k
place_digit k l = omega arith

-- silent, or not
pub split : (k : ℕ) {X : Type 0} → (k % 20 < 2 → X) → (2 ≤ k % 20 → X) → X
split k {X} f g = side (ltb (k % 20) 2) refl
  where
    side : (b : Bool) → ltb (k % 20) 2 ≡ b → X
    side true e = f (ltb-true _ _ e)
    side false e = g (ltb-false _ _ e)

-- ---- a frame's digits
module _ (digits : List ℕ) where
  filled_length : (n : ℕ) → length (filled digits n) ≡ 300
  unfolding filled
  filled_length zero = length-replicate {A = ℕ} 300 2
  filled_length (suc n) = length-set (filled digits n) (place n) (get_or digits n 0) ∙ filled_length n

  filled_silent : (n k : ℕ) → k < 300 → k % 20 < 2 → get_or (filled digits n) k 0 ≡ dtx
  unfolding filled
  filled_silent zero k h l = get_or-replicate {A = ℕ} 300 k 2 0 h
  filled_silent (suc n) k h l =
      get_or-set_other (filled digits n) (place n) k (get_or digits n 0) 0 (λ e. absurd (let z : ⊥ = omega (arith, place_sounds n) in z)) ∙ filled_silent n k h l

  one_more : (n d : ℕ) → n < 270 → d < suc n → (d < n → get_or (filled digits n) (place d) 0 ≡ get_or digits d 0)
      → get_or (set (filled digits n) (place n) (get_or digits n 0)) (place d) 0 ≡ get_or digits d 0
  one_more n d h l before = side (eqb d n) refl
    where
      side : (b : Bool) → eqb d n ≡ b → get_or (set (filled digits n) (place n) (get_or digits n 0)) (place d) 0 ≡ get_or digits d 0
      side true t =
          let e : d ≡ n = eqb-true _ _ t in
          let long = filled_length n in
          rw e (get_or-set_same (filled digits n) (place n) (get_or digits n 0) 0 (omega arith))
      side false t =
          let ne : d ≡ n → ⊥ = eqb-false _ _ t in
          get_or-set_other (filled digits n) (place n) (place d) (get_or digits n 0) 0 (λ e. ne (place_once d n e)) ∙ before (omega arith)

  filled_at : (n : ℕ) → n ≤ 270 → (d : ℕ) → d < n → get_or (filled digits n) (place d) 0 ≡ get_or digits d 0
  unfolding filled
  filled_at zero h d l = absurd (not-suc-le-zero l)
  filled_at (suc n) h d l = one_more n d (omega arith) l (λ m. filled_at n (omega arith) d m)

  pub frame_length : length (frame_of digits) ≡ 300
  unfolding frame_of
  frame_length = filled_length 270

  pub frame_silent : (k : ℕ) → k < 300 → k % 20 < 2 → get_or (frame_of digits) k 0 ≡ dtx
  unfolding frame_of
  frame_silent = filled_silent 270

  pub frame_at : (d : ℕ) → d < 270 → get_or (frame_of digits) (place d) 0 ≡ get_or digits d 0
  unfolding frame_of
  frame_at = filled_at 270 (omega arith)

  -- by the frame's place: what stands there
  pub frame_digit : (k : ℕ) → k < 300 → 2 ≤ k % 20 → get_or (frame_of digits) k 0 ≡ get_or digits (digit_of k) 0
  frame_digit k h l = ap (λ (n : ℕ). get_or (frame_of digits) n 0) (sym (place_digit k l)) ∙ frame_at (digit_of k) (digit_within k h l)

pub second_length : (digits : List ℕ) → length (second_of digits) ≡ 300
unfolding second_of
second_length digits = frame_length (coded digits)

-- ---- the frame as it is written: it starts as DTX, and slot after slot its 18 digits are copied behind its first two
pub blank : List ℕ
blank = replicate 300 dtx

blank_length : length blank ≡ 300
unfolding blank
blank_length = length-replicate {A = ℕ} 300 2

pub frame_starts : (digits : List ℕ) → Front (frame_of digits) blank (replicate 300 dtx) 0
unfolding blank
frame_starts digits = front_none (frame_length digits ∙ blank_length)

module _ (digits : List ℕ) (long : length digits ≡ 270) (s : ℕ) (h : s < 15) where
  -- the slot's 18 digits, where they stand in the frame
  slot_digits : take 18 (drop (18 * s) digits) ≡ take 18 (drop (20 * s + 2) (frame_of digits))
  slot_digits =
      let n = frame_length digits in
      same_part 0 digits (frame_of digits) (18 * s) (20 * s + 2) 18 (omega arith) (omega arith)
      (λ j l.
      let there : place (18 * s + j) ≡ 20 * s + 2 + j = omega arith in
      sym (frame_at digits (18 * s + j) (omega arith)) ∙ ap (λ (n : ℕ). get_or (frame_of digits) n 0) there)

  -- its first two are stored, and its digits copied behind them
  pub slot_written : {frame ys : List ℕ} → Front (frame_of digits) blank frame (20 * s)
      → ys ≡ over (take (18 * s + 18 - 18 * s) (drop (18 * s) digits)) (mid_of (20 * s + 2) (20 * s + 2 + 18 - (20 * s + 2)) (set (set frame (20 * s) dtx) (20 * s + 1) dtx))
      → Front (frame_of digits) blank (put_mid (20 * s + 2) (20 * s + 2 + 18 - (20 * s + 2)) (set (set frame (20 * s) dtx) (20 * s + 1) dtx) ys) (20 * (s + 1))
  slot_written {frame} {ys} f e =
      let n = blank_length in
      let f1 = front_store 0 f (let m = front_length f in omega arith) (sym (frame_silent digits (20 * s) (omega arith) (omega arith))) in
      let f2 = front_store 0 f1 (let m = front_length f1 in omega arith) (sym (frame_silent digits (20 * s + 1) (omega arith) (omega arith))) in
      let two : 20 * s + 1 + 1 ≡ 20 * s + 2 = omega arith in
      let f3 = subst (λ (n : ℕ). Front (frame_of digits) blank (set (set frame (20 * s) dtx) (20 * s + 1) dtx) n) two f2 in
      let src : length (take (18 * s + 18 - 18 * s) (drop (18 * s) digits)) ≡ 18 = part_length digits (18 * s) 18 (omega arith) in
      let is : take (18 * s + 18 - 18 * s) (drop (18 * s) digits) ≡ take 18 (drop (20 * s + 2) (frame_of digits)) =
      rw (part_width (18 * s) 18) slot_digits
      in
      let next : 20 * s + 2 + 18 ≡ 20 * (s + 1) = omega arith in
      subst (λ (n : ℕ). Front (frame_of digits) blank (put_mid (20 * s + 2) (20 * s + 2 + 18 - (20 * s + 2)) (set (set frame (20 * s) dtx) (20 * s + 1) dtx) ys) n) next
      (front_copied _ (20 * s + 2) 18 f3 (omega arith) src is e)

pub frame_ends : (digits : List ℕ) {frame : List ℕ} → Front (frame_of digits) blank frame 300 → frame ≡ frame_of digits
frame_ends digits f = front_all f (let n = blank_length in omega arith)

pub written_length : (digits : List ℕ) {frame : List ℕ} {a : ℕ} → Front (frame_of digits) blank frame a → length frame ≡ 300
written_length digits f = front_length f ∙ blank_length

-- the lent frame is lent on whole
pub lent_whole : (antenna ys : List ℕ) → length antenna ≡ 300 → put_mid 0 300 antenna ys ≡ ys
lent_whole antenna ys h =
    let none : drop 300 antenna ≡ [] = drop_of_length-le antenna {i = 300} (omega arith) in
    rw none (append-nil ys)

-- ---- the data as it is read
module _ (frame : List ℕ) where
  pub data_length : length (data_in frame) ≡ 270
  unfolding data_in
  data_length = tab_length 270 _

  pub data_at : (d : ℕ) → d < 270 → get_or (data_in frame) d 0 ≡ get_or frame (place d) 0
  unfolding data_in
  data_at d h = tab_at 270 _ d 0 h

-- ---- antenna 2's digits
module _ (digits : List ℕ) (long : length digits ≡ 270) where
  -- the last two digits are no block, so they are what STTD makes of them: STTD over all of the digits gives the same
  pub coded_is : coded digits ≡ sttd bar_digit digits
  unfolding coded
  coded_is =
      let few : length (drop 268 digits) < 4 = simp length-drop (omega arith) in
      rw (← sttd_short bar_digit (drop 268 digits) few, sttd_take bar_digit 67 digits, sttd_drop bar_digit 67 digits)
      (take-append-drop 268 (sttd bar_digit digits))

  -- digits 268 and 269
  pub last_kept : (d : ℕ) → 268 ≤ d → d < 270 → get_or digits d 0 ≡ get_or (coded digits) d 0
  last_kept d h l =
      let is : 268 + (d - 268) ≡ d = omega arith in
      let kept = tail_kept bar_digit digits 67 (omega arith) in
      rw (coded_is, ← is) (sym (get_or-drop 268 digits (d - 268) 0) ∙ ap (λ (t : List ℕ). get_or t (d - 268) 0) (sym kept) ∙ get_or-drop 268 (sttd bar_digit digits) (d - 268) 0)

  coded_length : length (coded digits) ≡ 270
  coded_length = rw coded_is (sttd_length bar_digit digits ∙ long)

  -- the encoder leaves its blocks in the first 268 of the run, and the last two are stored
  pub code_stands : (out ys : List ℕ) → length out ≡ 270 → ys ≡ encoded_over (take 268 digits) (mid_of 0 268 out)
      → set (set (put_mid 0 268 out ys) 268 (get_or digits 268 0)) 269 (get_or digits 269 0) ≡ coded digits
  code_stands out ys l f =
      let src : length (take 268 digits) ≡ 268 = length-take-le 268 digits (omega arith) in
      let lent : length (mid_of 0 268 out) ≡ 268 = length-take-le 268 out (omega arith) in
      let whole : ys ≡ sttd bar_digit (take 268 digits) = f ∙ encoded_whole (take 268 digits) (mid_of 0 268 out) (rw src refl) (lent ∙ sym src) in
      let blocks : ys ≡ take 268 (coded digits) = whole ∙ rw coded_is (sttd_take bar_digit 67 digits) in
      let f0 = front_part {t = coded digits} {d₀ = out} {d = out} 268 (front_none (coded_length ∙ sym l)) (omega arith) (omega arith) blocks in
      let f1 = front_store 0 f0 (let n = front_length f0 in omega arith) (last_kept 268 (omega arith) (omega arith)) in
      let f2 = front_store 0 f1 (let n = front_length f1 in omega arith) (last_kept 269 (omega arith) (omega arith)) in
      front_all f2 (omega arith)
