-- Runs of blocks as the code writes them, from the front on, and what is known where no check refused.
-- Assumes nothing.
use mathlib.Core.Path.{◌≡◌, refl, sym, ap, ◌∙◌, subst}
use mathlib.Core.Bool.{true}
use mathlib.Core.List.{List}
use Prim.Native.Nat.{ℕ, ◌+◌, ◌-◌, ◌*◌, ◌/◌, ◌%◌, ◌≤◌, ◌<◌, min}
use native.Mathlib.Omega.{arith}
use borrow.Author.Tests.{eqb-true, leb-true}
use borrow.Rule.Slice.PartMut.{put_mid, mid_of}
use lib.Bits.{bit_xor}
use lib.Dec.{leb}
use lib.IntN.{ℤ, pos, neg_ℤ}
use lib.ListN.{length, get_or, set, take, drop, length-set, length-drop}
use lib.Seq.{take_all, get_or-take, length-take-le}
use mir.Syntax.{w32}
use mir.Val.{to_z, of_z}
use mir.ValLaws.{to_z-of_z}
use Rattle.run.specs.First.{Every, at_most}
use Rattle.run.specs.Written.{over}
use Rattle.run.proofs.Chain.{or_else_done, unless_done, each_done}
use Rattle.run.proofs.Front.{Front, front_length, front_store, front_part, front_lent, front_end}
use Rattle.run.proofs.Lent.{same_part}
use Rattle.run.proofs.Each.{each_take, each_drop}
use Rattle.run.proofs.Over.{over_length, over_at, over_rest, over_whole}
use Rattle.sttd.specs.Rule.{sttd, bar_digit}
use Rattle.sttd.specs.Outcome.{digits_verdict, value_in, values_in, values_verdict, encoded_over}
use Rattle.sttd.specs.Exact.{Block}
use Rattle.sttd.proofs.Bars.{bar_by_cap, value_fits, negated_fits}
use Rattle.sttd.proofs.Laws.{sttd_length, sttd_take, sttd_part, block_at}

module _ {A : Type 0} (bar : A → A) where
  -- the four stores of a block from i on: one block more of t stands, where t is antenna 2's run so far
  module _ {t d₀ d : List A} {i : ℕ} (s : List A) (z : A) (b : Block bar s z i) (same : (j : ℕ) → j < i + 4 → get_or t j z ≡ get_or (sttd bar s) j z) where
    pub front_block : {v0 v1 v2 v3 : A} → Front t d₀ d i → i + 4 ≤ length d₀
        → v0 ≡ bar (get_or s (i + 2) z) → v1 ≡ get_or s (i + 3) z → v2 ≡ get_or s i z → v3 ≡ bar (get_or s (i + 1) z)
        → Front t d₀ (set (set (set (set d i v0) (i + 1) v1) (i + 2) v2) (i + 3) v3) (i + 4)
    front_block {v0} {v1} {v2} {v3} f room e0 e1 e2 e3 =
        let n = front_length f in
        let at0 : v0 ≡ get_or t i z = e0 ∙ sym (same i (omega arith) ∙ b.first) in
        let at1 : v1 ≡ get_or t (i + 1) z = e1 ∙ sym (same (i + 1) (omega arith) ∙ b.second) in
        let at2 : v2 ≡ get_or t (i + 2) z = e2 ∙ sym (same (i + 2) (omega arith) ∙ b.third) in
        let at3 : v3 ≡ get_or t (i + 3) z = e3 ∙ sym (same (i + 3) (omega arith) ∙ b.fourth) in
        let f1 = front_store z f (omega arith) at0 in
        let f2 = next 1 2 (omega arith) (front_store z f1 (simp length-set (omega arith)) at1) in
        let f3 = next 2 3 (omega arith) (front_store z f2 (simp length-set (omega arith)) at2) in
        next 3 4 (omega arith) (front_store z f3 (simp length-set (omega arith)) at3)
      where
        next : {u : List A} (j k : ℕ) → i + j + 1 ≡ i + k → Front t d₀ u (i + j + 1) → Front t d₀ u (i + k)
        next {u} j k e g = subst (λ (n : ℕ). Front t d₀ u n) e g

-- ---- k blocks of a run of digits, encoded over the front of another
module _ (input out₀ : List ℕ) (k : ℕ) (given : 4 * k ≤ length input) (room : 4 * k ≤ length out₀) where
  coded_length : length (sttd bar_digit (take (4 * k) input)) ≡ 4 * k
  coded_length = sttd_length bar_digit (take (4 * k) input) ∙ length-take-le (4 * k) input given

  -- one block more
  block_over : {out : List ℕ} {i v0 v1 v2 v3 : ℕ} → i % 4 ≡ 0 → i < 4 * k → Front (over (sttd bar_digit (take (4 * k) input)) out₀) out₀ out i
      → v0 ≡ bar_digit (get_or input (i + 2) 0) → v1 ≡ get_or input (i + 3) 0 → v2 ≡ get_or input i 0 → v3 ≡ bar_digit (get_or input (i + 1) 0)
      → Front (over (sttd bar_digit (take (4 * k) input)) out₀) out₀ (set (set (set (set out i v0) (i + 1) v1) (i + 2) v2) (i + 3) v3) (i + 4)
  block_over {out} {i} e h f e0 e1 e2 e3 =
      let n = length-take-le (4 * k) input given in
      let m = coded_length in
      let of : (j : ℕ) → j < 4 * k → get_or input j 0 ≡ get_or (take (4 * k) input) j 0 = (λ j l. sym (get_or-take (4 * k) input j 0 l)) in
      front_block bar_digit (take (4 * k) input) 0 (block_at bar_digit (take (4 * k) input) 0 i e (omega arith))
      (λ j l. over_at (sttd bar_digit (take (4 * k) input)) out₀ j 0 (omega arith))
      f (omega arith)
      (e0 ∙ ap bar_digit (of (i + 2) (omega arith)))
      (e1 ∙ of (i + 3) (omega arith))
      (e2 ∙ of i (omega arith))
      (e3 ∙ ap bar_digit (of (i + 1) (omega arith)))

  -- behind the blocks all is as it was
  rest_kept : drop (4 * k) (over (sttd bar_digit (take (4 * k) input)) out₀) ≡ drop (4 * k) out₀
  rest_kept = let m = coded_length in over_rest (sttd bar_digit (take (4 * k) input)) out₀ (4 * k) (omega arith)

-- a part of a run of digits
pub part_digits : (s : List ℕ) (a w : ℕ) → Every (at_most 2 s) (length s) → Every (at_most 2 (take w (drop a s))) (length (take w (drop a s)))
part_digits s a w ok = each_take (λ (d : ℕ). leb d 2) w (drop a s) (each_drop (λ (d : ℕ). leb d 2) a s ok)

-- parts of two runs that are lent alike are of one length
pub parts_lent : (input : List ℕ) {t out₀ out : List ℕ} {b : ℕ} (a e : ℕ) → Front t out₀ out b → a ≤ e → e ≤ length input → e ≤ length out₀
    → (length (take (e - a) (drop a input)) ≡ e - a) × (length (mid_of a (e - a) out) ≡ e - a)
parts_lent input a e f h l m =
    (length-take-le (e - a) (drop a input) (simp length-drop (omega arith)), front_lent a e f m)

-- of runs of one length that is a multiple of four, the whole
pub encoded_whole : (input out₀ : List ℕ) → length input % 4 ≡ 0 → length out₀ ≡ length input → encoded_over input out₀ ≡ sttd bar_digit input
unfolding encoded_over
encoded_whole input out₀ d e =
    let all : length input ≤ 4 * (min (length input) (length out₀) / 4) = omega arith in
    rw (take_all (4 * (min (length input) (length out₀) / 4)) input all) (over_whole (sttd bar_digit input) out₀ (sttd_length bar_digit input ∙ sym e))

module _ (input out₀ : List ℕ) where
  pub encoded_length : length (encoded_over input out₀) ≡ length out₀
  unfolding encoded_over
  encoded_length = over_length _ out₀

  -- n is what the two runs have in common, as the code has it
  pub encoded_block : {out : List ℕ} {n i v0 v1 v2 v3 : ℕ} → n ≡ min (length input) (length out₀) → i % 4 ≡ 0 → i < 4 * (n / 4)
      → Front (encoded_over input out₀) out₀ out i
      → v0 ≡ bar_digit (get_or input (i + 2) 0) → v1 ≡ get_or input (i + 3) 0 → v2 ≡ get_or input i 0 → v3 ≡ bar_digit (get_or input (i + 1) 0)
      → Front (encoded_over input out₀) out₀ (set (set (set (set out i v0) (i + 1) v1) (i + 2) v2) (i + 3) v3) (i + 4)
  unfolding encoded_over
  encoded_block e d h f = block_over input out₀ (min (length input) (length out₀) / 4) (omega arith) (omega arith) d (omega arith) f

  -- the same of digits, as the code finds them: each is capped, and those with a bar have another lowest bit
  pub capped_block : Every (at_most 2 input) (length input) → {out : List ℕ} {n i v0 v1 v2 v3 : ℕ} → n ≡ min (length input) (length out₀) → i % 4 ≡ 0 → i < 4 * (n / 4)
      → Front (encoded_over input out₀) out₀ out i
      → v0 ≡ min (bit_xor (get_or input (i + 2) 0) 1) 2 → v1 ≡ min (get_or input (i + 3) 0) 2 → v2 ≡ min (get_or input i 0) 2 → v3 ≡ min (bit_xor (get_or input (i + 1) 0) 1) 2
      → Front (encoded_over input out₀) out₀ (set (set (set (set out i v0) (i + 1) v1) (i + 2) v2) (i + 3) v3) (i + 4)
  capped_block ok {i = i} e d h f e0 e1 e2 e3 =
      let small : (j : ℕ) → j < length input → get_or input j 0 ≤ 2 = (λ j l. leb-true _ _ (ok j l)) in
      let s0 = small i (omega arith) in
      let s3 = small (i + 3) (omega arith) in
      encoded_block e d h f (e0 ∙ bar_by_cap _ (small (i + 2) (omega arith))) (omega arith) (omega arith) (e3 ∙ bar_by_cap _ (small (i + 1) (omega arith)))

  -- within the blocks, what stands is antenna 2's digit
  encoded_at : (j : ℕ) → j < 4 * (min (length input) (length out₀) / 4) → get_or (sttd bar_digit input) j 0 ≡ get_or (encoded_over input out₀) j 0
  unfolding encoded_over
  encoded_at j h =
      let k = min (length input) (length out₀) / 4 in
      let m = coded_length input out₀ k (omega arith) (omega arith) in
      sym (over_at (sttd bar_digit (take (4 * k) input)) out₀ j 0 (omega arith) ∙ rw (sttd_take bar_digit k input) (get_or-take (4 * k) (sttd bar_digit input) j 0 h))

  -- whole blocks from a to e are lent, of both runs alike, and come back encoded
  pub encoded_part : {out ys : List ℕ} {n a : ℕ} (e : ℕ) → n ≡ min (length input) (length out₀) → a % 4 ≡ 0 → e % 4 ≡ 0 → a ≤ e → e ≤ n
      → Front (encoded_over input out₀) out₀ out a → ys ≡ encoded_over (take (e - a) (drop a input)) (mid_of a (e - a) out)
      → Front (encoded_over input out₀) out₀ (put_mid a (e - a) out ys) e
  encoded_part {out} {ys} {n} {a} e is da de h w f y =
      let t = encoded_length in
      let p = parts_lent input a e f h (omega arith) (omega arith) in
      let src = p.0 in
      front_part e f h (omega arith) (y ∙ encoded_whole _ _ (omega arith) (p.1 ∙ sym src) ∙ sttd_part bar_digit input a (e - a) da (omega arith) ∙ placed)
    where
      placed : take (e - a) (drop a (sttd bar_digit input)) ≡ take (e - a) (drop a (encoded_over input out₀))
      placed =
          let l = sttd_length bar_digit input in
          let t = encoded_length in
          same_part 0 (sttd bar_digit input) (encoded_over input out₀) a a (e - a) (omega arith) (omega arith) (λ j m. encoded_at (a + j) (omega arith))

  pub encoded_end : {out : List ℕ} {n i : ℕ} → n ≡ min (length input) (length out₀) → i ≡ 4 * (n / 4) → Front (encoded_over input out₀) out₀ out i → out ≡ encoded_over input out₀
  unfolding encoded_over
  encoded_end {i = i} e h f =
      let all : 4 * (min (length input) (length out₀) / 4) ≡ i = omega arith in
      front_end f (rw (← all) (rest_kept input out₀ (min (length input) (length out₀) / 4) (omega arith) (omega arith)))

-- ---- the blocks of 32 values
module _ (input : List ℤ) (long : length input ≡ 32) (ok : Every (values_in input) 32) where
  -- what the code reads and writes of a value, and of its bar, is the value itself
  kept : (j : ℕ) → j < 32 → to_z w32 (of_z w32 (get_or input j (pos 0))) ≡ get_or input j (pos 0)
  kept j h = to_z-of_z w32 (get_or input j (pos 0)) (value_fits (get_or input j (pos 0)) (ok j h))

  pub read_in_range : (j : ℕ) → j < 32 → value_in (to_z w32 (of_z w32 (get_or input j (pos 0)))) ≡ true
  read_in_range j h = rw (kept j h) (ok j h)

  barred : (j : ℕ) {r : ℤ} → j < 32 → r ≡ neg_ℤ (to_z w32 (of_z w32 (get_or input j (pos 0)))) → to_z w32 (of_z w32 r) ≡ neg_ℤ (get_or input j (pos 0))
  barred j {r} h e =
      let is : r ≡ neg_ℤ (get_or input j (pos 0)) = e ∙ ap neg_ℤ (kept j h) in
      rw is (to_z-of_z w32 (neg_ℤ (get_or input j (pos 0))) (negated_fits (get_or input j (pos 0)) (ok j h)))

  pub values_block : {out₀ out : List ℤ} {i : ℕ} {r0 r3 : ℤ} → i % 4 ≡ 0 → i < 32 → length out₀ ≡ 32 → Front (sttd neg_ℤ input) out₀ out i
      → r0 ≡ neg_ℤ (to_z w32 (of_z w32 (get_or input (i + 2) (pos 0)))) → r3 ≡ neg_ℤ (to_z w32 (of_z w32 (get_or input (i + 1) (pos 0))))
      → Front (sttd neg_ℤ input) out₀
      (set (set (set (set out i (to_z w32 (of_z w32 r0))) (i + 1) (to_z w32 (of_z w32 (get_or input (i + 3) (pos 0))))) (i + 2) (to_z w32 (of_z w32 (get_or input i (pos 0))))) (i + 3) (to_z w32 (of_z w32 r3)))
      (i + 4)
  values_block {i = i} d h room f e0 e3 =
      front_block neg_ℤ input (pos 0) (block_at neg_ℤ input (pos 0) i d (omega arith)) (λ j l. refl) f (omega arith)
      (barred (i + 2) (omega arith) e0) (kept (i + 3) (omega arith)) (kept i h) (barred (i + 1) (omega arith) e3)

-- what is known where no check refused
pub record DigitsTaken (input : List ℕ) (out_length : ℕ) : Type 0 where
  pub input_ok : length input % 4 ≡ 0
  pub out_ok : out_length ≡ length input
  pub digits_ok : Every (at_most 2 input) (length input)

pub digits_taken : (input : List ℕ) (out_length : ℕ) → (digits_verdict input out_length).number ≡ 0 → DigitsTaken input out_length
unfolding digits_verdict
digits_taken input out_length h =
    let c1 = or_else_done _ _ h in
    let c2 = or_else_done _ _ c1.rest in
    record {
      input_ok = eqb-true _ _ (unless_done _ 3 0 (omega arith) c1.first);
      out_ok = eqb-true _ _ (unless_done _ 3 1 (omega arith) c2.first);
      digits_ok = each_done 0 4 _ _ (omega arith) c2.rest;
    }

pub record ValuesTaken (input : List ℤ) (out_length : ℕ) : Type 0 where
  pub input_ok : length input ≡ 32
  pub out_ok : out_length ≡ 32
  pub range_ok : Every (values_in input) (length input)

pub values_taken : (input : List ℤ) (out_length : ℕ) → (values_verdict input out_length).number ≡ 0 → ValuesTaken input out_length
unfolding values_verdict
values_taken input out_length h =
    let c1 = or_else_done _ _ h in
    let c2 = or_else_done _ _ c1.rest in
    record {
      input_ok = eqb-true _ _ (unless_done _ 3 0 (omega arith) c1.first);
      out_ok = eqb-true _ _ (unless_done _ 3 1 (omega arith) c2.first);
      range_ok = each_done 0 11 _ _ (omega arith) c2.rest;
    }
