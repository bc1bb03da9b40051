-- The theorems of specs/Symbols.antt: by the sign's bar for the code itself, and by the block of zeros and the eight blocks with one 1 for its being the only one.
-- Assumes nothing.
use mathlib.Core.Path.{◌≡◌, refl, sym, ap, ap₂, ◌∙◌}
use mathlib.Core.Bool.{Bool, true, false, cond}
use mathlib.Core.List.{List, [], ◌∷◌, map}
use Prim.Native.Nat.{ℕ, zero, suc, ◌+◌, ◌*◌, ◌/◌, ◌%◌, ◌≤◌, ◌<◌}
use native.Mathlib.Nat.{not-suc-le-zero, le_of_suc-le-suc}
use native.Mathlib.Omega.{arith}
use borrow.Author.Tests.{eqb-true, eq-eqb, ltb-true, ltb-false}
use lib.Dec.{eqb, leb, ltb}
use lib.IntN.{ℤ, pos, negsuc, neg_ℤ, ◌*ℤ◌}
use lib.ListN.{length, get_or, replicate, length-map, get_or-eq_default}
use lib.Seq.{ext_get_or}
use Rattle.run.specs.First.{Every, at_most}
use Rattle.run.specs.Parts.{part}
use Rattle.run.specs.Table.{tab}
use Rattle.run.proofs.Parts.{part_length}
use Rattle.run.proofs.Table.{tab_length, tab_at, table_test}
use Rattle.whole.proofs.Laws.{neg-*ℤ}
use Rattle.sttd.specs.Rule.{bar_digit, digit_value}
use Rattle.sttd.proofs.Bars.{bar_twice, bar_negates}
use Rattle.sttd.proofs.Antenna2.{values_encoded, both_bars, twice_bars, zero_product, encoded_sum}
use Rattle.sttd.proofs.Blocks.{blockwise_part, blockwise_next, four_part}
use Rattle.sttd.proofs.Laws.{block_at}
use Rattle.hspdsch.specs.Rule.{Pick, plain, pick, picked, figure8_a, eights, coded}
use Rattle.hspdsch.proofs.Laws.{eight_long, eights_length, picked_bit}
use Rattle.hspdsch.specs.Symbols.{level, Coded, FigureCodes, FigureOnly, SubframeCodes, SubframeCodesFours, QpskLaws, TwiceSigns}

-- ---- the figure codes

-- a bar on the sign changes the sign of the level
level_bar : (sign size : ℕ) → level (bar_digit sign) size ≡ neg_ℤ (level sign size)
unfolding level
level_bar sign size = ap (λ (z : ℤ). z *ℤ pos (1 + 2 * size)) (bar_negates sign) ∙ neg-*ℤ (digit_value sign) (pos (1 + 2 * size))

pub figure_codes : FigureCodes
unfolding picked pick
figure_codes b =
    record {
      first_re = level_bar (get_or b 4 0) (get_or b 6 0);
      first_im = refl;
      second_re = refl;
      second_im = level_bar (get_or b 1 0) (get_or b 3 0);
    }

-- ---- and is the only one

-- a level tells its two bits
sign_of : ℤ → ℕ
sign_of (pos n) = 0
sign_of (negsuc n) = 1

size_of : ℤ → ℕ
size_of (pos n) = n / 2
size_of (negsuc n) = n / 2

record Told (a b c d : ℕ) : Type 0 where
  signs : a ≡ c
  sizes : b ≡ d

told : (a b : ℕ) → a ≤ 1 → b ≤ 1 → (sign_of (level a b) ≡ a) × (size_of (level a b) ≡ b)
unfolding level digit_value sign_of size_of
told zero zero h l = (refl, refl)
told zero (suc zero) h l = (refl, refl)
told (suc zero) zero h l = (refl, refl)
told (suc zero) (suc zero) h l = (refl, refl)
told (suc (suc a)) b h l = absurd (let z : ⊥ = omega arith in z)
told zero (suc (suc b)) h l = absurd (let z : ⊥ = omega arith in z)
told (suc zero) (suc (suc b)) h l = absurd (let z : ⊥ = omega arith in z)

same_level : (a b c d : ℕ) → a ≤ 1 → b ≤ 1 → c ≤ 1 → d ≤ 1 → level a b ≡ level c d → Told a b c d
same_level a b c d p q r s e =
    let x = told a b p q in
    let y = told c d r s in
    record { signs = sym x.0 ∙ ap sign_of e ∙ y.0; sizes = sym x.1 ∙ ap size_of e ∙ y.1 }

module _ (b : List ℕ) (long : length b ≡ 8) (bits : Every (at_most 1 b) 8) where
  all_bits : Every (at_most 1 b) (length b)
  all_bits = rw long bits

  -- what codes the block is what the figure picks: each level tells two of the digits
  module _ (ps : List Pick) (c : Coded b (picked bar_digit ps b)) where
    same_levels : (i j : ℕ) {z : ℤ} → level (get_or (picked bar_digit ps b) i 0) (get_or (picked bar_digit ps b) j 0) ≡ z → level (get_or (picked bar_digit figure8_a b) i 0) (get_or (picked bar_digit figure8_a b) j 0) ≡ z
        → Told (get_or (picked bar_digit ps b) i 0) (get_or (picked bar_digit ps b) j 0) (get_or (picked bar_digit figure8_a b) i 0) (get_or (picked bar_digit figure8_a b) j 0)
    same_levels i j e f = same_level _ _ _ _ (picked_bit b all_bits ps i) (picked_bit b all_bits ps j) (picked_bit b all_bits figure8_a i) (picked_bit b all_bits figure8_a j) (e ∙ sym f)

    same_picks : (k : ℕ) → k < 8 → get_or (picked bar_digit ps b) k 0 ≡ get_or (picked bar_digit figure8_a b) k 0
    same_picks zero h = (same_levels 0 2 c.first_re (figure_codes b).first_re).signs
    same_picks (suc zero) h = (same_levels 1 3 c.first_im (figure_codes b).first_im).signs
    same_picks (suc (suc zero)) h = (same_levels 0 2 c.first_re (figure_codes b).first_re).sizes
    same_picks (suc (suc (suc zero))) h = (same_levels 1 3 c.first_im (figure_codes b).first_im).sizes
    same_picks (suc (suc (suc (suc zero)))) h = (same_levels 4 6 c.second_re (figure_codes b).second_re).signs
    same_picks (suc (suc (suc (suc (suc zero))))) h = (same_levels 5 7 c.second_im (figure_codes b).second_im).signs
    same_picks (suc (suc (suc (suc (suc (suc zero)))))) h = (same_levels 4 6 c.second_re (figure_codes b).second_re).sizes
    same_picks (suc (suc (suc (suc (suc (suc (suc zero))))))) h = (same_levels 5 7 c.second_im (figure_codes b).second_im).sizes
    same_picks (suc (suc (suc (suc (suc (suc (suc (suc k)))))))) h = absurd (let z : ⊥ = omega arith in z)

-- the block of zeros tells whether a pick has a bar ..
zero_at : (n k : ℕ) → ◌≡◌ {A = ℕ} (get_or (replicate n 0) k 0) 0
zero_at zero k = refl
zero_at (suc n) zero = refl
zero_at (suc n) (suc k) = zero_at n k

zero_bits : Every (at_most 1 (replicate 8 0)) 8
zero_bits k h = ap (λ (d : ℕ). leb d 1) (zero_at 8 k)

same_bar : (x y : Bool) → cond x (bar_digit 0) 0 ≡ cond y (bar_digit 0) 0 → x ≡ y
unfolding bar_digit
same_bar true true e = refl
same_bar true false e = absurd (let z : ⊥ = omega arith in z)
same_bar false true e = absurd (let z : ⊥ = omega arith in z)
same_bar false false e = refl

-- .. and the block with a 1 at one place alone whether it is that place
one : ℕ → List ℕ
one j = tab 8 (λ (k : ℕ). cond (eqb k j) 1 0)

bit_of : (x : Bool) → leb (cond x 1 0) 1 ≡ true
bit_of true = refl
bit_of false = refl

is_one : (x : Bool) → ◌≡◌ {A = ℕ} (cond x 1 0) 1 → x ≡ true
is_one true e = refl
is_one false e = absurd (let z : ⊥ = omega arith in z)

one_length : (j : ℕ) → length (one j) ≡ 8
unfolding one
one_length j = tab_length 8 (λ (k : ℕ). cond (eqb k j) 1 0)

one_bits : (j : ℕ) → Every (at_most 1 (one j)) 8
unfolding one
one_bits j k h = ap (λ (d : ℕ). leb d 1) (tab_at 8 _ k 0 h) ∙ bit_of (eqb k j)

one_here : (j : ℕ) → j < 8 → get_or (one j) j 0 ≡ 1
unfolding one
one_here j h = tab_at 8 _ j 0 h ∙ rw (eq-eqb j j refl)

one_only : (j k : ℕ) → get_or (one j) k 0 ≡ 1 → k ≡ j
unfolding one
one_only j k e = side (ltb k 8) refl
  where
    side : (t : Bool) → ltb k 8 ≡ t → k ≡ j
    side true l = eqb-true _ _ (is_one (eqb k j) (sym (tab_at 8 _ k 0 (ltb-true _ _ l)) ∙ e))
    side false l =
        let n = one_length j in
        let past : 8 ≤ k = ltb-false _ _ l in
        let z : get_or (one j) k 0 ≡ 0 = get_or-eq_default (one j) 0 (omega arith) in
        absurd (let w : ⊥ = omega arith in w)

unbarred : (x : Bool) (v : ℕ) → cond x (bar_digit v) v ≡ cond x (bar_digit 1) 1 → v ≡ 1
unbarred true v e = sym (bar_twice v) ∙ ap bar_digit e ∙ bar_twice 1
unbarred false v e = e

-- picks that agree on all blocks of bits are one
same_pick : (p q : Pick) → q.place < 8 → ((b : List ℕ) → length b ≡ 8 → Every (at_most 1 b) 8 → pick bar_digit b p ≡ pick bar_digit b q) → p ≡ q
unfolding pick
same_pick p q h same =
    ap₂ (λ (k : ℕ) (x : Bool). record { place = k; barred = x }) places bars
  where
    bars : p.barred ≡ q.barred
    bars = same_bar _ _ (rw (zero_at 8 p.place, zero_at 8 q.place) at (same (replicate 8 0) refl zero_bits))

    places : p.place ≡ q.place
    places =
        one_only q.place p.place
        (unbarred q.barred _ (rw (bars, one_here q.place h) at (same (one q.place) (one_length q.place) (one_bits q.place))))

-- a pick of a list of picks
picked_at : (ps : List Pick) (b : List ℕ) (k : ℕ) (z : Pick) → k < length ps → get_or (picked bar_digit ps b) k 0 ≡ pick bar_digit b (get_or ps k z)
unfolding picked
picked_at [] b k z h = absurd (not-suc-le-zero h)
picked_at (p ∷ ps) b zero z h = refl
picked_at (p ∷ ps) b (suc k) z h = picked_at ps b k z (le_of_suc-le-suc h)

figure_within : (k : ℕ) → (get_or figure8_a k (plain 0)).place < 8
figure_within k = ltb-true _ _ (table_test (λ (p : Pick). ltb p.place 8) (plain 0) refl figure8_a refl k)

pub figure_only : FigureOnly
figure_only ps eight right =
    ext_get_or (plain 0) ps figure8_a eight
    (λ k l.
    let h : k < 8 = rw eight at l in
    same_pick (get_or ps k (plain 0)) (get_or figure8_a k (plain 0)) (figure_within k)
    (λ b long bits. sym (picked_at ps b k (plain 0) l) ∙ same_picks b long bits ps (right b long bits) k h ∙ picked_at figure8_a b k (plain 0) h))

-- ---- the subframes

pub subframe_codes : SubframeCodes
unfolding coded eights
subframe_codes d long k h =
    rw (long, blockwise_part 240 8 (picked bar_digit figure8_a) (eight_long bar_digit) d long k h) (figure_codes (part k 8 d))

-- format 0 by the laws of the second antenna: the values of what antenna 2 sends are what it would send of the values
pub subframe_codes_fours : SubframeCodesFours
unfolding coded
subframe_codes_fours d long k h =
    let n : length (part k 4 d) ≡ 4 = part_length k 240 4 d h long in
    let m : length (map digit_value (part k 4 d)) ≡ 4 = length-map (part k 4 d) digit_value ∙ n in
    let b = block_at neg_ℤ (map digit_value (part k 4 d)) (pos 0) 0 refl (omega arith) in
    rw (← four_part bar_digit d k, values_encoded ℕ bar_digit digit_value both_bars.of_digits (part k 4 d))
    (record { first_re = b.first; first_im = b.second; second_re = b.third; second_im = b.fourth })

pub qpsk_laws : QpskLaws
unfolding coded
qpsk_laws d long =
    record {
      twice = twice_bars ℕ bar_digit d (omega arith);
      orthogonal = λ k h. zero_product ℕ bar_digit digit_value both_bars.of_digits d k (omega arith);
      sums =
          λ e n.
          rw (values_encoded ℕ bar_digit digit_value both_bars.of_digits d, values_encoded ℕ bar_digit digit_value both_bars.of_digits e)
          (encoded_sum (map digit_value d) (map digit_value e) (length-map d digit_value ∙ long ∙ sym (length-map e digit_value ∙ n)));
    }

pub twice_signs : TwiceSigns
unfolding coded eights picked pick
twice_signs d long =
    let n = eights_length bar_digit d (ap (λ (k : ℕ). k % 8) long) ∙ long in
    rw (n, long) (blockwise_next 240 8 (picked bar_digit figure8_a) (eight_long bar_digit) d long (picked bar_digit figure8_a))
