-- Blocks as the code writes them, antenna 2 stretch by stretch and place by place, and that of bits the code's bar is the rule's.
-- Assumes nothing.
use mathlib.Core.Path.{◌≡◌, refl, sym, ap, ◌∙◌, subst}
use mathlib.Core.Bool.{Bool, true, false, cond}
use mathlib.Core.List.{List, [], ◌∷◌, append-nil}
use Prim.Native.Nat.{ℕ, zero, suc, ◌+◌, ◌*◌, ◌/◌, ◌%◌, ◌≤◌, ◌<◌}
use native.Mathlib.Omega.{arith}
use borrow.Author.Tests.{leb-true, le-leb, ltb-true, ltb-false}
use lib.Bits.{bit_xor}
use lib.Dec.{eqb, leb, ltb, lit<}
use lib.ListN.{length, get_or, take, drop, drop_of_length-le, length-drop, get_or-eq_default}
use lib.Seq.{sets, sets-eq, length-take-le, get_or-take, get_or-drop}
use Rattle.run.specs.Fields.{joined}
use Rattle.run.specs.First.{Every, at_most}
use Rattle.run.specs.Parts.{part}
use Rattle.run.proofs.Each.{each_take, each_drop}
use Rattle.run.proofs.Table.{tab_same}
use Rattle.sttd.specs.Blocks.{blockwise}
use Rattle.sttd.specs.Rule.{sttd, bar_digit}
use Rattle.sttd.proofs.Bars.{bar_keeps_bit}
use Rattle.sttd.proofs.Blocks.{blockwise_length, blockwise_part, blockwise_stretch}
use Rattle.sttd.proofs.Laws.{sttd_length, sttd_part, sttd_keeps, same_bars, block}
use Rattle.hspdsch.specs.Rule.{slot_sizes, size, Pick, pick, picked, figure8_a, eights, coded, second_of}
use Rattle.hspdsch.specs.Outcome.{flip}
use Rattle.hspdsch.specs.Exact.{Eight, Four}

-- a block of the figure has eight digits
pub eight_long : (bar_of : ℕ → ℕ) (b : List ℕ) → length b ≡ 8 → length (picked bar_of figure8_a b) ≡ 8
unfolding picked
eight_long bar_of b h = refl

-- ---- one block, as the code stores it

-- a run stored from its first place to its last
all_stored : (vs out : List ℕ) → length vs ≡ length out → sets out 0 vs ≡ vs
all_stored vs out e = sets-eq vs out 0 (omega arith) ∙ rw (drop_of_length-le out {i = 0 + length vs} (omega arith)) (append-nil vs)

pub eight_stored : (input out : List ℕ) → length out ≡ 8
    → sets out 0
    (bit_xor (get_or input 4 0) 1 ∷ get_or input 5 0 ∷ get_or input 6 0 ∷ get_or input 7 0 ∷ get_or input 0 0 ∷ bit_xor (get_or input 1 0) 1 ∷ get_or input 2 0 ∷ get_or input 3 0 ∷ [])
    ≡ picked flip figure8_a input
unfolding picked pick flip
eight_stored input out room =
    all_stored
    (bit_xor (get_or input 4 0) 1 ∷ get_or input 5 0 ∷ get_or input 6 0 ∷ get_or input 7 0 ∷ get_or input 0 0 ∷ bit_xor (get_or input 1 0) 1 ∷ get_or input 2 0 ∷ get_or input 3 0 ∷ [])
    out (sym room)

four_block : (input : List ℕ) → length input ≡ 4 → flip (get_or input 2 0) ∷ get_or input 3 0 ∷ get_or input 0 0 ∷ flip (get_or input 1 0) ∷ [] ≡ sttd flip input
unfolding sttd
four_block [] h = absurd (let z : ⊥ = omega arith in z)
four_block (a ∷ []) h = absurd (let z : ⊥ = omega arith in z)
four_block (a ∷ b ∷ []) h = absurd (let z : ⊥ = omega arith in z)
four_block (a ∷ b ∷ c ∷ []) h = absurd (let z : ⊥ = omega arith in z)
four_block (a ∷ b ∷ c ∷ d ∷ []) h = refl
four_block (a ∷ b ∷ c ∷ d ∷ e ∷ s) h = absurd (let z : ⊥ = omega arith in z)

two_blocks : (input : List ℕ) → length input ≡ 8
    → flip (get_or input 2 0) ∷ get_or input 3 0 ∷ get_or input 0 0 ∷ flip (get_or input 1 0) ∷ flip (get_or input 6 0) ∷ get_or input 7 0 ∷ get_or input 4 0 ∷ flip (get_or input 5 0) ∷ [] ≡ sttd flip input
unfolding sttd
two_blocks [] h = absurd (let z : ⊥ = omega arith in z)
two_blocks (a ∷ []) h = absurd (let z : ⊥ = omega arith in z)
two_blocks (a ∷ b ∷ []) h = absurd (let z : ⊥ = omega arith in z)
two_blocks (a ∷ b ∷ c ∷ []) h = absurd (let z : ⊥ = omega arith in z)
two_blocks (a ∷ b ∷ c ∷ d ∷ s) h = ap (λ (l : List ℕ). flip c ∷ d ∷ a ∷ flip b ∷ l) (four_block s (omega arith))

pub fours_stored : (input out : List ℕ) → length input ≡ 8 → length out ≡ 8
    → sets out 0
    (bit_xor (get_or input 2 0) 1 ∷ get_or input 3 0 ∷ get_or input 0 0 ∷ bit_xor (get_or input 1 0) 1 ∷ bit_xor (get_or input 6 0) 1 ∷ get_or input 7 0 ∷ get_or input 4 0 ∷ bit_xor (get_or input 5 0) 1 ∷ [])
    ≡ sttd flip input
unfolding flip
fours_stored input out long room =
    all_stored
    (bit_xor (get_or input 2 0) 1 ∷ get_or input 3 0 ∷ get_or input 0 0 ∷ bit_xor (get_or input 1 0) 1 ∷ bit_xor (get_or input 6 0) 1 ∷ get_or input 7 0 ∷ get_or input 4 0 ∷ bit_xor (get_or input 5 0) 1 ∷ [])
    out (sym room)
    ∙ two_blocks input long

-- ---- stretch by stretch

module _ (bar_of : ℕ → ℕ) (d : List ℕ) (whole : length d % 8 ≡ 0) where
  blocks_long : length d ≡ length d / 8 * 8
  blocks_long = omega arith

  pub eights_length : length (eights bar_of d) ≡ length d
  unfolding eights
  eights_length = blockwise_length (length d / 8) 8 (picked bar_of figure8_a) (eight_long bar_of) d blocks_long

  pub eights_part : (a w : ℕ) → a % 8 ≡ 0 → w % 8 ≡ 0 → a + w ≤ length d → eights bar_of (take w (drop a d)) ≡ take w (drop a (eights bar_of d))
  unfolding eights
  eights_part a w da dw h =
      let n : length (take w (drop a d)) ≡ w = length-take-le w (drop a d) (simp length-drop (omega arith)) in
      let from : a / 8 * 8 ≡ a = omega arith in
      let wide : w / 8 * 8 ≡ w = omega arith in
      rw n
      (subst (λ (k : ℕ). blockwise (w / 8) 8 (picked bar_of figure8_a) (take k (drop a d)) ≡ take k (drop a (blockwise (length d / 8) 8 (picked bar_of figure8_a) d))) wide
      (subst
      (λ (j : ℕ). blockwise (w / 8) 8 (picked bar_of figure8_a) (take (w / 8 * 8) (drop j d)) ≡ take (w / 8 * 8) (drop j (blockwise (length d / 8) 8 (picked bar_of figure8_a) d)))
      from (blockwise_stretch (length d / 8) 8 (picked bar_of figure8_a) (eight_long bar_of) d blocks_long (a / 8) (w / 8) (omega arith))))

  -- one block of it
  pub eights_at : (i : ℕ) → i % 8 ≡ 0 → i < length d → picked bar_of figure8_a (take 8 (drop i d)) ≡ take 8 (drop i (eights bar_of d))
  unfolding eights part
  eights_at i e h =
      let is : i / 8 * 8 ≡ i = omega arith in
      subst (λ (n : ℕ). picked bar_of figure8_a (take 8 (drop n d)) ≡ take 8 (drop n (eights bar_of d))) is
      (sym (blockwise_part (length d / 8) 8 (picked bar_of figure8_a) (eight_long bar_of) d blocks_long (i / 8) (omega arith)))

  -- both formats
  pub coded_length : (format : ℕ) → length (coded bar_of format d) ≡ length d
  unfolding coded
  coded_length format = side (eqb format 0)
    where
      side : (t : Bool) → length (cond t (sttd bar_of d) (eights bar_of d)) ≡ length d
      side true = sttd_length bar_of d
      side false = eights_length

  pub coded_part : (format a w : ℕ) → a % 8 ≡ 0 → w % 8 ≡ 0 → a + w ≤ length d → coded bar_of format (take w (drop a d)) ≡ take w (drop a (coded bar_of format d))
  unfolding coded
  coded_part format a w da dw h = side (eqb format 0)
    where
      side : (t : Bool) → cond t (sttd bar_of (take w (drop a d))) (eights bar_of (take w (drop a d))) ≡ take w (drop a (cond t (sttd bar_of d) (eights bar_of d)))
      side true = sttd_part bar_of d a w (omega arith) (omega arith)
      side false = eights_part a w da dw h

-- ---- of bits the code's bar is the rule's

-- a digit of a run of bits, or what is read behind its end
bit_at : (s : List ℕ) → Every (at_most 1 s) (length s) → (k : ℕ) → get_or s k 0 ≤ 1
bit_at s bits k = side (ltb k (length s)) refl
  where
    side : (t : Bool) → ltb k (length s) ≡ t → get_or s k 0 ≤ 1
    side true e = leb-true _ _ (bits k (ltb-true _ _ e))
    side false e =
        let z : get_or s k 0 ≡ 0 = get_or-eq_default s 0 (ltb-false _ _ e) in
        omega arith

-- a part of a run of bits
part_bits : (s : List ℕ) (a w : ℕ) → Every (at_most 1 s) (length s) → Every (at_most 1 (take w (drop a s))) (length (take w (drop a s)))
part_bits s a w bits = each_take (λ (x : ℕ). leb x 1) w (drop a s) (each_drop (λ (x : ℕ). leb x 1) a s bits)

flip_bar : (d : ℕ) → d ≤ 1 → flip d ≡ bar_digit d
unfolding flip bar_digit
flip_bar zero h = refl
flip_bar (suc zero) h = refl
flip_bar (suc (suc d)) h = absurd (let z : ⊥ = omega arith in z)

picked_flip : (ps : List Pick) (b : List ℕ) → Every (at_most 1 b) (length b) → picked flip ps b ≡ picked bar_digit ps b
unfolding picked pick
picked_flip [] b bits = refl
picked_flip (p ∷ ps) b bits =
    rw (flip_bar (get_or b p.place 0) (bit_at b bits p.place), picked_flip ps b bits)

pub coded_flip : (format : ℕ) (d : List ℕ) → Every (at_most 1 d) (length d) → coded flip format d ≡ second_of format d
unfolding coded eights blockwise part
coded_flip format d bits = side (eqb format 0)
  where
    side : (t : Bool) → cond t (sttd flip d) (eights flip d) ≡ cond t (sttd bar_digit d) (eights bar_digit d)
    side true = same_bars flip bar_digit 0 d (λ k h. flip_bar (get_or d k 0) (bit_at d bits k))
    side false = ap joined (tab_same (length d / 8) _ _ (λ k h. picked_flip figure8_a (part k 8 d) (part_bits d (k * 8) 8 bits)))

-- ---- of bits antenna 2 has bits

module _ (b : List ℕ) (bits : Every (at_most 1 b) (length b)) where
  pick_bit : (p : Pick) → pick bar_digit b p ≤ 1
  unfolding pick
  pick_bit p = side p.barred
    where
      side : (t : Bool) → cond t (bar_digit (get_or b p.place 0)) (get_or b p.place 0) ≤ 1
      side true = bar_keeps_bit _ (bit_at b bits p.place)
      side false = bit_at b bits p.place

  pub picked_bit : (ps : List Pick) (k : ℕ) → get_or (picked bar_digit ps b) k 0 ≤ 1
  unfolding picked
  picked_bit [] k = omega arith
  picked_bit (p ∷ ps) zero = pick_bit p
  picked_bit (p ∷ ps) (suc k) = picked_bit ps k

module _ (d : List ℕ) (whole : length d % 8 ≡ 0) where
  -- a digit of antenna 2 is one of its block
  module _ (k : ℕ) (h : 8 * k < length d) where
    in_eight : (c : List ℕ) (j : ℕ) → j < 8 → get_or (take 8 (drop (8 * k) c)) j 0 ≡ get_or c (8 * k + j) 0
    in_eight c j l = get_or-take 8 (drop (8 * k) c) j 0 l ∙ get_or-drop (8 * k) c j 0

    of_eight : (j : ℕ) → j < 8 → get_or (eights bar_digit d) (8 * k + j) 0 ≡ get_or (picked bar_digit figure8_a (take 8 (drop (8 * k) d))) j 0
    of_eight j l = sym (in_eight (eights bar_digit d) j l) ∙ ap (λ (b : List ℕ). get_or b j 0) (sym (eights_at bar_digit d whole (8 * k) (omega arith) h))

    here : (c : List ℕ) → get_or c (8 * k) 0 ≡ get_or c (8 * k + 0) 0
    here c = let e : 8 * k ≡ 8 * k + 0 = omega arith in ap (λ (n : ℕ). get_or c n 0) e

    pub eight_placed : Eight d (eights bar_digit d) (8 * k)
    unfolding picked pick
    eight_placed =
        record {
          at_0 = here (eights bar_digit d) ∙ of_eight 0 (lit< tt) ∙ ap bar_digit (in_eight d 4 (lit< tt));
          at_1 = of_eight 1 (lit< tt) ∙ in_eight d 5 (lit< tt);
          at_2 = of_eight 2 (lit< tt) ∙ in_eight d 6 (lit< tt);
          at_3 = of_eight 3 (lit< tt) ∙ in_eight d 7 (lit< tt);
          at_4 = of_eight 4 (lit< tt) ∙ in_eight d 0 (lit< tt) ∙ sym (here d);
          at_5 = of_eight 5 (lit< tt) ∙ ap bar_digit (in_eight d 1 (lit< tt));
          at_6 = of_eight 6 (lit< tt) ∙ in_eight d 2 (lit< tt);
          at_7 = of_eight 7 (lit< tt) ∙ in_eight d 3 (lit< tt);
        }

  module _ (bits : Every (at_most 1 d) (length d)) where
    eights_bits : Every (at_most 1 (eights bar_digit d)) (length (eights bar_digit d))
    eights_bits i l =
        let n = eights_length bar_digit d whole in
        let from : 8 * (i / 8) + i % 8 ≡ i = omega arith in
        let is : get_or (eights bar_digit d) i 0 ≡ get_or (picked bar_digit figure8_a (take 8 (drop (8 * (i / 8)) d))) (i % 8) 0 =
        ap (λ (k : ℕ). get_or (eights bar_digit d) k 0) (sym from) ∙ of_eight (i / 8) (omega arith) (i % 8) (omega arith)
        in
        le-leb (get_or (eights bar_digit d) i 0) 1
        (rw is (picked_bit (take 8 (drop (8 * (i / 8)) d)) (part_bits d (8 * (i / 8)) 8 bits) figure8_a (i % 8)))

    fours_bits : Every (at_most 1 (sttd bar_digit d)) (length (sttd bar_digit d))
    fours_bits k h =
        sttd_keeps bar_digit (λ (x : ℕ). leb x 1 ≡ true) (λ x b. le-leb _ 1 (bar_keeps_bit x (leb-true _ _ b))) 0 d bits k (rw (sttd_length bar_digit d) at h)

    pub second_bits : (format : ℕ) → Every (at_most 1 (second_of format d)) (length (second_of format d))
    unfolding coded
    second_bits format = side (eqb format 0)
      where
        side : (t : Bool) → Every (at_most 1 (cond t (sttd bar_digit d) (eights bar_digit d))) (length (cond t (sttd bar_digit d) (eights bar_digit d)))
        side true = fours_bits
        side false = eights_bits

pub four_placed : (d : List ℕ) → length d ≡ 960 → (k : ℕ) → k < 240 → Four d (sttd bar_digit d) (4 * k)
four_placed d long k h =
    let b = block bar_digit d 0 k (omega arith) in
    record { at_0 = b.first; at_1 = b.second; at_2 = b.third; at_3 = b.fourth }

-- ---- both formats

-- what is said of both formats is said of each
pub by_format : (P : ℕ → Type 0) → P 0 → P 1 → (format : ℕ) → format ≤ 1 → P format
by_format P zeroth first zero h = zeroth
by_format P zeroth first (suc zero) h = first
by_format P zeroth first (suc (suc n)) h = absurd (let z : ⊥ = omega arith in z)

-- a subframe is stretches of 64 digits, and has few of them
pub size_whole : (format : ℕ) → format ≤ 1 → size format % 64 ≡ 0
unfolding size slot_sizes
size_whole = by_format (λ (f : ℕ). size f % 64 ≡ 0) refl refl

pub size_small : (format : ℕ) → format ≤ 1 → size format ≤ 1920
unfolding size slot_sizes
size_small = by_format (λ (f : ℕ). size f ≤ 1920) (omega arith) (omega arith)

pub second_length : (format : ℕ) → format ≤ 1 → (d : List ℕ) → length d ≡ size format → length (second_of format d) ≡ size format
second_length format h d e =
    let w = size_whole format h in
    coded_length bar_digit d (omega arith) format ∙ e
