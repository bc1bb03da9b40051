-- Laws of the STTD rule, for any element type and any bar.
-- Assumes nothing.
use mathlib.Core.Path.{◌≡◌, refl, sym, ap, ◌∙◌, subst}
use mathlib.Core.List.{List, [], ◌∷◌}
use Prim.Native.Nat.{ℕ, zero, suc, ◌+◌, ◌*◌, ◌/◌, ◌%◌, ◌≤◌, ◌<◌}
use native.Mathlib.Nat.{not-suc-le-zero, add-zero}
use native.Mathlib.Omega.{arith}
use lib.ListN.{length, get_or, take, drop, length-drop}
use lib.Seq.{get_or-drop}
use Rattle.sttd.specs.Rule.{sttd}
use Rattle.sttd.specs.Exact.{Block}

module _ {A : Type 0} (bar : A → A) where
  pub sttd_length : (s : List A) → length (sttd bar s) ≡ length s
  unfolding sttd
  sttd_length [] = refl
  sttd_length (b0 ∷ []) = refl
  sttd_length (b0 ∷ b1 ∷ []) = refl
  sttd_length (b0 ∷ b1 ∷ b2 ∷ []) = refl
  sttd_length (b0 ∷ b1 ∷ b2 ∷ b3 ∷ s) = ap (λ (n : ℕ). suc (suc (suc (suc n)))) (sttd_length s)

  -- fewer entries than a block has stay as they are
  pub sttd_short : (s : List A) → length s < 4 → sttd bar s ≡ s
  unfolding sttd
  sttd_short [] h = refl
  sttd_short (b0 ∷ []) h = refl
  sttd_short (b0 ∷ b1 ∷ []) h = refl
  sttd_short (b0 ∷ b1 ∷ b2 ∷ []) h = refl
  sttd_short (b0 ∷ b1 ∷ b2 ∷ b3 ∷ s) h = absurd (let z : ⊥ = omega arith in z)

  -- one block more: taken, or cut off
  next_take : (n : ℕ) → ((t : List A) → sttd bar (take n t) ≡ take n (sttd bar t))
      → (s : List A) → sttd bar (take (suc (suc (suc (suc n)))) s) ≡ take (suc (suc (suc (suc n)))) (sttd bar s)
  unfolding sttd
  next_take n same [] = refl
  next_take n same (b0 ∷ []) = refl
  next_take n same (b0 ∷ b1 ∷ []) = refl
  next_take n same (b0 ∷ b1 ∷ b2 ∷ []) = refl
  next_take n same (b0 ∷ b1 ∷ b2 ∷ b3 ∷ s) = rw (same s)

  next_drop : (n : ℕ) → ((t : List A) → sttd bar (drop n t) ≡ drop n (sttd bar t))
      → (s : List A) → sttd bar (drop (suc (suc (suc (suc n)))) s) ≡ drop (suc (suc (suc (suc n)))) (sttd bar s)
  unfolding sttd
  next_drop n same [] = refl
  next_drop n same (b0 ∷ []) = refl
  next_drop n same (b0 ∷ b1 ∷ []) = refl
  next_drop n same (b0 ∷ b1 ∷ b2 ∷ []) = refl
  next_drop n same (b0 ∷ b1 ∷ b2 ∷ b3 ∷ s) = same s

  more : (k : ℕ) → 4 * suc k ≡ suc (suc (suc (suc (4 * k))))
  more k = omega arith

  -- a run cut between two blocks is encoded part by part
  pub sttd_take : (k : ℕ) (s : List A) → sttd bar (take (4 * k) s) ≡ take (4 * k) (sttd bar s)
  unfolding sttd
  sttd_take zero s = refl
  sttd_take (suc k) s = rw (more k) (next_take (4 * k) (sttd_take k) s)

  pub sttd_drop : (k : ℕ) (s : List A) → sttd bar (drop (4 * k) s) ≡ drop (4 * k) (sttd bar s)
  sttd_drop zero s = refl
  sttd_drop (suc k) s = rw (more k) (next_drop (4 * k) (sttd_drop k) s)

  -- .. and so is any part of whole blocks that begins with one
  pub sttd_part : (s : List A) (a w : ℕ) → a % 4 ≡ 0 → w % 4 ≡ 0 → sttd bar (take w (drop a s)) ≡ take w (drop a (sttd bar s))
  sttd_part s a w da dw =
      let from : 4 * (a / 4) ≡ a = omega arith in
      let wide : 4 * (w / 4) ≡ w = omega arith in
      rw (← wide, sttd_take (w / 4) (drop a s), ← from, sttd_drop (a / 4) s)

  -- two bars that agree at each entry encode alike
  pub same_bars : (other : A → A) (d : A) (s : List A) → ((k : ℕ) → k < length s → bar (get_or s k d) ≡ other (get_or s k d)) → sttd bar s ≡ sttd other s
  unfolding sttd
  same_bars other d [] same = refl
  same_bars other d (b0 ∷ []) same = refl
  same_bars other d (b0 ∷ b1 ∷ []) same = refl
  same_bars other d (b0 ∷ b1 ∷ b2 ∷ []) same = refl
  same_bars other d (b0 ∷ b1 ∷ b2 ∷ b3 ∷ s) same =
      rw (same 2 (omega arith), same 1 (omega arith), same_bars other d s (λ k h. same (suc (suc (suc (suc k)))) (omega arith)))

  -- what is left behind the last whole block stays as it is
  pub tail_kept : (s : List A) (k : ℕ) → length s < 4 * k + 4 → drop (4 * k) (sttd bar s) ≡ drop (4 * k) s
  tail_kept s k h =
      let few : length (drop (4 * k) s) < 4 = simp length-drop (omega arith) in
      sym (sttd_drop k s) ∙ sttd_short (drop (4 * k) s) few

  -- the first block, and by what is cut off before it any block
  first_block : (s : List A) (d : A) → 4 ≤ length s → Block bar s d 0
  unfolding sttd
  first_block [] d h = absurd (let z : ⊥ = omega arith in z)
  first_block (b0 ∷ []) d h = absurd (let z : ⊥ = omega arith in z)
  first_block (b0 ∷ b1 ∷ []) d h = absurd (let z : ⊥ = omega arith in z)
  first_block (b0 ∷ b1 ∷ b2 ∷ []) d h = absurd (let z : ⊥ = omega arith in z)
  first_block (b0 ∷ b1 ∷ b2 ∷ b3 ∷ s) d h = record { first = refl; second = refl; third = refl; fourth = refl }

  cut_at : (s : List A) (d : A) (k j : ℕ) → get_or (sttd bar s) (4 * k + j) d ≡ get_or (sttd bar (drop (4 * k) s)) j d
  cut_at s d k j = sym (get_or-drop (4 * k) (sttd bar s) j d) ∙ ap (λ (l : List A). get_or l j d) (sym (sttd_drop k s))

  pub block : (s : List A) (d : A) (k : ℕ) → 4 * k + 4 ≤ length s → Block bar s d (4 * k)
  block s d k h =
      let room : 4 ≤ length (drop (4 * k) s) = simp length-drop (omega arith) in
      let b = first_block (drop (4 * k) s) d room in
      let old : (j : ℕ) → get_or (drop (4 * k) s) j d ≡ get_or s (4 * k + j) d = (λ j. get_or-drop (4 * k) s j d) in
      let start : 4 * k + 0 ≡ 4 * k = add-zero (4 * k) in
      record {
        first = ap (λ (n : ℕ). get_or (sttd bar s) n d) (sym start) ∙ cut_at s d k 0 ∙ b.first ∙ ap bar (old 2);
        second = cut_at s d k 1 ∙ b.second ∙ old 3;
        third = cut_at s d k 2 ∙ b.third ∙ old 0 ∙ ap (λ (n : ℕ). get_or s n d) start;
        fourth = cut_at s d k 3 ∙ b.fourth ∙ ap bar (old 1);
      }

  -- the block that begins at a multiple of four
  pub block_at : (s : List A) (d : A) (i : ℕ) → i % 4 ≡ 0 → i + 4 ≤ length s → Block bar s d i
  block_at s d i e h =
      let is : 4 * (i / 4) ≡ i = omega arith in
      subst (λ (n : ℕ). Block bar s d n) is (block s d (i / 4) (omega arith))

  -- what the bar keeps, the encoding keeps
  pub sttd_keeps : (P : A → Type 0) → ((x : A) → P x → P (bar x)) → (d : A) (s : List A)
      → ((k : ℕ) → k < length s → P (get_or s k d)) → (k : ℕ) → k < length s → P (get_or (sttd bar s) k d)
  unfolding sttd
  sttd_keeps P kept d [] all k h = absurd (not-suc-le-zero h)
  sttd_keeps P kept d (b0 ∷ []) all k h = all k h
  sttd_keeps P kept d (b0 ∷ b1 ∷ []) all k h = all k h
  sttd_keeps P kept d (b0 ∷ b1 ∷ b2 ∷ []) all k h = all k h
  sttd_keeps P kept d (b0 ∷ b1 ∷ b2 ∷ b3 ∷ s) all zero h = kept b2 (all 2 (omega arith))
  sttd_keeps P kept d (b0 ∷ b1 ∷ b2 ∷ b3 ∷ s) all (suc zero) h = all 3 (omega arith)
  sttd_keeps P kept d (b0 ∷ b1 ∷ b2 ∷ b3 ∷ s) all (suc (suc zero)) h = all 0 (omega arith)
  sttd_keeps P kept d (b0 ∷ b1 ∷ b2 ∷ b3 ∷ s) all (suc (suc (suc zero))) h = kept b1 (all 1 (omega arith))
  sttd_keeps P kept d (b0 ∷ b1 ∷ b2 ∷ b3 ∷ s) all (suc (suc (suc (suc k)))) h =
      sttd_keeps P kept d s (λ j l. all (suc (suc (suc (suc j)))) (omega arith)) k (omega arith)
