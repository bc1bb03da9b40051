-- Tabulated lists: their length and entries; a table's rule from one computed test.
-- Assumes nothing.
use mathlib.Core.Path.{◌≡◌, refl, sym, ap, ap₂, ◌∙◌}
use mathlib.Core.Bool.{Bool, true, ◌&&◌}
use mathlib.Core.List.{List, [], ◌∷◌}
use Prim.Native.Nat.{ℕ, zero, suc, ◌+◌, ◌≤◌, ◌<◌, suc-le-suc}
use native.Mathlib.Nat.{not-suc-le-zero, le_of_suc-le-suc}
use native.Mathlib.Omega.{arith}
use lib.ListN.{length, get_or, take, drop, replicate, length-replicate, get_or-replicate, length-drop}
use lib.Seq.{ext_get_or, get_or-take, get_or-drop, length-take-le}
use Rattle.run.specs.Table.{tab}
use Rattle.run.proofs.Bools.{and_left, and_right}

module _ {A : Type 0} where
  pub tab_length : (n : ℕ) (f : ℕ → A) → length (tab n f) ≡ n
  unfolding tab
  tab_length zero f = refl
  tab_length (suc n) f = ap suc (tab_length n (λ (k : ℕ). f (suc k)))

  pub tab_at : (n : ℕ) (f : ℕ → A) (k : ℕ) (d : A) → k < n → get_or (tab n f) k d ≡ f k
  unfolding tab
  tab_at zero f k d h = absurd (not-suc-le-zero h)
  tab_at (suc n) f zero d h = refl
  tab_at (suc n) f (suc k) d h = tab_at n (λ (j : ℕ). f (suc j)) k d (le_of_suc-le-suc h)

  -- rules that agree at each of the n places have the same table
  pub tab_same : (n : ℕ) (f g : ℕ → A) → ((k : ℕ) → k < n → f k ≡ g k) → tab n f ≡ tab n g
  unfolding tab
  tab_same zero f g h = refl
  tab_same (suc n) f g h = ap₂ (λ (x : A) (xs : List A). x ∷ xs) (h 0 (omega arith)) (tab_same n (λ (k : ℕ). f (suc k)) (λ (k : ℕ). g (suc k)) (λ k l. h (suc k) (suc-le-suc l)))

  -- .. and the other way
  pub by_table : (z : A) (n : ℕ) (f g : ℕ → A) → tab n f ≡ tab n g → (k : ℕ) → k < n → f k ≡ g k
  by_table z n f g e k h = sym (tab_at n f k z h) ∙ ap (λ (t : List A). get_or t k z) e ∙ tab_at n g k z h

  -- a list with the rule's entry at each of its n places is the rule's table
  pub tab_is : (d : A) (s : List A) (n : ℕ) (f : ℕ → A) → length s ≡ n → ((k : ℕ) → k < n → get_or s k d ≡ f k) → s ≡ tab n f
  tab_is d s n f e h =
      ext_get_or d s (tab n f) (e ∙ sym (tab_length n f))
      (λ k l. let m : k < n = rw e at l in h k m ∙ sym (tab_at n f k d m))

  -- a part of a list whose entries are all v
  pub equal_part : (d : A) (s : List A) (a w : ℕ) (v : A) → a + w ≤ length s → ((j : ℕ) → j < w → get_or s (a + j) d ≡ v) → replicate w v ≡ take w (drop a s)
  equal_part d s a w v h same =
      let room : w ≤ length (drop a s) = simp length-drop (omega arith) in
      ext_get_or d (replicate w v) (take w (drop a s)) (length-replicate w v ∙ sym (length-take-le w (drop a s) room))
      (λ j l.
      let m : j < w = rw length-replicate at l in
      get_or-replicate w j v d m ∙ sym (same j m) ∙ sym (get_or-take w (drop a s) j d m ∙ get_or-drop a s j d))

-- a test that holds for each entry of a table, and for what stands past its end, holds wherever the table is read
module _ {A : Type 0} where
  abbrev pub all_of : (A → Bool) → List A → Bool
  all_of ok [] = true
  all_of ok (x ∷ xs) = ok x && all_of ok xs

  pub table_test : (ok : A → Bool) (d : A) → ok d ≡ true → (xs : List A) → all_of ok xs ≡ true → (n : ℕ) → ok (get_or xs n d) ≡ true
  table_test ok d h [] t n = h
  table_test ok d h (x ∷ xs) t zero = and_left (ok x) _ t
  table_test ok d h (x ∷ xs) t (suc n) = table_test ok d h xs (and_right (ok x) _ t) n
