-- What `fold_four` answers, as the code reads it back from its bits.
-- Assumes nothing.
use mathlib.Core.Path.{◌≡◌, ap, ◌∙◌}
use mathlib.Core.List.{List}
use Prim.Native.Nat.{ℕ}
use lib.Dec.{lit<}
use lib.ListN.{get_or}
use lib.IntN.{ℤ, pos, ◌+ℤ◌, ◌-ℤ◌}
use mir.Syntax.{w32}
use mir.Val.{to_z, of_z}
use mir.Facts.{to_z-of_z}
use Rattle.whole.specs.Bound.{Bounded}
use Rattle.whole.proofs.Bound.{b_sum, b_diff, fits_by}
use Rattle.aich.specs.Method.{fold_four}

abbrev pub read : ℤ → ℤ
read z = to_z w32 (of_z w32 z)

pub kept : {z : ℤ} → Bounded 64 z → read z ≡ z
kept b = to_z-of_z {w = w32} (fits_by b (lit< tt))

large : {z : ℤ} → Bounded 256 z → read z ≡ z
large b = to_z-of_z {w = w32} (fits_by b (lit< tt))

abbrev pub Small : ℤ → ℤ → ℤ → ℤ → Type 0
Small a b c d = Bounded 64 a × Bounded 64 b × Bounded 64 c × Bounded 64 d

pub small_read : {a b c d : ℤ} → Small a b c d → Small (read a) (read b) (read c) (read d)
small_read p = (rw (kept p.0) p.0, rw (kept p.1) p.1, rw (kept p.2) p.2, rw (kept p.3) p.3)

module _ {a b c d : ℤ} (p : Small a b c d) {r : List ℤ} (e : r ≡ fold_four (read a) (read b) (read c) (read d)) where
  entry_is : (i : ℕ) → get_or r i (pos 0) ≡ get_or (fold_four a b c d) i (pos 0)
  entry_is i = ap (λ (l : List ℤ). get_or l i (pos 0)) (e ∙ (λ j. fold_four (kept p.0 j) (kept p.1 j) (kept p.2 j) (kept p.3 j)))

  pub first_kept : read (get_or r 0 (pos 0)) ≡ a +ℤ b +ℤ (c +ℤ d)
  unfolding fold_four
  first_kept = ap read (entry_is 0) ∙ large (b_sum (b_sum p.0 p.1) (b_sum p.2 p.3))

  pub second_kept : read (get_or r 1 (pos 0)) ≡ a -ℤ b +ℤ (c -ℤ d)
  unfolding fold_four
  second_kept = ap read (entry_is 1) ∙ large (b_sum (b_diff p.0 p.1) (b_diff p.2 p.3))

  pub third_kept : read (get_or r 2 (pos 0)) ≡ a +ℤ b -ℤ (c +ℤ d)
  unfolding fold_four
  third_kept = ap read (entry_is 2) ∙ large (b_diff (b_sum p.0 p.1) (b_sum p.2 p.3))

  pub fourth_kept : read (get_or r 3 (pos 0)) ≡ a -ℤ b -ℤ (c -ℤ d)
  unfolding fold_four
  fourth_kept = ap read (entry_is 3) ∙ large (b_diff (b_diff p.0 p.1) (b_diff p.2 p.3))
