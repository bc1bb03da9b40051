-- A signed local holds bits. `Reads w n z A` says that the bits n stand for z, which is within -A .. A. Each operation's need (`fits-..`) and what
-- its result holds (`r-..`) come from those of its operands, the bound computed.
-- Assumes nothing.
use mathlib.Core.Path.{◌≡◌, sym, ◌∙◌, ap₂, subst}
use Prim.Native.Nat.{ℕ, ◌+◌, ◌*◌, ◌^◌, ◌<◌}
use lib.IntN.{ℤ, pos, neg_ℤ, ◌+ℤ◌, ◌-ℤ◌, ◌*ℤ◌, +ℤ_idl}
use mir.Syntax.{Width}
use mir.Val.{SFits, hbits, to_z, of_z}
use mir.Facts.{to_z-of_z}
use Rattle.whole.specs.Bound.{Bounded}
use Rattle.whole.proofs.Bound.{b_sum, b_neg, b_diff, b_product, fits_by}

pub record Reads (w : Width) (n : ℕ) (z : ℤ) (A : ℕ) : Type 0 where
  pub is : to_z w n ≡ z
  pub within : Bounded A z

-- a parameter or an element that was read, within what the width holds
pub r_in : {w : Width} {z : ℤ} {A : ℕ} → Bounded A z → A < 2 ^ hbits w → Reads w (of_z w z) z A
r_in b l = record { is = to_z-of_z (fits_by b l); within = b }

-- what is written, of a number that fits and is z
written : {w : Width} {v z : ℤ} {A : ℕ} → v ≡ z → Bounded A z → A < 2 ^ hbits w → SFits w v
written {w} e b t = subst (SFits w) (sym e) (fits_by b t)

kept : {w : Width} {v z : ℤ} {A : ℕ} → v ≡ z → Bounded A z → A < 2 ^ hbits w → Reads w (of_z w v) z A
kept e b t = record { is = to_z-of_z (written e b t) ∙ e; within = b }

module _ {w : Width} {m n : ℕ} {x y : ℤ} {A B : ℕ} (p : Reads w m x A) (q : Reads w n y B) where
  pub fits_sum : A + B < 2 ^ hbits w → SFits w (to_z w m +ℤ to_z w n)
  fits_sum t = written (ap₂ (λ u v. u +ℤ v) p.is q.is) (b_sum p.within q.within) t

  pub r_sum : A + B < 2 ^ hbits w → Reads w (of_z w (to_z w m +ℤ to_z w n)) (x +ℤ y) (A + B)
  r_sum t = kept (ap₂ (λ u v. u +ℤ v) p.is q.is) (b_sum p.within q.within) t

  pub fits_diff : A + B < 2 ^ hbits w → SFits w (to_z w m -ℤ to_z w n)
  fits_diff t = written (ap₂ (λ u v. u -ℤ v) p.is q.is) (b_diff p.within q.within) t

  pub r_diff : A + B < 2 ^ hbits w → Reads w (of_z w (to_z w m -ℤ to_z w n)) (x -ℤ y) (A + B)
  r_diff t = kept (ap₂ (λ u v. u -ℤ v) p.is q.is) (b_diff p.within q.within) t

  pub fits_product : A * B < 2 ^ hbits w → SFits w (to_z w m *ℤ to_z w n)
  fits_product t = written (ap₂ (λ u v. u *ℤ v) p.is q.is) (b_product p.within q.within) t

  pub r_product : A * B < 2 ^ hbits w → Reads w (of_z w (to_z w m *ℤ to_z w n)) (x *ℤ y) (A * B)
  r_product t = kept (ap₂ (λ u v. u *ℤ v) p.is q.is) (b_product p.within q.within) t

-- the code's 0 - v
module _ (w : Width) {A : ℕ} {v : ℤ} (b : Bounded A v) (l : A < 2 ^ hbits w) where
  is_negated : pos 0 -ℤ to_z w (of_z w v) ≡ neg_ℤ v
  is_negated = rw (r_in {w = w} b l).is (+ℤ_idl (neg_ℤ v))

  pub minus_fits : SFits w (pos 0 -ℤ to_z w (of_z w v))
  minus_fits = written is_negated (b_neg b) l

  pub minus_reads : Reads w (of_z w (pos 0 -ℤ to_z w (of_z w v))) (neg_ℤ v) A
  minus_reads = kept is_negated (b_neg b) l
