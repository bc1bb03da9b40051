-- The laws of a commutative ring for ℤ that `lib.IntN` lacks: both distributive laws, the product's associativity and its signs.
-- Assumes nothing.
use mathlib.Core.Path.{◌≡◌, sym, ◌∙◌, ap, ap₂}
use Prim.Native.Nat.{zero, suc}
use lib.IntN.{ℤ, pos, negsuc, pred_ℤ, neg_ℤ, ◌+ℤ◌, ◌-ℤ◌, ◌*ℤ◌, +ℤ_comm, +ℤ_assoc, +ℤ_idl, suc_ℤ-+ℤ, pred_ℤ-+ℤ, suc_ℤ-*ℤ, pred_ℤ-*ℤ, zero-*ℤ, *ℤ_comm, +ℤ-neg_ℤ_cancel, +ℤ_invl}

-- the last two of three summands change places
swap_right : (a b c : ℤ) → a +ℤ b +ℤ c ≡ a +ℤ c +ℤ b
swap_right a b c = +ℤ_assoc a b c ∙ ap (λ x. a +ℤ x) (+ℤ_comm b c) ∙ sym (+ℤ_assoc a c b)

pub distrib_r : (a b c : ℤ) → (a +ℤ b) *ℤ c ≡ a *ℤ c +ℤ b *ℤ c
distrib_r (pos zero) b c =
    ap (λ x. x *ℤ c) (+ℤ_idl b) ∙ sym (+ℤ_idl (b *ℤ c)) ∙ ap (λ x. x +ℤ b *ℤ c) (sym (zero-*ℤ c))
distrib_r (pos (suc n)) b c =
    ap (λ x. x *ℤ c) (suc_ℤ-+ℤ (pos n) b) ∙ suc_ℤ-*ℤ (pos n +ℤ b) c ∙ ap (λ x. x +ℤ c) (distrib_r (pos n) b c)
    ∙ swap_right (pos n *ℤ c) (b *ℤ c) c ∙ ap (λ x. x +ℤ b *ℤ c) (sym (suc_ℤ-*ℤ (pos n) c))
distrib_r (negsuc zero) b c =
    ap (λ x. x *ℤ c) (pred_ℤ-+ℤ (pos zero) b ∙ ap pred_ℤ (+ℤ_idl b)) ∙ pred_ℤ-*ℤ b c ∙ +ℤ_comm (b *ℤ c) (neg_ℤ c)
    ∙ ap (λ x. x +ℤ b *ℤ c) (sym (pred_ℤ-*ℤ (pos zero) c ∙ ap (λ x. x -ℤ c) (zero-*ℤ c) ∙ +ℤ_idl (neg_ℤ c)))
distrib_r (negsuc (suc n)) b c =
    ap (λ x. x *ℤ c) (pred_ℤ-+ℤ (negsuc n) b) ∙ pred_ℤ-*ℤ (negsuc n +ℤ b) c ∙ ap (λ x. x -ℤ c) (distrib_r (negsuc n) b c)
    ∙ swap_right (negsuc n *ℤ c) (b *ℤ c) (neg_ℤ c) ∙ ap (λ x. x +ℤ b *ℤ c) (sym (pred_ℤ-*ℤ (negsuc n) c))

pub distrib_l : (a b c : ℤ) → a *ℤ (b +ℤ c) ≡ a *ℤ b +ℤ a *ℤ c
distrib_l a b c =
    *ℤ_comm a (b +ℤ c) ∙ distrib_r b c a ∙ ap₂ (λ x y. x +ℤ y) (*ℤ_comm b a) (*ℤ_comm c a)

-- what makes zero with y is its negation
pub neg_unique : (x y : ℤ) → x +ℤ y ≡ pos zero → x ≡ neg_ℤ y
neg_unique x y e = sym (+ℤ-neg_ℤ_cancel x y) ∙ ap (λ z. z -ℤ y) e ∙ +ℤ_idl (neg_ℤ y)

pub neg-*ℤ : (a b : ℤ) → neg_ℤ a *ℤ b ≡ neg_ℤ (a *ℤ b)
neg-*ℤ a b =
    neg_unique (neg_ℤ a *ℤ b) (a *ℤ b) (sym (distrib_r (neg_ℤ a) a b) ∙ ap (λ x. x *ℤ b) (+ℤ_invl a) ∙ zero-*ℤ b)

pub *ℤ-neg : (a b : ℤ) → a *ℤ neg_ℤ b ≡ neg_ℤ (a *ℤ b)
*ℤ-neg a b = *ℤ_comm a (neg_ℤ b) ∙ neg-*ℤ b a ∙ ap neg_ℤ (*ℤ_comm b a)

assoc_pred : (a b c : ℤ) → (a *ℤ b) *ℤ c ≡ a *ℤ (b *ℤ c) → (pred_ℤ a *ℤ b) *ℤ c ≡ pred_ℤ a *ℤ (b *ℤ c)
assoc_pred a b c h =
    ap (λ x. x *ℤ c) (pred_ℤ-*ℤ a b) ∙ distrib_r (a *ℤ b) (neg_ℤ b) c ∙ ap₂ (λ x y. x +ℤ y) h (neg-*ℤ b c)
    ∙ sym (pred_ℤ-*ℤ a (b *ℤ c))

assoc_zero : (b c : ℤ) → (pos zero *ℤ b) *ℤ c ≡ pos zero *ℤ (b *ℤ c)
assoc_zero b c = ap (λ x. x *ℤ c) (zero-*ℤ b) ∙ zero-*ℤ c ∙ sym (zero-*ℤ (b *ℤ c))

pub *ℤ-assoc : (a b c : ℤ) → (a *ℤ b) *ℤ c ≡ a *ℤ (b *ℤ c)
*ℤ-assoc (pos zero) b c = assoc_zero b c
*ℤ-assoc (pos (suc n)) b c =
    ap (λ x. x *ℤ c) (suc_ℤ-*ℤ (pos n) b) ∙ distrib_r (pos n *ℤ b) b c ∙ ap (λ x. x +ℤ b *ℤ c) (*ℤ-assoc (pos n) b c)
    ∙ sym (suc_ℤ-*ℤ (pos n) (b *ℤ c))
*ℤ-assoc (negsuc zero) b c = assoc_pred (pos zero) b c (assoc_zero b c)
*ℤ-assoc (negsuc (suc n)) b c = assoc_pred (negsuc n) b c (*ℤ-assoc (negsuc n) b c)

pub one-*ℤ : (a : ℤ) → pos 1 *ℤ a ≡ a
one-*ℤ a = suc_ℤ-*ℤ (pos zero) a ∙ ap (λ x. x +ℤ a) (zero-*ℤ a) ∙ +ℤ_idl a

pub minus-one-*ℤ : (a : ℤ) → negsuc zero *ℤ a ≡ neg_ℤ a
minus-one-*ℤ a = neg-*ℤ (pos 1) a ∙ ap neg_ℤ (one-*ℤ a)

pub +ℤ-left-comm : (a b c : ℤ) → a +ℤ (b +ℤ c) ≡ b +ℤ (a +ℤ c)
+ℤ-left-comm a b c = sym (+ℤ_assoc a b c) ∙ ap (λ x. x +ℤ c) (+ℤ_comm a b) ∙ +ℤ_assoc b a c

pub *ℤ-left-comm : (a b c : ℤ) → a *ℤ (b *ℤ c) ≡ b *ℤ (a *ℤ c)
*ℤ-left-comm a b c = sym (*ℤ-assoc a b c) ∙ ap (λ x. x *ℤ c) (*ℤ_comm a b) ∙ *ℤ-assoc b a c

-- for `simp`: summands, and factors, in one order
pub ruleset summands = (+ℤ_assoc, +ℤ_comm, +ℤ-left-comm)

pub ruleset factors = (*ℤ-assoc, *ℤ_comm, *ℤ-left-comm)
