-- Equations of a commutative ring over ℤ, by computation. `Expr` is an expression in numbered unknowns, `eval ρ` its value where
-- the unknown k is ρ k. `check e₁ e₂` multiplies both out and asks that every coefficient of the difference is zero; where it does,
-- the two have one value at every ρ (`solve`).
-- Assumes nothing.
use mathlib.Core.Path.{◌≡◌, refl, sym, ◌∙◌, ap, ap₂}
use mathlib.Core.List.{List, [], ◌∷◌}
use mathlib.Core.Bool.{Bool, true, false}
use Prim.Native.Nat.{ℕ, zero, suc}
use lib.Dec.{T}
use lib.IntN.{ℤ, pos, negsuc, neg_ℤ, ◌+ℤ◌, ◌*ℤ◌, +ℤ_assoc, +ℤ_idl, +ℤ_idr, zero-*ℤ, *ℤ-zero, *ℤ_comm, neg_ℤ-neg_ℤ}
use Rattle.whole.proofs.Laws.{summands, factors, distrib_r, distrib_l, *ℤ-left-comm, neg_unique, one-*ℤ, minus-one-*ℤ}

infixl 6 ◌:+◌
infixl 7 ◌:*◌
pub data Expr : Type 0 where
  var : ℕ → Expr
  num : ℕ → Expr
  neg : Expr → Expr
  ◌:+◌ : Expr → Expr → Expr
  ◌:*◌ : Expr → Expr → Expr

unfoldable pub eval : (ℕ → ℤ) → Expr → ℤ
eval ρ (var k) = ρ k
eval ρ (num n) = pos n
eval ρ (neg e) = neg_ℤ (eval ρ e)
eval ρ (a :+ b) = eval ρ a +ℤ eval ρ b
eval ρ (a :* b) = eval ρ a *ℤ eval ρ b

-- A polynomial: `con c` the number c; `px p q` is p, in the unknowns after the first, plus the first unknown times q
pub data Pol : Type 0 where
  con : ℤ → Pol
  px : Pol → Pol → Pol

abbrev shift : (ℕ → ℤ) → ℕ → ℤ
shift ρ k = ρ (suc k)

val : Pol → (ℕ → ℤ) → ℤ
val (con c) ρ = c
val (px p q) ρ = val p (shift ρ) +ℤ ρ 0 *ℤ val q ρ

abbrev pub add_c : ℤ → Pol → Pol
add_c a (con b) = con (a +ℤ b)
add_c a (px p q) = px (add_c a p) q

abbrev pub add : Pol → Pol → Pol
add (con a) r = add_c a r
add (px p q) (con b) = px (add_c b p) q
add (px p q) (px p' q') = px (add p p') (add q q')

abbrev pub scale : ℤ → Pol → Pol
scale a (con b) = con (a *ℤ b)
scale a (px p q) = px (scale a p) (scale a q)

abbrev pub mul_c : ℤ → Pol → Pol
mul_c (pos zero) r = con (pos zero)
mul_c (pos (suc n)) r = scale (pos (suc n)) r
mul_c (negsuc n) r = scale (negsuc n) r

-- f at each coefficient, of the unknowns after the first
abbrev pub up : (Pol → Pol) → Pol → Pol
up f (con b) = px (f (con b)) (con (pos zero))
up f (px p q) = px (f p) (up f q)

abbrev pub mul : Pol → Pol → Pol
mul (con a) r = mul_c a r
mul (px p q) (con b) = mul_c b (px p q)
mul (px p q) (px p' q') = px (mul p p') (add (up (λ r. mul p r) q') (mul q (px p' q')))

abbrev pub var_p : ℕ → Pol
var_p zero = px (con (pos zero)) (con (pos 1))
var_p (suc k) = px (var_p k) (con (pos zero))

abbrev pub norm : Expr → Pol
norm (var k) = var_p k
norm (num n) = con (pos n)
norm (neg e) = scale (negsuc zero) (norm e)
norm (a :+ b) = add (norm a) (norm b)
norm (a :* b) = mul (norm a) (norm b)

abbrev pub both : Bool → Bool → Bool
both true b = b
both false b = false

abbrev pub is_zero : Pol → Bool
is_zero (con (pos zero)) = true
is_zero (con (pos (suc n))) = false
is_zero (con (negsuc n)) = false
is_zero (px p q) = both (is_zero p) (is_zero q)

abbrev pub difference : Expr → Expr → Pol
difference a b = add (norm a) (scale (negsuc zero) (norm b))

abbrev pub check : Expr → Expr → Bool
check a b = is_zero (difference a b)

-- ---- each operation has the value that it should

val_add_c : (a : ℤ) (r : Pol) (ρ : ℕ → ℤ) → val (add_c a r) ρ ≡ a +ℤ val r ρ
unfolding val
val_add_c a (con b) ρ = refl
val_add_c a (px p q) ρ = ap (λ x. x +ℤ ρ 0 *ℤ val q ρ) (val_add_c a p (shift ρ)) ∙ +ℤ_assoc a (val p (shift ρ)) (ρ 0 *ℤ val q ρ)

val_add : (p r : Pol) (ρ : ℕ → ℤ) → val (add p r) ρ ≡ val p ρ +ℤ val r ρ
unfolding val
val_add (con a) r ρ = val_add_c a r ρ
val_add (px p q) (con b) ρ = ap (λ x. x +ℤ ρ 0 *ℤ val q ρ) (val_add_c b p (shift ρ)) ∙ simp summands
val_add (px p q) (px p' q') ρ =
    ap₂ (λ x y. x +ℤ ρ 0 *ℤ y) (val_add p p' (shift ρ)) (val_add q q' ρ) ∙ simp (distrib_l, summands)

val_scale : (a : ℤ) (r : Pol) (ρ : ℕ → ℤ) → val (scale a r) ρ ≡ a *ℤ val r ρ
unfolding val
val_scale a (con b) ρ = refl
val_scale a (px p q) ρ =
    ap₂ (λ x y. x +ℤ ρ 0 *ℤ y) (val_scale a p (shift ρ)) (val_scale a q ρ) ∙ simp (distrib_l, *ℤ-left-comm)

val_mul_c : (a : ℤ) (r : Pol) (ρ : ℕ → ℤ) → val (mul_c a r) ρ ≡ a *ℤ val r ρ
unfolding val
val_mul_c (pos zero) r ρ = sym (zero-*ℤ (val r ρ))
val_mul_c (pos (suc n)) r ρ = val_scale (pos (suc n)) r ρ
val_mul_c (negsuc n) r ρ = val_scale (negsuc n) r ρ

val_up : (f : Pol → Pol) (z : ℤ) (r : Pol) (ρ : ℕ → ℤ) → ((s : Pol) → val (f s) (shift ρ) ≡ z *ℤ val s (shift ρ)) → val (up f r) ρ ≡ z *ℤ val r ρ
unfolding val
val_up f z (con b) ρ h = ap₂ (λ x y. x +ℤ y) (h (con b)) (*ℤ-zero (ρ 0)) ∙ +ℤ_idr (z *ℤ b)
val_up f z (px p q) ρ h = ap₂ (λ x y. x +ℤ ρ 0 *ℤ y) (h p) (val_up f z q ρ h) ∙ simp (distrib_l, *ℤ-left-comm)

mul_step : (a b c d x : ℤ) → a *ℤ c +ℤ x *ℤ (a *ℤ d +ℤ b *ℤ (c +ℤ x *ℤ d)) ≡ (a +ℤ x *ℤ b) *ℤ (c +ℤ x *ℤ d)
mul_step a b c d x = simp (distrib_l, distrib_r, summands, factors)

val_mul : (p r : Pol) (ρ : ℕ → ℤ) → val (mul p r) ρ ≡ val p ρ *ℤ val r ρ
unfolding val
val_mul (con a) r ρ = val_mul_c a r ρ
val_mul (px p q) (con b) ρ = val_mul_c b (px p q) ρ ∙ *ℤ_comm b (val (px p q) ρ)
val_mul (px p q) (px p' q') ρ =
    ap₂ (λ x y. x +ℤ ρ 0 *ℤ y) (val_mul p p' (shift ρ))
    (val_add (up (λ r. mul p r) q') (mul q (px p' q')) ρ
    ∙ ap₂ (λ x y. x +ℤ y) (val_up (λ r. mul p r) (val p (shift ρ)) q' ρ (λ s. val_mul p s (shift ρ))) (val_mul q (px p' q') ρ))
    ∙ mul_step (val p (shift ρ)) (val q ρ) (val p' (shift ρ)) (val q' ρ) (ρ 0)

val_var : (k : ℕ) (ρ : ℕ → ℤ) → val (var_p k) ρ ≡ ρ k
unfolding val
val_var zero ρ = +ℤ_idl (ρ 0 *ℤ pos 1) ∙ *ℤ_comm (ρ 0) (pos 1) ∙ one-*ℤ (ρ 0)
val_var (suc k) ρ = ap₂ (λ x y. x +ℤ y) (val_var k (shift ρ)) (*ℤ-zero (ρ 0)) ∙ +ℤ_idr (ρ (suc k))

val_norm : (ρ : ℕ → ℤ) (e : Expr) → val (norm e) ρ ≡ eval ρ e
unfolding val eval
val_norm ρ (var k) = val_var k ρ
val_norm ρ (num n) = refl
val_norm ρ (neg e) = val_scale (negsuc zero) (norm e) ρ ∙ minus-one-*ℤ (val (norm e) ρ) ∙ ap neg_ℤ (val_norm ρ e)
val_norm ρ (a :+ b) = val_add (norm a) (norm b) ρ ∙ ap₂ (λ x y. x +ℤ y) (val_norm ρ a) (val_norm ρ b)
val_norm ρ (a :* b) = val_mul (norm a) (norm b) ρ ∙ ap₂ (λ x y. x *ℤ y) (val_norm ρ a) (val_norm ρ b)

both_parts : (a b : Bool) → T (both a b) → T a × T b
both_parts true b t = (tt, t)
both_parts false b t = absurd t

val_zero : (p : Pol) (ρ : ℕ → ℤ) → T (is_zero p) → val p ρ ≡ pos zero
unfolding val
val_zero (con (pos zero)) ρ t = refl
val_zero (con (pos (suc n))) ρ t = absurd t
val_zero (con (negsuc n)) ρ t = absurd t
val_zero (px p q) ρ t =
    let h : T (is_zero p) × T (is_zero q) = both_parts (is_zero p) (is_zero q) t in
    ap₂ (λ x y. x +ℤ ρ 0 *ℤ y) (val_zero p (shift ρ) h.0) (val_zero q ρ h.1) ∙ +ℤ_idl (ρ 0 *ℤ pos zero) ∙ *ℤ-zero (ρ 0)

-- a ring's equation
pub solve : (ρ : ℕ → ℤ) (a b : Expr) → T (check a b) → eval ρ a ≡ eval ρ b
solve ρ a b t =
    neg_unique (eval ρ a) (neg_ℤ (eval ρ b)) (sym (val_difference a b) ∙ val_zero (difference a b) ρ t) ∙ neg_ℤ-neg_ℤ (eval ρ b)
  where
    val_difference : (a b : Expr) → val (difference a b) ρ ≡ eval ρ a +ℤ neg_ℤ (eval ρ b)
    val_difference a b =
        val_add (norm a) (scale (negsuc zero) (norm b)) ρ
        ∙ ap₂ (λ x y. x +ℤ y) (val_norm ρ a) (val_scale (negsuc zero) (norm b) ρ ∙ minus-one-*ℤ (val (norm b) ρ) ∙ ap neg_ℤ (val_norm ρ b))

-- ---- quoting: `simp` turns an equation into one of two `eval ρ`, where ρ is any assignment that gives the listed numbers

abbrev pub env : List ℤ → ℕ → ℤ
env [] k = pos 0
env (x ∷ xs) zero = x
env (x ∷ xs) (suc k) = env xs k

pub quote_add : (ρ : ℕ → ℤ) (a b : Expr) → eval ρ a +ℤ eval ρ b ≡ eval ρ (a :+ b)
unfolding eval
quote_add ρ a b = refl

pub quote_mul : (ρ : ℕ → ℤ) (a b : Expr) → eval ρ a *ℤ eval ρ b ≡ eval ρ (a :* b)
unfolding eval
quote_mul ρ a b = refl

pub quote_neg : (ρ : ℕ → ℤ) (a : Expr) → neg_ℤ (eval ρ a) ≡ eval ρ (neg a)
unfolding eval
quote_neg ρ a = refl

pub quote_pos : (ρ : ℕ → ℤ) (n : ℕ) → pos n ≡ eval ρ (num n)
unfolding eval
quote_pos ρ n = refl

pub ruleset quoted = (quote_add, quote_mul, quote_neg)

-- each number of the list is an unknown, from k on
abbrev pub Known : List ℤ → ℕ → (ℕ → ℤ) → Type 0 → Type 0
Known [] k ρ P = P
Known (x ∷ xs) k ρ P = x ≡ eval ρ (var k) → Known xs (suc k) ρ P

abbrev Holds : List ℤ → ℕ → (ℕ → ℤ) → Type 0
Holds [] k ρ = Unit {0}
Holds (x ∷ xs) k ρ = (x ≡ ρ k) × Holds xs (suc k) ρ

holds_later : (xs : List ℤ) (k : ℕ) (ρ : ℕ → ℤ) → Holds xs k (λ i. ρ (suc i)) → Holds xs (suc k) ρ
holds_later [] k ρ h = tt
holds_later (x ∷ xs) k ρ h = (h.0, holds_later xs (suc k) ρ h.1)

holds_env : (xs : List ℤ) → Holds xs 0 (env xs)
holds_env [] = tt
holds_env (x ∷ xs) = (refl, holds_later xs 0 (env (x ∷ xs)) (holds_env xs))

use_known : {P : Type 0} (xs : List ℤ) (k : ℕ) (ρ : ℕ → ℤ) → Holds xs k ρ → Known xs k ρ P → P
unfolding eval
use_known [] k ρ h f = f
use_known (x ∷ xs) k ρ h f = use_known xs (suc k) ρ h.1 (f h.0)

-- `ring (x ∷ y ∷ []) (λ ρ p q. simp (p, q, quoted) (solve ρ _ _ tt))` proves an equation in x and y; where numerals stand in it the list is
-- (p, q, quoted, quote-pos ρ)
pub ring : {P : Type 0} (xs : List ℤ) → ((ρ : ℕ → ℤ) → Known xs 0 ρ P) → P
ring xs f = use_known xs 0 (env xs) (holds_env xs) (f (env xs))
