-- Values of the AICH as text: what the code computes of a value, how long its text is, and how the texts of values join.
-- Assumes nothing.
use mathlib.Core.Path.{◌≡◌, refl, sym, ap, ◌∙◌}
use mathlib.Core.Bool.{Bool, true, false, cond}
use mathlib.Core.List.{List, [], ◌∷◌, ◌++◌, append-nil, append_assoc}
use Prim.Native.Nat.{ℕ, zero, suc, ◌+◌, ◌*◌, ◌≤◌, ◌<◌}
use native.Mathlib.Numerals.{add-one}
use native.Mathlib.Omega.{arith}
use borrow.Author.Tests.{ltb-true}
use lib.Dec.{T, lit<}
use lib.IntN.{ℤ, pos, negsuc, nat_abs, neg_ℤ, ◌-ℤ◌}
use lib.ListN.{length, get_or, take, length-append}
use lib.Seq.{take-suc, take-length, append_snoc}
use lib.Signed.{lt_z, non_neg}
use mir.Syntax.{w32}
use mir.Val.{SFits, to_z, of_z}
use Rattle.run.specs.First.{Every}
use Rattle.run.specs.Ranges.{between, in_range}
use Rattle.run.proofs.Ranges.{range_parts}
use Rattle.whole.specs.Bound.{Bounded}
use Rattle.whole.proofs.Bound.{b_range}
use Rattle.whole.proofs.Bits.{r_in, minus_fits, minus_reads}
use Rattle.lines.specs.Text.{space, minus, decimal, signed, spaced, Wrote}
use Rattle.lines.proofs.Put.{wrote_then, wrote_length}
use Rattle.lines.proofs.Words.{decimal_length}

-- a value that the channel has
abbrev pub Value : ℤ → Type 0
Value v = between (negsuc 15) (pos 16) v ≡ true

module _ (v : ℤ) (ok : Value v) where
  small : Bounded 16 v
  small = let p = range_parts (negsuc 15) (pos 16) v ok in b_range 15 v p.0 p.1

  pub value_back : to_z w32 (of_z w32 v) ≡ v
  value_back = (r_in {w = w32} small (lit< tt)).is

  pub value_minus : SFits w32 (pos 0 -ℤ to_z w32 (of_z w32 v))
  value_minus = minus_fits w32 small (lit< tt)

  pub value_minus_back : to_z w32 (of_z w32 (pos 0 -ℤ to_z w32 (of_z w32 v))) ≡ neg_ℤ v
  value_minus_back = (minus_reads w32 small (lit< tt)).is

  pub value_size : nat_abs v ≤ 16
  value_size = small.size

  pub value_digits : length (decimal (nat_abs v)) ≤ 2
  value_digits = decimal_length 1 (nat_abs v) (let s = value_size in omega arith)

  pub signed_length : length (signed v) ≤ 3
  unfolding signed
  signed_length = pick (lt_z v (pos 0))
    where
      pick : (b : Bool) → length (cond b (minus ∷ []) [] ++ decimal (nat_abs v)) ≤ 3
      pick true = let l = value_digits in omega arith
      pick false = let l = value_digits in omega arith

-- a negative value's size is that of its opposite
pub minus_size : (v : ℤ) → lt_z v (pos 0) ≡ true → T (non_neg (neg_ℤ v)) × (nat_abs (neg_ℤ v) ≡ nat_abs v)
minus_size (pos n) e = absurd (let h = ltb-true n 0 e in let z : ⊥ = omega arith in z)
minus_size (negsuc n) e = (tt, refl)

pub plus_size : (v : ℤ) → lt_z v (pos 0) ≡ false → T (non_neg v)
plus_size (pos n) e = tt
plus_size (negsuc n) e = absurd (let z : ◌≡◌ {A = ℕ} 0 1 = cc in omega arith)

-- the sign where it has one, and then the size, as the machine reads the value
pub signed_minus : (v : ℤ) {size place e₀ e₁ : ℕ} {l₀ l₁ l₂ : List ℕ} → Value v → lt_z (to_z w32 (of_z w32 v)) (pos 0) ≡ true → size ≡ nat_abs (to_z w32 (of_z w32 v))
    → place + 3 ≤ length l₀ → Wrote place (minus ∷ []) l₀ e₀ l₁ → Wrote e₀ (decimal size) l₁ e₁ l₂ → Wrote place (signed v) l₀ e₁ l₂
unfolding signed
signed_minus v ok e s room m d =
    rw (rw (value_back v ok) at e, ← rw (value_back v ok) at s) (wrote_then (omega arith) m d)

pub signed_plus : (v : ℤ) {size place e₀ : ℕ} {l₀ l₁ : List ℕ} → Value v → lt_z (to_z w32 (of_z w32 v)) (pos 0) ≡ false → size ≡ nat_abs (to_z w32 (of_z w32 v))
    → Wrote place (decimal size) l₀ e₀ l₁ → Wrote place (signed v) l₀ e₀ l₁
unfolding signed
signed_plus v ok e s d = rw (rw (value_back v ok) at e, ← rw (value_back v ok) at s) d

pub size_digits : (v : ℤ) (size : ℕ) → Value v → size ≡ nat_abs (to_z w32 (of_z w32 v)) → length (decimal size) ≤ 2
size_digits v size ok s = rw (rw (value_back v ok) at s) (value_digits v ok)

-- the texts of the first values, and of one more
pub spaced_append : (vs ws : List ℤ) → spaced (vs ++ ws) ≡ spaced vs ++ spaced ws
unfolding spaced
spaced_append [] ws = refl
spaced_append (v ∷ vs) ws = ap (λ (l : List ℕ). (space ∷ signed v) ++ l) (spaced_append vs ws) ∙ sym (append_assoc (space ∷ signed v) (spaced vs) (spaced ws))

pub spaced_next : (vs : List ℤ) (j : ℕ) → j < length vs → spaced (take (j + 1) vs) ≡ spaced (take j vs) ++ (space ∷ signed (get_or vs j (pos 0)))
unfolding spaced
spaced_next vs j h =
    ap (λ (n : ℕ). spaced (take n vs)) (add-one j)
    ∙ ap spaced (take-suc vs j (pos 0) h)
    ∙ spaced_append (take j vs) (get_or vs j (pos 0) ∷ [])
    ∙ ap (λ (l : List ℕ). spaced (take j vs) ++ l) (append-nil (space ∷ signed (get_or vs j (pos 0))))

-- a value's text has at most four bytes
pub spaced_length : (vs : List ℤ) (j : ℕ) → Every (in_range (negsuc 15) (pos 16) vs) (length vs) → j ≤ length vs → length (spaced (take j vs)) ≤ 4 * j
unfolding spaced
spaced_length vs zero all h = omega arith
spaced_length vs (suc j) all h =
    let r = spaced_length vs j all (omega arith) in
    let l = signed_length (get_or vs j (pos 0)) (all j h) in
    let e : length (spaced (take (suc j) vs)) ≡ length (spaced (take j vs)) + suc (length (signed (get_or vs j (pos 0)))) =
    ap (λ (n : ℕ). length (spaced (take n vs))) (sym (add-one j)) ∙ ap length (spaced_next vs j h) ∙ length-append (spaced (take j vs)) _ in
    omega arith

-- while values are left there is room for one
pub spaced_room : (vs : List ℤ) (j : ℕ) {place end : ℕ} {l₀ l₁ : List ℕ} → j ≤ length vs → place + 4 * length vs ≤ length l₀
    → Every (in_range (negsuc 15) (pos 16) vs) (length vs) → Wrote place (spaced (take j vs)) l₀ end l₁ → (end + 4 * length vs ≤ length l₁ + 4 * j) × (length l₁ ≡ length l₀)
spaced_room vs j h room all w =
    let s = spaced_length vs j all h in
    let l = wrote_length (omega arith) w in
    (omega (arith, w.ends), l)

-- one value more: a space, and then the value
pub spaced_then : (vs : List ℤ) (j : ℕ) {place e₀ e₁ e₂ : ℕ} {l₀ l₁ l₂ l₃ : List ℕ} → j < length vs → place + 4 * length vs ≤ length l₀
    → Every (in_range (negsuc 15) (pos 16) vs) (length vs) → Wrote place (spaced (take j vs)) l₀ e₀ l₁ → Wrote e₀ (space ∷ []) l₁ e₁ l₂
    → Wrote e₁ (signed (to_z w32 (of_z w32 (get_or vs j (pos 0))))) l₂ e₂ l₃ → Wrote place (spaced (take (j + 1) vs)) l₀ e₂ l₃
spaced_then vs j h room all w b v =
    let l = spaced_length vs j all (omega arith) in
    let k = length-append (spaced (take j vs)) (space ∷ []) in
    rw (spaced_next vs j h, ← append_snoc (spaced (take j vs)) space (signed (get_or vs j (pos 0))))
    (wrote_then (omega arith) (wrote_then (omega arith) w b) (rw (value_back (get_or vs j (pos 0)) (all j h)) at v))

pub spaced_all : (vs : List ℤ) → Every (in_range (negsuc 15) (pos 16) vs) (length vs) → length vs ≡ 32 → length (spaced vs) ≤ 128
spaced_all vs all e =
    let l = spaced_length vs (length vs) all (omega arith) in
    rw (take-length vs) at (let m : length (spaced (take (length vs) vs)) ≤ 128 = omega arith in m)

-- a byte as an indicator: the machine's number is the byte itself
pub byte_back : (b : ℕ) → b < 256 → to_z w32 b ≡ pos b
byte_back b h = (r_in {w = w32} {z = pos b} {A = 255} (record { size = omega arith }) (lit< tt)).is
