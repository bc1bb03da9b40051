-- Numbers and digits as text: how long a text is, and how it grows.
-- Assumes nothing.
use mathlib.Core.Path.{◌≡◌, refl, ap, ◌∙◌}
use mathlib.Core.Bool.{Bool, true, false, cond}
use mathlib.Core.List.{List, [], ◌∷◌, ◌++◌}
use Prim.Native.Nat.{ℕ, zero, suc, ◌+◌, ◌*◌, ◌/◌, ◌%◌, ◌^◌, ◌≤◌, ◌<◌}
use native.Mathlib.Nat.{pow-suc}
use native.Mathlib.Omega.{arith}
use borrow.Author.Tests.{ltb-true, ltb-false, lt-ltb, le-ltb}
use lib.Dec.{ltb}
use lib.ListN.{length, get_or, length-append}
use Rattle.run.proofs.Table.{tab_length, tab_at}
use Rattle.lines.specs.Text.{newline, nought, decimal_by, decimal, number, glyph, glyphs, row, Wrote}
use Rattle.lines.proofs.Put.{wrote_then}

pub glyphs_length : (s : List ℕ) → length (glyphs s) ≡ length s
unfolding glyphs
glyphs_length s = tab_length (length s) _

pub glyphs_at : (s : List ℕ) (k : ℕ) → k < length s → get_or (glyphs s) k 0 ≡ glyph (get_or s k 0)
unfolding glyphs
glyphs_at s k h = tab_at (length s) _ k 0 h

-- more divisions than are needed change nothing
enough : (fuel more n : ℕ) → n ≤ fuel → n ≤ more → decimal_by fuel n ≡ decimal_by more n
unfolding decimal_by
enough zero zero n h k = refl
enough zero (suc more) n h k = rw (lt-ltb n 10 (omega arith))
enough (suc fuel) zero n h k = rw (lt-ltb n 10 (omega arith))
enough (suc fuel) (suc more) n h k = pick (λ p q. enough fuel more (n / 10) p q) (ltb n 10) refl
  where
    last : List ℕ
    last = (nought + n % 10) ∷ []

    pick : (n / 10 ≤ fuel → n / 10 ≤ more → decimal_by fuel (n / 10) ≡ decimal_by more (n / 10)) → (b : Bool) → ltb n 10 ≡ b
        → cond b last (decimal_by fuel (n / 10) ++ last) ≡ cond b last (decimal_by more (n / 10) ++ last)
    pick rest true e = refl
    pick rest false e =
        let big : 10 ≤ n = ltb-false _ _ e in
        ap (λ (x : List ℕ). x ++ last) (rest (omega arith) (omega arith))

-- a number of one digit, and one of more
pub decimal_one : (n : ℕ) → n < 10 → decimal n ≡ (nought + n % 10) ∷ []
unfolding decimal decimal_by
decimal_one zero h = refl
decimal_one (suc n) h = rw (lt-ltb (suc n) 10 h)

pub decimal_more : (n : ℕ) → 10 ≤ n → decimal n ≡ decimal (n / 10) ++ ((nought + n % 10) ∷ [])
unfolding decimal decimal_by
decimal_more zero h = absurd (let z : ⊥ = omega arith in z)
decimal_more (suc n) h =
    let p : suc n / 10 ≤ n = omega arith in
    let q : suc n / 10 ≤ suc n / 10 = omega arith in
    rw (le-ltb (suc n) 10 (omega arith)) (ap (λ (x : List ℕ). x ++ ((nought + suc n % 10) ∷ [])) (enough n (suc n / 10) (suc n / 10) p q))

pub decimal_longer : (n : ℕ) → 10 ≤ n → length (decimal n) ≡ length (decimal (n / 10)) + 1
decimal_longer n h = ap length (decimal_more n h) ∙ length-append (decimal (n / 10)) ((nought + n % 10) ∷ [])

-- a number below 10 ^ k has at most k digits
pub decimal_length : (k n : ℕ) → n < 10 ^ suc k → length (decimal n) ≤ suc k
decimal_length zero n h = rw (decimal_one n h) (omega arith)
decimal_length (suc k) n h = pick (λ p. decimal_length k (n / 10) p) (ltb n 10) refl
  where
    pick : (n / 10 < 10 ^ suc k → length (decimal (n / 10)) ≤ suc k) → (b : Bool) → ltb n 10 ≡ b → length (decimal n) ≤ suc (suc k)
    pick rest true e = rw (decimal_one n (ltb-true _ _ e)) (omega arith)
    pick rest false e =
        let t : 10 ^ suc (suc k) ≡ 10 ^ suc k * 10 = pow-suc 10 (suc k) in
        let r = rest (omega arith) in
        let l = decimal_longer n (ltb-false _ _ e) in
        omega arith

-- the text of a number's tenth, and then its last digit
pub decimal_then : {n place end end' : ℕ} {line line' line'' : List ℕ} → 10 ≤ n → place + length (decimal n) ≤ length line
    → Wrote place (decimal (n / 10)) line end line' → Wrote end ((nought + n % 10) ∷ []) line' end' line'' → Wrote place (decimal n) line end' line''
decimal_then {n} big room w v = rw (decimal_more n big) (wrote_then (let l = decimal_longer n big in omega arith) w v)

-- a number and the byte behind it; digits and the end of the line
pub number_long : (n behind : ℕ) → length (number n behind) ≡ length (decimal n) + 1
number_long n behind = length-append (decimal n) (behind ∷ [])

pub number_length : (k n behind : ℕ) → n < 10 ^ suc k → length (number n behind) ≤ suc (suc k)
number_length k n behind h =
    let l = number_long n behind in
    let d = decimal_length k n h in
    omega arith

pub row_length : (s : List ℕ) → length (row s) ≡ length s + 1
row_length s = length-append (glyphs s) (newline ∷ []) ∙ ap (λ (n : ℕ). n + 1) (glyphs_length s)
