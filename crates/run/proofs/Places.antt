-- The first element that passes a test, as `position` of a slice gives it, is the first place that fails the opposite test.
-- Assumes nothing.
use mathlib.Core.Path.{◌≡◌, refl, sym, ap, ◌∙◌}
use mathlib.Core.Bool.{Bool, true, false, cond, not}
use mathlib.Core.List.{List, [], ◌∷◌}
use Prim.Native.Nat.{ℕ, zero, suc, ◌+◌, ◌<◌, ◌≤◌, min, suc-le-suc}
use native.Mathlib.Omega.{arith}
use borrow.Author.Tests.{ltb-true}
use lib.Dec.{leb, ltb, eqb}
use lib.ListN.{length, get_or}
use lib.IntN.{ℤ, pos}
use Rattle.std.specs.Prelude.{Option}
use Rattle.std.specs.Option.{unwrap_or}
use Rattle.std.specs.declared.option.Option.TheVariants.{Some, None}
use Rattle.std.specs.List.{position, prefix_len, zip}
use Rattle.std.proofs.lemmas.Slice.Zip.{get_or-zip, length-zip}
use Rattle.run.specs.First.{first_bad, Every, at_most, is_at, not_at, is_unlike, like_first, agree}
use Rattle.run.specs.Ranges.{between, in_range}
use Rattle.run.proofs.First.{first_le, first_none}

-- a test of elements that fails where one of places passes
abbrev pub Opposite : {X : Type 0} → (X → Bool) → (ℕ → Bool) → X → List X → Type 0
Opposite p ok d xs = (k : ℕ) → k < length xs → p (get_or xs k d) ≡ not (ok k)

not_not : (b : Bool) {a : Bool} → a ≡ not b → not a ≡ b
not_not true e = rw e
not_not false e = rw e

prefix_first : {X : Type 0} (p : X → Bool) (ok : ℕ → Bool) (d : X) (xs : List X) → Opposite p ok d xs → prefix_len (λ x. not (p x)) xs ≡ first_bad ok (length xs)
unfolding first_bad
prefix_first p ok d [] h = refl
prefix_first p ok d (x ∷ xs) h =
    let rest = prefix_first p (λ (k : ℕ). ok (suc k)) d xs (λ k l. h (suc k) (suc-le-suc l)) in
    let head = not_not (ok 0) (h 0 (omega arith)) in
    let one : 1 + prefix_len (λ x. not (p x)) xs ≡ suc (first_bad (λ (k : ℕ). ok (suc k)) (length xs)) = omega (arith, rest) in
    rw (head, one)

told : (m n : ℕ) → m ≤ n → unwrap_or (cond (ltb m n) (Some m) None) n ≡ m
told m n h = grind arith

pub position_first : {X : Type 0} (p : X → Bool) (ok : ℕ → Bool) (d : X) (xs : List X) → Opposite p ok d xs → unwrap_or (position p xs) (length xs) ≡ first_bad ok (length xs)
position_first p ok d xs h =
    let e = prefix_first p ok d xs h in
    told _ _ (let l = first_le ok (length xs) in omega (arith, e)) ∙ e

below : (b : Bool) (m n i : ℕ) → ltb m n ≡ b → cond b (Some m) None ≡ Some i → i < n
below true m n i t h = let e : m ≡ i = ap (λ o. unwrap_or o 0) h in let l : m < n = ltb-true _ _ t in omega (arith, e)
below false m n i t h = grind arith

pub position_below : {X : Type 0} (p : X → Bool) (xs : List X) (i : ℕ) → position p xs ≡ Some i → i < length xs
position_below p xs i e = below (ltb (prefix_len (λ x. not (p x)) xs) (length xs)) _ _ i refl e

none_told : (m n : ℕ) → m ≡ n → None ≡ cond (ltb m n) (Some m) None
none_told m n h = grind arith

-- no element passes where no place fails
pub position_none : {X : Type 0} (p : X → Bool) (ok : ℕ → Bool) (d : X) (xs : List X) → Opposite p ok d xs → Every ok (length xs) → None ≡ position p xs
position_none p ok d xs h every = none_told _ _ (prefix_first p ok d xs h ∙ first_none ok (length xs) every)

-- the digits above a limit, those that are another and that are one, and two runs side by side
pub above_opposite : (top : ℕ) (s : List ℕ) → Opposite (ltb top) (at_most top s) 0 s
above_opposite top s k h = sides (get_or s k 0)
  where
    sides : (d : ℕ) → ltb top d ≡ not (leb d top)
    sides d = grind arith

pub other_opposite : (v : ℕ) (s : List ℕ) → Opposite (λ d. not (eqb d v)) (is_at v s) 0 s
other_opposite v s k h = refl

not_twice : (b : Bool) → b ≡ not (not b)
not_twice true = refl
not_twice false = refl

pub equal_opposite : (v : ℕ) (s : List ℕ) → Opposite (λ d. eqb d v) (not_at v s) 0 s
equal_opposite v s k h = not_twice (eqb (get_or s k 0) v)

pub unlike_opposite : (s : List ℕ) → Opposite (is_unlike (get_or s 0 0)) (like_first s) 0 s
unlike_opposite s k h = refl

pub agree_opposite : (s t : List ℕ) → Opposite (λ p. not (eqb p.0 p.1)) (agree s t) (0, 0) (zip s t)
agree_opposite s t k h =
    let e : length (zip s t) ≡ min (length s) (length t) = length-zip s t in
    rw (get_or-zip s t k (0, 0) (omega arith) (omega arith))

pub outside_opposite : (low high : ℤ) (s : List ℤ) → Opposite (λ x. not (between low high x)) (in_range low high s) (pos 0) s
outside_opposite low high s k h = refl

-- what a scan answers, in the words of the checks
pub above_first : (top : ℕ) (s : List ℕ) {r : Option ℕ} → r ≡ position (ltb top) s → unwrap_or r (length s) ≡ first_bad (at_most top s) (length s)
above_first top s e = rw e (position_first (ltb top) (at_most top s) 0 s (above_opposite top s))

pub other_first : (v : ℕ) (s : List ℕ) {r : Option ℕ} → r ≡ position (λ d. not (eqb d v)) s → unwrap_or r (length s) ≡ first_bad (is_at v s) (length s)
other_first v s e = rw e (position_first (λ d. not (eqb d v)) (is_at v s) 0 s (other_opposite v s))

pub equal_first : (v : ℕ) (s : List ℕ) {r : Option ℕ} → r ≡ position (λ d. eqb d v) s → unwrap_or r (length s) ≡ first_bad (not_at v s) (length s)
equal_first v s e = rw e (position_first (λ d. eqb d v) (not_at v s) 0 s (equal_opposite v s))

pub unlike_first : (s : List ℕ) {r : Option ℕ} → r ≡ position (is_unlike (get_or s 0 0)) s → unwrap_or r (length s) ≡ first_bad (like_first s) (length s)
unlike_first s e = rw e (position_first (is_unlike (get_or s 0 0)) (like_first s) 0 s (unlike_opposite s))

pub outside_first : (low high : ℤ) (s : List ℤ) {r : Option ℕ} → r ≡ position (λ x. not (between low high x)) s → unwrap_or r (length s) ≡ first_bad (in_range low high s) (length s)
outside_first low high s e = rw e (position_first (λ x. not (between low high x)) (in_range low high s) (pos 0) s (outside_opposite low high s))

-- of two runs side by side the places are those of the shorter
pub difference_first : (s t : List ℕ) {r : Option ℕ} → r ≡ position (λ p. not (eqb p.0 p.1)) (zip s t) → unwrap_or r (min (length s) (length t)) ≡ first_bad (agree s t) (min (length s) (length t))
difference_first s t e = rw (e, ← length-zip s t) (position_first (λ p. not (eqb p.0 p.1)) (agree s t) (0, 0) (zip s t) (agree_opposite s t))

-- a place that a scan answers is one of the run's
pub found_below : {X : Type 0} (p : X → Bool) (xs : List X) {r : Option ℕ} (i : ℕ) → r ≡ position p xs → r ≡ Some i → i < length xs
found_below p xs i e is = position_below p xs i (sym e ∙ is)
