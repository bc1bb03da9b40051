-- The laws of the STTD rule, at any element type and any bar, and what the promises of the two encoders say.
-- Each statement is proved in proofs/Exact.antt under its name in small letters.
-- Assumes nothing.
use Rattle.std.specs.Prelude.{ℕ, ◌+◌, ◌*◌, ◌≤◌, ◌<◌, ◌≡◌, List, [], ◌∷◌, length, get_or, drop, ℤ}
use Rattle.run.specs.Verdict.{Verdict}
use Rattle.run.specs.Verdicts.{Narrow}
use Rattle.sttd.specs.Rule.{sttd}
use Rattle.sttd.specs.Outcome.{digits_verdict, Digits, values_verdict, Values}

-- b0 b1 b2 b3 on antenna 1 make bar b2, b3, b0, bar b1 on antenna 2, for the block that begins at entry i
pub record Block {A : Type 0} (bar : A → A) (s : List A) (d : A) (i : ℕ) : Type 0 where
  pub first : get_or (sttd bar s) i d ≡ bar (get_or s (i + 2) d)
  pub second : get_or (sttd bar s) (i + 1) d ≡ get_or s (i + 3) d
  pub third : get_or (sttd bar s) (i + 2) d ≡ get_or s i d
  pub fourth : get_or (sttd bar s) (i + 3) d ≡ bar (get_or s (i + 1) d)

-- what antenna 1 sent, from what antenna 2 sends
unfoldable pub read_back : {A : Type 0} → (A → A) → List A → List A
read_back bar [] = []
read_back bar (c0 ∷ []) = c0 ∷ []
read_back bar (c0 ∷ c1 ∷ []) = c0 ∷ c1 ∷ []
read_back bar (c0 ∷ c1 ∷ c2 ∷ []) = c0 ∷ c1 ∷ c2 ∷ []
read_back bar (c0 ∷ c1 ∷ c2 ∷ c3 ∷ rest) = c2 ∷ bar c3 ∷ bar c0 ∷ c1 ∷ read_back bar rest

-- a bar that undoes itself
abbrev pub Involutive : {A : Type 0} → (A → A) → Type 0
Involutive {A} bar = (x : A) → bar (bar x) ≡ x

-- the laws: antenna 2 sends as many entries as antenna 1; block k of them comes from block k, position by position, and what is
-- left behind the last whole block stays as it is; where the bar undoes itself the input can be read back, so there is one
pub record Laws {A : Type 0} (bar : A → A) : Type 0 where
  pub same_length : (s : List A) → length (sttd bar s) ≡ length s
  pub by_blocks : (s : List A) (d : A) (k : ℕ) → 4 * k + 4 ≤ length s → Block bar s d (4 * k)
  pub tail_kept : (s : List A) (k : ℕ) → length s < 4 * k + 4 → drop (4 * k) (sttd bar s) ≡ drop (4 * k) s
  pub reads_back : Involutive bar → (s : List A) → read_back bar (sttd bar s) ≡ s
  pub one_input : Involutive bar → (s t : List A) → sttd bar s ≡ sttd bar t → s ≡ t

abbrev pub RuleLaws : Type 1
RuleLaws = (A : Type 0) (bar : A → A) → Laws bar

-- each promise allows one outcome
abbrev pub DigitsOnce : Type 0
DigitsOnce =
    (input out : List ℕ) (a b : Verdict) (x y : List ℕ) → Digits input out a x → Digits input out b y → (a ≡ b) × (x ≡ y)

abbrev pub ValuesOnce : Type 0
ValuesOnce =
    (input out : List ℤ) (a b : Verdict) (x y : List ℤ) → Values input out a x → Values input out b y → (a ≡ b) × (x ≡ y)

-- number and place fit the 16 and 32 bits that the C boundary has for them; those of digits as long as all their places do
pub record Packs : Type 0 where
  pub digits_narrow : (input : List ℕ) (out_length : ℕ) → length input ≤ 4294967295 → Narrow (digits_verdict input out_length)
  pub values_narrow : (input : List ℤ) (out_length : ℕ) → Narrow (values_verdict input out_length)
