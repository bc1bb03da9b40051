-- Encoding block by block, for blocks of any size: what fours (figure 8) and eights (figure 8A of TS 25.211, 5.3.1.1.1) have in common.
-- Each statement is proved in proofs/Blocks.antt under its name in small letters.
-- Assumes nothing.
use Rattle.std.specs.Prelude.{ℕ, ◌+◌, ◌*◌, ◌<◌, ◌≤◌, ◌≡◌, List, length, take, drop}
use Rattle.run.specs.Fields.{joined}
use Rattle.run.specs.Parts.{part}
use Rattle.run.specs.Table.{tab}
use Rattle.sttd.specs.Rule.{sttd}

-- a run of m blocks of w entries, each of which `code` makes a block of
unfoldable pub blockwise : {A : Type 0} → ℕ → ℕ → (List A → List A) → List A → List A
blockwise m w code s = joined (tab m (λ (k : ℕ). code (part k w s)))

-- what is said of `code` is said of blocks of w entries alone
abbrev pub OfBlocks : {A : Type 0} → ℕ → (List A → Type 0) → Type 0
OfBlocks {A} w said = (b : List A) → length b ≡ w → said b

-- antenna 2 sends as many entries as antenna 1; its block k comes from block k, and k blocks from block j on come from those; two codes in turn are one; and where a block can be read back, the
-- run can, so there is one
pub record BlockLaws {A : Type 0} (m w : ℕ) (code : List A → List A) : Type 0 where
  pub same_length : (s : List A) → length s ≡ m * w → length (blockwise m w code s) ≡ length s
  pub by_blocks : (s : List A) → length s ≡ m * w → (k : ℕ) → k < m → part k w (blockwise m w code s) ≡ code (part k w s)
  pub by_stretches : (s : List A) → length s ≡ m * w → (j k : ℕ) → j + k ≤ m
      → blockwise k w code (take (k * w) (drop (j * w) s)) ≡ take (k * w) (drop (j * w) (blockwise m w code s))
  pub in_turn : (next : List A → List A) (s : List A) → length s ≡ m * w → blockwise m w next (blockwise m w code s) ≡ blockwise m w (λ (b : List A). next (code b)) s
  pub reads_back : (back : List A → List A) → OfBlocks w (λ (b : List A). back (code b) ≡ b) → (s : List A) → length s ≡ m * w
      → blockwise m w back (blockwise m w code s) ≡ s
  pub one_input : (back : List A → List A) → OfBlocks w (λ (b : List A). back (code b) ≡ b) → (s t : List A) → length s ≡ m * w → length t ≡ m * w
      → blockwise m w code s ≡ blockwise m w code t → s ≡ t

abbrev pub AnyBlocks : Type 1
AnyBlocks =
    (A : Type 0) (m w : ℕ) (code : List A → List A) → OfBlocks w (λ (b : List A). length (code b) ≡ w) → BlockLaws m w code

-- the STTD rule is the case of fours
abbrev pub Fours : Type 1
Fours = (A : Type 0) (bar : A → A) (m : ℕ) (s : List A) → length s ≡ m * 4 → sttd bar s ≡ blockwise m 4 (sttd bar) s
