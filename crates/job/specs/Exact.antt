-- What a program prints by these calls (docs/RULES.md, 'Job file and program'). Each statement is proved in proofs/Exact.antt under its name in small
-- letters.
-- Assumes nothing.
use Rattle.std.specs.Prelude.{ℕ, suc, ◌+◌, ◌≤◌, ◌≡◌, List, [], ◌∷◌, ◌++◌, ◌↔◌, length, take}
use Rattle.run.specs.Verdict.{Verdict}
use Rattle.lines.specs.Answers.{Told}
use Rattle.lines.specs.Outcome.{line_size, Tell}
use Rattle.job.specs.Answers.{Opened}
use Rattle.job.specs.Answers.{Ran}
use Rattle.job.specs.Outcome.{end_verdict, Open, Run}
use Rattle.job.specs.Windows.{record_asks, Window, First}
use Rattle.job.specs.Printed.{printed}

-- a refusal is told: the call answers, and this text stands at the front of its line
pub record Tells (refusal : Verdict) (text : List ℕ) : Type 0 where
  pub line : List ℕ
  pub line_after : List ℕ
  pub answer : Told
  pub roomy : line_size ≤ length line
  pub call : Tell refusal line answer line_after
  pub text_is : take answer.length line_after ≡ text

-- what is printed from an offset on, with n records left, by any program that runs one record after the other until one is refused, and then ends the file. It
-- lends a window for each call, cut as it likes
pub data Steps (limit : ℕ) (file : List ℕ) : ℕ → ℕ → List ℕ → Type 0 where
  ends : (offset : ℕ) (window : List ℕ) → Window limit file offset 1 window → (end_verdict limit offset window).number ≡ 0 → Steps limit file 0 offset []
  left_over : (offset : ℕ) (window text : List ℕ) → Window limit file offset 1 window → ((end_verdict limit offset window).number ≡ 0 → ⊥)
      → Tells (end_verdict limit offset window) text → Steps limit file 0 offset text
  runs : (n offset : ℕ) (window line line_after : List ℕ) (answer : Ran) (text : List ℕ) → Window limit file offset (record_asks window) window → line_size ≤ length line
      → Run limit offset window line answer line_after → answer.verdict.number ≡ 0 → Steps limit file n (offset + answer.size) text
      → Steps limit file (suc n) offset (take answer.length line_after ++ text)
  refuses : (n offset : ℕ) (window line line_after : List ℕ) (answer : Ran) (text : List ℕ) → Window limit file offset (record_asks window) window → line_size ≤ length line
      → Run limit offset window line answer line_after → (answer.verdict.number ≡ 0 → ⊥) → Tells answer.verdict text → Steps limit file (suc n) offset text

-- .. and from the header on
pub data Job (file : List ℕ) : List ℕ → Type 0 where
  opens : (window line line_after : List ℕ) (answer : Opened) (text : List ℕ) → First file window → line_size ≤ length line → Open window line answer line_after
      → answer.verdict.number ≡ 0 → Steps answer.limit file answer.count answer.next text → Job file (take answer.length line_after ++ text)
  closed : (window line line_after : List ℕ) (answer : Opened) (text : List ℕ) → First file window → line_size ≤ length line → Open window line answer line_after
      → (answer.verdict.number ≡ 0 → ⊥) → Tells answer.verdict text → Job file text

-- for every file of either version: such a program prints what is defined, and nothing else, however its windows are cut
abbrev pub JobPrints : Type 0
JobPrints = (file text : List ℕ) → Job file text ↔ (text ≡ printed file)

-- each promise allows one outcome
abbrev pub OpenOnce : Type 0
OpenOnce = (window line : List ℕ) (a b : Opened) (x y : List ℕ) → Open window line a x → Open window line b y → (a ≡ b) × (x ≡ y)

abbrev pub RunOnce : Type 0
RunOnce = (limit offset : ℕ) (window line : List ℕ) (a b : Ran) (x y : List ℕ) → Run limit offset window line a x → Run limit offset window line b y → (a ≡ b) × (x ≡ y)

abbrev pub EndOnce : Type 0
EndOnce = (limit offset : ℕ) (window : List ℕ) (a b : Verdict) → a ≡ end_verdict limit offset window → b ≡ end_verdict limit offset window → a ≡ b

-- the worked example of docs/RULES.md, 'Job file and program': 53 4C 54 00 01 01 03 01 01 01 00 01 01 00 prints the lines SLT 1 1 and DPCH 1 1 1101101100; as a file of
-- version 2, with its count in two bytes, it prints the same but for the version
abbrev pub example_record : List ℕ
example_record = 3 ∷ 1 ∷ 1 ∷ 1 ∷ 0 ∷ 1 ∷ 1 ∷ 0 ∷ []

abbrev pub example_line : List ℕ
example_line = 68 ∷ 80 ∷ 67 ∷ 72 ∷ 32 ∷ 49 ∷ 32 ∷ 49 ∷ 32 ∷ 49 ∷ 49 ∷ 48 ∷ 49 ∷ 49 ∷ 48 ∷ 49 ∷ 49 ∷ 48 ∷ 48 ∷ 10 ∷ []

pub record Worked : Type 0 where
  pub example : printed (83 ∷ 76 ∷ 84 ∷ 0 ∷ 1 ∷ 1 ∷ example_record) ≡ (83 ∷ 76 ∷ 84 ∷ 32 ∷ 49 ∷ 32 ∷ 49 ∷ 10 ∷ []) ++ example_line
  pub of_version_2 : printed (83 ∷ 76 ∷ 84 ∷ 0 ∷ 2 ∷ 0 ∷ 1 ∷ example_record) ≡ (83 ∷ 76 ∷ 84 ∷ 32 ∷ 50 ∷ 32 ∷ 49 ∷ 10 ∷ []) ++ example_line
