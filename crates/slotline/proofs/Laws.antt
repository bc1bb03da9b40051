-- Parts of a buffer: what is written into one stays within it, and what is kept of a window.
-- Assumes nothing.
use mathlib.Core.Path.{◌≡◌, ap}
use mathlib.Core.List.{List, ◌++◌}
use Prim.Native.Nat.{ℕ, ◌+◌, ◌-◌, ◌≤◌}
use native.Mathlib.Nat.{zero-add}
use native.Mathlib.Omega.{arith}
use borrow.Rule.Slice.PartMut.{mid_of, mid_len}
use Rattle.std.specs.List.{copy_within}
use lib.ListN.{length, take, drop, length-take, length-drop}
use lib.Seq.{length-take-le, take_all}
use Rattle.run.specs.Written.{over}
use Rattle.job.specs.Answers.{Opened, Ran}
use Rattle.job.specs.Outcome.{Open, Run}
use Rattle.job.proofs.Headed.{run_fits, open_fits}

-- n bytes of a part from a to e that was lent and came back with m
pub part_fits : (a e : ℕ) (xs : List ℕ) (n m : ℕ) → n ≤ m → m ≡ length (mid_of a (e - a) xs) → a ≤ e → e ≤ length xs → a + n ≤ e
part_fits a e xs n m h l s t = let k = mid_len a e xs t in omega arith

-- the part from a to e, moved to the front
pub kept_part : (a e : ℕ) (xs : List ℕ) → a ≤ e → e ≤ length xs → copy_within xs a e 0 ≡ over (take (e - a) (drop a xs)) xs
unfolding over
kept_part a e xs h t =
    let d = length-drop a xs in
    let long : length (take (e - a) (drop a xs)) ≡ e - a = length-take-le (e - a) (drop a xs) (omega arith) in
    rw (take_all (length xs) (take (e - a) (drop a xs)) (omega arith), long) (ap (λ (n : ℕ). take (e - a) (drop a xs) ++ drop n xs) (zero-add (e - a)))

-- a record of the window from a to e ends before e, and the first record begins in the window
pub record_inside : (a e : ℕ) (xs : List ℕ) {limit offset : ℕ} {line : List ℕ} {answer : Ran} {line' : List ℕ} → Run limit offset (take (e - a) (drop a xs)) line answer line' → answer.size ≤ e - a
record_inside a e xs r =
    let l = length-take (e - a) (drop a xs) in
    let h = run_fits r in
    omega arith

pub header_inside : (e : ℕ) (xs : List ℕ) {line : List ℕ} {answer : Opened} {line' : List ℕ} → Open (take (e - 0) (drop 0 xs)) line answer line' → answer.next ≤ e
header_inside e xs r =
    let l = length-take (e - 0) (drop 0 xs) in
    let h = open_fits r in
    omega arith
