-- `scan::all_at_most` meets its contract: a pass over the places at the test `at_most top s`.
use mathlib.Core.Path.{◌≡◌, ◌∙◌}
use mathlib.Core.List.{List}
use lib.ListN.{length, take, get_or}
use Rattle.std.proofs.lemmas.List.{length-take-le, get_or-take}
use Prim.Native.Nat.{ℕ, ◌<◌, ◌≤◌}
use native.Mathlib.Omega.{arith}
use borrow.Author.Tests.{le-leb, lt-leb}
use Rattle.run.proofs.Passing.{pass_start, pass_good, pass_bad, pass_end}
use Rattle.scan.proofs.all_at_most.Goals as goal
use Rattle.scan.proofs.all_at_most.Goals.{then-top-digit, else-top-digit}

pub returns-then-s-n : goal.returns-then-s-n
returns-then-s-n c = rw (lt-leb _ _ c.if-s-n.true)

pub loop-digit-init : goal.loop-digit-init
loop-digit-init c = pass_start

-- a digit of the front, as the pass reads it
here : (s : List ℕ) (n k : ℕ) → n ≤ length s → k < length (take n s) → (k < n) × (get_or (take n s) k 0 ≡ get_or s k 0)
here s n k le l =
    let e : length (take n s) ≡ n = length-take-le n s le in
    let h : k < n = omega arith in
    (h, get_or-take n s k 0 h)

pub loop-digit-preserved : goal.loop-digit-preserved
loop-digit-preserved c =
    let here-is = here c.args.s.now c.args.n c.loop-digit.digit-index c.if-s-n.false c.loop-digit-test.true in
    let inv = c.loop-digit.invariant in
    elim c.if-top-digit.branch [ then-top-digit w ↦ rw w.good-is (pass_bad inv here-is.0 (lt-leb _ _ (rw here-is.1 at w.if-top-digit.true))) | else-top-digit w ↦ rw w.good-is (pass_good inv here-is.0 (le-leb _ _ (rw here-is.1 at w.if-top-digit.false))) ]

pub returns : goal.returns
returns c =
    let e : length (take c.args.n c.args.s.now) ≡ c.args.n = length-take-le _ _ c.if-s-n.false in
    pass_end c.loop-digit.invariant (omega arith) ∙ rw (le-leb _ _ c.if-s-n.false)
