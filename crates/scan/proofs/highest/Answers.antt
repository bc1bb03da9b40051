-- `scan::highest` meets its contract: the bound is raised to each digit above it.
use Prim.Native.Nat.{◌≤◌}
use native.Mathlib.Omega.{arith}
use borrow.Author.Count.{below_none}
use lib.ListN.{get_or}
use Rattle.run.proofs.First.{raised}
use Rattle.scan.proofs.highest.Goals as goal
use Rattle.scan.proofs.highest.Goals.{then-high-digit, else-high-digit}

pub loop-digit-init : goal.loop-digit-init
loop-digit-init c = below_none _

pub loop-digit-preserved : goal.loop-digit-preserved
loop-digit-preserved c =
    let s = c.args.s.now in
    let above : (c.loop-digit.high ≤ c.if-high-digit.high) × (get_or s c.loop-digit.digit-index 0 ≤ c.if-high-digit.high) =
    elim c.if-high-digit.branch [ then-high-digit w ↦ omega arith | else-high-digit w ↦ omega arith ]
    in
    raised s _ _ _ c.loop-digit.invariant above

pub returns : goal.returns
returns c = λ k h. c.loop-digit.invariant k (omega arith)
