-- `compressed_read::slots::lowest` meets its contract: the bound is lowered to each digit below it.
use Prim.Native.Nat.{ℕ, ◌≤◌}
use native.Mathlib.Omega.{arith}
use borrow.Author.Count.{below_none, below_more}
use lib.ListN.{get_or}
use Rattle.compressed_read.proofs.slots.lowest.Goals as goal
use Rattle.compressed_read.proofs.slots.lowest.Goals.{then-s-i, else-s-i}

pub loop-i-init : goal.loop-i-init
loop-i-init c = below_none _

pub loop-i-preserved : goal.loop-i-preserved
loop-i-preserved c =
    let head = c in
    let s = head.args.s.now in
    let under : (c.if-s-i.low ≤ head.loop-i.low) × (c.if-s-i.low ≤ get_or s head.loop-i.i 0) =
    elim c.if-s-i.branch [ then-s-i w ↦ omega arith | else-s-i w ↦ omega arith ]
    in
    below_more (λ (k : ℕ). c.if-s-i.low ≤ get_or s k 0) head.loop-i.i (λ k h. let m = head.loop-i.invariant k h in omega arith) under.1

pub returns : goal.returns
returns c = λ k h. c.loop-i.invariant k (omega arith)
