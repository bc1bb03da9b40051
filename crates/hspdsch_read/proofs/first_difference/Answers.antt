-- `hspdsch_read::first_difference` meets its contract: every stretch that is passed agrees.
use mathlib.Core.Path.{◌≡◌, subst}
use Prim.Native.Nat.{ℕ, ◌+◌, ◌*◌}
use native.Mathlib.Omega.{arith}
use borrow.Author.Count.{below_none}
use lib.ListN.{length}
use Rattle.run.specs.First.{Every, agree}
use Rattle.hspdsch.specs.Rule.{coded}
use Rattle.hspdsch.specs.Outcome.{flip}
use Rattle.hspdsch.proofs.Laws.{coded_length}
use Rattle.run.proofs.Lent.{part_length}
use Rattle.hspdsch_read.proofs.Laws.{below_here, differs_here, agrees_here, none_differs}
use Rattle.hspdsch_read.proofs.first_difference.Goals as goal

pub loop-k-init : goal.loop-k-init
loop-k-init c = below_none _

pub stretch_differs-requires : goal.stretch_differs-requires
stretch_differs-requires c = (part_length c.args.antenna1.now (64 * c.loop-k.k) 64 (omega arith), part_length c.args.antenna2.now (64 * c.loop-k.k) 64 (omega arith))

pub overflow_add-result : goal.overflow_add-result
overflow_add-result c =
    let l =
    below_here c.args.format c.args.antenna1.now c.args.antenna2.now c.requires.0 c.requires.1 {i = 64 * c.loop-k.k} (omega arith) (omega arith) c.loop-k.invariant c.stretch_differs.ensures c.in-Some.j c.in-Some.is in
    omega (arith, l)

pub returns-in-Some : goal.returns-in-Some
returns-in-Some c =
    differs_here c.args.format c.args.antenna1.now c.args.antenna2.now c.requires.0 c.requires.1 (omega arith) (omega arith) c.loop-k.invariant c.stretch_differs.ensures c.in-Some.j c.in-Some.is

pub loop-k-preserved : goal.loop-k-preserved
loop-k-preserved c =
    let step : 64 * c.loop-k.k + 64 ≡ 64 * (c.loop-k.k + 1) = omega arith in
    subst (λ (n : ℕ). Every (agree (coded flip c.args.format c.args.antenna1.now) c.args.antenna2.now) n) step
    (agrees_here c.args.format c.args.antenna1.now c.args.antenna2.now c.requires.0 c.requires.1 (omega arith) (omega arith) c.loop-k.invariant c.stretch_differs.ensures c.in_default.is)

pub returns : goal.returns
returns c =
    let all : 64 * c.loop-k.k ≡ length c.args.antenna1.now = omega arith in
    none_differs (coded flip c.args.format c.args.antenna1.now) c.args.antenna2.now _ (coded_length flip c.args.antenna1.now (omega arith) c.args.format) c.requires.1 (rw all at c.loop-k.invariant)
