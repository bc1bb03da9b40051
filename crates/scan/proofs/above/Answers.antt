-- `scan::above` meets its contract: where the highest digit is low enough there is no place.
use mathlib.Core.Path.{◌≡◌}
use mathlib.Core.Bool.{true}
use mathlib.Core.List.{List}
use Prim.Native.Nat.{ℕ, ◌≤◌}
use native.Mathlib.Omega.{arith}
use borrow.Author.Tests.{le-leb, leb-true}
use lib.Dec.{ltb}
use lib.ListN.{get_or}
use Rattle.run.specs.First.{at_most}
use Rattle.run.proofs.Places.{position_none, above_opposite}
use Rattle.scan.proofs.above.Goals as goal

weaker : (s : List ℕ) (low top k : ℕ) → low ≤ top → at_most low s k ≡ true → at_most top s k ≡ true
weaker s low top k h e = let l : get_or s k 0 ≤ low = leb-true _ _ e in le-leb (get_or s k 0) top (omega arith)

pub returns-then-highest-top : goal.returns-then-highest-top
returns-then-highest-top c =
    position_none (ltb c.args.top) (at_most c.args.top c.args.s.now) 0 c.args.s.now (above_opposite c.args.top c.args.s.now)
    (λ k h. weaker c.args.s.now _ _ k c.if-highest-top.true (c.highest.ensures k h))
