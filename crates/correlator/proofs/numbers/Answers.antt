-- `correlator::numbers` meets its contract: the types of its parameters bound them, and nothing else is asked.
use mathlib.Core.Path.{ap, ◌∙◌}
use mathlib.Core.List.{List}
use lib.IntN.{ℤ}
use borrow.Author.Rules.{rules}
use Rattle.signature.specs.Folding.{folds}
use Rattle.correlator.specs.Rule.{combined}
use Rattle.correlator.specs.Method.{Small, Parts, pair_sums, depth}
use Rattle.correlator.proofs.Typed.{gain_small, parts_small}
use Rattle.correlator.proofs.Pairs.{pairs_room}
use Rattle.correlator.proofs.Combining.{combined_small, numbers_are}
use Rattle.correlator.proofs.numbers.Goals as goal
use Rattle.correlator.proofs.numbers.Goals.{After-from-2}

-- what is known of gains and parts by their types
bounds : (c : After-from-2) → Small 32768 c.from.result × Small 32768 c.from-2.result × Parts 2147483648 c.args.received
bounds c = (
  rw c.from.ensures (gain_small (record { sfits = search rules }) (record { sfits = search rules })),
  rw c.from-2.ensures (gain_small (record { sfits = search rules }) (record { sfits = search rules })),
  parts_small c.well_formed.1.1.0,
)

pub pair_sums-sums-requires : goal.pair_sums-sums-requires
pair_sums-sums-requires c = bounds (goal.at.pair_sums-sums-requires c).After-from-2

pub fold-requires : goal.fold-requires
fold-requires c =
    let s = bounds (goal.at.fold-requires c).After-from-2 in
    rw c.pair_sums-sums.ensures (pairs_room _ (combined_small _ _ _ s.0 s.1 s.2))

pub returns : goal.returns
returns c =
    c.fold.ensures ∙ ap (λ (y : List ℤ). folds (depth y) y) c.pair_sums-sums.ensures
    ∙ (λ i. folds (depth (pair_sums (combined (c.from.ensures i) (c.from-2.ensures i) c.args.received))) (pair_sums (combined (c.from.ensures i) (c.from-2.ensures i) c.args.received)))
    ∙ numbers_are _ _ _
