-- `sample::is_level` meets its contract: the two tests are those of `is_level`, and the two literals are its bounds.
use mathlib.Core.Path.{◌∙◌}
use lib.Ieee.{of_bits, le}
use Rattle.sample.specs.Rule.{lowest, highest, is_level}
use Rattle.sample.proofs.Laws.{both_tests, first_fails}
use Rattle.sample.proofs.is_level.Goals as goal

pub returns-then-x : goal.returns-then-x
unfolding is_level of_bits
returns-then-x c =
    let x = c.args.x in
    both_tests (le lowest x) (le x highest) c.if-x.true

pub returns-else-x : goal.returns-else-x
unfolding is_level of_bits
returns-else-x c =
    let x = c.args.x in
    c.if-x.false ∙ first_fails (le lowest x) (le x highest) c.if-x.false
