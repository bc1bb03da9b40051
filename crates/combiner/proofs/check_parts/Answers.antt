-- `combiner::check_parts` meets its contract.
use mathlib.Core.Path.{sym, ap, ◌∙◌}
use Rattle.run.specs.Refusals.{range_refused}
use Rattle.run.specs.Verdicts.{each}
use Rattle.combiner.specs.Outcome.{part_in}
use Rattle.aich.proofs.Outside.{none_outside, some_outside}
use Rattle.combiner.proofs.check_parts.Goals as goal

pub returns-in-None : goal.returns-in-None
returns-in-None c = none_outside 4 _ _ _ (sym c.outside.ensures ∙ c.in-None.is) ∙ ap (each 4 range_refused (part_in c.args.received.now)) c.requires

pub returns-in-Some : goal.returns-in-Some
returns-in-Some c =
    some_outside 4 _ _ _ _ (sym c.outside.ensures ∙ c.in-Some.is) c.require.ensures
    ∙ ap (each 4 range_refused (part_in c.args.received.now)) c.requires
