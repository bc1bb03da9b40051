-- `pccpch_read::take_given` meets its contract: the data that was taken is kept where it gives both frames.
use mathlib.Core.Bool.{false≢true}
use mathlib.Core.Path.{refl, sym, ◌∙◌}
use Rattle.pccpch_read.proofs.Laws.{given_accepted}
use Rattle.pccpch_read.proofs.take_given.Goals as goal

pub returns-then-is_given : goal.returns-then-is_given
returns-then-is_given c =
    let good = sym c.is_given.ensures ∙ c.if-is_given.true in (
      λ e.
          (given_accepted c.args.antenna1.now c.args.antenna2.now c.requires.0 c.requires.1 c.take_data.ensures good, c.copy_from_slice.ensures.after ∙ c.take_data.ensures),
      λ e. absurd (false≢true (sym e)),
    )

pub returns : goal.returns
returns c = (λ e. absurd (false≢true e), λ e. refl)
