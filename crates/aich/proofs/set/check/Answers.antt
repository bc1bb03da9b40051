-- `aich::set::check` meets its contract: the lowest stray is told, and there is none where the pass found none.
use mathlib.Core.Path.{sym, ◌∙◌}
use borrow.Author.Tests.{leb-false}
use Rattle.run.proofs.Answers.{each_some}
use Rattle.run.proofs.Chain.{each_pass}
use Rattle.run.proofs.Passing.{all_every}
use Rattle.aich.specs.Outcome.{set_verdict}
use Rattle.aich.proofs.set.check.Goals as goal

pub returns-then-none_stray : goal.returns-then-none_stray
unfolding set_verdict
returns-then-none_stray c = sym (each_pass 0 26 _ 16 (all_every 16 _ (sym c.none_stray.ensures ∙ c.if-none_stray.true)))

pub returns : goal.returns
unfolding set_verdict
returns c =
    let e = c.first_stray.ensures in
    each_some 26 _ 16 e (rw e (leb-false _ _ (sym c.none_stray.ensures ∙ c.if-none_stray.false)))
