-- `kinds::check_second` meets its contract: each arm is the definition's for its kind.
use mathlib.Core.Path.{◌∙◌}
use Rattle.kinds.specs.Rule.{by_kind, second_verdict}
use Rattle.kinds.proofs.check_second.Goals as goal

pub returns-in-Aich : goal.returns-in-Aich
unfolding second_verdict by_kind
returns-in-Aich c = rw c.in-Aich.is

pub returns-in-Pich : goal.returns-in-Pich
unfolding second_verdict by_kind
returns-in-Pich c = c.require.ensures ∙ rw (c.is_np.ensures, c.in-Pich.is)

pub returns-in-Dpch : goal.returns-in-Dpch
unfolding second_verdict by_kind
returns-in-Dpch c = c.require-in-Dpch.ensures ∙ rw c.in-Dpch.is
