-- `pich_read::take_given` meets its contract: each arm takes the indicators of the Np that it names.
use mathlib.Core.Path.{◌≡◌, refl, ◌∙◌}
use native.Mathlib.Omega.{arith}
use Rattle.pich.specs.Rule.{is_np}
use Rattle.pich.proofs.Laws.{last_np}
use Rattle.pich_read.proofs.take_given.Goals as goal
use Rattle.pich_read.proofs.take_given.Goals.{In_default}

-- the arm of all other numbers
rest-np : (c : In_default) → c.args.np ≡ 144
rest-np c = last_np _ c.requires.0 (λ e. grind arith) (λ e. grind arith) (λ e. grind arith)

pub take-requires : goal.take-requires
unfolding is_np
take-requires c = (refl, c.requires.1, c.requires.2 ∙ c.in-18.is)

pub take-requires-in-36 : goal.take-requires-in-36
unfolding is_np
take-requires-in-36 c = (refl, c.requires.1, c.requires.2 ∙ c.in-36.is)

pub take-requires-in-72 : goal.take-requires-in-72
unfolding is_np
take-requires-in-72 c = (refl, c.requires.1, c.requires.2 ∙ c.in-72.is)

pub take-requires-in_default : goal.take-requires-in_default
unfolding is_np
take-requires-in_default c = (refl, c.requires.1, c.requires.2 ∙ rest-np (goal.at.take-requires-in_default c).In_default)

pub returns-in-18 : goal.returns-in-18
returns-in-18 c = rw c.in-18.is c.take.ensures

pub returns-in-36 : goal.returns-in-36
returns-in-36 c = rw c.in-36.is c.take-in-36.ensures

pub returns-in-72 : goal.returns-in-72
returns-in-72 c = rw c.in-72.is c.take-in-72.ensures

pub returns-in_default : goal.returns-in_default
returns-in_default c = rw (rest-np (goal.at.returns-in_default c).In_default) c.take-in_default.ensures
