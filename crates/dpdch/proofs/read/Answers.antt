-- `dpdch::read` meets its contract.
use mathlib.Core.Path.{◌∙◌}
use native.Mathlib.Nat.{one-mul}
use Rattle.dpdch.specs.Rule.{data_in}
use Rattle.dpdch.proofs.Laws.{data_plain, carried}
use Rattle.dpdch.proofs.read.Goals as goal

pub returns : goal.returns
returns c =
    let e = c.carry.ensures in
    record { verdict_is = e.verdict_is; data_is = carried (data_in _) (λ h. data_plain _ _ (h ∙ one-mul _)) e }
