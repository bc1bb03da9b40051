-- `pich::is_np` meets its contract.
use Rattle.pich.proofs.Laws.{np_named, np_unnamed}
use Rattle.pich.proofs.is_np.Goals as goal
use native.Mathlib.Omega.{arith}

pub returns-in-18 : goal.returns-in-18
returns-in-18 c = np_named _ c.in-18.is

pub returns-in_default : goal.returns-in_default
returns-in_default c = np_unnamed _ (λ e. grind arith)
