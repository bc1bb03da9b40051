-- `kinds::Kind::try_from` meets its contract.
use mathlib.Core.Path.{refl}
use native.Mathlib.Omega.{arith}
use Rattle.kinds.proofs.ByKind.{no_kind}
use Rattle.kinds.proofs.KindTryFromU8.try_from.Goals as goal

pub returns-in_default : goal.returns-in_default
returns-in_default c = (refl, no_kind _ (λ e. grind arith) (λ e. grind arith) (λ e. grind arith))
