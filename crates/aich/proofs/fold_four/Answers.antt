-- `aich::fold_four` meets its contract: the sum of four numbers within 64 fits.
use mathlib.Core.List.{[], ◌∷◌}
use lib.Dec.{lit<}
use lib.IntN.{ℤ}
use mir.Syntax.{w32}
use Rattle.whole.specs.Bound.{Bounded}
use Rattle.aich.specs.Method.{fold_four}
use Rattle.aich.proofs.Folding.{Four, fourth_fits, first_is, second_is, third_is, fourth_is}
use Rattle.aich.proofs.fold_four.Goals as goal

four : {a b c d : ℤ} → Bounded 64 a × Bounded 64 b × Bounded 64 c × Bounded 64 d → Four w32 a b c d
four p = record { bound = 64; a_in = p.0; b_in = p.1; c_in = p.2; d_in = p.3; room = lit< tt }

pub overflow_sub-result-6 : goal.overflow_sub-result-6
overflow_sub-result-6 c = fourth_fits (four c.requires)

pub returns : goal.returns
unfolding fold_four
returns c = let f = four c.requires in λ i. first_is f i ∷ second_is f i ∷ third_is f i ∷ fourth_is f i ∷ []
