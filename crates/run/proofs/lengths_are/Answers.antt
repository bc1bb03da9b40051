-- `run::lengths_are` meets its contract: the place is the first at which a length is not right.
use mathlib.Core.Path.{◌≡◌, refl, sym, ap, ◌∙◌}
use mathlib.Core.Bool.{Bool, true, not}
use mathlib.Core.List.{List}
use Prim.Native.Nat.{ℕ}
use lib.ListN.{length, get_or}
use Rattle.std.specs.List.{position}
use Rattle.std.specs.Option.{unwrap_or}
use Rattle.std.specs.Prelude.{Option, Some, None}
use Rattle.run.specs.First.{first_bad}
use Rattle.run.specs.Verdicts.{lengths, unless}
use Rattle.run.proofs.Answers.{each_none, each_some}
use Rattle.run.proofs.Places.{position_first, position_below}
use Rattle.run.proofs.lengths_are.Goals as goal

-- what the search for a wrong length answers, in the words of the check
wrong : (right : List Bool) {r s : Option ℕ} → r ≡ position not right → r ≡ s → unwrap_or s (length right) ≡ first_bad (λ (k : ℕ). get_or right k true) (length right)
wrong right e is = ap (λ o. unwrap_or o (length right)) (sym is ∙ e) ∙ position_first not (λ (k : ℕ). get_or right k true) true right (λ k l. refl)

pub returns-in-None : goal.returns-in-None
unfolding lengths
returns-in-None c = each_none 0 3 _ _ (wrong c.args.right.now c.first_wrong.ensures c.in-None.is)

pub returns-in-Some : goal.returns-in-Some
unfolding lengths unless
returns-in-Some c = c.require.ensures ∙ each_some 3 _ _ (wrong c.args.right.now c.first_wrong.ensures c.in-Some.is) (position_below not c.args.right.now _ (sym c.first_wrong.ensures ∙ c.in-Some.is))
