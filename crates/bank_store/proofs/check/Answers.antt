-- `bank_store::check` meets its contract: the checks are the plain list's, in terms of what the look told, and the first that refuses ends them.
use mathlib.Core.Path.{◌≡◌, sym, ap, ◌∙◌}
use mathlib.Core.Bool.{true, not}
use mathlib.Core.List.{List}
use Prim.Native.Nat.{ℕ, ◌≤◌}
use native.Mathlib.Omega.{arith}
use Rattle.run.proofs.Answers.{stops, goes_on, found_each}
use Rattle.run.proofs.Places.{above_first}
use Rattle.bank.specs.Slots.{has}
use Rattle.bank.specs.Layout.{slots_in}
use Rattle.bank.specs.Plain.{store_plain}
use Rattle.bank.proofs.Told.{looked_total, looked_low, looked_new}
use Rattle.bank_store.proofs.check.Goals as goal

pub returns-in_err-require : goal.returns-in_err-require
unfolding store_plain
returns-in_err-require c = stops _ _ _ c.from_residual.ensures.1 c.in_err-require.ensures

pub returns-in_err-require-2 : goal.returns-in_err-require-2
unfolding store_plain
returns-in_err-require-2 c =
    goes_on c.in_ok-require.ensures
    (stops _ _ _ c.from_residual-in_err-require-2.ensures.1 (c.in_err-require-2.ensures ∙ rw c.is_length.ensures))

pub returns-in_err-refused_at : goal.returns-in_err-refused_at
unfolding store_plain
returns-in_err-refused_at c =
    goes_on c.in_ok-require.ensures
    (goes_on (c.in_ok-require-2.ensures ∙ rw c.is_length.ensures)
    (stops _ _ _ c.from_residual-in_err-refused_at.ensures.1 (found_each _ _ _ _ c.above.result (above_first _ _ c.above.ensures) c.in_err-refused_at.ensures)))

pub returns-in_err-require-3 : goal.returns-in_err-require-3
unfolding store_plain
returns-in_err-require-3 c =
    goes_on c.in_ok-require.ensures
    (goes_on (c.in_ok-require-2.ensures ∙ rw c.is_length.ensures)
    (goes_on (found_each _ _ _ _ c.above.result (above_first _ _ c.above.ensures) c.in_ok-refused_at.ensures)
    (stops _ _ _ c.from_residual-in_err-require-3.ensures.1 (c.in_err-require-3.ensures ∙ rw (looked_new _ _ c.requires c.is_none.ensures)))))

pub overflow_add-fits-2 : goal.overflow_add-fits-2
overflow_add-fits-2 c = let low = looked_low _ _ c.requires in grind arith

pub returns : goal.returns
unfolding store_plain
returns c =
    goes_on c.in_ok-require.ensures
    (goes_on (c.in_ok-require-2.ensures ∙ rw c.is_length.ensures)
    (goes_on (found_each _ _ _ _ c.above.result (above_first _ _ c.above.ensures) c.in_ok-refused_at.ensures)
    (goes_on (c.in_ok-require-3.ensures ∙ rw (looked_new _ _ c.requires c.is_none.ensures))
    (c.require-4.ensures ∙ rw (looked_total _ _ c.requires)))))
