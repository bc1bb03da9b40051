-- `bank_store::empty` meets its contract.
use mathlib.Core.Path.{◌≡◌, sym, ap, ◌∙◌}
use mathlib.Core.List.{List, [], append-nil}
use Prim.Native.Nat.{ℕ}
use Rattle.run.specs.Fields.{total, joined}
use Rattle.run.specs.Written.{over}
use Rattle.run.proofs.Answers.{handed, left, written}
use Rattle.bank.specs.Slots.{taken}
use Rattle.bank.specs.Layout.{run, head, layout}
use Rattle.bank.specs.Outcome.{empty_verdict}
use Rattle.bank_store.proofs.empty.Goals as goal

-- a list with no slot is a header
no_slots : layout [] ≡ head 8
unfolding layout run joined taken total
no_slots = append-nil (head 8)

pub returns-in_err-require : goal.returns-in_err-require
unfolding empty_verdict
returns-in_err-require c =
    let v = c.in_err-require.ensures ∙ rw c.is_room.ensures in
    record { verdict_is = handed _ _ c.from_residual.ensures.1 ∙ v; bank_is = left _ _ _ v }

pub returns : goal.returns
unfolding empty_verdict
returns c =
    let v = c.in_ok-require.ensures ∙ rw c.is_room.ensures in
    record { verdict_is = v; bank_is = written _ _ v (c.put_head.ensures ∙ ap (λ (l : List ℕ). over l c.args.bank.now) (sym no_slots)) }
