-- `bank::head_total` meets its contract: a header stands there exactly when each test passes.
use mathlib.Core.Path.{◌≡◌, sym, ◌∙◌}
use mathlib.Core.Bool.{false≢true}
use native.Mathlib.Omega.{arith}
use Rattle.bank.specs.Layout.{total_in}
use Rattle.bank.proofs.Front.{room_low, total_there, total_none}
use Rattle.bank.proofs.Nonzero.{none_is, some_is}
use Rattle.bank.proofs.head_total.Goals as goal
use Rattle.bank.proofs.head_total.Goals.{then-not-is_room-via-then-not-is_room, then-not-is_room-via-else-not-is_room+then-four_at-ne-MARK, then-total-lt8-via-then-total-lt8, then-total-lt8-via-else-total-lt8+then-bank-total}

pub returns-then-not-is_room : goal.returns-then-not-is_room
returns-then-not-is_room c =
    none_is (total_none _ (λ f.
    elim c.then-not-is_room.branch [
      | then-not-is_room-via-then-not-is_room w ↦ false≢true (sym w.if-not-is_room.true ∙ c.is_room.ensures ∙ f.room)
      | then-not-is_room-via-else-not-is_room+then-four_at-ne-MARK w ↦ w.if-four_at-ne-MARK.true (w.four_at.ensures ∙ f.mark)
    ]))

pub four_at-total-requires : goal.four_at-total-requires
four_at-total-requires c = let r = (room_low _ (sym c.is_room.ensures ∙ c.if-not-is_room.false)).0 in omega arith

pub four_at-requires : goal.four_at-requires
four_at-requires c = let r = (room_low _ (sym c.is_room.ensures ∙ c.if-not-is_room.false)).0 in omega arith

pub returns-then-total-lt8 : goal.returns-then-total-lt8
unfolding total_in
returns-then-total-lt8 c =
    none_is (total_none _ (λ f.
    let low = f.low in
    let fits = f.fits in
    let told = c.four_at-total.ensures in
    elim c.then-total-lt8.branch [
      | then-total-lt8-via-then-total-lt8 w ↦ let z : ⊥ = omega arith in z
      | then-total-lt8-via-else-total-lt8+then-bank-total w ↦ let z : ⊥ = omega arith in z
    ]))

pub returns : goal.returns
unfolding total_in
returns c =
    let told = c.four_at-total.ensures in
    some_is
    (told
    ∙ sym (total_there c.args.bank.now (λ k. (c.type_inv.bank k).fits)
    (record {
      room = sym c.is_room.ensures ∙ c.if-not-is_room.false;
      mark = sym c.four_at.ensures ∙ c.if-four_at-ne-MARK.false;
      low = omega arith;
      fits = omega arith;
    })))
    (omega arith)
