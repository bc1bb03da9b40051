-- Arguments for which the calls of the bank give each of their numbers, in the order of the list. All fit the types of include/slt.h.
-- Assumes nothing.
use mathlib.Core.Path.{refl}
use mathlib.Core.List.{List, [], ◌∷◌, ◌++◌}
use Prim.Native.Nat.{ℕ, ◌+◌}
use lib.ListN.{replicate}
use Rattle.run.specs.Fields.{joined, total}
use Rattle.run.specs.First.{first_bad}
use Rattle.run.specs.Verdicts.{or_else, unless, each, leaves}
use Rattle.bank.specs.Slots.{has, fetched, taken, is_length, is_slot, is_list}
use Rattle.bank.specs.Layout.{slot_bytes, run, head, layout, length_in, first_slot, slots_from, four_at, total_in, slots_in, begins, is_room, is_bank}
use Rattle.bank.specs.Plain as plain
use Rattle.bank.specs.Outcome as bank
use Rattle.numbers.specs.Rule as c
use Rattle.numbers.specs.Rule.{refusals}
use Rattle.numbers.specs.Outcome as by
use Rattle.numbers.specs.Exact.{Gives}
use Rattle.numbers.proofs.Laws.{Each, end, ◌▸◌, gives}

-- a bank that holds a slot of ten zeros under number 5, and has room for so many bytes more
abbrev holding5 : ℕ → List ℕ
holding5 room = head 22 ++ (5 ∷ 0 ∷ 0 ∷ 10 ∷ []) ++ replicate (10 + room) 0

abbrev ten : List ℕ
ten = replicate 10 0

pub bank_empty : Each (Gives c.bank_empty) (0 ∷ refusals c.bank_empty)
unfolding refusals unless is_room bank.empty_verdict
bank_empty =
    gives (by.bank_empty (replicate 8 0) _ _ (record { answer_is = refl; bank_is = refl })) refl
    ▸ gives (by.bank_empty [] _ _ (record { answer_is = refl; bank_is = refl })) refl
    ▸ end

pub bank_store : Each (Gives c.bank_store) (0 ∷ refusals c.bank_store)
unfolding refusals unless or_else is_room is_list is_slot is_length first_bad has taken total joined layout head run slot_bytes length_in first_slot slots_from four_at total_in slots_in begins is_bank each plain.store_plain bank.store_verdict
bank_store =
    gives (by.bank_store (holding5 14) 6 ten _ _ (record { answer_is = refl; bank_is = refl })) refl
    ▸ gives (by.bank_store (holding5 14) 6 [] _ _ (record { answer_is = refl; bank_is = refl })) refl
    ▸ gives (by.bank_store (holding5 14) 6 (replicate 10 3) _ _ (record { answer_is = refl; bank_is = refl })) refl
    ▸ gives (by.bank_store (holding5 14) 256 ten _ _ (record { answer_is = refl; bank_is = refl })) refl
    ▸ gives (by.bank_store [] 6 ten _ _ (record { answer_is = refl; bank_is = refl })) refl
    ▸ gives (by.bank_store (holding5 14) 5 ten _ _ (record { answer_is = refl; bank_is = refl })) refl
    ▸ gives (by.bank_store (holding5 13) 6 ten _ _ (record { answer_is = refl; bank_is = refl })) refl
    ▸ end

pub bank_fetch : Each (Gives c.bank_fetch) (0 ∷ refusals c.bank_fetch)
unfolding refusals unless or_else is_room is_list is_slot is_length first_bad has taken total joined layout head run slot_bytes length_in first_slot slots_from four_at total_in slots_in begins is_bank fetched plain.drop_plain plain.fetch_plain bank.fetch_verdict
bank_fetch =
    gives (by.bank_fetch (holding5 0) 5 ten _ _ (record { answer_is = refl; out_is = refl })) refl
    ▸ gives (by.bank_fetch (holding5 0) 5 [] _ _ (record { answer_is = refl; out_is = refl })) refl
    ▸ gives (by.bank_fetch (holding5 0) 256 ten _ _ (record { answer_is = refl; out_is = refl })) refl
    ▸ gives (by.bank_fetch [] 5 ten _ _ (record { answer_is = refl; out_is = refl })) refl
    ▸ gives (by.bank_fetch (holding5 0) 6 ten _ _ (record { answer_is = refl; out_is = refl })) refl
    ▸ end

pub bank_drop : Each (Gives c.bank_drop) (0 ∷ refusals c.bank_drop)
unfolding refusals unless or_else is_room is_list is_slot is_length first_bad has taken total joined layout head run slot_bytes length_in first_slot slots_from four_at total_in slots_in begins is_bank plain.drop_plain bank.drop_verdict
bank_drop =
    gives (by.bank_drop (holding5 0) 5 _ _ (record { answer_is = refl; bank_is = refl })) refl
    ▸ gives (by.bank_drop (holding5 0) 256 _ _ (record { answer_is = refl; bank_is = refl })) refl
    ▸ gives (by.bank_drop [] 5 _ _ (record { answer_is = refl; bank_is = refl })) refl
    ▸ gives (by.bank_drop (holding5 0) 6 _ _ (record { answer_is = refl; bank_is = refl })) refl
    ▸ end

pub bank_length : Each (Gives c.bank_length) (0 ∷ refusals c.bank_length)
unfolding refusals unless or_else is_room is_list is_slot is_length first_bad has taken total joined layout head run slot_bytes length_in first_slot slots_from four_at total_in slots_in begins is_bank leaves fetched plain.drop_plain bank.drop_verdict
bank_length =
    gives (by.bank_length (holding5 0) 5 _ (record { answer_is = refl })) refl
    ▸ gives (by.bank_length (holding5 0) 256 _ (record { answer_is = refl })) refl
    ▸ gives (by.bank_length [] 5 _ (record { answer_is = refl })) refl
    ▸ gives (by.bank_length (holding5 0) 6 _ (record { answer_is = refl })) refl
    ▸ end

pub bank_room : Each (Gives c.bank_room) (0 ∷ refusals c.bank_room)
unfolding refusals unless or_else is_room is_list is_slot is_length first_bad has taken total joined layout head run slot_bytes length_in first_slot slots_from four_at total_in slots_in begins is_bank leaves bank.room_verdict
bank_room =
    gives (by.bank_room (holding5 0) _ (record { answer_is = refl })) refl
    ▸ gives (by.bank_room [] _ (record { answer_is = refl })) refl
    ▸ end
