-- What bytes hold: a bank's bytes are the layout of what they read as, and whatever they hold is what they read as.
-- Assumes nothing.
use mathlib.Core.Path.{◌≡◌, sym, ap, ◌∙◌}
use mathlib.Core.Bool.{true}
use mathlib.Core.List.{List, ◌++◌, append_assoc}
use Prim.Native.Nat.{ℕ, ◌-◌, ◌≤◌}
use native.Mathlib.Omega.{arith}
use borrow.Author.Tests.{le-leb}
use lib.ListN.{length, take, drop, length-take, take-append-drop}
use lib.Seq.{take_at, take_all}
use Rattle.run.specs.Written.{over}
use Rattle.run.proofs.Bools.{and_left, and_right}
use Rattle.run.proofs.Over.{over_length}
use Rattle.bank.specs.Slots.{Slot, taken, is_list}
use Rattle.bank.specs.Layout.{run, head, layout, slots_from, total_in, slots_in, begins, is_room, is_bank}
use Rattle.bank.specs.Exact.{Holds}
use Rattle.bank.proofs.Front.{heads}
use Rattle.bank.proofs.Laws.{both, layout_length, run_length, total_read, head_passed, slots_read, count_total, begins_take, is_begins}

module _ {bytes : List ℕ} {ss : List Slot} (h : Holds bytes ss) where
  pub holds_is : bytes ≡ layout ss ++ drop (taken ss) bytes
  holds_is = sym (take-append-drop (taken ss) bytes) ∙ ap (λ (l : List ℕ). l ++ drop (taken ss) bytes) h.laid

  -- the slots fit
  pub holds_fits : taken ss ≤ length bytes
  holds_fits =
      let n : length (take (taken ss) bytes) ≡ taken ss = ap length h.laid ∙ layout_length ss in
      omega (arith, length-take (taken ss) bytes)

  -- .. behind a header
  pub holds_head : bytes ≡ head (taken ss) ++ (run ss ++ drop (taken ss) bytes)
  unfolding layout
  holds_head = holds_is ∙ append_assoc (head (taken ss)) (run ss) (drop (taken ss) bytes)

  pub holds_total : total_in bytes ≡ taken ss
  holds_total = ap total_in holds_head ∙ total_read (taken ss) (run ss ++ drop (taken ss) bytes)

  -- the bytes between the header and the total
  pub holds_run : take (total_in bytes - 8) (drop 8 bytes) ≡ run ss
  unfolding taken
  holds_run =
      let n = run_length ss in
      let t = holds_total in
      ap (λ (l : List ℕ). take (total_in bytes - 8) l) (ap (drop 8) holds_head ∙ head_passed (taken ss) (run ss ++ drop (taken ss) bytes))
      ∙ take_at (run ss) (drop (taken ss) bytes) (total_in bytes - 8) (omega arith)

  pub holds_slots : slots_in bytes ≡ ss
  unfolding slots_in taken
  holds_slots =
      let few = count_total ss in
      let fits = holds_fits in
      ap (slots_from (length bytes)) holds_run ∙ slots_read (length bytes) ss (omega arith)

  -- the header stands in front
  pub holds_heads : heads bytes ≡ true
  unfolding taken
  holds_heads =
      let t = holds_total in
      let fits = holds_fits in
      both h.room
      (both (ap (λ (n : ℕ). begins (head n) bytes) t ∙ ap (begins (head (taken ss))) holds_head ∙ is_begins (head (taken ss)) (run ss ++ drop (taken ss) bytes))
      (both (le-leb 8 (total_in bytes) (omega arith)) (le-leb (total_in bytes) (length bytes) (omega arith))))

  pub holds_bank : is_bank bytes ≡ true
  unfolding is_bank
  holds_bank =
      rw holds_slots
      (both h.room (both h.list (ap (begins (layout ss)) holds_is ∙ is_begins (layout ss) (drop (taken ss) bytes))))

pub bank_holds : (bytes : List ℕ) → is_bank bytes ≡ true → Holds bytes (slots_in bytes)
unfolding is_bank
bank_holds bytes e =
    let rest = and_right (is_room (length bytes)) _ e in
    let laid = begins_take (layout (slots_in bytes)) bytes (and_right (is_list (slots_in bytes)) _ rest) in
    record {
      room = and_left (is_room (length bytes)) _ e;
      list = and_left (is_list (slots_in bytes)) _ rest;
      laid = ap (λ (n : ℕ). take n bytes) (sym (layout_length (slots_in bytes))) ∙ laid;
    }

-- a layout over bytes that have room for it
pub over_layout : (ss : List Slot) (bytes : List ℕ) → taken ss ≤ length bytes → over (layout ss) bytes ≡ layout ss ++ drop (taken ss) bytes
unfolding over
over_layout ss bytes h =
    let n = layout_length ss in
    rw (take_all (length bytes) (layout ss) (omega arith), n)

pub over_holds : (ss : List Slot) (bytes : List ℕ) → is_list ss ≡ true → is_room (length bytes) ≡ true → taken ss ≤ length bytes → Holds (over (layout ss) bytes) ss
over_holds ss bytes list room h =
    record {
      room = rw (over_length (layout ss) bytes) room;
      list = list;
      laid = rw (over_layout ss bytes h) (take_at (layout ss) (drop (taken ss) bytes) (taken ss) (layout_length ss));
    }

-- what holds a list is its layout over itself
pub holds_over : {bytes : List ℕ} {ss : List Slot} → Holds bytes ss → over (layout ss) bytes ≡ bytes
holds_over {bytes} {ss} h = over_layout ss bytes (holds_fits h) ∙ sym (holds_is h)
