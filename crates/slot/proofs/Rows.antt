-- Slots of any row of the table, normal or compressed: read exactly, and one of a frame's fifteen.
-- Assumes nothing.
use mathlib.Core.Path.{◌≡◌, sym, ap, ◌∙◌}
use mathlib.Core.Bool.{Bool}
use mathlib.Core.List.{List, []}
use Prim.Native.Nat.{ℕ, ◌+◌, ◌≤◌, ◌<◌}
use native.Mathlib.Omega.{arith}
use borrow.Author.Tests.{leb-true, le-leb}
use lib.Dec.{leb, lit<}
use lib.ListN.{length, get_or, take, drop, replicate, take-append-drop, get_or-replicate}
use lib.Seq.{take_at, drop_at}
use Rattle.run.specs.First.{Every, at_most, like_first}
use Rattle.run.specs.Fields.{cut, joined, field, start}
use Rattle.run.specs.Verdicts.{Narrow}
use Rattle.run.proofs.First.{no_diff, diff_none}
use Rattle.run.proofs.Each.{each_take, each_drop, each_append, each_same, each_joined, all_first, first_no_dtx, same_alike}
use Rattle.run.proofs.Chain.{or_else_narrow, each_narrow}
use Rattle.run.proofs.Fields.{joined_cut, field_room}
use Rattle.run.proofs.Frames.{Shape, Codec}
use Rattle.run.proofs.Stretch.{each_field}
use Rattle.dpch.specs.declared.Format.{Format}
use Rattle.dpch.specs.Formats.{widths}
use Rattle.dpch.specs.Compressed.{pilot_for}
use Rattle.slot.specs.Rule.{data_size, fields_of, slot_of, tpc_in, tfci_in, pilot_in, data_in, command_in}
use Rattle.slot.specs.Outcome.{digits_verdict}
use Rattle.slot.specs.Ready.{Sound, Row, Whole}
use Rattle.slot.proofs.Laws.{field_of, slot_length, pilot_long, field_long, data_length}
use Rattle.slot.proofs.Accept.{FieldsOk, DigitsOk}

abbrev pub digit : ℕ → Bool
digit x = leb x 2

-- ---- what reading accepts, its fields give
module _ (f : Format) (row : Row f) (slot : ℕ) (xs : List ℕ) (k : DigitsOk f slot xs) (long : length xs ≡ f.slot) where
  whole : Whole f (length xs)
  whole = record { sound = row.sound; slot_ok = long }

  read_fields : fields_of f slot (command_in f xs) (data_in f xs) (tfci_in f xs) ≡ cut (widths f) xs
  unfolding fields_of cut field
  read_fields =
      let w = whole in
      let n0 = field_long f xs w 0 (lit< tt) in
      let n1 = field_long f xs w 1 (lit< tt) in
      let n4 = field_long f xs w 4 (lit< tt) in
      let e0 : take f.data1 (data_in f xs) ≡ field 0 (widths f) xs = take_at (field 0 (widths f) xs) (field 3 (widths f) xs) f.data1 n0 in
      let e1 : replicate f.tpc (command_in f xs) ≡ field 1 (widths f) xs =
      ap (λ (n : ℕ). replicate n (command_in f xs)) (sym n1) ∙ all_first (tpc_in f xs) k.alike
      in
      let e3 : drop f.data1 (data_in f xs) ≡ field 3 (widths f) xs = drop_at (field 0 (widths f) xs) (field 3 (widths f) xs) f.data1 n0 in
      let e4 : pilot_for f.kind f.pilot slot ≡ field 4 (widths f) xs =
      sym (no_diff (pilot_in f xs) (pilot_for f.kind f.pilot slot) (n4 ∙ sym (pilot_long f row.sound slot 0 (data_in f xs) (tfci_in f xs) (data_length f xs w) (field_long f xs w 2 (lit< tt)))) k.pilot)
      in
      rw (e0, e1, e3, e4)

  pub read_gives : slot_of f slot (command_in f xs) (data_in f xs) (tfci_in f xs) ≡ xs
  unfolding slot_of
  read_gives = ap joined read_fields ∙ joined_cut (widths f) xs (long ∙ sym row.sound.fills)

  field_digits : (j : ℕ) → j < 5 → Every (at_most 2 (field j (widths f) xs)) (length (field j (widths f) xs))
  field_digits j h = each_field digit j (widths f) xs h k.digits

  pub command_bit : command_in f xs ≤ 1
  command_bit =
      let n1 = field_long f xs whole 1 (lit< tt) in
      let some = row.has_tpc in
      let here : 0 < length (tpc_in f xs) = omega arith in
      let small : command_in f xs ≤ 2 = leb-true _ _ (field_digits 1 (lit< tt) 0 here) in
      let bit = first_no_dtx (tpc_in f xs) here k.alike in
      omega arith

  pub read_fits : FieldsOk (command_in f xs) (data_in f xs) (tfci_in f xs)
  read_fits =
      record {
        tpc_ok = command_bit;
        tfci_digits = field_digits 2 (lit< tt);
        tfci_kinds = k.kinds;
        data_digits = each_append digit (field 0 (widths f) xs) (field 3 (widths f) xs) (field_digits 0 (lit< tt)) (field_digits 3 (lit< tt));
      }

-- ---- what mapping gives, reading accepts, and gives the fields back
module _ (f : Format) (row : Row f) (slot tpc : ℕ) (d tfci : List ℕ) (slot_ok : slot < 15) (data_ok : length d ≡ data_size f) (tfci_ok : length tfci ≡ f.tfci)
    (fit : FieldsOk tpc d tfci) where
  back : (k : ℕ) → field k (widths f) (slot_of f slot tpc d tfci) ≡ get_or (fields_of f slot tpc d tfci) k []
  back = field_of f row.sound slot tpc d tfci data_ok tfci_ok

  tpc_back : tpc_in f (slot_of f slot tpc d tfci) ≡ replicate f.tpc tpc
  unfolding fields_of
  tpc_back = back 1

  pub command_back : command_in f (slot_of f slot tpc d tfci) ≡ tpc
  command_back = ap (λ (l : List ℕ). get_or l 0 0) tpc_back ∙ get_or-replicate f.tpc 0 tpc 0 row.has_tpc

  pub tfci_back : tfci_in f (slot_of f slot tpc d tfci) ≡ tfci
  unfolding fields_of
  tfci_back = back 2

  pub data_back : data_in f (slot_of f slot tpc d tfci) ≡ d
  unfolding fields_of
  data_back = rw (back 0, back 3) (take-append-drop f.data1 d)

  pilot_back : pilot_in f (slot_of f slot tpc d tfci) ≡ pilot_for f.kind f.pilot slot
  unfolding fields_of
  pilot_back = back 4

  mapped_digits : Every (at_most 2 (slot_of f slot tpc d tfci)) (length (slot_of f slot tpc d tfci))
  unfolding slot_of fields_of
  mapped_digits =
      let bit = fit.tpc_ok in
      let pilot : Every (at_most 2 (pilot_for f.kind f.pilot slot)) (length (pilot_for f.kind f.pilot slot)) =
      λ k h. le-leb (get_or (pilot_for f.kind f.pilot slot) k 0) 2 (let s = row.pilot_bits slot slot_ok k in omega arith)
      in
      each_joined digit (fields_of f slot tpc d tfci) (
        each_take digit f.data1 d fit.data_digits,
        (
          each_same digit f.tpc tpc (le-leb tpc 2 (omega arith)),
          (fit.tfci_digits, (each_drop digit f.data1 d fit.data_digits, (pilot, tt))),
        ),
      )

  all_alike : Every (like_first (replicate f.tpc tpc)) (length (replicate f.tpc tpc))
  all_alike = let bit = fit.tpc_ok in same_alike f.tpc tpc (λ e. omega arith)

  pub mapped_digits_ok : DigitsOk f slot (slot_of f slot tpc d tfci)
  mapped_digits_ok =
      record { digits = mapped_digits; alike = rw tpc_back all_alike; kinds = rw tfci_back fit.tfci_kinds; pilot = diff_none _ _ _ pilot_back }

-- ---- a slot of the row, as one of fifteen
unfoldable pub shape : (f : Format) → Sound f → Shape
shape f sound =
    record {
      first_size = data_size f;
      second_size = f.tfci;
      slot_size = f.slot;
      make = slot_of f;
      command = command_in f;
      first = data_in f;
      second = tfci_in f;
      make_long = slot_length f sound;
      first_long = λ xs e. data_length f xs (record { sound = sound; slot_ok = e });
      second_long = λ xs e. field_long f xs (record { sound = sound; slot_ok = e }) 2 (lit< tt);
    }

unfoldable pub codec : (f : Format) (row : Row f) → Codec (shape f row.sound)
unfolding shape
codec f row =
    record {
      Good = DigitsOk f;
      Fit = FieldsOk;
      gives = λ k xs h long good. read_gives f row k xs good long;
      fits = λ k xs h long good. read_fits f row k xs good long;
      good = λ k c a b h p q fit. mapped_digits_ok f row k c a b h p q fit;
      command_back = λ k c a b h p q fit. command_back f row k c a b h p q fit;
      first_back = λ k c a b h p q fit. data_back f row k c a b h p q fit;
      second_back = λ k c a b h p q fit. tfci_back f row k c a b h p q fit;
    }

-- ---- the fields and starts of a slot are small, and so are the places of its checks
pub field_small : (f : Format) → Sound f → (k : ℕ) → k < 5 → start k (widths f) + get_or (widths f) k 0 ≤ 1280
field_small f s k h =
    let r = field_room k (widths f) h in
    let fills = s.fills in
    let short = s.short in
    omega arith

pub digits_narrow : (f : Format) → Sound f → (slot : ℕ) (xs : List ℕ) (base : ℕ) → length xs ≡ f.slot → base ≤ 65536 → Narrow (digits_verdict f slot xs base)
unfolding digits_verdict
digits_narrow f sound slot xs base long h =
    let short = sound.short in
    or_else_narrow _ _ (each_narrow base 4 _ _ (lit< tt) (omega arith))
    (λ _. or_else_narrow _ _ (each_narrow _ 5 _ _ (lit< tt) (near 1 (lit< tt)))
    (λ _. or_else_narrow _ _ (each_narrow _ 6 _ _ (lit< tt) (near 2 (lit< tt)))
    (λ _. each_narrow _ 7 _ _ (lit< tt) (near 4 (lit< tt)))))
  where
    near : (k : ℕ) → k < 5 → base + start k (widths f) + length (field k (widths f) xs) < 4294967296
    near k l =
        let n = field_long f xs (record { sound = sound; slot_ok = long }) k l in
        let s = field_small f sound k l in
        omega arith
