-- The theorems of specs/Exact.antt.
-- Assumes nothing.
use mathlib.Core.Path.{◌≡◌, refl, sym, ap, ◌∙◌, subst}
use mathlib.Core.List.{List, []}
use Prim.Native.Nat.{ℕ, ◌+◌, ◌≤◌, ◌<◌}
use native.Mathlib.Nat.{zero-add}
use native.Mathlib.Omega.{arith}
use lib.Dec.{lit<}
use lib.ListN.{length, get_or, get_or-replicate}
use lib.Seq.{get_or-take, get_or-drop}
use Rattle.run.specs.Fields.{start}
use Rattle.run.specs.Verdicts.{done, leaves, Narrow}
use Rattle.run.proofs.Chain.{or_else_pass, or_else_narrow, check_narrow, each_narrow, leaves_small, one_outcome, number_0}
use Rattle.run.proofs.Fields.{joined_cut, cut_joined}
use Rattle.run.proofs.Stretch.{joined_at}
use Rattle.dpch.specs.declared.Format.{Format}
use Rattle.dpch.specs.Formats.{format_of, widths}
use Rattle.dpch.proofs.Exact.{normal_formats}
use Rattle.dpch.proofs.Heads.{slot_head_narrow}
use Rattle.slot.specs.Rule.{data_size, fields_of, slot_of, tfci_in, data_in, command_in}
use Rattle.slot.specs.Outcome.{map_head, fields_verdict, map_verdict, read_head, read_verdict}
use Rattle.slot.specs.Ready.{Sound, Row, Whole}
use Rattle.slot.specs.Exact.{Gives, Fields, ReadExact, SlotCuts, SlotPlaced, MapOnce, ReadOnce, PartsOnce, Packs}
use Rattle.slot.proofs.Laws.{sound_format, normal_row, start_data1, start_tpc, start_tfci, start_data2, start_pilot, fields_widths, slot_length, field_long, data_length, data_small, tfci_small}
use Rattle.slot.proofs.Accept.{map_head_pass, read_head_pass, fields_pass, DigitsOk, digits_pass, Mapped, mapped, accepted, map_headed, read_headed}
use Rattle.slot.proofs.Rows as rows

-- ---- what reading accepts, its fields give
module _ (format slot : ℕ) (xs : List ℕ) (k : DigitsOk (format_of format) slot xs) (format_ok : format ≤ 16) (slot_ok : slot ≤ 14) (long : length xs ≡ (format_of format).slot) where
  whole : Whole (format_of format) (length xs)
  whole = record { sound = sound_format format; slot_ok = long }

  read_maps : map_verdict format slot (command_in (format_of format) xs) (data_in (format_of format) xs) (tfci_in (format_of format) xs) (format_of format).slot ≡ done
  unfolding map_verdict
  read_maps =
      let f = format_of format in
      or_else_pass
      (map_head_pass format slot _ _ f.slot format_ok slot_ok (data_length f xs whole) (field_long f xs whole 2 (lit< tt)) refl)
      (fields_pass _ _ _ 0 0 0 (rows.read_fits f (normal_row format format_ok) slot xs k long))

-- ---- what mapping gives, reading accepts, and gives the fields back
module _ (format slot tpc : ℕ) (d tfci : List ℕ) (m : Mapped format slot tpc d tfci (format_of format).slot) where
  row : Row (format_of format)
  row = normal_row format m.head.format_ok

  below : slot < 15
  below = let h = m.head.slot_ok in omega arith

  command_back : command_in (format_of format) (slot_of (format_of format) slot tpc d tfci) ≡ tpc
  command_back = rows.command_back (format_of format) row slot tpc d tfci below m.head.ready.data_ok m.head.ready.tfci_ok m.fields

  tfci_back : tfci_in (format_of format) (slot_of (format_of format) slot tpc d tfci) ≡ tfci
  tfci_back = rows.tfci_back (format_of format) row slot tpc d tfci below m.head.ready.data_ok m.head.ready.tfci_ok m.fields

  data_back : data_in (format_of format) (slot_of (format_of format) slot tpc d tfci) ≡ d
  data_back = rows.data_back (format_of format) row slot tpc d tfci below m.head.ready.data_ok m.head.ready.tfci_ok m.fields

  mapped_accepted : read_verdict format slot (slot_of (format_of format) slot tpc d tfci) (data_size (format_of format)) (format_of format).tfci ≡ done
  unfolding read_verdict
  mapped_accepted =
      let f = format_of format in
      or_else_pass
      (read_head_pass format slot _ (data_size f) f.tfci m.head.format_ok m.head.slot_ok
      (slot_length f (sound_format format) slot tpc d tfci m.head.ready.data_ok m.head.ready.tfci_ok) refl refl)
      (digits_pass f slot (slot_of f slot tpc d tfci) 0 (rows.mapped_digits_ok f row slot tpc d tfci below m.head.ready.data_ok m.head.ready.tfci_ok m.fields))

given : {format slot tpc : ℕ} {d tfci xs : List ℕ} → Gives format slot tpc d tfci xs → Mapped format slot tpc d tfci (format_of format).slot
given {format} {slot} {tpc} {d} {tfci} g = mapped format slot tpc d tfci (format_of format).slot (number_0 g.taken)

handed : (format slot : ℕ) (xs : List ℕ) (x : Fields format slot xs)
    → (command_in (format_of format) xs ≡ x.tpc) × (data_in (format_of format) xs ≡ x.d) × (tfci_in (format_of format) xs ≡ x.tfci)
handed format slot xs x =
    let f = format_of format in
    let w = sym x.gives.written in
    let m = given x.gives in (
      ap (command_in f) w ∙ command_back format slot x.tpc x.d x.tfci m,
      ap (data_in f) w ∙ data_back format slot x.tpc x.d x.tfci m,
      ap (tfci_in f) w ∙ tfci_back format slot x.tpc x.d x.tfci m,
    )

pub read_exact : ReadExact
read_exact format slot xs format_ok slot_ok long =
    record {
      accepts = (
        λ e.
            let k = (accepted format slot xs _ _ (number_0 e)).digits in
            record {
              tpc = command_in (format_of format) xs;
              d = data_in (format_of format) xs;
              tfci = tfci_in (format_of format) xs;
              gives = record { taken = read_maps format slot xs k format_ok slot_ok long; written = rows.read_gives (format_of format) (normal_row format format_ok) slot xs k long };
            },
        λ x.
            subst (λ (s : List ℕ). read_verdict format slot s (data_size (format_of format)) (format_of format).tfci ≡ done) x.gives.written
            (mapped_accepted format slot x.tpc x.d x.tfci (given x.gives)),
      );
      hands_back = handed format slot xs;
      one_set = λ x y.
          let p = handed format slot xs x in
          let q = handed format slot xs y in
          (sym p.0 ∙ q.0, sym p.1 ∙ q.1, sym p.2 ∙ q.2);
    }

pub slot_cuts : SlotCuts
unfolding slot_of
slot_cuts format =
    record {
      joins = λ xs long. joined_cut (widths (format_of format)) xs (long ∙ sym (sound_format format).fills);
      cuts = λ slot tpc d tfci p q. cut_joined (widths (format_of format)) (fields_of (format_of format) slot tpc d tfci) (fields_widths (format_of format) (sound_format format) slot tpc d tfci p q);
    }

pub slot_placed : SlotPlaced
unfolding fields_of slot_of
slot_placed format slot tpc d tfci p q =
    record {
      long = slot_length f s slot tpc d tfci p q;
      data1_at = λ i h.
          ap (λ (n : ℕ). get_or xs n 0) (sym (zero-add i) ∙ ap (λ (a : ℕ). a + i) (start_data1 f)) ∙ at_field 0 i (lit< tt) h ∙ get_or-take f.data1 d i 0 h;
      tpc_at = λ i h. ap (λ (a : ℕ). get_or xs (a + i) 0) (sym (start_tpc f)) ∙ at_field 1 i (lit< tt) h ∙ get_or-replicate f.tpc i tpc 0 h;
      tfci_at = λ i h. ap (λ (a : ℕ). get_or xs (a + i) 0) (sym (start_tfci f)) ∙ at_field 2 i (lit< tt) h;
      data2_at = λ i h. ap (λ (a : ℕ). get_or xs (a + i) 0) (sym (start_data2 f)) ∙ at_field 3 i (lit< tt) h ∙ get_or-drop f.data1 d i 0;
      pilot_at = λ i h. ap (λ (a : ℕ). get_or xs (a + i) 0) (sym (start_pilot f)) ∙ at_field 4 i (lit< tt) h ∙ ap (λ (l : List ℕ). get_or l i 0) ((normal_formats format).pilot_is slot);
    }
  where
    f : Format
    f = format_of format

    s : Sound (format_of format)
    s = sound_format format

    xs : List ℕ
    xs = slot_of (format_of format) slot tpc d tfci

    at_field : (k i : ℕ) → k < 5 → i < get_or (widths (format_of format)) k 0
        → get_or (slot_of (format_of format) slot tpc d tfci) (start k (widths (format_of format)) + i) 0 ≡ get_or (get_or (fields_of (format_of format) slot tpc d tfci) k []) i 0
    at_field k i h l =
        joined_at (widths (format_of format)) (fields_of (format_of format) slot tpc d tfci) (fields_widths (format_of format) (sound_format format) slot tpc d tfci p q) k i 0 h l

pub map_once : MapOnce
map_once format slot tpc d tfci out a b x y p r = (one_outcome p.verdict_is r.verdict_is, one_outcome p.out_is r.out_is)

pub read_once : ReadOnce
read_once format slot xs d tfci a b x y s t p r = (
  λ i. record { verdict = one_outcome p.verdict_is r.verdict_is i; tpc = one_outcome p.command_is r.command_is i },
  one_outcome p.data_is r.data_is,
  one_outcome p.tfci_is r.tfci_is,
)

pub parts_once : PartsOnce
parts_once =
    record {
      put = λ format slot tpc d tfci out a b x y p r. (one_outcome p.verdict_is r.verdict_is, one_outcome p.out_is r.out_is);
      take = λ format slot xs d tfci a b x y s t p r. (
        λ i. record { verdict = one_outcome p.verdict_is r.verdict_is i; tpc = one_outcome p.command_is r.command_is i },
        one_outcome p.data_is r.data_is,
        one_outcome p.tfci_is r.tfci_is,
      );
      put_row = λ f slot tpc d tfci out x y p r. one_outcome p.out_is r.out_is;
      take_row = λ f xs d tfci a b x y s t p r. (one_outcome p.command_is r.command_is, one_outcome p.data_is r.data_is, one_outcome p.tfci_is r.tfci_is);
      sizes = λ f a b p r i. record { «data» = one_outcome p.data_is r.data_is i; tfci = one_outcome p.tfci_is r.tfci_is i; slot = one_outcome p.slot_is r.slot_is i };
    }

-- the checks of fields of small lengths, at small bases
pub fields_narrow : (tpc : ℕ) (d tfci : List ℕ) (tpc_place tfci_base data_base : ℕ)
    → tpc_place < 4294967296 → tfci_base + length tfci < 4294967296 → data_base + length d < 4294967296 → Narrow (fields_verdict tpc d tfci tpc_place tfci_base data_base)
unfolding fields_verdict
fields_narrow tpc d tfci tpc_place tfci_base data_base h k l =
    check_narrow _ 5 tpc_place _ (lit< tt) (lit< tt) h
    (λ _. or_else_narrow _ _ (each_narrow tfci_base 4 _ _ (lit< tt) k)
    (λ _. or_else_narrow _ _ (each_narrow tfci_base 6 _ _ (lit< tt) k)
    (λ _. each_narrow data_base 4 _ _ (lit< tt) l)))

map_narrow : (format slot tpc : ℕ) (d tfci : List ℕ) (out_length : ℕ) → Narrow (map_verdict format slot tpc d tfci out_length)
unfolding map_verdict map_head
map_narrow format slot tpc d tfci out_length =
    or_else_narrow _ _ (slot_head_narrow 16 format _ slot (lit< tt))
    (λ e.
    let r = (map_headed format slot (length d) (length tfci) out_length e).ready in
    let n = data_small (format_of format) (sound_format format) in
    let t = tfci_small (format_of format) (sound_format format) in
    let p = r.data_ok in
    let q = r.tfci_ok in
    fields_narrow tpc d tfci 0 0 0 (lit< tt) (omega arith) (omega arith))

read_narrow : (format slot : ℕ) (xs : List ℕ) (data_len tfci_length : ℕ) → Narrow (read_verdict format slot xs data_len tfci_length)
unfolding read_verdict read_head
read_narrow format slot xs data_len tfci_length =
    or_else_narrow _ _ (slot_head_narrow 16 format _ slot (lit< tt)) (λ e. rows.digits_narrow (format_of format) (sound_format format) slot xs 0 (read_headed format slot (length xs) data_len tfci_length e).ready.slot_ok (omega arith))

-- the answered command, 0 where refused, fits 16 bits
pub command_fits : (format slot : ℕ) (xs : List ℕ) (data_len tfci_length : ℕ)
    → leaves (read_verdict format slot xs data_len tfci_length) (command_in (format_of format) xs) 0 < 65536
command_fits format slot xs data_len tfci_length =
    leaves_small _ _ 65536
    (λ z.
    let a = accepted format slot xs data_len tfci_length z in
    let bit = rows.command_bit (format_of format) (normal_row format a.head.format_ok) slot xs a.digits a.head.ready.slot_ok in
    omega arith)
    (lit< tt)

pub packs : Packs
packs =
    record {
      map_narrow = map_narrow;
      read_narrow = read_narrow;
      command_small = λ format slot xs d tfci answer x t p. rw p.command_is (command_fits format slot xs (length d) (length tfci));
    }
