-- The theorems of specs/Exact.antt.
-- Assumes nothing.
use mathlib.Core.Path.{◌≡◌, refl, sym, ap, ◌∙◌, subst}
use mathlib.Core.Bool.{Bool}
use mathlib.Core.List.{List, []}
use Prim.Native.Nat.{ℕ, ◌+◌, ◌*◌, ◌≤◌, ◌<◌}
use native.Mathlib.Nat.{zero-add}
use native.Mathlib.Omega.{arith}
use borrow.Author.Tests.{leb-true, le-leb}
use lib.Dec.{leb, lit<}
use lib.ListN.{length, get_or, replicate, get_or-replicate}
use Rattle.run.specs.Verdict.{Verdict}
use Rattle.run.specs.First.{Every, at_most, like_first}
use Rattle.run.specs.Fields.{cut, joined, field, start}
use Rattle.run.specs.Parts.{part}
use Rattle.run.specs.Verdicts.{done, leaves, Narrow}
use Rattle.run.proofs.First.{no_diff, diff_none}
use Rattle.run.proofs.Each.{each_same, each_joined, all_first, same_alike}
use Rattle.run.proofs.Chain.{or_else_pass, or_else_narrow, check_narrow, each_narrow, chain_pass, chain_narrow, leaves_small, one_outcome, number_0}
use Rattle.run.proofs.Fields.{joined_cut, cut_joined}
use Rattle.run.proofs.Frames as frames
use Rattle.run.proofs.Frames.{Codec, all_slots, none_silent}
use Rattle.run.proofs.Never.{or_else_never, unless_never, each_never, chain_never}
use Rattle.run.proofs.Parts.{part_room, part_length}
use Rattle.run.proofs.Stretch.{joined_at, each_field}
use Rattle.dpch.specs.declared.Dpcch.{Dpcch}
use Rattle.dpch.specs.Uplink.{dpcch_format, dpcch_widths}
use Rattle.dpch.specs.UplinkPilots.{dpcch_pilot}
use Rattle.dpch.proofs.Exact.{dpcch_formats_lem, dpcch_pilots}
use Rattle.dpch.proofs.Heads.{slot_head_narrow, frame_head_narrow, slot_head_never, frame_head_never}
use Rattle.dpdch.proofs.Laws.{slots_never}
use Rattle.dpcch.specs.Rule.{fields_of, slot_of, pilot_in, tfci_in, fbi_in, tpc_in, command_in, frame_of, frame_tfci_in, frame_fbi_in, commands_in}
use Rattle.dpcch.specs.Outcome.{map_head, fields_verdict, map_verdict, read_head, digits_verdict, read_verdict, frame_map_head, slot_fields, frame_map_verdict, frame_read_head, slot_digits, frame_read_verdict}
use Rattle.dpcch.specs.Ready.{Sound, Whole, Bits, FrameReady}
use Rattle.dpcch.specs.Exact.{Fields, Exact, ReadExact, FrameReadExact, SlotCuts, SlotPlaced, FrameSlots, UplinkNotSix, MapOnce, ReadOnce, FrameMapOnce, FrameReadOnce, PartsOnce, Packs}
use Rattle.dpcch.proofs.Laws.{sound_format, start_pilot, start_tfci, start_fbi, start_tpc, fields_widths, field_of, slot_length, field_long, field_small, tfci_small, fbi_small}
use Rattle.dpcch.proofs.Accept.{map_headed, read_headed, map_head_pass, read_head_pass, frame_map_headed, frame_read_headed, frame_map_head_pass, frame_read_head_pass, FieldsOk, fields_pass, DigitsOk, digits_pass, mapped, FrameMapped, frame_mapped, accepted, FrameAccepted, frame_accepted}
use Rattle.dpcch.proofs.Frames.{shape, frame_length, frame_slot, tfci_in_length, fbi_in_length, commands_in_length}

abbrev bit : ℕ → Bool
bit x = leb x 1

-- ---- what reading accepts, its fields give
module _ (format slot : ℕ) (xs : List ℕ) (k : DigitsOk (dpcch_format format) slot xs) (format_ok : format ≤ 3) (slot_ok : slot ≤ 14) (long : length xs ≡ (dpcch_format format).slot) where
  whole : Whole (dpcch_format format) (length xs)
  whole = record { sound = sound_format format; slot_ok = long }

  read_fields : fields_of (dpcch_format format) slot (command_in (dpcch_format format) xs) (tfci_in (dpcch_format format) xs) (fbi_in (dpcch_format format) xs) ≡ cut (dpcch_widths (dpcch_format format)) xs
  unfolding fields_of cut field
  read_fields =
      let f = dpcch_format format in
      let n0 = field_long f xs whole 0 (lit< tt) in
      let n3 = field_long f xs whole 3 (lit< tt) in
      let e0 : dpcch_pilot f.pilot slot ≡ field 0 (dpcch_widths f) xs =
      sym (no_diff (pilot_in f xs) (dpcch_pilot f.pilot slot) (n0 ∙ sym (dpcch_pilots format slot).long) k.pilot)
      in
      let e3 : replicate f.tpc (command_in f xs) ≡ field 3 (dpcch_widths f) xs =
      ap (λ (n : ℕ). replicate n (command_in f xs)) (sym n3) ∙ all_first (tpc_in f xs) k.alike
      in
      rw (e0, e3)

  pub read_gives : slot_of (dpcch_format format) slot (command_in (dpcch_format format) xs) (tfci_in (dpcch_format format) xs) (fbi_in (dpcch_format format) xs) ≡ xs
  unfolding slot_of
  read_gives = ap joined read_fields ∙ joined_cut (dpcch_widths (dpcch_format format)) xs (long ∙ sym (sound_format format).fills)

  field_bits : (j : ℕ) → j < 4 → Every (at_most 1 (field j (dpcch_widths (dpcch_format format)) xs)) (length (field j (dpcch_widths (dpcch_format format)) xs))
  field_bits j h = each_field bit j (dpcch_widths (dpcch_format format)) xs h k.bits

  pub command_bit : command_in (dpcch_format format) xs ≤ 1
  command_bit =
      let n3 = field_long (dpcch_format format) xs whole 3 (lit< tt) in
      let two = (dpcch_formats_lem format).two_tpc format_ok in
      leb-true _ _ (field_bits 3 (lit< tt) 0 (omega arith))

  read_fit : FieldsOk (command_in (dpcch_format format) xs) (tfci_in (dpcch_format format) xs) (fbi_in (dpcch_format format) xs)
  read_fit = record { tpc_ok = command_bit; tfci_bits = field_bits 1 (lit< tt); fbi_bits = field_bits 2 (lit< tt) }

  read_maps : map_verdict format slot (command_in (dpcch_format format) xs) (tfci_in (dpcch_format format) xs) (fbi_in (dpcch_format format) xs) (dpcch_format format).slot ≡ done
  unfolding map_verdict
  read_maps =
      let f = dpcch_format format in
      or_else_pass
      (map_head_pass format slot _ _ f.slot
      (record {
        format_ok = format_ok;
        slot_ok = slot_ok;
        ready = record { sound = sound_format format; tfci_ok = field_long f xs whole 1 (lit< tt); fbi_ok = field_long f xs whole 2 (lit< tt); slot_ok = refl };
      }))
      (fields_pass _ _ _ 0 0 0 read_fit)

-- ---- what mapping gives, reading accepts, and gives the fields back
module _ (format slot tpc : ℕ) (tfci fbi : List ℕ) (format_ok : format ≤ 3) (slot_ok : slot ≤ 14) (tfci_ok : length tfci ≡ (dpcch_format format).tfci) (fbi_ok : length fbi ≡ (dpcch_format format).fbi)
    (fit : FieldsOk tpc tfci fbi) where
  back : (k : ℕ) → field k (dpcch_widths (dpcch_format format)) (slot_of (dpcch_format format) slot tpc tfci fbi) ≡ get_or (fields_of (dpcch_format format) slot tpc tfci fbi) k []
  back = field_of (dpcch_format format) (sound_format format) slot tpc tfci fbi tfci_ok fbi_ok

  pilot_back : pilot_in (dpcch_format format) (slot_of (dpcch_format format) slot tpc tfci fbi) ≡ dpcch_pilot (dpcch_format format).pilot slot
  unfolding fields_of
  pilot_back = back 0

  tfci_back : tfci_in (dpcch_format format) (slot_of (dpcch_format format) slot tpc tfci fbi) ≡ tfci
  unfolding fields_of
  tfci_back = back 1

  fbi_back : fbi_in (dpcch_format format) (slot_of (dpcch_format format) slot tpc tfci fbi) ≡ fbi
  unfolding fields_of
  fbi_back = back 2

  tpc_back : tpc_in (dpcch_format format) (slot_of (dpcch_format format) slot tpc tfci fbi) ≡ replicate (dpcch_format format).tpc tpc
  unfolding fields_of
  tpc_back = back 3

  command_back : command_in (dpcch_format format) (slot_of (dpcch_format format) slot tpc tfci fbi) ≡ tpc
  command_back =
      let two = (dpcch_formats_lem format).two_tpc format_ok in
      ap (λ (l : List ℕ). get_or l 0 0) tpc_back ∙ get_or-replicate (dpcch_format format).tpc 0 tpc 0 (omega arith)

  mapped_bits : Every (at_most 1 (slot_of (dpcch_format format) slot tpc tfci fbi)) (length (slot_of (dpcch_format format) slot tpc tfci fbi))
  unfolding fields_of slot_of
  mapped_bits =
      let f = dpcch_format format in
      each_joined bit (fields_of f slot tpc tfci fbi)
      ((dpcch_pilots format slot).digits, (fit.tfci_bits, (fit.fbi_bits, (each_same bit f.tpc tpc (le-leb _ _ fit.tpc_ok), tt))))

  all_alike : Every (like_first (replicate (dpcch_format format).tpc tpc)) (length (replicate (dpcch_format format).tpc tpc))
  all_alike = let small = fit.tpc_ok in same_alike (dpcch_format format).tpc tpc (λ e. omega arith)

  mapped_good : DigitsOk (dpcch_format format) slot (slot_of (dpcch_format format) slot tpc tfci fbi)
  mapped_good = record { bits = mapped_bits; alike = rw tpc_back all_alike; pilot = diff_none _ _ _ pilot_back }

  mapped_accepted : read_verdict format slot (slot_of (dpcch_format format) slot tpc tfci fbi) (dpcch_format format).tfci (dpcch_format format).fbi ≡ done
  unfolding read_verdict
  mapped_accepted =
      let f = dpcch_format format in
      or_else_pass
      (read_head_pass format slot _ f.tfci f.fbi
      (record {
        format_ok = format_ok;
        slot_ok = slot_ok;
        ready = record { sound = sound_format format; tfci_ok = refl; fbi_ok = refl; slot_ok = slot_length f (sound_format format) slot tpc tfci fbi tfci_ok fbi_ok };
      }))
      (digits_pass f slot (slot_of f slot tpc tfci fbi) 0 mapped_good)

-- ---- exactness, of a slot and of a frame alike
module _ {C : Type 0} (taken : C → List ℕ → List ℕ → Verdict) (written : C → List ℕ → List ℕ → List ℕ)
    (taking : List ℕ → Verdict) (command_of : List ℕ → C) (tfci_of fbi_of : List ℕ → List ℕ) (xs : List ℕ)
    (taken_back : taking xs ≡ done → taken (command_of xs) (tfci_of xs) (fbi_of xs) ≡ done)
    (written_back : taking xs ≡ done → written (command_of xs) (tfci_of xs) (fbi_of xs) ≡ xs)
    (accepts_written : (c : C) (tfci fbi : List ℕ) → taken c tfci fbi ≡ done → taking (written c tfci fbi) ≡ done)
    (reads_written : (c : C) (tfci fbi : List ℕ) → taken c tfci fbi ≡ done
    → (command_of (written c tfci fbi) ≡ c) × (tfci_of (written c tfci fbi) ≡ tfci) × (fbi_of (written c tfci fbi) ≡ fbi)) where
  handed : (x : Fields taken written xs) → (command_of xs ≡ x.command) × (tfci_of xs ≡ x.tfci) × (fbi_of xs ≡ x.fbi)
  handed x =
      let w = sym x.gives.is_written in
      let r = reads_written x.command x.tfci x.fbi x.gives.is_taken in
      (ap command_of w ∙ r.0, ap tfci_of w ∙ r.1, ap fbi_of w ∙ r.2)

  exact : Exact taken written taking command_of tfci_of fbi_of xs
  exact =
      record {
        accepts = (
          λ e. record { command = command_of xs; tfci = tfci_of xs; fbi = fbi_of xs; gives = record { is_taken = taken_back e; is_written = written_back e } },
          λ x. subst (λ (s : List ℕ). taking s ≡ done) x.gives.is_written (accepts_written x.command x.tfci x.fbi x.gives.is_taken),
        );
        hands_back = handed;
        one_set = λ x y.
            let p = handed x in
            let q = handed y in
            (sym p.0 ∙ q.0, sym p.1 ∙ q.1, sym p.2 ∙ q.2);
      }

pub read_exact : ReadExact
read_exact format slot xs format_ok slot_ok long =
    exact _ _ _ _ _ _ xs
    (λ e. read_maps format slot xs (accepted format slot xs _ _ (number_0 e)).digits format_ok slot_ok long)
    (λ e. read_gives format slot xs (accepted format slot xs _ _ (number_0 e)).digits format_ok slot_ok long)
    (λ c tfci fbi e.
    let m = mapped format slot c tfci fbi _ (number_0 e) in
    mapped_accepted format slot c tfci fbi format_ok slot_ok m.head.ready.tfci_ok m.head.ready.fbi_ok m.fields)
    (λ c tfci fbi e.
    let m = mapped format slot c tfci fbi _ (number_0 e) in
    let t = m.head.ready.tfci_ok in
    let b = m.head.ready.fbi_ok in
    (command_back format slot c tfci fbi format_ok slot_ok t b m.fields, tfci_back format slot c tfci fbi format_ok slot_ok t b m.fields, fbi_back format slot c tfci fbi format_ok slot_ok t b m.fields))

-- ---- frames: slots of the DPCCH are read exactly
module _ (format : ℕ) (format_ok : format ≤ 3) where
  unfoldable codec : Codec (shape format)
  unfolding shape
  codec =
      record {
        Good = DigitsOk (dpcch_format format);
        Fit = FieldsOk;
        gives = λ k xs h long good. read_gives format k xs good format_ok (omega arith) long;
        fits = λ k xs h long good. read_fit format k xs good format_ok (omega arith) long;
        good = λ k c a b h p q fit. mapped_good format k c a b format_ok (omega arith) p q fit;
        command_back = λ k c a b h p q fit. command_back format k c a b format_ok (omega arith) p q fit;
        first_back = λ k c a b h p q fit. tfci_back format k c a b format_ok (omega arith) p q fit;
        second_back = λ k c a b h p q fit. fbi_back format k c a b format_ok (omega arith) p q fit;
      }

module _ (format : ℕ) (xs : List ℕ) (a : FrameAccepted format xs (15 * (dpcch_format format).tfci) (15 * (dpcch_format format).fbi) 15) where
  frame_gives : frame_of (dpcch_format format) (frame_tfci_in (dpcch_format format) xs) (frame_fbi_in (dpcch_format format) xs) (commands_in (dpcch_format format) xs) ≡ xs
  unfolding frame_of frame_tfci_in frame_fbi_in commands_in shape codec
  frame_gives = frames.frame_gives (shape format) all_slots (codec format a.room.format_ok) xs a.room.frame_ok (λ k h e. a.slots k h) (λ k h e. none_silent e)

  frame_fits : (k : ℕ) → k < 15
      → FieldsOk (get_or (commands_in (dpcch_format format) xs) k 0) (part k (dpcch_format format).tfci (frame_tfci_in (dpcch_format format) xs)) (part k (dpcch_format format).fbi (frame_fbi_in (dpcch_format format) xs))
  unfolding frame_tfci_in frame_fbi_in commands_in shape codec
  frame_fits = frames.frame_fits (shape format) all_slots (codec format a.room.format_ok) xs a.room.frame_ok (λ k h e. a.slots k h)

  frame_maps : frame_map_verdict format (frame_tfci_in (dpcch_format format) xs) (frame_fbi_in (dpcch_format format) xs) (15 * (dpcch_format format).slot) (commands_in (dpcch_format format) xs) ≡ done
  unfolding frame_map_verdict
  frame_maps =
      let long = a.room.frame_ok in
      or_else_pass
      (frame_map_head_pass format _ _ _ _
      (record {
        format_ok = a.room.format_ok;
        fields = record { tfci_ok = tfci_in_length format xs long; fbi_ok = fbi_in_length format xs long; commands_ok = commands_in_length format xs long };
        frame_ok = refl;
      }))
      (chain_pass 15 _ (λ k h. fields_pass _ _ _ _ _ _ (frame_fits k h)))

module _ (format : ℕ) (tfci fbi commands : List ℕ) (m : FrameMapped format tfci fbi (15 * (dpcch_format format).slot) commands) where
  f_ok : FrameReady format (length tfci) (length fbi) (length commands)
  f_ok = m.room.fields

  frame_good : (k : ℕ) → k < 15 → DigitsOk (dpcch_format format) k (part k (dpcch_format format).slot (frame_of (dpcch_format format) tfci fbi commands))
  unfolding frame_of shape codec
  frame_good k h = frames.frame_good (shape format) all_slots (codec format m.room.format_ok) tfci fbi commands f_ok.tfci_ok f_ok.fbi_ok m.slots k h refl

  frame_accepts : frame_read_verdict format (frame_of (dpcch_format format) tfci fbi commands) (15 * (dpcch_format format).tfci) (15 * (dpcch_format format).fbi) 15 ≡ done
  unfolding frame_read_verdict
  frame_accepts =
      or_else_pass
      (frame_read_head_pass format _ _ _ _
      (record {
        format_ok = m.room.format_ok;
        fields = record { tfci_ok = refl; fbi_ok = refl; commands_ok = refl };
        frame_ok = frame_length format tfci fbi commands f_ok.tfci_ok f_ok.fbi_ok;
      }))
      (chain_pass 15 _ (λ k h. digits_pass (dpcch_format format) k _ _ (frame_good k h)))

  tfcis_back : frame_tfci_in (dpcch_format format) (frame_of (dpcch_format format) tfci fbi commands) ≡ tfci
  unfolding frame_of frame_tfci_in shape codec
  tfcis_back = frames.firsts_back (shape format) all_slots (codec format m.room.format_ok) tfci fbi commands f_ok.tfci_ok f_ok.fbi_ok m.slots

  fbis_back : frame_fbi_in (dpcch_format format) (frame_of (dpcch_format format) tfci fbi commands) ≡ fbi
  unfolding frame_of frame_fbi_in shape codec
  fbis_back = frames.seconds_back (shape format) all_slots (codec format m.room.format_ok) tfci fbi commands f_ok.tfci_ok f_ok.fbi_ok m.slots

  commands_back : commands_in (dpcch_format format) (frame_of (dpcch_format format) tfci fbi commands) ≡ commands
  unfolding frame_of commands_in shape codec
  commands_back = frames.commands_back (shape format) all_slots (codec format m.room.format_ok) tfci fbi commands f_ok.tfci_ok f_ok.fbi_ok m.slots f_ok.commands_ok

pub frame_read_exact : FrameReadExact
frame_read_exact format xs format_ok long =
    exact _ _ _ _ _ _ xs
    (λ e. frame_maps format xs (frame_accepted format xs _ _ _ (number_0 e)))
    (λ e. frame_gives format xs (frame_accepted format xs _ _ _ (number_0 e)))
    (λ commands tfci fbi e. frame_accepts format tfci fbi commands (frame_mapped format tfci fbi _ commands (number_0 e)))
    (λ commands tfci fbi e.
    let m = frame_mapped format tfci fbi _ commands (number_0 e) in
    (commands_back format tfci fbi commands m, tfcis_back format tfci fbi commands m, fbis_back format tfci fbi commands m))

-- the commands of an accepted frame are bits
pub accepted_bits : (format : ℕ) (xs : List ℕ) (tfci_length fbi_length commands_length : ℕ) → FrameAccepted format xs tfci_length fbi_length commands_length → Bits format xs
accepted_bits format xs tfci_length fbi_length commands_length a =
    record {
      bit = λ k h.
          command_bit format k (part k (dpcch_format format).slot xs) (a.slots k h) a.room.format_ok (omega arith)
          (part_length k 15 (dpcch_format format).slot xs h a.room.frame_ok);
    }

pub frame_slots : FrameSlots
frame_slots = frame_slot

-- ---- the slot, field by field
pub slot_cuts : SlotCuts
unfolding slot_of
slot_cuts format =
    record {
      joins = λ xs long. joined_cut (dpcch_widths (dpcch_format format)) xs (long ∙ sym (sound_format format).fills);
      cuts = λ slot tpc tfci fbi p q. cut_joined (dpcch_widths (dpcch_format format)) (fields_of (dpcch_format format) slot tpc tfci fbi) (fields_widths (dpcch_format format) (sound_format format) slot tpc tfci fbi p q);
    }

pub slot_placed : SlotPlaced
unfolding fields_of slot_of
slot_placed format slot tpc tfci fbi p q =
    record {
      long = slot_length f s slot tpc tfci fbi p q;
      pilot_at = λ i h. ap (λ (n : ℕ). get_or xs n 0) (sym (zero-add i) ∙ ap (λ (a : ℕ). a + i) (start_pilot f)) ∙ at_field 0 i (lit< tt) h;
      tfci_at = λ i h. ap (λ (a : ℕ). get_or xs (a + i) 0) (sym (start_tfci f)) ∙ at_field 1 i (lit< tt) h;
      fbi_at = λ i h. ap (λ (a : ℕ). get_or xs (a + i) 0) (sym (start_fbi f)) ∙ at_field 2 i (lit< tt) h;
      tpc_at = λ i h. ap (λ (a : ℕ). get_or xs (a + i) 0) (sym (start_tpc f)) ∙ at_field 3 i (lit< tt) h ∙ get_or-replicate f.tpc i tpc 0 h;
    }
  where
    f : Dpcch
    f = dpcch_format format

    s : Sound (dpcch_format format)
    s = sound_format format

    xs : List ℕ
    xs = slot_of (dpcch_format format) slot tpc tfci fbi

    at_field : (k i : ℕ) → k < 4 → i < get_or (dpcch_widths (dpcch_format format)) k 0
        → get_or (slot_of (dpcch_format format) slot tpc tfci fbi) (start k (dpcch_widths (dpcch_format format)) + i) 0 ≡ get_or (get_or (fields_of (dpcch_format format) slot tpc tfci fbi) k []) i 0
    at_field k i h l =
        joined_at (dpcch_widths (dpcch_format format)) (fields_of (dpcch_format format) slot tpc tfci fbi) (fields_widths (dpcch_format format) (sound_format format) slot tpc tfci fbi p q) k i 0 h l

-- ---- 6 does not occur
other : {n : ℕ} → n < 6 → n ≡ 6 → ⊥
other h e = omega arith

fields_never : (tpc : ℕ) (tfci fbi : List ℕ) (tpc_place tfci_base fbi_base : ℕ) → (fields_verdict tpc tfci fbi tpc_place tfci_base fbi_base).number ≡ 6 → ⊥
unfolding fields_verdict
fields_never tpc tfci fbi tpc_place tfci_base fbi_base =
    or_else_never 6 (lit< tt) _ _ (unless_never 6 (lit< tt) _ 5 _ (other (lit< tt)))
    (or_else_never 6 (lit< tt) _ _ (each_never 6 (lit< tt) _ 4 _ _ (other (lit< tt))) (each_never 6 (lit< tt) _ 4 _ _ (other (lit< tt))))

digits_never : (f : Dpcch) (slot : ℕ) (xs : List ℕ) (base : ℕ) → (digits_verdict f slot xs base).number ≡ 6 → ⊥
unfolding digits_verdict
digits_never f slot xs base =
    or_else_never 6 (lit< tt) _ _ (each_never 6 (lit< tt) _ 4 _ _ (other (lit< tt)))
    (or_else_never 6 (lit< tt) _ _ (each_never 6 (lit< tt) _ 5 _ _ (other (lit< tt))) (each_never 6 (lit< tt) _ 7 _ _ (λ e. omega arith)))

pub uplink_not_six : UplinkNotSix
unfolding map_verdict map_head read_verdict read_head frame_map_verdict frame_map_head frame_read_verdict frame_read_head
uplink_not_six =
    record {
      dpdch_map = λ format d out_length. slots_never 1 format d out_length;
      dpdch_read = λ format xs dataLength. slots_never 1 format xs dataLength;
      dpdch_frame_map = λ format d out_length. slots_never 15 format d out_length;
      dpdch_frame_read = λ format xs dataLength. slots_never 15 format xs dataLength;
      dpcch_map = λ format slot tpc tfci fbi out_length. or_else_never 6 (lit< tt) _ _ (slot_head_never 3 format _ slot) (fields_never tpc tfci fbi 0 0 0);
      dpcch_read = λ format slot xs tfci_length fbi_length. or_else_never 6 (lit< tt) _ _ (slot_head_never 3 format _ slot) (digits_never (dpcch_format format) slot xs 0);
      dpcch_frame_map = λ format tfci fbi out_length commands.
          or_else_never 6 (lit< tt) _ _ (frame_head_never 3 format _) (chain_never 6 (lit< tt) 15 (slot_fields format tfci fbi commands) (λ k h. fields_never _ _ _ k _ _));
      dpcch_frame_read = λ format xs tfci_length fbi_length commands_length.
          or_else_never 6 (lit< tt) _ _ (frame_head_never 3 format _) (chain_never 6 (lit< tt) 15 (slot_digits format xs) (λ k h. digits_never (dpcch_format format) k _ _));
    }

-- ---- each promise allows one outcome
pub map_once : MapOnce
map_once format slot tpc tfci fbi out a b x y p r = (one_outcome p.verdict_is r.verdict_is, one_outcome p.out_is r.out_is)

pub read_once : ReadOnce
read_once format slot xs tfci fbi a b x y s t p r = (
  λ i. record { verdict = one_outcome p.verdict_is r.verdict_is i; tpc = one_outcome p.command_is r.command_is i },
  one_outcome p.tfci_is r.tfci_is,
  one_outcome p.fbi_is r.fbi_is,
)

pub frame_map_once : FrameMapOnce
frame_map_once format tfci fbi out commands a b x y p r = (one_outcome p.verdict_is r.verdict_is, one_outcome p.out_is r.out_is)

pub frame_read_once : FrameReadOnce
frame_read_once format xs tfci fbi commands a b x y s t u v p r =
    (one_outcome p.verdict_is r.verdict_is, one_outcome p.tfci_is r.tfci_is, one_outcome p.fbi_is r.fbi_is, one_outcome p.commands_is r.commands_is)

pub parts_once : PartsOnce
parts_once =
    record {
      put = λ format slot tpc tfci fbi out x y p r. one_outcome p.out_is r.out_is;
      take = λ format xs tfci fbi a b x y s t p r. (one_outcome p.command_is r.command_is, one_outcome p.tfci_is r.tfci_is, one_outcome p.fbi_is r.fbi_is);
    }

-- ---- number, place and command fit a packed answer
fields_narrow : (tpc : ℕ) (tfci fbi : List ℕ) (tpc_place tfci_base fbi_base : ℕ)
    → tpc_place < 4294967296 → tfci_base + length tfci < 4294967296 → fbi_base + length fbi < 4294967296 → Narrow (fields_verdict tpc tfci fbi tpc_place tfci_base fbi_base)
unfolding fields_verdict
fields_narrow tpc tfci fbi tpc_place tfci_base fbi_base h k l =
    check_narrow _ 5 tpc_place _ (lit< tt) (lit< tt) h
    (λ _. or_else_narrow _ _ (each_narrow tfci_base 4 _ _ (lit< tt) k)
    (λ _. each_narrow fbi_base 4 _ _ (lit< tt) l))

digits_narrow : (format slot : ℕ) (xs : List ℕ) (base : ℕ) → length xs ≡ (dpcch_format format).slot → base ≤ 65536 → Narrow (digits_verdict (dpcch_format format) slot xs base)
unfolding digits_verdict
digits_narrow format slot xs base long h =
    let short = (sound_format format).short in
    or_else_narrow _ _ (each_narrow base 4 _ _ (lit< tt) (omega arith))
    (λ _. or_else_narrow _ _ (each_narrow _ 5 _ _ (lit< tt) (near 3 (lit< tt)))
    (λ _. each_narrow _ 7 _ _ (lit< tt) (near 0 (lit< tt))))
  where
    near : (k : ℕ) → k < 4 → base + start k (dpcch_widths (dpcch_format format)) + length (field k (dpcch_widths (dpcch_format format)) xs) < 4294967296
    near k l =
        let n = field_long (dpcch_format format) xs (record { sound = sound_format format; slot_ok = long }) k l in
        let s = field_small format k l in
        omega arith

map_narrow : (format slot tpc : ℕ) (tfci fbi : List ℕ) (out_length : ℕ) → Narrow (map_verdict format slot tpc tfci fbi out_length)
unfolding map_verdict map_head
map_narrow format slot tpc tfci fbi out_length =
    or_else_narrow _ _ (slot_head_narrow 3 format _ slot (lit< tt))
    (λ e.
    let r = (map_headed format slot (length tfci) (length fbi) out_length e).ready in
    let t = tfci_small format in
    let b = fbi_small format in
    let p = r.tfci_ok in
    let q = r.fbi_ok in
    fields_narrow tpc tfci fbi 0 0 0 (lit< tt) (omega arith) (omega arith))

read_narrow : (format slot : ℕ) (xs : List ℕ) (tfci_length fbi_length : ℕ) → Narrow (read_verdict format slot xs tfci_length fbi_length)
unfolding read_verdict read_head
read_narrow format slot xs tfci_length fbi_length =
    or_else_narrow _ _ (slot_head_narrow 3 format _ slot (lit< tt)) (λ e. digits_narrow format slot xs 0 (read_headed format slot (length xs) tfci_length fbi_length e).ready.slot_ok (omega arith))

frame_map_narrow : (format : ℕ) (tfci fbi : List ℕ) (out_length : ℕ) (commands : List ℕ) → Narrow (frame_map_verdict format tfci fbi out_length commands)
unfolding frame_map_verdict frame_map_head
frame_map_narrow format tfci fbi out_length commands =
    or_else_narrow _ _ (frame_head_narrow 3 format _ (lit< tt))
    (λ e. chain_narrow 15 _ (λ k h.
    let r = (frame_map_headed format (length tfci) (length fbi) out_length (length commands) e).fields in
    let n = part_length k 15 (dpcch_format format).tfci tfci h r.tfci_ok in
    let m = part_length k 15 (dpcch_format format).fbi fbi h r.fbi_ok in
    let a = part_room k 15 (dpcch_format format).tfci h in
    let b = part_room k 15 (dpcch_format format).fbi h in
    let few = tfci_small format in
    let fewer = fbi_small format in
    fields_narrow _ _ _ k _ _ (omega arith) (omega arith) (omega arith)))

frame_read_narrow : (format : ℕ) (xs : List ℕ) (tfci_length fbi_length commands_length : ℕ) → Narrow (frame_read_verdict format xs tfci_length fbi_length commands_length)
unfolding frame_read_verdict frame_read_head
frame_read_narrow format xs tfci_length fbi_length commands_length =
    or_else_narrow _ _ (frame_head_narrow 3 format _ (lit< tt))
    (λ e. chain_narrow 15 _ (λ k h.
    let room = frame_read_headed format (length xs) tfci_length fbi_length commands_length e in
    let a = part_room k 15 (dpcch_format format).slot h in
    let short = (sound_format format).short in
    digits_narrow format k _ _ (part_length k 15 (dpcch_format format).slot xs h room.frame_ok) (omega arith)))

-- the answered command, 0 where refused, fits 16 bits
pub command_fits : (format slot : ℕ) (xs : List ℕ) (tfci_length fbi_length : ℕ)
    → leaves (read_verdict format slot xs tfci_length fbi_length) (command_in (dpcch_format format) xs) 0 < 65536
command_fits format slot xs tfci_length fbi_length =
    leaves_small _ _ 65536
    (λ z.
    let a = accepted format slot xs tfci_length fbi_length z in
    let small = command_bit format slot xs a.digits a.head.format_ok a.head.slot_ok a.head.ready.slot_ok in
    omega arith)
    (lit< tt)

pub packs : Packs
packs =
    record {
      map_narrow = map_narrow;
      read_narrow = read_narrow;
      command_small = λ format slot xs tfci fbi answer x t p. rw p.command_is (command_fits format slot xs (length tfci) (length fbi));
      frame_map_narrow = frame_map_narrow;
      frame_read_narrow = frame_read_narrow;
    }
