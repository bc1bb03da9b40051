-- The theorems of specs/Exact.antt.
-- Assumes nothing.
use mathlib.Core.Path.{◌≡◌, refl, sym, ap, ◌∙◌, subst}
use mathlib.Core.List.{List}
use Prim.Native.Nat.{ℕ, ◌*◌, ◌<◌}
use native.Mathlib.Omega.{arith}
use lib.Dec.{lit<}
use lib.ListN.{length, get_or}
use Rattle.run.specs.Parts.{part}
use Rattle.run.specs.Verdicts.{done, Narrow}
use Rattle.run.proofs.Chain.{or_else_pass, chain_pass, or_else_narrow, chain_narrow, one_outcome, number_0}
use Rattle.run.proofs.Frames as frames
use Rattle.run.proofs.Frames.{all_slots, none_silent, frame_gives, frame_fits, frame_good, firsts_back, seconds_back}
use Rattle.run.proofs.Parts.{part_room, part_length}
use Rattle.dpch.specs.Formats.{format_of}
use Rattle.dpch.proofs.Heads.{frame_head_narrow}
use Rattle.slot.specs.Rule.{data_size}
use Rattle.slot.specs.Ready.{Row}
use Rattle.slot.proofs.Laws.{sound_format, normal_row, data_small, tfci_small}
use Rattle.slot.proofs.Accept as slot-accept
use Rattle.slot.proofs.Accept.{FieldsOk, DigitsOk}
use Rattle.slot.proofs.Exact as slot-exact
use Rattle.slot.proofs.Rows.{shape, codec, digits_narrow}
use Rattle.frame.specs.Rule.{frame_of, data_in, tfci_in, commands_in}
use Rattle.frame.specs.Outcome.{map_head, map_verdict, read_head, read_verdict}
use Rattle.frame.specs.Ready.{Ready}
use Rattle.frame.specs.Exact.{Gives, Fields, ReadExact, FrameSlots, MapOnce, ReadOnce, Packs}
use Rattle.frame.proofs.Laws.{frame_length, frame_slot, data_in_length, tfci_in_length, commands_in_length}
use Rattle.frame.proofs.Accept.{Mapped, mapped, Accepted, accepted, map_headed, read_headed, map_head_pass, read_head_pass}

-- ---- what reading accepts, its fields give
module _ (format : ℕ) (xs : List ℕ) (a : Accepted format xs (15 * data_size (format_of format)) (15 * (format_of format).tfci) 15) where
  long : length xs ≡ 15 * (format_of format).slot
  long = a.room.frame_ok

  row : Row (format_of format)
  row = normal_row format a.room.format_ok

  read_frame : frame_of (format_of format) (data_in (format_of format) xs) (tfci_in (format_of format) xs) (commands_in (format_of format) xs) ≡ xs
  unfolding frame_of data_in tfci_in commands_in shape codec
  read_frame = frame_gives (shape (format_of format) row.sound) all_slots (codec (format_of format) row) xs long (λ k h e. a.slots k h) (λ k h e. none_silent e)

  slot_fits : (k : ℕ) → k < 15
      → FieldsOk (get_or (commands_in (format_of format) xs) k 0) (part k (data_size (format_of format)) (data_in (format_of format) xs)) (part k (format_of format).tfci (tfci_in (format_of format) xs))
  unfolding data_in tfci_in commands_in shape codec
  slot_fits = frame_fits (shape (format_of format) row.sound) all_slots (codec (format_of format) row) xs long (λ k h e. a.slots k h)

  read_taken : map_verdict format (data_in (format_of format) xs) (tfci_in (format_of format) xs) (15 * (format_of format).slot) (commands_in (format_of format) xs) ≡ done
  unfolding map_verdict
  read_taken =
      or_else_pass
      (map_head_pass format _ _ _ _
      (record {
        format_ok = a.room.format_ok;
        fields = record { data_ok = data_in_length format xs long; tfci_ok = tfci_in_length format xs long; commands_ok = commands_in_length format xs long };
        frame_ok = refl;
      }))
      (chain_pass 15 _ (λ k h. slot-accept.fields_pass _ _ _ _ _ _ (slot_fits k h)))

-- ---- what mapping gives, reading accepts, and gives the fields back
module _ (format : ℕ) (d tfci commands : List ℕ) (m : Mapped format d tfci (15 * (format_of format).slot) commands) where
  f_ok : Ready format (length d) (length tfci) (length commands)
  f_ok = m.room.fields

  row_ok : Row (format_of format)
  row_ok = normal_row format m.room.format_ok

  slot_good : (k : ℕ) → k < 15 → DigitsOk (format_of format) k (part k (format_of format).slot (frame_of (format_of format) d tfci commands))
  unfolding frame_of shape codec
  slot_good k h = frame_good (shape (format_of format) row_ok.sound) all_slots (codec (format_of format) row_ok) d tfci commands f_ok.data_ok f_ok.tfci_ok m.slots k h refl

  mapped_accepted : read_verdict format (frame_of (format_of format) d tfci commands) (15 * data_size (format_of format)) (15 * (format_of format).tfci) 15 ≡ done
  unfolding read_verdict
  mapped_accepted =
      or_else_pass
      (read_head_pass format _ _ _ _
      (record {
        format_ok = m.room.format_ok;
        fields = record { data_ok = refl; tfci_ok = refl; commands_ok = refl };
        frame_ok = frame_length format d tfci commands f_ok.data_ok f_ok.tfci_ok;
      }))
      (chain_pass 15 _ (λ k h. slot-accept.digits_pass (format_of format) k _ _ (slot_good k h)))

  data_back : data_in (format_of format) (frame_of (format_of format) d tfci commands) ≡ d
  unfolding frame_of data_in shape codec
  data_back = firsts_back (shape (format_of format) row_ok.sound) all_slots (codec (format_of format) row_ok) d tfci commands f_ok.data_ok f_ok.tfci_ok m.slots

  tfci_back : tfci_in (format_of format) (frame_of (format_of format) d tfci commands) ≡ tfci
  unfolding frame_of tfci_in shape codec
  tfci_back = seconds_back (shape (format_of format) row_ok.sound) all_slots (codec (format_of format) row_ok) d tfci commands f_ok.data_ok f_ok.tfci_ok m.slots

  commands_back : commands_in (format_of format) (frame_of (format_of format) d tfci commands) ≡ commands
  unfolding frame_of commands_in shape codec
  commands_back = frames.commands_back (shape (format_of format) row_ok.sound) all_slots (codec (format_of format) row_ok) d tfci commands f_ok.data_ok f_ok.tfci_ok m.slots f_ok.commands_ok

given : {format : ℕ} {d tfci commands xs : List ℕ} → Gives format d tfci commands xs → Mapped format d tfci (15 * (format_of format).slot) commands
given {format} {d} {tfci} {commands} g = mapped format d tfci (15 * (format_of format).slot) commands (number_0 g.taken)

handed : (format : ℕ) (xs : List ℕ) (x : Fields format xs)
    → (data_in (format_of format) xs ≡ x.d) × (tfci_in (format_of format) xs ≡ x.tfci) × (commands_in (format_of format) xs ≡ x.commands)
handed format xs x =
    let f = format_of format in
    let w = sym x.gives.written in
    let m = given x.gives in (
      ap (data_in f) w ∙ data_back format x.d x.tfci x.commands m,
      ap (tfci_in f) w ∙ tfci_back format x.d x.tfci x.commands m,
      ap (commands_in f) w ∙ commands_back format x.d x.tfci x.commands m,
    )

pub read_exact : ReadExact
read_exact format xs format_ok long =
    record {
      accepts = (
        λ e.
            let a = accepted format xs _ _ _ (number_0 e) in
            record {
              d = data_in (format_of format) xs;
              tfci = tfci_in (format_of format) xs;
              commands = commands_in (format_of format) xs;
              gives = record { taken = read_taken format xs a; written = read_frame format xs a };
            },
        λ x.
            subst (λ (s : List ℕ). read_verdict format s (15 * data_size (format_of format)) (15 * (format_of format).tfci) 15 ≡ done) x.gives.written
            (mapped_accepted format x.d x.tfci x.commands (given x.gives)),
      );
      hands_back = handed format xs;
      one_set = λ x y.
          let p = handed format xs x in
          let q = handed format xs y in
          (sym p.0 ∙ q.0, sym p.1 ∙ q.1, sym p.2 ∙ q.2);
    }

pub frame_slots : FrameSlots
frame_slots = frame_slot

pub map_once : MapOnce
map_once format d tfci out commands a b x y p r = (one_outcome p.verdict_is r.verdict_is, one_outcome p.out_is r.out_is)

pub read_once : ReadOnce
read_once format xs d tfci commands a b x y s t u v p r =
    (one_outcome p.verdict_is r.verdict_is, one_outcome p.data_is r.data_is, one_outcome p.tfci_is r.tfci_is, one_outcome p.commands_is r.commands_is)

map_narrow : (format : ℕ) (d tfci : List ℕ) (out_length : ℕ) (commands : List ℕ) → Narrow (map_verdict format d tfci out_length commands)
unfolding map_verdict map_head
map_narrow format d tfci out_length commands =
    or_else_narrow _ _ (frame_head_narrow 16 format _ (lit< tt))
    (λ e. chain_narrow 15 _ (λ k h.
    let r = (map_headed format (length d) (length tfci) out_length (length commands) e).fields in
    let n = part_length k 15 (data_size (format_of format)) d h r.data_ok in
    let t = part_length k 15 (format_of format).tfci tfci h r.tfci_ok in
    let a = part_room k 15 (data_size (format_of format)) h in
    let b = part_room k 15 (format_of format).tfci h in
    let small = data_small (format_of format) (sound_format format) in
    let few = tfci_small (format_of format) (sound_format format) in
    slot-exact.fields_narrow _ _ _ k _ _ (omega arith) (omega arith) (omega arith)))

read_narrow : (format : ℕ) (xs : List ℕ) (data_length tfci_length commands_length : ℕ) → Narrow (read_verdict format xs data_length tfci_length commands_length)
unfolding read_verdict read_head
read_narrow format xs data_length tfci_length commands_length =
    or_else_narrow _ _ (frame_head_narrow 16 format _ (lit< tt))
    (λ e. chain_narrow 15 _ (λ k h.
    let room = read_headed format (length xs) data_length tfci_length commands_length e in
    let a = part_room k 15 (format_of format).slot h in
    let short = (sound_format format).short in
    digits_narrow (format_of format) (sound_format format) k _ _ (part_length k 15 (format_of format).slot xs h room.frame_ok) (omega arith)))

pub packs : Packs
packs = record { map_narrow = map_narrow; read_narrow = read_narrow }
