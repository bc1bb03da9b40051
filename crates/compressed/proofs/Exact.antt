-- The theorems of specs/Exact.antt.
-- Assumes nothing.
use mathlib.Core.Path.{◌≡◌, refl, sym, ap, ◌∙◌, subst}
use mathlib.Core.Bool.{Bool, true, false}
use mathlib.Core.List.{List}
use Prim.Native.Nat.{ℕ, ◌+◌, ◌*◌, ◌≤◌, ◌<◌}
use native.Mathlib.Omega.{arith}
use lib.Dec.{lit<}
use lib.ListN.{length, get_or, replicate}
use Rattle.run.specs.Digits.{dtx}
use Rattle.run.specs.Parts.{part}
use Rattle.run.specs.Verdicts.{done, Narrow}
use Rattle.run.proofs.Chain.{or_else_pass, chain_pass, or_else_narrow, chain_narrow, one_outcome, number_0}
use Rattle.run.proofs.Frames as frames
use Rattle.run.proofs.Frames.{frame_gives, frame_fits, frame_good, firsts_back, seconds_back}
use Rattle.run.proofs.Parts.{part_room, part_length}
use Rattle.dpch.specs.declared.Format.{Format}
use Rattle.dpch.specs.Compressed.{format_in}
use Rattle.slot.specs.Rule.{data_size}
use Rattle.slot.specs.Ready.{Row}
use Rattle.slot.proofs.Accept.{FieldsOk, fields_pass, DigitsOk, digits_pass}
use Rattle.slot.proofs.Exact.{fields_narrow}
use Rattle.slot.proofs.Laws.{sound_row, compressed_row, data_small, tfci_small}
use Rattle.slot.proofs.Rows.{shape, codec, digits_narrow}
use Rattle.compressed.specs.Rule.{is_missing, transmitted, frame_of, data_in, tfci_in, commands_in}
use Rattle.compressed.specs.Outcome.{map_head, map_verdict, read_head, slot_verdict, read_verdict}
use Rattle.compressed.specs.Ready.{Ready}
use Rattle.compressed.specs.Exact.{GapOneToOne, Gives, Fields, ReadExact, FrameSlots, MapOnce, ReadOnce, Packs}
use Rattle.compressed.proofs.Gap as gap
use Rattle.compressed.proofs.Gap.{plan, not_missing, missing_not}
use Rattle.compressed.proofs.Laws.{frame_length, frame_slot, slot_numbered, data_in_length, tfci_in_length, commands_in_length}
use Rattle.compressed.proofs.Accept.{gap_head_narrow, silent_pass, silent_narrow, verdict_missing, verdict_sent, Mapped, mapped, Accepted, accepted, map_headed, read_headed, map_head_pass, read_head_pass}

pub gap_one_to_one : GapOneToOne
gap_one_to_one = gap.one_to_one

-- a slot is missing or not
by_slot : (first missing k : ℕ) {X : Type 0} → (is_missing first missing k ≡ true → X) → (is_missing first missing k ≡ false → X) → X
by_slot first missing k {X} p q = side (is_missing first missing k) refl
  where
    side : (b : Bool) → is_missing first missing k ≡ b → X
    side true e = p e
    side false e = q e

-- ---- what reading accepts, its fields give
module _ (f : Format) (row : Row f) (first missing : ℕ) (xs : List ℕ)
    (a : Accepted f first missing xs (transmitted missing * data_size f) (transmitted missing * f.tfci) (transmitted missing)) where
  ends : first + missing ≤ 15
  ends = a.room.gap_ok

  long : length xs ≡ 15 * f.slot
  long = a.room.frame_ok

  read_frame : frame_of f first missing (data_in f first missing xs) (tfci_in f first missing xs) (commands_in f first missing xs) ≡ xs
  unfolding frame_of data_in tfci_in commands_in shape codec plan
  read_frame =
      frame_gives (shape f row.sound) (plan first missing ends) (codec f row) xs long (λ k h e. a.slots k h (not_missing _ e)) (λ k h e. a.silent k h (missing_not _ e))

  slot_fits : (i : ℕ) → i < transmitted missing
      → FieldsOk (get_or (commands_in f first missing xs) i 0) (part i (data_size f) (data_in f first missing xs)) (part i f.tfci (tfci_in f first missing xs))
  unfolding data_in tfci_in commands_in shape codec plan
  slot_fits = frame_fits (shape f row.sound) (plan first missing ends) (codec f row) xs long (λ k h e. a.slots k h (not_missing _ e))

  read_taken : map_verdict f first missing (data_in f first missing xs) (tfci_in f first missing xs) (15 * f.slot) (commands_in f first missing xs) ≡ done
  unfolding map_verdict
  read_taken =
      or_else_pass
      (map_head_pass f first missing _ _ _ _
      (record {
        there = a.room.there;
        stands = a.room.stands;
        gap_ok = ends;
        fields = record {
          data_ok = data_in_length f row.sound first missing ends xs long;
          tfci_ok = tfci_in_length f row.sound first missing ends xs long;
          commands_ok = commands_in_length f row.sound first missing ends xs long;
        };
        frame_ok = refl;
      }))
      (chain_pass (transmitted missing) _ (λ i h. fields_pass _ _ _ _ _ _ (slot_fits i h)))

-- ---- what mapping gives, reading accepts, and gives the fields back
module _ (f : Format) (row : Row f) (first missing : ℕ) (d tfci commands : List ℕ) (m : Mapped f first missing d tfci (15 * f.slot) commands) where
  f_ok : Ready f missing (length d) (length tfci) (length commands)
  f_ok = m.room.fields

  in_gap : first + missing ≤ 15
  in_gap = m.room.gap_ok

  slot_good : (k : ℕ) → k < 15 → is_missing first missing k ≡ false → DigitsOk f k (part k f.slot (frame_of f first missing d tfci commands))
  unfolding frame_of shape codec plan
  slot_good k h e =
      frame_good (shape f row.sound) (plan first missing in_gap) (codec f row) d tfci commands f_ok.data_ok f_ok.tfci_ok m.slots k h (rw e)

  slot_silent : (k : ℕ) → k < 15 → is_missing first missing k ≡ true → part k f.slot (frame_of f first missing d tfci commands) ≡ replicate f.slot dtx
  slot_silent k h e = frame_slot f row.sound first missing in_gap d tfci commands f_ok.data_ok f_ok.tfci_ok k h ∙ rw e

  slot_passes : (k : ℕ) → k < 15 → slot_verdict f first missing (frame_of f first missing d tfci commands) k ≡ done
  slot_passes k h =
      by_slot first missing k
      (λ e. verdict_missing f first missing _ k e ∙ rw (slot_silent k h e) (silent_pass f.slot (k * f.slot)))
      (λ e. verdict_sent f first missing _ k e ∙ digits_pass f k _ _ (slot_good k h e))

  mapped_accepted : read_verdict f first missing (frame_of f first missing d tfci commands) (transmitted missing * data_size f) (transmitted missing * f.tfci) (transmitted missing) ≡ done
  unfolding read_verdict
  mapped_accepted =
      or_else_pass
      (read_head_pass f first missing _ _ _ _
      (record {
        there = m.room.there;
        stands = m.room.stands;
        gap_ok = in_gap;
        fields = record { data_ok = refl; tfci_ok = refl; commands_ok = refl };
        frame_ok = frame_length f row.sound first missing in_gap d tfci commands f_ok.data_ok f_ok.tfci_ok;
      }))
      (chain_pass 15 _ slot_passes)

  data_back : data_in f first missing (frame_of f first missing d tfci commands) ≡ d
  unfolding frame_of data_in shape codec plan
  data_back = firsts_back (shape f row.sound) (plan first missing in_gap) (codec f row) d tfci commands f_ok.data_ok f_ok.tfci_ok m.slots

  tfci_back : tfci_in f first missing (frame_of f first missing d tfci commands) ≡ tfci
  unfolding frame_of tfci_in shape codec plan
  tfci_back = seconds_back (shape f row.sound) (plan first missing in_gap) (codec f row) d tfci commands f_ok.data_ok f_ok.tfci_ok m.slots

  commands_back : commands_in f first missing (frame_of f first missing d tfci commands) ≡ commands
  unfolding frame_of commands_in shape codec plan
  commands_back =
      frames.commands_back (shape f row.sound) (plan first missing in_gap) (codec f row) d tfci commands f_ok.data_ok f_ok.tfci_ok m.slots f_ok.commands_ok

given : {f : Format} {first missing : ℕ} {d tfci commands xs : List ℕ} → Gives f first missing d tfci commands xs → Mapped f first missing d tfci (15 * f.slot) commands
given {f} {first} {missing} {d} {tfci} {commands} g = mapped f first missing d tfci (15 * f.slot) commands (number_0 g.taken)

handed : (f : Format) → Row f → (first missing : ℕ) (xs : List ℕ) (x : Fields f first missing xs)
    → (data_in f first missing xs ≡ x.d) × (tfci_in f first missing xs ≡ x.tfci) × (commands_in f first missing xs ≡ x.commands)
handed f row first missing xs x =
    let w = sym x.gives.written in
    let m = given x.gives in (
      ap (data_in f first missing) w ∙ data_back f row first missing x.d x.tfci x.commands m,
      ap (tfci_in f first missing) w ∙ tfci_back f row first missing x.d x.tfci x.commands m,
      ap (commands_in f first missing) w ∙ commands_back f row first missing x.d x.tfci x.commands m,
    )

pub read_exact : ReadExact
read_exact format kind first missing xs there stands long =
    let f = format_in kind format in
    let row = compressed_row kind format there in
    record {
      accepts = (
        λ e.
            let a = accepted f first missing xs _ _ _ (number_0 e) in
            record {
              d = data_in f first missing xs;
              tfci = tfci_in f first missing xs;
              commands = commands_in f first missing xs;
              gives = record { taken = read_taken f row first missing xs a; written = read_frame f row first missing xs a };
            },
        λ x.
            subst (λ (s : List ℕ). read_verdict f first missing s (transmitted missing * data_size f) (transmitted missing * f.tfci) (transmitted missing) ≡ done) x.gives.written
            (mapped_accepted f row first missing x.d x.tfci x.commands (given x.gives)),
      );
      hands_back = handed f row first missing xs;
      one_set = λ x y.
          let p = handed f row first missing xs x in
          let q = handed f row first missing xs y in
          (sym p.0 ∙ q.0, sym p.1 ∙ q.1, sym p.2 ∙ q.2);
    }

pub frame_slots : FrameSlots
frame_slots format kind first missing d tfci commands ends data_ok tfci_ok =
    let f = format_in kind format in
    let s = sound_row kind format in
    record {
      sent = λ i h.
          frame_slot f s first missing ends d tfci commands data_ok tfci_ok _ ((gap.one_to_one first missing ends).number_below i h)
          ∙ slot_numbered f s first missing ends d tfci commands data_ok tfci_ok i h;
      silent = λ k h e. frame_slot f s first missing ends d tfci commands data_ok tfci_ok k h ∙ rw e;
    }

pub map_once : MapOnce
map_once format kind first missing d tfci out commands a b x y p r = (one_outcome p.verdict_is r.verdict_is, one_outcome p.out_is r.out_is)

pub read_once : ReadOnce
read_once format kind first missing xs d tfci commands a b x y s t u v p r =
    (one_outcome p.verdict_is r.verdict_is, one_outcome p.data_is r.data_is, one_outcome p.tfci_is r.tfci_is, one_outcome p.commands_is r.commands_is)

map_narrow : (format kind first missing : ℕ) (d tfci : List ℕ) (out_length : ℕ) (commands : List ℕ) → Narrow (map_verdict (format_in kind format) first missing d tfci out_length commands)
unfolding map_verdict map_head
map_narrow format kind first missing d tfci out_length commands =
    or_else_narrow _ _ (gap_head_narrow (format_in kind format) first missing _ (lit< tt))
    (λ e. chain_narrow (transmitted missing) _ (λ k h.
    let f = format_in kind format in
    let r = (map_headed f first missing (length d) (length tfci) out_length (length commands) e).fields in
    let n = part_length k (transmitted missing) (data_size f) d h r.data_ok in
    let t = part_length k (transmitted missing) f.tfci tfci h r.tfci_ok in
    let a = gap.small_product k (data_size f) (omega arith) (data_small f (sound_row kind format)) in
    let b = gap.small_product k f.tfci (omega arith) (tfci_small f (sound_row kind format)) in
    let small = data_small f (sound_row kind format) in
    let few = tfci_small f (sound_row kind format) in
    fields_narrow _ _ _ k _ _ (omega arith) (omega arith) (omega arith)))

read_narrow : (format kind first missing : ℕ) (xs : List ℕ) (data_length tfci_length commands_length : ℕ)
    → Narrow (read_verdict (format_in kind format) first missing xs data_length tfci_length commands_length)
unfolding read_verdict read_head
read_narrow format kind first missing xs data_length tfci_length commands_length =
    or_else_narrow _ _ (gap_head_narrow (format_in kind format) first missing _ (lit< tt))
    (λ e. chain_narrow 15 _ (λ k h.
    let f = format_in kind format in
    let room = read_headed f first missing (length xs) data_length tfci_length commands_length e in
    let a = part_room k 15 f.slot h in
    let n = part_length k 15 f.slot xs h room.frame_ok in
    let short = (sound_row kind format).short in
    by_slot first missing k
    (λ e. rw (verdict_missing f first missing xs k e) (silent_narrow _ _ (omega arith)))
    (λ e. rw (verdict_sent f first missing xs k e) (digits_narrow f (sound_row kind format) k _ _ n (omega arith)))))

pub packs : Packs
packs = record { map_narrow = map_narrow; read_narrow = read_narrow }
