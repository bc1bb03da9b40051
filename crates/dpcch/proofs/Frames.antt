-- The slots of a DPCCH frame: checked, written and taken one after the other.
-- Assumes nothing.
use mathlib.Core.Path.{◌≡◌, refl, ap, ◌∙◌}
use mathlib.Core.List.{List}
use Prim.Native.Nat.{ℕ, ◌+◌, ◌-◌, ◌*◌, ◌<◌}
use native.Mathlib.Omega.{arith}
use borrow.Rule.Slice.PartMut.{put_mid, mid_of}
use borrow.Author.Tests.{leb-true}
use lib.Dec.{leb, lit<}
use lib.ListN.{length, get_or, take, drop}
use Rattle.run.specs.Verdict.{Verdict}
use Rattle.run.specs.First.{Every, at_most}
use Rattle.run.specs.Parts.{part}
use Rattle.run.specs.Verdicts.{done, chain}
use Rattle.run.proofs.Chain.{chain_pass}
use Rattle.run.proofs.Frames as frames
use Rattle.run.proofs.Frames.{Shape, all_slots, lent_is, lent_part, lent_length, sized}
use Rattle.run.proofs.Front.{Front}
use Rattle.run.proofs.Parts.{part_room, part_length, part_at}
use Rattle.dpch.specs.Uplink.{dpcch_format}
use Rattle.dpcch.specs.Rule.{slot_of, command_in, tfci_in, fbi_in, slot_at, frame_of, frame_tfci_in, frame_fbi_in, commands_in}
use Rattle.dpcch.specs.Outcome.{fields_verdict, part_verdict, Put, Take, slot_fields, slot_digits}
use Rattle.dpcch.specs.Ready.{Whole, FrameReady, Room, FieldBits}
use Rattle.dpcch.proofs.Laws.{sound_format, slot_length, field_long, part_whole}
use Rattle.dpcch.proofs.Accept.{sizes_pass, fields_pass}

-- the k-th command, TFCI and FBI as they are lent: the checks of slot k
pub fields_at : (format : ℕ) (tfci fbi commands : List ℕ) (k n m : ℕ) (r : Verdict) → n ≡ (dpcch_format format).tfci → m ≡ (dpcch_format format).fbi
    → r ≡ fields_verdict (get_or commands k 0) (take (k * n + n - k * n) (drop (k * n) tfci)) (take (k * m + m - k * m) (drop (k * m) fbi)) k (k * n) (k * m)
    → r ≡ slot_fields format tfci fbi commands k
fields_at format tfci fbi commands k n m r p q e = e ∙ rw (lent_is k n tfci, lent_is k m fbi) (rw (p, q))

-- fields that are bits are good in every slot
pub bits_good : (format : ℕ) (tfci fbi commands : List ℕ) → FrameReady format (length tfci) (length fbi) (length commands) → FieldBits tfci fbi commands
    → chain 15 (slot_fields format tfci fbi commands) ≡ done
bits_good format tfci fbi commands r b =
    chain_pass 15 _
    (λ k h. fields_pass _ _ _ _ _ _
    (record {
      tpc_ok = leb-true _ _ (b.commands_bits k (let n = r.commands_ok in omega arith));
      tfci_bits = part_bits k (dpcch_format format).tfci tfci h r.tfci_ok b.tfci_bits;
      fbi_bits = part_bits k (dpcch_format format).fbi fbi h r.fbi_ok b.fbi_bits;
    }))
  where
    part_bits : (k n : ℕ) (s : List ℕ) → k < 15 → length s ≡ 15 * n → Every (at_most 1 s) (length s) → Every (at_most 1 (part k n s)) (length (part k n s))
    part_bits k n s h e bits i l =
        let long : length (part k n s) ≡ n = part_length k 15 n s h e in
        let room = part_room k 15 n h in
        ap (λ (x : ℕ). leb x 1) (part_at k n i s 0 (omega arith)) ∙ bits (k * n + i) (omega arith)

-- slot k as it is lent: the checks of its digits
pub digits_at : (format : ℕ) (xs : List ℕ) (k w : ℕ) (r : Verdict) → w ≡ (dpcch_format format).slot → k < 15 → length xs ≡ 15 * (dpcch_format format).slot
    → r ≡ part_verdict format k (take (k * w + w - k * w) (drop (k * w) xs)) (k * w)
    → r ≡ slot_digits format xs k
digits_at format xs k w r p h long e =
    e
    ∙ rw (lent_is k w xs)
    (rw p (part_whole format k (part k (dpcch_format format).slot xs) (k * (dpcch_format format).slot) (part_length k 15 (dpcch_format format).slot xs h long)))

-- a slot of the DPCCH, as one of fifteen
unfoldable pub shape : ℕ → Shape
shape format =
    record {
      first_size = (dpcch_format format).tfci;
      second_size = (dpcch_format format).fbi;
      slot_size = (dpcch_format format).slot;
      make = slot_of (dpcch_format format);
      command = command_in (dpcch_format format);
      first = tfci_in (dpcch_format format);
      second = fbi_in (dpcch_format format);
      make_long = slot_length (dpcch_format format) (sound_format format);
      first_long = λ xs e. field_long (dpcch_format format) xs (whole xs e) 1 (lit< tt);
      second_long = λ xs e. field_long (dpcch_format format) xs (whole xs e) 2 (lit< tt);
    }
  where
    whole : (xs : List ℕ) → length xs ≡ (dpcch_format format).slot → Whole (dpcch_format format) (length xs)
    whole xs e = record { sound = sound_format format; slot_ok = e }

-- the frame is made of fifteen slots
module _ (format : ℕ) (tfci fbi commands : List ℕ) (tfci_ok : length tfci ≡ 15 * (dpcch_format format).tfci) (fbi_ok : length fbi ≡ 15 * (dpcch_format format).fbi) where
  pub frame_length : length (frame_of (dpcch_format format) tfci fbi commands) ≡ 15 * (dpcch_format format).slot
  unfolding frame_of shape
  frame_length = frames.frame_length (shape format) all_slots tfci fbi commands tfci_ok fbi_ok

  pub frame_slot : (k : ℕ) → k < 15 → part k (dpcch_format format).slot (frame_of (dpcch_format format) tfci fbi commands) ≡ slot_at (dpcch_format format) tfci fbi commands k
  unfolding frame_of shape
  frame_slot = frames.frame_slot (shape format) all_slots tfci fbi commands tfci_ok fbi_ok

-- slot k is lent and comes back written
pub slot_written : (format : ℕ) (tfci fbi commands out x y : List ℕ) (k n m w : ℕ)
    → Room format (length tfci) (length fbi) (length commands) (length out) → k < 15
    → n ≡ (dpcch_format format).tfci → m ≡ (dpcch_format format).fbi → w ≡ (dpcch_format format).slot
    → Front (frame_of (dpcch_format format) tfci fbi commands) out x (k * w)
    → Put format k (get_or commands k 0) (take (k * n + n - k * n) (drop (k * n) tfci)) (take (k * m + m - k * m) (drop (k * m) fbi)) (mid_of (k * w) (k * w + w - k * w) x) y
    → Front (frame_of (dpcch_format format) tfci fbi commands) out (put_mid (k * w) (k * w + w - k * w) x y) ((k + 1) * w)
unfolding frame_of shape
slot_written format tfci fbi commands out x y k n m w room h p q r f e =
    let f_ok = room.fields in
    let sizes =
    sizes_pass format _ _ _ room.format_ok
    (record {
      sound = sound_format format;
      tfci_ok = lent_length k n tfci h (sized 15 p f_ok.tfci_ok) ∙ p;
      fbi_ok = lent_length k m fbi h (sized 15 q f_ok.fbi_ok) ∙ q;
      slot_ok = lent_part k w h (sized 15 r room.frame_ok) f ∙ r;
    })
    in
    frames.slot_written (shape format) all_slots tfci fbi commands out x y k w f_ok.tfci_ok f_ok.fbi_ok room.frame_ok h r f k n m p q refl refl (e.out_is ∙ rw sizes)

-- the fields of a frame, slot by slot
module _ (format : ℕ) (xs : List ℕ) (long : length xs ≡ 15 * (dpcch_format format).slot) where
  pub tfci_in_length : length (frame_tfci_in (dpcch_format format) xs) ≡ 15 * (dpcch_format format).tfci
  unfolding frame_tfci_in shape
  tfci_in_length = frames.firsts_length (shape format) all_slots xs long

  pub fbi_in_length : length (frame_fbi_in (dpcch_format format) xs) ≡ 15 * (dpcch_format format).fbi
  unfolding frame_fbi_in shape
  fbi_in_length = frames.seconds_length (shape format) all_slots xs long

  pub commands_in_length : length (commands_in (dpcch_format format) xs) ≡ 15
  unfolding commands_in shape
  commands_in_length = frames.commands_length (shape format) all_slots xs long

  pub command_of : (k : ℕ) → k < 15 → get_or (commands_in (dpcch_format format) xs) k 0 ≡ command_in (dpcch_format format) (part k (dpcch_format format).slot xs)
  unfolding commands_in shape
  command_of = frames.command_of (shape format) all_slots xs long

-- slot k is lent, and its fields come back
module _ (format : ℕ) (xs t b c x u : List ℕ) (k n m w : ℕ) (room : Room format (length t) (length b) (length c) (length xs)) (h : k < 15)
    (p : n ≡ (dpcch_format format).tfci) (q : m ≡ (dpcch_format format).fbi) (r : w ≡ (dpcch_format format).slot)
    (f : Front (frame_tfci_in (dpcch_format format) xs) t x (k * n)) (g : Front (frame_fbi_in (dpcch_format format) xs) b u (k * m)) where
  -- what is known of the runs once slot k is taken
  pub record Back (command : ℕ) (y v : List ℕ) : Type 0 where
    pub tfci_back : Front (frame_tfci_in (dpcch_format format) xs) t (put_mid (k * n) (k * n + n - k * n) x y) ((k + 1) * n)
    pub fbi_back : Front (frame_fbi_in (dpcch_format format) xs) b (put_mid (k * m) (k * m + m - k * m) u v) ((k + 1) * m)
    pub command_back : command ≡ get_or (commands_in (dpcch_format format) xs) k 0

  pub slot_back : (command : ℕ) (y v : List ℕ)
      → Take format (take (k * w + w - k * w) (drop (k * w) xs)) (mid_of (k * n) (k * n + n - k * n) x) (mid_of (k * m) (k * m + m - k * m) u) command y v
      → Back command y v
  unfolding frame_tfci_in frame_fbi_in commands_in shape
  slot_back command y v e =
      let long = room.frame_ok in
      let sizes =
      sizes_pass format _ _ _ room.format_ok
      (record {
        sound = sound_format format;
        tfci_ok = lent_part k n h (sized 15 p room.fields.tfci_ok) f ∙ p;
        fbi_ok = lent_part k m h (sized 15 q room.fields.fbi_ok) g ∙ q;
        slot_ok = lent_length k w xs h (sized 15 r long) ∙ r;
      })
      in
      record {
        tfci_back = frames.first_taken (shape format) all_slots xs long k k w h refl r t x y n room.fields.tfci_ok p f (e.tfci_is ∙ rw sizes);
        fbi_back = frames.second_taken (shape format) all_slots xs long k k w h refl r b u v m room.fields.fbi_ok q g (e.fbi_is ∙ rw sizes);
        command_back = frames.command_taken (shape format) all_slots xs long k k w h refl r _ (e.command_is ∙ rw sizes);
      }
