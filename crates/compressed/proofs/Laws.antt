-- The slots of a compressed frame: checked, written and taken one after the other.
-- Assumes nothing.
use mathlib.Core.Path.{◌≡◌, refl, sym, ◌∙◌}
use mathlib.Core.Bool.{Bool, true, false, cond}
use mathlib.Core.List.{List}
use Prim.Native.Nat.{ℕ, ◌+◌, ◌-◌, ◌*◌, ◌≤◌, ◌<◌}
use native.Mathlib.Omega.{arith}
use borrow.Rule.Slice.PartMut.{put_mid, mid_of}
use lib.ListN.{length, get_or, take, drop, replicate, length-drop}
use lib.Seq.{length-take-le}
use Rattle.run.specs.Verdict.{Verdict}
use Rattle.run.specs.Digits.{dtx}
use Rattle.run.specs.Parts.{part}
use Rattle.run.proofs.Frames as frames
use Rattle.run.proofs.Frames.{lent_is, lent_part, lent_length, sized}
use Rattle.run.proofs.Front.{Front}
use Rattle.run.proofs.Parts.{part_room}
use Rattle.dpch.specs.declared.Format.{Format}
use Rattle.slot.specs.Rule.{data_size, slot_of, command_in}
use Rattle.slot.specs.Outcome.{part_verdict, PutRow, TakeRow}
use Rattle.slot.specs.declared.Sizes.{Sizes}
use Rattle.slot.specs.Ready.{Sound, SizesOf}
use Rattle.slot.proofs.Accept.{sizes_pass}
use Rattle.slot.proofs.Rows.{shape}
use Rattle.frame.proofs.Laws.{digits_at}
use Rattle.compressed.specs.Rule.{is_missing, transmitted, number_of, turn_of, slot_at, frame_of, data_in, tfci_in, commands_in}
use Rattle.compressed.specs.Outcome.{silent_verdict, slot_verdict}
use Rattle.compressed.specs.Ready.{Room, Turn}
use Rattle.compressed.proofs.Gap.{one_to_one, plan, small_product}
use Rattle.compressed.proofs.Accept.{verdict_missing, verdict_sent}

-- slot k as it is lent: the checks of its digits where it is missing, and where it is not
module _ (f : Format) (first missing : ℕ) (xs : List ℕ) (k w : ℕ) (r : Verdict) (p : w ≡ f.slot) where
  missing_at : is_missing first missing k ≡ true → r ≡ silent_verdict (take (k * w + w - k * w) (drop (k * w) xs)) (k * w) → r ≡ slot_verdict f first missing xs k
  missing_at e h = h ∙ rw (lent_is k w xs) (rw p (sym (verdict_missing f first missing xs k e)))

  sent_at : is_missing first missing k ≡ false → k < 15 → length xs ≡ 15 * f.slot
      → r ≡ part_verdict f k (take (k * w + w - k * w) (drop (k * w) xs)) (k * w) → r ≡ slot_verdict f first missing xs k
  sent_at e h long is = digits_at f xs k w r p h long is ∙ sym (verdict_sent f first missing xs k e)

-- .. as one function checks both
pub checked_at : (f : Format) (first missing : ℕ) (xs : List ℕ) (k w : ℕ) (r : Verdict) → w ≡ f.slot → k < 15 → length xs ≡ 15 * f.slot
    → r ≡ cond (is_missing first missing k) (silent_verdict (take (k * w + w - k * w) (drop (k * w) xs)) (k * w)) (part_verdict f k (take (k * w + w - k * w) (drop (k * w) xs)) (k * w))
    → r ≡ slot_verdict f first missing xs k
checked_at f first missing xs k w r p h long is = by_case (is_missing first missing k) refl
  where
    by_case : (b : Bool) → is_missing first missing k ≡ b → r ≡ slot_verdict f first missing xs k
    by_case true e = missing_at f first missing xs k w r p e (rw e at is)
    by_case false e = sent_at f first missing xs k w r p e h long (rw e at is)

-- the frame is made of fifteen slots
module _ (f : Format) (s : Sound f) (first missing : ℕ) (ends : first + missing ≤ 15) (d tfci commands : List ℕ)
    (data_ok : length d ≡ transmitted missing * data_size f) (tfci_ok : length tfci ≡ transmitted missing * f.tfci) where
  pub frame_length : length (frame_of f first missing d tfci commands) ≡ 15 * f.slot
  unfolding frame_of shape plan
  frame_length = frames.frame_length (shape f s) (plan first missing ends) d tfci commands data_ok tfci_ok

  pub frame_slot : (k : ℕ) → k < 15 → part k f.slot (frame_of f first missing d tfci commands) ≡ slot_at f first missing d tfci commands k
  unfolding frame_of shape plan
  frame_slot = frames.frame_slot (shape f s) (plan first missing ends) d tfci commands data_ok tfci_ok

  pub slot_numbered : (i : ℕ) → i < transmitted missing
      → slot_at f first missing d tfci commands (number_of first missing i) ≡ slot_of f (number_of first missing i) (get_or commands i 0) (part i (data_size f) d) (part i f.tfci tfci)
  unfolding shape plan
  slot_numbered = frames.slot_at_lem (shape f s) (plan first missing ends) d tfci commands data_ok tfci_ok

  -- slot k is lent and comes back written
  pub slot_written : (out x y : List ℕ) (k w : ℕ) → length out ≡ 15 * f.slot → k < 15 → w ≡ f.slot
      → Front (frame_of f first missing d tfci commands) out x (k * w) → y ≡ slot_at f first missing d tfci commands k
      → Front (frame_of f first missing d tfci commands) out (put_mid (k * w) (k * w + w - k * w) x y) ((k + 1) * w)
  unfolding frame_of shape plan
  slot_written out x y k w out_ok h r front e =
      frames.as_slot (shape f s) (plan first missing ends) d tfci commands out x y k w data_ok tfci_ok out_ok h r front e

-- a missing slot is silent
pub silence_is : (f : Format) (first missing : ℕ) (d tfci commands out y : List ℕ) (k : ℕ) → is_missing first missing k ≡ true → length out ≡ f.slot
    → y ≡ replicate (length out) dtx → y ≡ slot_at f first missing d tfci commands k
silence_is f first missing d tfci commands out y k e long is = is ∙ rw (e, long)

-- .. where slot k is the i-th transmitted one
pub sent_is : (f : Format) (first missing : ℕ) (d tfci commands y : List ℕ) (k i : ℕ) → is_missing first missing k ≡ false → i ≡ turn_of first missing k
    → y ≡ slot_of f k (get_or commands i 0) (part i (data_size f) d) (part i f.tfci tfci) → y ≡ slot_at f first missing d tfci commands k
sent_is f first missing d tfci commands y k i sent turn is = is ∙ rw (turn, sent)

-- a part that is there is lent whole
lent_room : (i n : ℕ) (s : List ℕ) → i * n + n ≤ length s → length (take (i * n + n - i * n) (drop (i * n) s)) ≡ n
lent_room i n s h = length-take-le (i * n + n - i * n) (drop (i * n) s) (simp length-drop (omega arith)) ∙ omega arith

-- the i-th transmitted slot as its command and parts are lent
pub turn_is : (f : Format) (s : Sizes) (i k : ℕ) (d tfci commands out y : List ℕ) → Turn f s i (length d) (length tfci) (length commands) (length out)
    → PutRow f k (get_or commands i 0) (take (i * s.«data» + s.«data» - i * s.«data») (drop (i * s.«data») d)) (take (i * s.tfci + s.tfci - i * s.tfci) (drop (i * s.tfci) tfci)) out y
    → y ≡ slot_of f k (get_or commands i 0) (part i (data_size f) d) (part i f.tfci tfci)
turn_is f s i k d tfci commands out y turn e =
    let p = turn.sizes.data_is in
    let q = turn.sizes.tfci_is in
    let sizes = sizes_pass f _ _ _ turn.there (lent_room i s.«data» d turn.data_room ∙ p) (lent_room i s.tfci tfci turn.tfci_room ∙ q) turn.slot_ok in
    e.out_is ∙ rw (sizes, lent_is i s.«data» d, lent_is i s.tfci tfci, p, q)

-- the i-th parts of the runs are there, and their bounds are small
pub turn_of_slot : (f : Format) (s : Sizes) (first missing data_length tfci_length commands_len frame_len slot_length i : ℕ)
    → Room f first missing data_length tfci_length commands_len frame_len → SizesOf f s → slot_length ≡ f.slot → i < transmitted missing
    → Turn f s i data_length tfci_length commands_len slot_length
turn_of_slot f s first missing data_length tfci_length commands_len frame_len slot_length i room sizes slot_ok h =
    let a = part_room i (transmitted missing) s.«data» h in
    let b = part_room i (transmitted missing) s.tfci h in
    let x : data_length ≡ transmitted missing * s.«data» = sized (transmitted missing) sizes.data_is room.fields.data_ok in
    let y : tfci_length ≡ transmitted missing * s.tfci = sized (transmitted missing) sizes.tfci_is room.fields.tfci_ok in
    let z = room.fields.commands_ok in
    let n = sizes.data_short in
    let m = sizes.tfci_short in
    let u = small_product i s.«data» (omega arith) n in
    let v = small_product i s.tfci (omega arith) m in
    record {
      there = room.there;
      sizes = sizes;
      slot_ok = slot_ok;
      data_room = omega arith;
      tfci_room = omega arith;
      command_room = omega arith;
      data_small = omega arith;
      tfci_small = omega arith;
    }

-- .. and so are those of the turn of slot k
pub turn_there : (f : Format) (s : Sizes) (first missing data_length tfci_length commands_len frame_len slot_length k i : ℕ)
    → Room f first missing data_length tfci_length commands_len frame_len → SizesOf f s → slot_length ≡ f.slot → k < 15 → is_missing first missing k ≡ false → i ≡ turn_of first missing k
    → Turn f s i data_length tfci_length commands_len slot_length
turn_there f s first missing data_length tfci_length commands_len frame_len slot_length k i room sizes slot_ok h sent turn =
    turn_of_slot f s first missing data_length tfci_length commands_len frame_len slot_length i room sizes slot_ok
    (let t = (one_to_one first missing room.gap_ok).turn_below k h sent in omega arith)

-- .. and of the i-th transmitted slot, and its own part of the frame
pub take_parts : (f : Format) (s : Sizes) (first missing data_length tfci_length commands_len frame_len i k : ℕ)
    → Room f first missing data_length tfci_length commands_len frame_len → SizesOf f s → i < transmitted missing → k ≡ number_of first missing i
    → Turn f s i data_length tfci_length commands_len f.slot × (k * s.slot + s.slot ≤ frame_len) × (k * s.slot + s.slot ≤ 20480)
take_parts f s first missing data_length tfci_length commands_len frame_len i k room sizes h number =
    let below : k < 15 = let z = (one_to_one first missing room.gap_ok).number_below i h in omega arith in
    let y = part_room k 15 s.slot below in
    let z : frame_len ≡ 15 * s.slot = sized 15 sizes.slot_is room.frame_ok in
    let w = sizes.slot_short in
    let u = small_product k s.slot (omega arith) w in
    (turn_of_slot f s first missing data_length tfci_length commands_len frame_len f.slot i room sizes refl h, omega arith, omega arith)

-- what is asked of the runs, with the frame's length by the row
pub room_for : (f : Format) (first missing data_length tfci_length commands_len frame_len : ℕ) → Room f first missing data_length tfci_length commands_len frame_len
    → Room f first missing data_length tfci_length commands_len (15 * f.slot)
room_for f first missing data_length tfci_length commands_len frame_len room =
    record { there = room.there; stands = room.stands; gap_ok = room.gap_ok; fields = room.fields; frame_ok = refl }

-- the fields of a frame, slot by slot
module _ (f : Format) (s : Sound f) (first missing : ℕ) (ends : first + missing ≤ 15) (xs : List ℕ) (long : length xs ≡ 15 * f.slot) where
  pub data_in_length : length (data_in f first missing xs) ≡ transmitted missing * data_size f
  unfolding data_in shape plan
  data_in_length = frames.firsts_length (shape f s) (plan first missing ends) xs long

  pub tfci_in_length : length (tfci_in f first missing xs) ≡ transmitted missing * f.tfci
  unfolding tfci_in shape plan
  tfci_in_length = frames.seconds_length (shape f s) (plan first missing ends) xs long

  pub commands_in_length : length (commands_in f first missing xs) ≡ transmitted missing
  unfolding commands_in shape plan
  commands_in_length = frames.commands_length (shape f s) (plan first missing ends) xs long

  pub command_of : (i : ℕ) → i < transmitted missing → get_or (commands_in f first missing xs) i 0 ≡ command_in f (part (number_of first missing i) f.slot xs)
  unfolding commands_in shape plan
  command_of = frames.command_of (shape f s) (plan first missing ends) xs long

-- the i-th transmitted slot is lent, and its fields come back
module _ (f : Format) (s : Sound f) (first missing : ℕ) (xs d t c x u : List ℕ) (i k n m w : ℕ) (room : Room f first missing (length d) (length t) (length c) (length xs))
    (h : i < transmitted missing) (number : k ≡ number_of first missing i) (p : n ≡ data_size f) (q : m ≡ f.tfci) (r : w ≡ f.slot)
    (front : Front (data_in f first missing xs) d x (i * n)) (g : Front (tfci_in f first missing xs) t u (i * m)) where
  -- what is known of the runs once it is taken
  pub record Back (command : ℕ) (y v : List ℕ) : Type 0 where
    pub data_back : Front (data_in f first missing xs) d (put_mid (i * n) (i * n + n - i * n) x y) ((i + 1) * n)
    pub tfci_back : Front (tfci_in f first missing xs) t (put_mid (i * m) (i * m + m - i * m) u v) ((i + 1) * m)
    pub command_back : command ≡ get_or (commands_in f first missing xs) i 0

  pub slot_back : (command : ℕ) (y v : List ℕ)
      → TakeRow f (take (k * w + w - k * w) (drop (k * w) xs)) (mid_of (i * n) (i * n + n - i * n) x) (mid_of (i * m) (i * m + m - i * m) u) command y v
      → Back command y v
  unfolding data_in tfci_in commands_in shape plan
  slot_back command y v e =
      let long = room.frame_ok in
      let below : k < 15 = let z = (one_to_one first missing room.gap_ok).number_below i h in omega arith in
      let sizes =
      sizes_pass f _ _ _ room.there (lent_part i n h (sized (transmitted missing) p room.fields.data_ok) front ∙ p)
      (lent_part i m h (sized (transmitted missing) q room.fields.tfci_ok) g ∙ q) (lent_length k w xs below (sized 15 r long) ∙ r)
      in
      let pl = plan first missing room.gap_ok in
      record {
        data_back = frames.first_taken (shape f s) pl xs long i k w h number r d x y n room.fields.data_ok p front (e.data_is ∙ rw sizes);
        tfci_back = frames.second_taken (shape f s) pl xs long i k w h number r t u v m room.fields.tfci_ok q g (e.tfci_is ∙ rw sizes);
        command_back = frames.command_taken (shape f s) pl xs long i k w h number r _ (e.command_is ∙ rw sizes);
      }
