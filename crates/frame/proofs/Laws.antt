-- The slots of a frame: checked, written and taken one after the other.
-- Assumes nothing.
use mathlib.Core.Path.{◌≡◌, refl, sym, ap, ◌∙◌}
use mathlib.Core.List.{List}
use Prim.Native.Nat.{ℕ, ◌+◌, ◌-◌, ◌*◌, ◌<◌}
use native.Mathlib.Omega.{arith}
use borrow.Rule.Slice.PartMut.{put_mid, mid_of}
use lib.ListN.{length, get_or, take, drop}
use Rattle.std.specs.Prelude.{Result, Ok, Err}
use Rattle.std.specs.Result.{IsErrAnd, result_unwrap_or}
use Rattle.run.specs.Verdict.{Verdict}
use Rattle.run.specs.declared.refusal.Refusal.{Refusal}
use Rattle.run.specs.Answers.{number_of, verdict_of, value_of}
use Rattle.run.specs.Parts.{part}
use Rattle.run.specs.Verdicts.{refused, chain, leaves}
use Rattle.run.proofs.Answers as answers
use Rattle.run.proofs.Answers.{refuses}
use Rattle.run.proofs.Chain.{chain_hit, leaves_done, number_0}
use Rattle.run.proofs.Frames as frames
use Rattle.run.proofs.Frames.{all_slots, lent_part, lent_length, sized}
use Rattle.run.proofs.Front.{Front}
use Rattle.run.proofs.Parts.{part_length, part_lent}
use Rattle.dpch.specs.declared.Format.{Format}
use Rattle.dpch.specs.Formats.{format_of}
use Rattle.dpch.specs.Command.{Command}
use Rattle.slot.specs.Rule.{data_size, slot_of, command_in}
use Rattle.slot.specs.Outcome as slot-outcome
use Rattle.slot.specs.Outcome.{fields_verdict, part_verdict, Take}
use Rattle.slot.proofs.Accept.{map_head_pass, read_head_pass}
use Rattle.slot.proofs.Laws.{sound_format, part_whole}
use Rattle.slot.proofs.Rows.{shape}
use Rattle.frame.specs.Rule.{slot_at, frame_of, data_in, tfci_in, commands_in}
use Rattle.frame.specs.Outcome.{slot_fields, slot_digits}
use Rattle.frame.specs.Ready.{Room}

-- slots that are checked one after the other: the first that is refused ends them
pub slot_stops : {A : Type 0} (n : ℕ) (v : ℕ → Verdict) (k : ℕ) (r : Result A Refusal) (x : Refusal) → k < n → ((j : ℕ) → j < k → (v j).number ≡ 0)
    → IsErrAnd r (λ e. e ≡ x) → refused (number_of x.reason) x.place ≡ v k → verdict_of r ≡ chain n v
slot_stops n v k r x l before h e = answers.handed r x h ∙ e ∙ sym (chain_hit n v k l before (λ z. refuses x x.place (ap (λ (w : Verdict). w.number) e ∙ z)))

-- the command that a reader answers, 0 where it refuses
pub unwrapped : (r : Result ℕ Refusal) → result_unwrap_or r 0 ≡ value_of r
unwrapped (Ok n) = refl
unwrapped (Err x) = refl

-- the k-th command, data and TFCI as they are lent: the checks of slot k
pub fields_at : (f : Format) (d tfci commands : List ℕ) (k n m : ℕ) (r : Verdict) → n ≡ data_size f → m ≡ f.tfci
    → r ≡ fields_verdict (get_or commands k 0) (take (k * n + n - k * n) (drop (k * n) d)) (take (k * m + m - k * m) (drop (k * m) tfci)) k (k * m) (k * n)
    → r ≡ slot_fields f d tfci commands k
fields_at f d tfci commands k n m r p q e =
    e
    ∙ rw (part_lent k n (k * n) (k * n + n) d refl refl, part_lent k m (k * m) (k * m + m) tfci refl refl)
    (rw (p, q))

-- slot k as it is lent: the checks of its digits
pub digits_at : (f : Format) (xs : List ℕ) (k w : ℕ) (r : Verdict) → w ≡ f.slot → k < 15 → length xs ≡ 15 * f.slot
    → r ≡ part_verdict f k (take (k * w + w - k * w) (drop (k * w) xs)) (k * w)
    → r ≡ slot_digits f xs k
digits_at f xs k w r p h long e =
    e
    ∙ rw (part_lent k w (k * w) (k * w + w) xs refl refl)
    (rw p (part_whole f k (part k f.slot xs) (k * f.slot) (part_length k 15 f.slot xs h long)))

-- the frame is made of fifteen slots
module _ (format : ℕ) (d tfci commands : List ℕ) (data_ok : length d ≡ 15 * data_size (format_of format)) (tfci_ok : length tfci ≡ 15 * (format_of format).tfci) where
  pub frame_length : length (frame_of (format_of format) d tfci commands) ≡ 15 * (format_of format).slot
  unfolding frame_of shape
  frame_length = frames.frame_length (shape (format_of format) (sound_format format)) all_slots d tfci commands data_ok tfci_ok

  pub frame_slot : (k : ℕ) → k < 15 → part k (format_of format).slot (frame_of (format_of format) d tfci commands) ≡ slot_at (format_of format) d tfci commands k
  unfolding frame_of shape
  frame_slot = frames.frame_slot (shape (format_of format) (sound_format format)) all_slots d tfci commands data_ok tfci_ok

-- slot k is lent and comes back written
pub slot_written : (format : ℕ) (d tfci commands out x y : List ℕ) (k n m w : ℕ)
    → Room format (length d) (length tfci) (length commands) (length out) → k < 15
    → n ≡ data_size (format_of format) → m ≡ (format_of format).tfci → w ≡ (format_of format).slot
    → Front (frame_of (format_of format) d tfci commands) out x (k * w)
    → y ≡ leaves (slot-outcome.map_head format k (length (take (k * n + n - k * n) (drop (k * n) d))) (length (take (k * m + m - k * m) (drop (k * m) tfci))) (length (mid_of (k * w) (k * w + w - k * w) x)))
    (slot_of (format_of format) k (get_or commands k 0) (take (k * n + n - k * n) (drop (k * n) d)) (take (k * m + m - k * m) (drop (k * m) tfci)))
    (mid_of (k * w) (k * w + w - k * w) x)
    → Front (frame_of (format_of format) d tfci commands) out (put_mid (k * w) (k * w + w - k * w) x y) ((k + 1) * w)
unfolding frame_of shape
slot_written format d tfci commands out x y k n m w room h p q r f e =
    let f_ok = room.fields in
    let head =
    map_head_pass format k _ _ _ room.format_ok (omega arith) (lent_length k n d h (sized 15 p f_ok.data_ok) ∙ p) (lent_length k m tfci h (sized 15 q f_ok.tfci_ok) ∙ q)
    (lent_part k w h (sized 15 r room.frame_ok) f ∙ r)
    in
    frames.slot_written (shape (format_of format) (sound_format format)) all_slots d tfci commands out x y k w f_ok.data_ok f_ok.tfci_ok room.frame_ok h r f k n m p q refl refl (e ∙ leaves_done _ _ _ (number_0 head))

-- the fields of a frame, slot by slot
module _ (format : ℕ) (xs : List ℕ) (long : length xs ≡ 15 * (format_of format).slot) where
  pub data_in_length : length (data_in (format_of format) xs) ≡ 15 * data_size (format_of format)
  unfolding data_in shape
  data_in_length = frames.firsts_length (shape (format_of format) (sound_format format)) all_slots xs long

  pub tfci_in_length : length (tfci_in (format_of format) xs) ≡ 15 * (format_of format).tfci
  unfolding tfci_in shape
  tfci_in_length = frames.seconds_length (shape (format_of format) (sound_format format)) all_slots xs long

  pub commands_in_length : length (commands_in (format_of format) xs) ≡ 15
  unfolding commands_in shape
  commands_in_length = frames.commands_length (shape (format_of format) (sound_format format)) all_slots xs long

  pub command_of : (k : ℕ) → k < 15 → get_or (commands_in (format_of format) xs) k 0 ≡ command_in (format_of format) (part k (format_of format).slot xs)
  unfolding commands_in shape
  command_of = frames.command_of (shape (format_of format) (sound_format format)) all_slots xs long

-- slot k is lent, and its fields come back
module _ (format : ℕ) (xs d t c x u : List ℕ) (k n m w : ℕ) (room : Room format (length d) (length t) (length c) (length xs)) (h : k < 15)
    (p : n ≡ data_size (format_of format)) (q : m ≡ (format_of format).tfci) (r : w ≡ (format_of format).slot)
    (f : Front (data_in (format_of format) xs) d x (k * n)) (g : Front (tfci_in (format_of format) xs) t u (k * m)) where
  -- what is known of the runs once slot k is taken
  pub record Back (answer : Command) (y v : List ℕ) : Type 0 where
    pub data_back : Front (data_in (format_of format) xs) d (put_mid (k * n) (k * n + n - k * n) x y) ((k + 1) * n)
    pub tfci_back : Front (tfci_in (format_of format) xs) t (put_mid (k * m) (k * m + m - k * m) u v) ((k + 1) * m)
    pub command_back : answer.tpc ≡ get_or (commands_in (format_of format) xs) k 0

  pub slot_back : (answer : Command) (y v : List ℕ)
      → Take format k (take (k * w + w - k * w) (drop (k * w) xs)) (mid_of (k * n) (k * n + n - k * n) x) (mid_of (k * m) (k * m + m - k * m) u) answer y v
      → Back answer y v
  unfolding data_in tfci_in commands_in shape
  slot_back answer y v e =
      let long = room.frame_ok in
      let head =
      number_0
      (read_head_pass format k _ _ _ room.format_ok (omega arith) (lent_length k w xs h (sized 15 r long) ∙ r) (lent_part k n h (sized 15 p room.fields.data_ok) f ∙ p)
      (lent_part k m h (sized 15 q room.fields.tfci_ok) g ∙ q))
      in
      record {
        data_back = frames.first_taken (shape (format_of format) (sound_format format)) all_slots xs long k k w h refl r d x y n room.fields.data_ok p f (e.data_is ∙ leaves_done _ _ _ head);
        tfci_back = frames.second_taken (shape (format_of format) (sound_format format)) all_slots xs long k k w h refl r t u v m room.fields.tfci_ok q g (e.tfci_is ∙ leaves_done _ _ _ head);
        command_back = frames.command_taken (shape (format_of format) (sound_format format)) all_slots xs long k k w h refl r _ (e.command_is ∙ leaves_done _ _ _ head);
      }
