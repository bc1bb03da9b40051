-- The numbers of each call's verdict, check by check. Where calls have a part in common, its numbers are asked to be among those of the call.
-- Assumes nothing.
use mathlib.Core.Path.{refl}
use mathlib.Core.Bool.{Bool, true, false, cond}
use mathlib.Core.List.{List, []}
use Prim.Native.Nat.{ℕ, ◌*◌}
use lib.IntN.{ℤ}
use Rattle.run.specs.Verdict.{Verdict}
use Rattle.run.specs.Parts.{part}
use Rattle.run.specs.Verdicts.{lengths}
use Rattle.run.proofs.Chain.{lengths_pass}
use Rattle.dpch.specs.declared.Format.{Format}
use Rattle.dpch.specs.declared.Dpcch.{Dpcch}
use Rattle.dpch.specs.Heads.{frame_head}
use Rattle.slot.specs.Outcome as slot
use Rattle.antenna.specs.Outcome as antenna
use Rattle.frame.specs.Outcome as frame
use Rattle.compressed.specs.Outcome as compressed
use Rattle.compressed.specs.Rule.{is_missing}
use Rattle.dpdch.specs.Outcome as dpdch
use Rattle.dpcch.specs.Outcome as dpcch
use Rattle.pich.specs.declared.Pi.{Pi}
use Rattle.pich.specs.Outcome as pich
use Rattle.wake.specs.declared.Tally.{Tally}
use Rattle.wake.specs.Outcome as wake
use Rattle.pccpch.specs.Outcome as pccpch
use Rattle.hspdsch.specs.Outcome as hspdsch
use Rattle.sttd.specs.Outcome as sttd
use Rattle.slt_sttd.specs.Outcome.{short_verdict}
use Rattle.aich.specs.Outcome as aich
use Rattle.desk.specs.Outcome as desk
use Rattle.correlator.specs.declared.Complex.{Complex}
use Rattle.combiner.specs.Outcome as combiner
use Rattle.sample.specs.declared.Setting.{Setting}
use Rattle.sample.specs.declared.Setting.TheVariants.{Off, Shared, Each}
use Rattle.sample.specs.Outcome as sample
use Rattle.bank.specs.Plain as plain
use Rattle.bank.specs.Outcome as bank
use Rattle.lengths.specs.Outcome.{told_verdict}
use Rattle.numbers.specs.Rule.{refusals}
use Rattle.numbers.specs.Rule as c
use Rattle.numbers.specs.Exact.{listed}
use Rattle.numbers.proofs.Laws.{Has, Among, done_among, or_else_among, unless_among, check_among, each_among, lengths_among, chain_among, frame_head_among, slot_head_among}

-- ---- parts that several calls have
module _ {r : List ℕ} where
  -- fields of a DPCH slot that is mapped: 5, 4, 6
  fields : Has r 4 → Has r 5 → Has r 6 → (tpc : ℕ) (d tfci : List ℕ) (p q s : ℕ) → Among r (slot.fields_verdict tpc d tfci p q s)
  unfolding slot.fields_verdict
  fields four five six tpc d tfci p q s =
      check_among _ 5 _ five (or_else_among (each_among _ 4 _ _ four) (or_else_among (each_among _ 6 _ _ six) (each_among _ 4 _ _ four)))

  -- digits of one that is read: 4, 5, 6, 7
  digits : Has r 4 → Has r 5 → Has r 6 → Has r 7 → (f : Format) (k : ℕ) (xs : List ℕ) (base : ℕ) → Among r (slot.digits_verdict f k xs base)
  unfolding slot.digits_verdict
  digits four five six seven f k xs base =
      or_else_among (each_among _ 4 _ _ four)
      (or_else_among (each_among _ 5 _ _ five) (or_else_among (each_among _ 6 _ _ six) (each_among _ 7 _ _ seven)))

  -- of an uplink DPCCH slot: 5, 4 and 4, 5, 7
  uplink_fields : Has r 4 → Has r 5 → (tpc : ℕ) (tfci fbi : List ℕ) (p q s : ℕ) → Among r (dpcch.fields_verdict tpc tfci fbi p q s)
  unfolding dpcch.fields_verdict
  uplink_fields four five tpc tfci fbi p q s = check_among _ 5 _ five (or_else_among (each_among _ 4 _ _ four) (each_among _ 4 _ _ four))

  uplink_digits : Has r 4 → Has r 5 → Has r 7 → (f : Dpcch) (k : ℕ) (xs : List ℕ) (base : ℕ) → Among r (dpcch.digits_verdict f k xs base)
  unfolding dpcch.digits_verdict
  uplink_digits four five seven f k xs base =
      or_else_among (each_among _ 4 _ _ four) (or_else_among (each_among _ 5 _ _ five) (each_among _ 7 _ _ seven))

  -- a compressed frame's head: 1, 27, 3
  gap_head_lem : Has r 1 → Has r 3 → Has r 27 → (f : Format) (first missing : ℕ) (right : List Bool) → Among r (compressed.gap_head f first missing right)
  unfolding compressed.gap_head
  gap_head_lem one three gap f first missing right = check_among _ 1 _ one (check_among _ 27 _ gap (lengths_among _ three))

  -- q: 8, 11, and a PICH frame that is read: 8, 3, 4, 9
  q : Has r 8 → Has r 11 → (np : ℕ) (pi : Pi) (sfn : ℕ) → Among r (pich.q_verdict np pi sfn)
  unfolding pich.q_verdict
  q eight eleven np pi sfn = check_among _ 8 _ eight (check_among _ 11 _ eleven (unless_among _ 11 _ eleven))

  paging : Has r 3 → Has r 4 → Has r 8 → Has r 9 → (np : ℕ) (frame : List ℕ) (n : ℕ) → Among r (pich.read_verdict np frame n)
  unfolding pich.read_verdict pich.read_head
  paging three four eight nine np frame n =
      or_else_among (check_among _ 8 _ eight (check_among _ 3 _ three (check_among _ 3 _ three (each_among _ 4 _ _ four)))) (each_among _ 9 _ _ nine)

  -- one frame of the wake simulation
  wake_frame : Has r 3 → Has r 4 → Has r 8 → Has r 9 → Has r 11 → Has r 32 → (np pi : ℕ) (t : Tally) (frame : List ℕ) → Among r (wake.frame_verdict np pi t frame)
  unfolding wake.frame_verdict wake.frame_head
  wake_frame three four eight nine eleven full np pi t frame =
      or_else_among (check_among _ 3 _ three (unless_among _ 32 _ full)) (or_else_among (q eight eleven np _ _) (paging three four eight nine np frame np))

  -- AICH: 3, 11; 3, 10; 26
  indicators : Has r 3 → Has r 11 → (xs : List ℤ) (n : ℕ) → Among r (aich.map_verdict xs n)
  unfolding aich.map_verdict
  indicators three eleven xs n = check_among _ 3 _ three (check_among _ 3 _ three (each_among _ 11 _ _ eleven))

  values : Has r 3 → Has r 10 → (xs : List ℤ) (n : ℕ) → Among r (aich.read_verdict xs n)
  unfolding aich.read_verdict aich.read_head
  values three ten xs n = or_else_among (check_among _ 3 _ three (unless_among _ 3 _ three)) (unless_among _ 10 _ ten)

  set : Has r 26 → (available : ℕ) (xs : List ℤ) → Among r (aich.set_verdict available xs)
  unfolding aich.set_verdict
  set there available xs = each_among _ 26 _ _ there

  -- a length that is told: 11 after the head
  pub lengths_told : Has r 11 → (head : Verdict) → Among r head → (runs : List ℕ) (run : ℕ) → Among r (told_verdict head runs run)
  unfolding told_verdict
  lengths_told eleven head h runs run = or_else_among h (unless_among _ 11 _ eleven)

-- ---- each call
pub pich_q : (np : ℕ) (pi : Pi) (sfn : ℕ) → Among (refusals c.pich_q) (pich.q_verdict np pi sfn)
unfolding listed refusals
pich_q np pi sfn = q refl refl np pi sfn

pub pich_map : (np : ℕ) (indicators : List ℕ) (n : ℕ) → Among (refusals c.pich_map) (pich.map_verdict np indicators n)
unfolding listed refusals pich.map_verdict
pich_map np indicators n = check_among _ 8 _ refl (check_among _ 3 _ refl (check_among _ 3 _ refl (each_among _ 4 _ _ refl)))

pub pich_read : (np : ℕ) (frame : List ℕ) (n : ℕ) → Among (refusals c.pich_read) (pich.read_verdict np frame n)
unfolding listed refusals
pich_read np frame n = paging refl refl refl refl np frame n

pub wake_run : (np pi : ℕ) (t : Tally) (frames : List ℕ) → Among (refusals c.wake_run) (wake.run_verdict np pi t frames)
unfolding listed refusals wake.run_verdict wake.run_head wake.verdict_at
wake_run np pi t frames = check_among _ 3 _ refl (chain_among _ _ (λ k. wake_frame refl refl refl refl refl refl np pi _ _))

pub wake_step : (np pi : ℕ) (t : Tally) (frame : List ℕ) → Among (refusals c.wake_step) (wake.frame_verdict np pi t frame)
unfolding listed refusals
wake_step np pi t frame = wake_frame refl refl refl refl refl refl np pi t frame

pub slot_map : (format k tpc : ℕ) (d tfci : List ℕ) (n : ℕ) → Among (refusals c.slot_map) (slot.map_verdict format k tpc d tfci n)
unfolding listed refusals slot.map_verdict slot.map_head
slot_map format k tpc d tfci n = or_else_among (slot_head_among 16 _ _ _ refl refl refl) (fields refl refl refl tpc d tfci 0 0 0)

pub slot_read : (format k : ℕ) (xs : List ℕ) (n m : ℕ) → Among (refusals c.slot_read) (slot.read_verdict format k xs n m)
unfolding listed refusals slot.read_verdict slot.read_head
slot_read format k xs n m = or_else_among (slot_head_among 16 _ _ _ refl refl refl) (digits refl refl refl refl _ k xs 0)

pub slot_map_antenna : (format k sender tpc : ℕ) (d tfci : List ℕ) (n : ℕ) → Among (refusals c.slot_map_antenna) (antenna.map_verdict format k sender tpc d tfci n)
unfolding listed refusals antenna.map_verdict antenna.map_head
slot_map_antenna format k sender tpc d tfci n = or_else_among (check_among _ 1 _ refl (check_among _ 2 _ refl (check_among _ 11 _ refl (lengths_among _ refl)))) (fields refl refl refl tpc d tfci 0 0 0)

pub slot_read_antennas : (format k : ℕ) (first second : List ℕ) (n m : ℕ) → Among (refusals c.slot_read_antennas) (antenna.read_verdict format k first second n m)
unfolding listed refusals antenna.read_verdict antenna.read_head antenna.read_body
slot_read_antennas format k first second n m = or_else_among (slot_head_among 16 _ _ _ refl refl refl) (or_else_among (each_among _ 4 _ _ refl) (or_else_among (each_among _ 4 _ _ refl) (or_else_among (digits refl refl refl refl _ k first 0) (each_among _ 9 _ _ refl))))

pub frame_map : (format : ℕ) (d tfci : List ℕ) (n : ℕ) (commands : List ℕ) → Among (refusals c.frame_map) (frame.map_verdict format d tfci n commands)
unfolding listed refusals frame.map_verdict frame.map_head
frame_map format d tfci n commands = or_else_among (frame_head_among 16 _ _ refl refl) (chain_among 15 _ (λ k. fields refl refl refl _ _ _ _ _ _))

pub frame_read : (format : ℕ) (xs : List ℕ) (n m o : ℕ) → Among (refusals c.frame_read) (frame.read_verdict format xs n m o)
unfolding listed refusals frame.read_verdict frame.read_head
frame_read format xs n m o = or_else_among (frame_head_among 16 _ _ refl refl) (chain_among 15 _ (λ k. digits refl refl refl refl _ k _ _))

pub compressed_map : (f : Format) (first missing : ℕ) (d tfci : List ℕ) (n : ℕ) (commands : List ℕ) → Among (refusals c.compressed_map) (compressed.map_verdict f first missing d tfci n commands)
unfolding listed refusals compressed.map_verdict compressed.map_head
compressed_map f first missing d tfci n commands = or_else_among (gap_head_lem refl refl refl f first missing _) (chain_among _ _ (λ k. fields refl refl refl _ _ _ _ _ _))

silent_slot : (f : Format) (first missing : ℕ) (xs : List ℕ) (k : ℕ) → Among (refusals c.compressed_read) (compressed.slot_verdict f first missing xs k)
unfolding listed refusals compressed.slot_verdict compressed.silent_verdict
silent_slot f first missing xs k = pick (is_missing first missing k)
  where
    pick : (b : Bool) → Among (refusals c.compressed_read) (cond b (compressed.silent_verdict (part k f.slot xs) (k * f.slot)) (frame.slot_digits f xs k))
    pick true = or_else_among (each_among _ 4 _ _ refl) (each_among _ 9 _ _ refl)
    pick false = digits refl refl refl refl f k _ _

pub compressed_read : (f : Format) (first missing : ℕ) (xs : List ℕ) (n m o : ℕ) → Among (refusals c.compressed_read) (compressed.read_verdict f first missing xs n m o)
unfolding listed refusals compressed.read_verdict compressed.read_head
compressed_read f first missing xs n m o = or_else_among (gap_head_lem refl refl refl f first missing _) (chain_among 15 _ (silent_slot f first missing xs))

pub uplink_data : (slots format : ℕ) (xs : List ℕ) (n : ℕ) → Among (refusals c.dpdch_map) (dpdch.slots_verdict slots format xs n)
unfolding listed refusals dpdch.slots_verdict
uplink_data slots format xs n = or_else_among (frame_head_among 6 _ _ refl refl) (each_among _ 4 _ _ refl)

pub dpcch_map : (format k tpc : ℕ) (tfci fbi : List ℕ) (n : ℕ) → Among (refusals c.dpcch_map) (dpcch.map_verdict format k tpc tfci fbi n)
unfolding listed refusals dpcch.map_verdict dpcch.map_head
dpcch_map format k tpc tfci fbi n = or_else_among (slot_head_among 3 _ _ _ refl refl refl) (uplink_fields refl refl tpc tfci fbi 0 0 0)

pub dpcch_read : (format k : ℕ) (xs : List ℕ) (n m : ℕ) → Among (refusals c.dpcch_read) (dpcch.read_verdict format k xs n m)
unfolding listed refusals dpcch.read_verdict dpcch.read_head
dpcch_read format k xs n m = or_else_among (slot_head_among 3 _ _ _ refl refl refl) (uplink_digits refl refl refl _ k xs 0)

pub dpcch_frame_map : (format : ℕ) (tfci fbi : List ℕ) (n : ℕ) (commands : List ℕ) → Among (refusals c.dpcch_frame_map) (dpcch.frame_map_verdict format tfci fbi n commands)
unfolding listed refusals dpcch.frame_map_verdict dpcch.frame_map_head
dpcch_frame_map format tfci fbi n commands = or_else_among (frame_head_among 3 _ _ refl refl) (chain_among 15 _ (λ k. uplink_fields refl refl _ _ _ _ _ _))

pub dpcch_frame_read : (format : ℕ) (xs : List ℕ) (n m o : ℕ) → Among (refusals c.dpcch_frame_read) (dpcch.frame_read_verdict format xs n m o)
unfolding listed refusals dpcch.frame_read_verdict dpcch.frame_read_head
dpcch_frame_read format xs n m o = or_else_among (frame_head_among 3 _ _ refl refl) (chain_among 15 _ (λ k. uplink_digits refl refl refl _ k _ _))

pub pccpch_map : (d : List ℕ) (n m : ℕ) → Among (refusals c.pccpch_map) (pccpch.map_verdict d n m)
unfolding listed refusals pccpch.map_verdict
pccpch_map d n m = check_among _ 3 _ refl (check_among _ 3 _ refl (check_among _ 3 _ refl (each_among _ 4 _ _ refl)))

pub pccpch_read : (first second : List ℕ) (n : ℕ) → Among (refusals c.pccpch_read) (pccpch.read_verdict first second n)
unfolding listed refusals pccpch.read_verdict pccpch.read_head pccpch.read_body
pccpch_read first second n = or_else_among (check_among _ 3 _ refl (check_among _ 3 _ refl (check_among _ 3 _ refl (or_else_among (each_among _ 4 _ _ refl) (each_among _ 4 _ _ refl))))) (or_else_among (each_among _ 9 _ _ refl) (each_among _ 9 _ _ refl))

pub hspdsch_map : (format : ℕ) (d : List ℕ) (n m : ℕ) → Among (refusals c.hspdsch_map) (hspdsch.map_verdict format d n m)
unfolding listed refusals hspdsch.map_verdict
hspdsch_map format d n m = or_else_among (frame_head_among 1 _ _ refl refl) (each_among _ 4 _ _ refl)

pub hspdsch_read : (format : ℕ) (first second : List ℕ) (n : ℕ) → Among (refusals c.hspdsch_read) (hspdsch.read_verdict format first second n)
unfolding listed refusals hspdsch.read_verdict hspdsch.read_head hspdsch.read_body
hspdsch_read format first second n = or_else_among (frame_head_among 1 _ _ refl refl) (or_else_among (each_among _ 4 _ _ refl) (or_else_among (each_among _ 4 _ _ refl) (each_among _ 9 _ _ refl)))

pub sttd_digits : (input : List ℕ) (n : ℕ) → Among (refusals c.sttd_digits) (short_verdict input n)
unfolding listed refusals sttd.digits_verdict
sttd_digits input n = check_among _ 3 _ refl (check_among _ 3 _ refl (check_among _ 3 _ refl (each_among _ 4 _ _ refl)))

pub sttd_values : (input : List ℤ) (n : ℕ) → Among (refusals c.sttd_values) (sttd.values_verdict input n)
unfolding listed refusals sttd.values_verdict
sttd_values input n = check_among _ 3 _ refl (check_among _ 3 _ refl (each_among _ 11 _ _ refl))

pub aich_map : (xs : List ℤ) (n : ℕ) → Among (refusals c.aich_map) (aich.map_verdict xs n)
unfolding listed refusals
aich_map xs n = indicators refl refl xs n

pub aich_read : (xs : List ℤ) (n : ℕ) → Among (refusals c.aich_read) (aich.read_verdict xs n)
unfolding listed refusals
aich_read xs n = values refl refl xs n

pub aich_map_available : (available : ℕ) (xs : List ℤ) (n : ℕ) → Among (refusals c.aich_map_available) (aich.map_available_verdict available xs n)
unfolding listed refusals aich.map_available_verdict
aich_map_available available xs n = or_else_among (indicators refl refl xs n) (set refl available xs)

pub aich_read_available : (available : ℕ) (xs : List ℤ) (n : ℕ) → Among (refusals c.aich_read_available) (aich.read_available_verdict available xs n)
unfolding listed refusals aich.read_available_verdict
aich_read_available available xs n = or_else_among (values refl refl xs n) (set refl available _)

pub desk_serve : (last n m : ℕ) → Among (refusals c.desk_serve) (desk.serve_verdict last n m)
unfolding listed refusals desk.serve_verdict
desk_serve last n m = check_among _ 3 _ refl (check_among _ 11 _ refl (unless_among _ 11 _ refl))

pub desk_timing : (timing : ℕ) → Among (refusals c.desk_to_aich) (desk.timing_verdict timing)
unfolding listed refusals desk.timing_verdict
desk_timing timing = unless_among _ 11 _ refl

pub aich_combine : (h1 h2 : Complex) (received : List ℤ) (n : ℕ) → Among (refusals c.aich_combine) (combiner.combine_verdict h1 h2 received n)
unfolding listed refusals combiner.combine_verdict combiner.combine_head combiner.combine_body
aich_combine h1 h2 received n = or_else_among (check_among _ 3 _ refl (unless_among _ 3 _ refl)) (check_among _ 11 _ refl (check_among _ 11 _ refl (check_among _ 11 _ refl (check_among _ 11 _ refl (or_else_among (each_among _ 11 _ _ refl) (unless_among _ 12 _ refl))))))

pub bank_empty : (n : ℕ) → Among (refusals c.bank_empty) (bank.empty_verdict n)
unfolding listed refusals bank.empty_verdict
bank_empty n = unless_among _ 28 _ refl

pub bank_store : (bytes : List ℕ) (number : ℕ) (digits : List ℕ) → Among (refusals c.bank_store) (bank.store_verdict bytes number digits)
unfolding listed refusals bank.store_verdict plain.store_plain
bank_store bytes number digits = check_among _ 28 _ refl (check_among _ 11 _ refl (check_among _ 3 _ refl (or_else_among (each_among _ 4 _ _ refl) (check_among _ 30 _ refl (unless_among _ 31 _ refl)))))

pub bank_fetch : (bytes : List ℕ) (number n : ℕ) → Among (refusals c.bank_fetch) (bank.fetch_verdict bytes number n)
unfolding listed refusals bank.fetch_verdict plain.fetch_plain plain.drop_plain
bank_fetch bytes number n = check_among _ 28 _ refl (or_else_among (check_among _ 11 _ refl (unless_among _ 29 _ refl)) (unless_among _ 3 _ refl))

pub bank_drop : (bytes : List ℕ) (number : ℕ) → Among (refusals c.bank_drop) (bank.drop_verdict bytes number)
unfolding listed refusals bank.drop_verdict plain.drop_plain
bank_drop bytes number = check_among _ 28 _ refl (check_among _ 11 _ refl (unless_among _ 29 _ refl))

pub bank_room : (bytes : List ℕ) → Among (refusals c.bank_room) (bank.room_verdict bytes)
unfolding listed refusals bank.room_verdict
bank_room bytes = unless_among _ 28 _ refl

levels : (setting : Setting) → Among (refusals c.sample_off) (sample.levels_verdict setting)
unfolding listed refusals sample.levels_verdict
levels Off = done_among 0
levels (Shared level) = unless_among _ 11 _ refl
levels (Each first second) = check_among _ 11 _ refl (unless_among _ 11 _ refl)

pub sampled : (i q : ℤ) (setting : Setting) (antenna : ℕ) → Among (refusals c.sample_off) (sample.take_verdict i q setting antenna)
unfolding listed refusals sample.take_verdict
sampled i q setting antenna = check_among _ 11 _ refl (check_among _ 11 _ refl (or_else_among (levels setting) (unless_among _ 11 _ refl)))

-- the lengths: 1 and 11, of a compressed frame 27 too
nothing_asked : (r : List ℕ) → Among r (lengths [])
nothing_asked r = rw (lengths_pass [] tt) (done_among 0)

pub head_alone : (last format : ℕ) → Among (refusals c.slot_lengths) (frame_head last format [])
unfolding listed refusals frame_head
head_alone last format = check_among _ 1 _ refl (nothing_asked _)

pub gap_alone : (f : Format) (first missing : ℕ) → Among (refusals c.compressed_lengths) (compressed.gap_head f first missing [])
unfolding listed refusals compressed.gap_head
gap_alone f first missing = check_among _ 1 _ refl (check_among _ 27 _ refl (nothing_asked _))

pub told_after : (head : Verdict) → Among (refusals c.slot_lengths) head → (runs : List ℕ) (run : ℕ) → Among (refusals c.slot_lengths) (told_verdict head runs run)
unfolding listed refusals
told_after head h runs run = lengths_told refl head h runs run

pub told_after_gap : (head : Verdict) → Among (refusals c.compressed_lengths) head → (runs : List ℕ) (run : ℕ) → Among (refusals c.compressed_lengths) (told_verdict head runs run)
unfolding listed refusals
told_after_gap head h runs run = lengths_told refl head h runs run
