-- What a C call can answer: whatever its promise, which stands in crate slt_NAME, allows for some arguments and for some contents of the lent runs before and after the call.
-- Assumes nothing.
use Rattle.std.specs.Prelude.{ℕ, List, [], ℤ, Float}
use Rattle.dpch.specs.Compressed.{format_in}
use Rattle.dpch.specs.Heads.{frame_head}
use Rattle.compressed.specs.Outcome.{gap_head}
use Rattle.wake.specs.declared.Tally.{Tally}
use Rattle.correlator.specs.declared.Complex.{Complex}
use Rattle.lengths.specs.Rule.{slot_lengths_of, frame_lengths_of, compressed_lengths_of, dpdch_lengths_of, dpcch_lengths_of, dpcch_frame_lengths_of, hspdsch_lengths_of}
use Rattle.slt_sample.specs.declared.SltSample.{SltSample}
use Rattle.slt_pich.specs.Outcome.{PichQ, PichMap, PichRead}
use Rattle.slt_wake.specs.Outcome.{WakeRun, WakeStep}
use Rattle.slt_slot.specs.Outcome.{SlotMap, SlotRead}
use Rattle.slt_antenna.specs.Outcome.{SlotMapAntenna, SlotReadAntennas}
use Rattle.slt_frame.specs.Outcome.{FrameMap, FrameRead}
use Rattle.slt_compressed.specs.Outcome.{CompressedMap, CompressedRead}
use Rattle.slt_dpdch.specs.Outcome.{DpdchMap, DpdchRead, DpdchFrameMap, DpdchFrameRead}
use Rattle.slt_dpcch.specs.Outcome.{DpcchMap, DpcchRead, DpcchFrameMap, DpcchFrameRead}
use Rattle.slt_pccpch.specs.Outcome.{PccpchMap, PccpchRead}
use Rattle.slt_hspdsch.specs.Outcome.{HspdschMap, HspdschRead}
use Rattle.slt_sttd.specs.Outcome.{SttdDigits, SttdValues}
use Rattle.slt_aich.specs.Outcome.{AichMap, AichRead, AichMapAvailable, AichReadAvailable}
use Rattle.slt_desk.specs.Outcome.{DeskServe, DeskToAich, DeskToMessage}
use Rattle.slt_combiner.specs.Outcome.{AichCombine}
use Rattle.slt_sample.specs.Outcome.{SampleOff, SampleShared, SampleEach}
use Rattle.slt_bank.specs.Outcome.{BankEmpty, BankStore, BankFetch, BankDrop, BankLength, BankRoom}
use Rattle.slt_lengths.specs.Outcome.{LengthTold}
use Rattle.numbers.specs.Rule.{Call}
use Rattle.numbers.specs.Rule as call

pub data Answered : Call → ℕ → Type 0 where
  pich_q : (np pi sfn answer : ℕ) → PichQ np pi sfn answer → Answered call.pich_q answer
  pich_map : (np : ℕ) (indicators frame : List ℕ) (answer : ℕ) (after : List ℕ) → PichMap np indicators frame answer after → Answered call.pich_map answer
  pich_read : (np : ℕ) (frame indicators : List ℕ) (answer : ℕ) (after : List ℕ) → PichRead np frame indicators answer after → Answered call.pich_read answer
  wake_run : (np pi : ℕ) (frames : List ℕ) (read woke next answer x y z : ℕ) → WakeRun np pi frames read woke next answer x y z → Answered call.wake_run answer
  wake_step : (t : Tally) (np pi : ℕ) (frame : List ℕ) (answer : ℕ) (after : Tally) → WakeStep t np pi frame answer after → Answered call.wake_step answer
  slot_map : (format slot tpc : ℕ) (d tfci out : List ℕ) (answer : ℕ) (after : List ℕ) → SlotMap format slot tpc d tfci out answer after → Answered call.slot_map answer
  slot_read : (format slot : ℕ) (xs d tfci : List ℕ) (answer : ℕ) (x t : List ℕ) → SlotRead format slot xs d tfci answer x t → Answered call.slot_read answer
  slot_map_antenna : (format slot antenna tpc : ℕ) (d tfci out : List ℕ) (answer : ℕ) (after : List ℕ) → SlotMapAntenna format slot antenna tpc d tfci out answer after
      → Answered call.slot_map_antenna answer
  slot_read_antennas : (format slot : ℕ) (first second d tfci : List ℕ) (answer : ℕ) (x t : List ℕ) → SlotReadAntennas format slot first second d tfci answer x t
      → Answered call.slot_read_antennas answer
  frame_map : (format : ℕ) (d tfci out commands : List ℕ) (answer : ℕ) (after : List ℕ) → FrameMap format d tfci out commands answer after → Answered call.frame_map answer
  frame_read : (format : ℕ) (xs d tfci commands : List ℕ) (answer : ℕ) (x t c : List ℕ) → FrameRead format xs d tfci commands answer x t c → Answered call.frame_read answer
  compressed_map : (format kind first missing : ℕ) (d tfci out commands : List ℕ) (answer : ℕ) (after : List ℕ) → CompressedMap format kind first missing d tfci out commands answer after
      → Answered call.compressed_map answer
  compressed_read : (format kind first missing : ℕ) (xs d tfci commands : List ℕ) (answer : ℕ) (x t c : List ℕ) → CompressedRead format kind first missing xs d tfci commands answer x t c
      → Answered call.compressed_read answer
  dpdch_map : (format : ℕ) (d out : List ℕ) (answer : ℕ) (after : List ℕ) → DpdchMap format d out answer after → Answered call.dpdch_map answer
  dpdch_read : (format : ℕ) (xs d : List ℕ) (answer : ℕ) (after : List ℕ) → DpdchRead format xs d answer after → Answered call.dpdch_read answer
  dpdch_frame_map : (format : ℕ) (d out : List ℕ) (answer : ℕ) (after : List ℕ) → DpdchFrameMap format d out answer after → Answered call.dpdch_frame_map answer
  dpdch_frame_read : (format : ℕ) (xs d : List ℕ) (answer : ℕ) (after : List ℕ) → DpdchFrameRead format xs d answer after → Answered call.dpdch_frame_read answer
  dpcch_map : (format slot tpc : ℕ) (tfci fbi out : List ℕ) (answer : ℕ) (after : List ℕ) → DpcchMap format slot tpc tfci fbi out answer after → Answered call.dpcch_map answer
  dpcch_read : (format slot : ℕ) (xs tfci fbi : List ℕ) (answer : ℕ) (x t : List ℕ) → DpcchRead format slot xs tfci fbi answer x t → Answered call.dpcch_read answer
  dpcch_frame_map : (format : ℕ) (tfci fbi out commands : List ℕ) (answer : ℕ) (after : List ℕ) → DpcchFrameMap format tfci fbi out commands answer after
      → Answered call.dpcch_frame_map answer
  dpcch_frame_read : (format : ℕ) (xs tfci fbi commands : List ℕ) (answer : ℕ) (x t u : List ℕ) → DpcchFrameRead format xs tfci fbi commands answer x t u
      → Answered call.dpcch_frame_read answer
  sttd_digits : (input out : List ℕ) (answer : ℕ) (after : List ℕ) → SttdDigits input out answer after → Answered call.sttd_digits answer
  sttd_values : (input out : List ℤ) (answer : ℕ) (after : List ℤ) → SttdValues input out answer after → Answered call.sttd_values answer
  pccpch_map : (d antenna1 antenna2 : List ℕ) (answer : ℕ) (x y : List ℕ) → PccpchMap d antenna1 antenna2 answer x y → Answered call.pccpch_map answer
  pccpch_read : (antenna1 antenna2 d : List ℕ) (answer : ℕ) (after : List ℕ) → PccpchRead antenna1 antenna2 d answer after → Answered call.pccpch_read answer
  hspdsch_map : (format : ℕ) (d antenna1 antenna2 : List ℕ) (answer : ℕ) (x y : List ℕ) → HspdschMap format d antenna1 antenna2 answer x y → Answered call.hspdsch_map answer
  hspdsch_read : (format : ℕ) (antenna1 antenna2 d : List ℕ) (answer : ℕ) (after : List ℕ) → HspdschRead format antenna1 antenna2 d answer after → Answered call.hspdsch_read answer
  slot_lengths : (format run answer : ℕ) → LengthTold (frame_head 16 format []) (slot_lengths_of format) run answer → Answered call.slot_lengths answer
  frame_lengths : (format run answer : ℕ) → LengthTold (frame_head 16 format []) (frame_lengths_of format) run answer → Answered call.frame_lengths answer
  compressed_lengths : (format kind first missing run answer : ℕ) → LengthTold (gap_head (format_in kind format) first missing []) (compressed_lengths_of kind format missing) run answer
      → Answered call.compressed_lengths answer
  dpdch_lengths : (format run answer : ℕ) → LengthTold (frame_head 6 format []) (dpdch_lengths_of 1 format) run answer → Answered call.dpdch_lengths answer
  dpdch_frame_lengths : (format run answer : ℕ) → LengthTold (frame_head 6 format []) (dpdch_lengths_of 15 format) run answer → Answered call.dpdch_frame_lengths answer
  dpcch_lengths : (format run answer : ℕ) → LengthTold (frame_head 3 format []) (dpcch_lengths_of format) run answer → Answered call.dpcch_lengths answer
  dpcch_frame_lengths : (format run answer : ℕ) → LengthTold (frame_head 3 format []) (dpcch_frame_lengths_of format) run answer → Answered call.dpcch_frame_lengths answer
  hspdsch_lengths : (format run answer : ℕ) → LengthTold (frame_head 1 format []) (hspdsch_lengths_of format) run answer → Answered call.hspdsch_lengths answer
  aich_map : (indicators values : List ℤ) (answer : ℕ) (after : List ℤ) → AichMap indicators values answer after → Answered call.aich_map answer
  aich_read : (values indicators : List ℤ) (answer : ℕ) (after : List ℤ) → AichRead values indicators answer after → Answered call.aich_read answer
  aich_map_available : (available : ℕ) (indicators values : List ℤ) (answer : ℕ) (after : List ℤ) → AichMapAvailable available indicators values answer after
      → Answered call.aich_map_available answer
  aich_read_available : (available : ℕ) (values indicators : List ℤ) (answer : ℕ) (after : List ℤ) → AichReadAvailable available values indicators answer after
      → Answered call.aich_read_available answer
  desk_serve : (last heard available n : ℕ) (values : List ℤ) (answer last_after : ℕ) (after : List ℤ) → DeskServe last heard available n values answer last_after after
      → Answered call.desk_serve answer
  desk_to_aich : (timing answer : ℕ) → DeskToAich timing answer → Answered call.desk_to_aich answer
  desk_to_message : (timing answer : ℕ) → DeskToMessage timing answer → Answered call.desk_to_message answer
  aich_combine : (h1 h2 : Complex) (received results : List ℤ) (answer : ℕ) (after : List ℤ) → AichCombine h1 h2 received results answer after → Answered call.aich_combine answer
  sample_off : (i q : ℤ) (antenna : ℕ) (answer : SltSample) → SampleOff i q antenna answer → Answered call.sample_off answer.answer
  sample_shared : (i q : ℤ) (level : Float) (antenna : ℕ) (answer : SltSample) → SampleShared i q level antenna answer → Answered call.sample_shared answer.answer
  sample_each : (i q : ℤ) (first second : Float) (antenna : ℕ) (answer : SltSample) → SampleEach i q first second antenna answer → Answered call.sample_each answer.answer
  bank_empty : (bank : List ℕ) (answer : ℕ) (after : List ℕ) → BankEmpty bank answer after → Answered call.bank_empty answer
  bank_store : (bank : List ℕ) (number : ℕ) (slot : List ℕ) (answer : ℕ) (after : List ℕ) → BankStore bank number slot answer after → Answered call.bank_store answer
  bank_fetch : (bank : List ℕ) (number : ℕ) (out : List ℕ) (answer : ℕ) (after : List ℕ) → BankFetch bank number out answer after → Answered call.bank_fetch answer
  bank_drop : (bank : List ℕ) (number answer : ℕ) (after : List ℕ) → BankDrop bank number answer after → Answered call.bank_drop answer
  bank_length : (bank : List ℕ) (number answer : ℕ) → BankLength bank number answer → Answered call.bank_length answer
  bank_room : (bank : List ℕ) (answer : ℕ) → BankRoom bank answer → Answered call.bank_room answer
