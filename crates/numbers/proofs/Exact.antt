-- The theorem of specs/Exact.antt. No other number: each call tells its verdict's number, and a verdict has the numbers of its checks. Each number: arguments that give it.
-- Assumes nothing.
use mathlib.Core.Path.{◌≡◌, sym}
use mathlib.Core.Bool.{true}
use mathlib.Core.List.{◌∷◌}
use Prim.Native.Nat.{ℕ}
use lib.ListN.{length}
use Rattle.slt_pich.proofs.Exact.{pich_tells}
use Rattle.slt_wake.proofs.Exact.{wake_tells}
use Rattle.slt_slot.proofs.Exact.{slot_tells}
use Rattle.slt_antenna.proofs.Exact.{antenna_tells}
use Rattle.slt_frame.proofs.Exact.{frame_tells}
use Rattle.slt_compressed.proofs.Exact.{compressed_tells}
use Rattle.slt_dpdch.proofs.Exact.{dpdch_tells}
use Rattle.slt_dpcch.proofs.Exact.{dpcch_tells}
use Rattle.slt_pccpch.proofs.Exact.{pccpch_tells}
use Rattle.slt_hspdsch.proofs.Exact.{hspdsch_tells}
use Rattle.slt_sttd.proofs.Exact.{sttd_tells}
use Rattle.slt_aich.proofs.Exact.{aich_tells}
use Rattle.slt_desk.proofs.Exact.{desk_tells}
use Rattle.slt_combiner.proofs.Exact.{combiner_tells}
use Rattle.slt_sample.proofs.Exact.{sample_tells}
use Rattle.slt_bank.proofs.Exact.{bank_tells}
use Rattle.slt_lengths.proofs.Exact.{lengths_tell}
use Rattle.packed.specs.Rule.{number_in}
use Rattle.numbers.specs.Rule.{Call, refusals}
use Rattle.numbers.specs.Rule as c
use Rattle.numbers.specs.Outcome.{Answered}
use Rattle.numbers.specs.Outcome as by
use Rattle.numbers.specs.Exact.{is_number_of, Gives, Numbers}
use Rattle.numbers.proofs.Laws.{Has, told, Each, of_listed}
use Rattle.numbers.proofs.Verdicts as of
use Rattle.numbers.proofs.Paging as paging
use Rattle.numbers.proofs.Downlink as downlink
use Rattle.numbers.proofs.Uplink as uplink
use Rattle.numbers.proofs.Antennas as antennas
use Rattle.numbers.proofs.Lengths as lengths
use Rattle.numbers.proofs.Access as access
use Rattle.numbers.proofs.Samples as samples
use Rattle.numbers.proofs.Banks as banks

answer_has : (call : Call) (answer : ℕ) → Answered call answer → Has (refusals call) (number_in answer)
unfolding refusals
answer_has _ _ (by.pich_q np pi sfn answer p) = told (pich_tells.q np pi sfn answer p) (of.pich_q _ _ _)
answer_has _ _ (by.pich_map np indicators frame answer after p) = told (pich_tells.map np indicators frame answer after p) (of.pich_map _ _ _)
answer_has _ _ (by.pich_read np frame indicators answer after p) = told (pich_tells.read np frame indicators answer after p) (of.pich_read _ _ _)
answer_has _ _ (by.wake_run np pi frames read woke next answer x y z p) = told (wake_tells.run np pi frames read woke next answer x y z p) (of.wake_run _ _ _ _)
answer_has _ _ (by.wake_step t np pi frame answer after p) = told (wake_tells.step t np pi frame answer after p) (of.wake_step _ _ _ _)
answer_has _ _ (by.slot_map format slot tpc d tfci out answer after p) = told (slot_tells.map format slot tpc d tfci out answer after p) (of.slot_map _ _ _ _ _ _)
answer_has _ _ (by.slot_read format slot xs d tfci answer x t p) = told (slot_tells.read format slot xs d tfci answer x t p) (of.slot_read _ _ _ _ _)
answer_has _ _ (by.slot_map_antenna format slot antenna tpc d tfci out answer after p) = told (antenna_tells.map format slot antenna tpc d tfci out answer after p) (of.slot_map_antenna _ _ _ _ _ _ _)
answer_has _ _ (by.slot_read_antennas format slot first second d tfci answer x t p) = told (antenna_tells.read format slot first second d tfci answer x t p) (of.slot_read_antennas _ _ _ _ _ _)
answer_has _ _ (by.frame_map format d tfci out commands answer after p) = told (frame_tells.map format d tfci out commands answer after p) (of.frame_map _ _ _ _ _)
answer_has _ _ (by.frame_read format xs d tfci commands answer x t c p) = told (frame_tells.read format xs d tfci commands answer x t c p) (of.frame_read _ _ _ _ _)
answer_has _ _ (by.compressed_map format kind first missing d tfci out commands answer after p) = told (compressed_tells.map format kind first missing d tfci out commands answer after p) (of.compressed_map _ _ _ _ _ _ _)
answer_has _ _ (by.compressed_read format kind first missing xs d tfci commands answer x t c p) = told (compressed_tells.read format kind first missing xs d tfci commands answer x t c p) (of.compressed_read _ _ _ _ _ _ _)
answer_has _ _ (by.dpdch_map format d out answer after p) = told (dpdch_tells.map format d out answer after p) (of.uplink_data _ _ _ _)
answer_has _ _ (by.dpdch_read format xs d answer after p) = told (dpdch_tells.read format xs d answer after p) (of.uplink_data _ _ _ _)
answer_has _ _ (by.dpdch_frame_map format d out answer after p) = told (dpdch_tells.frame_map format d out answer after p) (of.uplink_data _ _ _ _)
answer_has _ _ (by.dpdch_frame_read format xs d answer after p) = told (dpdch_tells.frame_read format xs d answer after p) (of.uplink_data _ _ _ _)
answer_has _ _ (by.dpcch_map format slot tpc tfci fbi out answer after p) = told (dpcch_tells.map format slot tpc tfci fbi out answer after p) (of.dpcch_map _ _ _ _ _ _)
answer_has _ _ (by.dpcch_read format slot xs tfci fbi answer x t p) = told (dpcch_tells.read format slot xs tfci fbi answer x t p) (of.dpcch_read _ _ _ _ _)
answer_has _ _ (by.dpcch_frame_map format tfci fbi out commands answer after p) = told (dpcch_tells.frame_map format tfci fbi out commands answer after p) (of.dpcch_frame_map _ _ _ _ _)
answer_has _ _ (by.dpcch_frame_read format xs tfci fbi commands answer x t u p) = told (dpcch_tells.frame_read format xs tfci fbi commands answer x t u p) (of.dpcch_frame_read _ _ _ _ _)
answer_has _ _ (by.sttd_digits input out answer after p) = told (sttd_tells.digits input out answer after p) (of.sttd_digits input (length out))
answer_has _ _ (by.sttd_values input out answer after p) = told (sttd_tells.values input out answer after p) (of.sttd_values _ _)
answer_has _ _ (by.pccpch_map d antenna1 antenna2 answer x y p) = told (pccpch_tells.map d antenna1 antenna2 answer x y p) (of.pccpch_map _ _ _)
answer_has _ _ (by.pccpch_read antenna1 antenna2 d answer after p) = told (pccpch_tells.read antenna1 antenna2 d answer after p) (of.pccpch_read _ _ _)
answer_has _ _ (by.hspdsch_map format d antenna1 antenna2 answer x y p) = told (hspdsch_tells.map format d antenna1 antenna2 answer x y p) (of.hspdsch_map _ _ _ _)
answer_has _ _ (by.hspdsch_read format antenna1 antenna2 d answer after p) = told (hspdsch_tells.read format antenna1 antenna2 d answer after p) (of.hspdsch_read _ _ _ _)
answer_has _ _ (by.slot_lengths format run answer p) = told (lengths_tell.of_slot format run answer p) (of.told_after _ (of.head_alone 16 format) _ run)
answer_has _ _ (by.frame_lengths format run answer p) = told (lengths_tell.of_frame format run answer p) (of.told_after _ (of.head_alone 16 format) _ run)
answer_has _ _ (by.compressed_lengths format kind first missing run answer p) = told (lengths_tell.of_compressed format kind first missing run answer p) (of.told_after_gap _ (of.gap_alone _ first missing) _ run)
answer_has _ _ (by.dpdch_lengths format run answer p) = told (lengths_tell.of_dpdch format run answer p) (of.told_after _ (of.head_alone 6 format) _ run)
answer_has _ _ (by.dpdch_frame_lengths format run answer p) = told (lengths_tell.of_dpdch_frame format run answer p) (of.told_after _ (of.head_alone 6 format) _ run)
answer_has _ _ (by.dpcch_lengths format run answer p) = told (lengths_tell.of_dpcch format run answer p) (of.told_after _ (of.head_alone 3 format) _ run)
answer_has _ _ (by.dpcch_frame_lengths format run answer p) = told (lengths_tell.of_dpcch_frame format run answer p) (of.told_after _ (of.head_alone 3 format) _ run)
answer_has _ _ (by.hspdsch_lengths format run answer p) = told (lengths_tell.of_hspdsch format run answer p) (of.told_after _ (of.head_alone 1 format) _ run)
answer_has _ _ (by.aich_map indicators values answer after p) = told (aich_tells.map indicators values answer after p) (of.aich_map _ _)
answer_has _ _ (by.aich_read values indicators answer after p) = told (aich_tells.read values indicators answer after p) (of.aich_read _ _)
answer_has _ _ (by.aich_map_available available indicators values answer after p) = told (aich_tells.map_available available indicators values answer after p) (of.aich_map_available _ _ _)
answer_has _ _ (by.aich_read_available available values indicators answer after p) = told (aich_tells.read_available available values indicators answer after p) (of.aich_read_available _ _ _)
answer_has _ _ (by.desk_serve last heard available n values answer last-after after p) = told (desk_tells.serve last heard available n values answer last-after after p) (of.desk_serve _ _ _)
answer_has _ _ (by.desk_to_aich timing answer p) = told (desk_tells.to_aich_lem timing answer p) (of.desk_timing _)
answer_has _ _ (by.desk_to_message timing answer p) = told (desk_tells.to_message_lem timing answer p) (of.desk_timing _)
answer_has _ _ (by.aich_combine h1 h2 received results answer after p) = told (combiner_tells h1 h2 received results answer after p) (of.aich_combine _ _ _ _)
answer_has _ _ (by.sample_off i q antenna answer p) = told (sample_tells i q _ antenna answer p) (of.sampled _ _ _ _)
answer_has _ _ (by.sample_shared i q level antenna answer p) = told (sample_tells i q _ antenna answer p) (of.sampled _ _ _ _)
answer_has _ _ (by.sample_each i q first second antenna answer p) = told (sample_tells i q _ antenna answer p) (of.sampled _ _ _ _)
answer_has _ _ (by.bank_empty bank answer after p) = told (bank_tells.empty bank answer after p) (of.bank_empty _)
answer_has _ _ (by.bank_store bank number slot answer after p) = told (bank_tells.store bank number slot answer after p) (of.bank_store _ _ _)
answer_has _ _ (by.bank_fetch bank number out answer after p) = told (bank_tells.fetch bank number out answer after p) (of.bank_fetch _ _ _)
answer_has _ _ (by.bank_drop bank number answer after p) = told (bank_tells.drop bank number answer after p) (of.bank_drop _ _)
answer_has _ _ (by.bank_length bank number answer p) = told (bank_tells.length_of bank number answer p) (of.bank_drop _ _)
answer_has _ _ (by.bank_room bank answer p) = told (bank_tells.room bank answer p) (of.bank_room _)

no_other : (call : Call) (number : ℕ) → Gives call number → is_number_of call number ≡ true
no_other call number g = rw (sym g.number_is) (answer_has call g.answer g.answered)

given : (call : Call) → Each (Gives call) (0 ∷ refusals call)
given c.pich_q = paging.pich_q
given c.pich_map = paging.pich_map
given c.pich_read = paging.pich_read
given c.wake_run = paging.wake_run
given c.wake_step = paging.wake_step
given c.slot_map = downlink.slot_map
given c.slot_read = downlink.slot_read
given c.slot_map_antenna = downlink.slot_map_antenna
given c.slot_read_antennas = downlink.slot_read_antennas
given c.frame_map = downlink.frame_map
given c.frame_read = downlink.frame_read
given c.compressed_map = downlink.compressed_map
given c.compressed_read = downlink.compressed_read
given c.dpdch_map = uplink.dpdch_map
given c.dpdch_read = uplink.dpdch_read
given c.dpdch_frame_map = uplink.dpdch_frame_map
given c.dpdch_frame_read = uplink.dpdch_frame_read
given c.dpcch_map = uplink.dpcch_map
given c.dpcch_read = uplink.dpcch_read
given c.dpcch_frame_map = uplink.dpcch_frame_map
given c.dpcch_frame_read = uplink.dpcch_frame_read
given c.sttd_digits = antennas.sttd_digits
given c.sttd_values = antennas.sttd_values
given c.pccpch_map = antennas.pccpch_map
given c.pccpch_read = antennas.pccpch_read
given c.hspdsch_map = antennas.hspdsch_map
given c.hspdsch_read = antennas.hspdsch_read
given c.slot_lengths = lengths.slot_lengths
given c.frame_lengths = lengths.frame_lengths
given c.compressed_lengths = lengths.compressed_lengths
given c.dpdch_lengths = lengths.dpdch_lengths
given c.dpdch_frame_lengths = lengths.dpdch_frame_lengths
given c.dpcch_lengths = lengths.dpcch_lengths
given c.dpcch_frame_lengths = lengths.dpcch_frame_lengths
given c.hspdsch_lengths = lengths.hspdsch_lengths
given c.aich_map = access.aich_map
given c.aich_read = access.aich_read
given c.aich_map_available = access.aich_map_available
given c.aich_read_available = access.aich_read_available
given c.desk_serve = access.desk_serve
given c.desk_to_aich = access.desk_to_aich
given c.desk_to_message = access.desk_to_message
given c.aich_combine = access.aich_combine
given c.sample_off = samples.sample_off
given c.sample_shared = samples.sample_shared
given c.sample_each = samples.sample_each
given c.bank_empty = banks.bank_empty
given c.bank_store = banks.bank_store
given c.bank_fetch = banks.bank_fetch
given c.bank_drop = banks.bank_drop
given c.bank_length = banks.bank_length
given c.bank_room = banks.bank_room

pub numbers : Numbers
numbers call number = (no_other call number, of_listed (0 ∷ refusals call) (given call) number)
