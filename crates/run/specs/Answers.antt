-- What an answer of a call tells: the number and the place of its refusal, and the value beside them.
-- Assumes nothing.
use Rattle.std.specs.Prelude.{ℕ, Result, Ok, Err}
use Rattle.run.specs.Verdict.{Verdict}
use Rattle.run.specs.declared.refusal.Reason.{Reason}
use Rattle.run.specs.declared.refusal.Reason.TheVariants.{Format, Slot, Length, Digit, Tpc, Tfci, Pilot, Np, Frame, Values, Range, Gains, OverLong, Mark, Version, Kind, EndsEarly, BytesAfter, Signature, Gap, Bank, Absent, Present, Room, Count}
use Rattle.run.specs.declared.refusal.Refusal.{Refusal}
use Rattle.run.specs.Refusals.{format_refused, slot_refused, length_refused, digit_refused, tpc_refused, tfci_refused, pilot_refused, np_refused, frame_refused, values_refused, range_refused, gains_refused, over_long_refused, mark_refused, version_refused, kind_refused, ends_early_refused, bytes_after_refused, signature_refused, gap_refused, bank_refused, absent_refused, present_refused, room_refused, count_refused}
use Rattle.run.specs.Verdicts.{refused, done}

-- docs/RULES.md, 'Numbers a call can return'
abbrev pub number_of : Reason → ℕ
number_of Format = format_refused
number_of Slot = slot_refused
number_of Length = length_refused
number_of Digit = digit_refused
number_of Tpc = tpc_refused
number_of Tfci = tfci_refused
number_of Pilot = pilot_refused
number_of Np = np_refused
number_of Frame = frame_refused
number_of Values = values_refused
number_of Range = range_refused
number_of Gains = gains_refused
number_of OverLong = over_long_refused
number_of Mark = mark_refused
number_of Version = version_refused
number_of Kind = kind_refused
number_of EndsEarly = ends_early_refused
number_of BytesAfter = bytes_after_refused
number_of Signature = signature_refused
number_of Gap = gap_refused
number_of Bank = bank_refused
number_of Absent = absent_refused
number_of Present = present_refused
number_of Room = room_refused
number_of Count = count_refused

-- done, or the number and the place
abbrev pub verdict_of : {A : Type 0} → Result A Refusal → Verdict
verdict_of (Ok _) = done
verdict_of (Err r) = refused (number_of r.reason) r.place

-- the value, 0 where the call refuses
abbrev pub value_of : Result ℕ Refusal → ℕ
value_of (Ok value) = value
value_of (Err _) = 0
