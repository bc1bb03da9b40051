-- Arguments for which the calls of the downlink DPCH give each of their numbers, in the order of the list. All fit the types of include/slt.h.
-- Assumes nothing.
use mathlib.Core.Path.{refl}
use mathlib.Core.List.{List, [], ◌∷◌, ◌++◌}
use Prim.Native.Nat.{ℕ}
use lib.ListN.{replicate}
use Rattle.run.specs.Fields.{cut, field, joined, start, total}
use Rattle.run.specs.First.{first_bad}
use Rattle.run.specs.Parts.{part}
use Rattle.run.specs.Table.{tab}
use Rattle.run.specs.Verdicts.{or_else, unless, each, leaves, lengths, chain}
use Rattle.dpch.specs.Formats.{formats, format_of}
use Rattle.dpch.specs.Compressed.{formats_a, formats_b, format_in, pairs_twice, pilot_for}
use Rattle.dpch.specs.Heads.{frame_head, slot_head}
use Rattle.dpch.specs.Pilots.{symbols1, symbols3, symbols5, symbols7, symbols_of, symbols_for, pilot_of}
use Rattle.dpch.specs.SecondPilots.{printed14, second_pilot, table14}
use Rattle.sttd.specs.Rule.{sttd, bar_digit}
use Rattle.slot.specs.Rule.{fields_of, slot_of, tfci_stands}
use Rattle.slot.specs.Outcome as slot
use Rattle.antenna.specs.Rule.{second_of}
use Rattle.antenna.specs.Outcome as antenna
use Rattle.frame.specs.Rule.{frame_of}
use Rattle.frame.specs.Outcome as frame
use Rattle.compressed.specs.Rule.{is_missing, turn_of, gap_stands}
use Rattle.compressed.specs.Rule as gapped
use Rattle.compressed.specs.Outcome as compressed
use Rattle.numbers.specs.Rule as c
use Rattle.numbers.specs.Rule.{refusals}
use Rattle.numbers.specs.Outcome as by
use Rattle.numbers.specs.Exact.{Gives}
use Rattle.numbers.proofs.Laws.{Each, end, ◌▸◌, gives}

-- format 1, slot 1: TPC 11, TFCI 01, data 10, pilot 1100
abbrev good : List ℕ
good = 1 ∷ 1 ∷ 0 ∷ 1 ∷ 1 ∷ 0 ∷ 1 ∷ 1 ∷ 0 ∷ 0 ∷ []

-- .. with mixed TFCI, and with a wrong pilot
abbrev mixed : List ℕ
mixed = 1 ∷ 1 ∷ 0 ∷ 2 ∷ 1 ∷ 0 ∷ 1 ∷ 1 ∷ 0 ∷ 0 ∷ []

abbrev wrong : List ℕ
wrong = 1 ∷ 1 ∷ 0 ∷ 1 ∷ 1 ∷ 0 ∷ 1 ∷ 1 ∷ 0 ∷ 1 ∷ []

-- two digits, ten, a frame's
abbrev two : List ℕ
two = 0 ∷ 0 ∷ []

abbrev ten : ℕ → List ℕ
ten = replicate 10

abbrev whole : ℕ → List ℕ
whole = replicate 150

-- a compressed frame of format 3A whose slots 0 to 6 are missing, with these digits in the slots that are transmitted
abbrev behind_gap : List ℕ → List ℕ
behind_gap xs = replicate 140 2 ++ xs

pub slot_map : Each (Gives c.slot_map) (0 ∷ refusals c.slot_map)
unfolding refusals or_else unless each first_bad lengths formats format_of slot_head slot.fields_verdict tfci_stands slot.map_head slot.map_verdict
slot_map =
    gives (by.slot_map 1 1 1 two two (ten 0) _ _ (record { answer_is = refl; out_is = refl })) refl
    ▸ gives (by.slot_map 17 0 0 [] [] [] _ _ (record { answer_is = refl; out_is = refl })) refl
    ▸ gives (by.slot_map 0 15 0 [] [] [] _ _ (record { answer_is = refl; out_is = refl })) refl
    ▸ gives (by.slot_map 0 0 0 [] [] [] _ _ (record { answer_is = refl; out_is = refl })) refl
    ▸ gives (by.slot_map 1 1 0 (3 ∷ 0 ∷ []) two (ten 0) _ _ (record { answer_is = refl; out_is = refl })) refl
    ▸ gives (by.slot_map 1 1 2 two two (ten 0) _ _ (record { answer_is = refl; out_is = refl })) refl
    ▸ gives (by.slot_map 1 1 1 two (0 ∷ 2 ∷ []) (ten 0) _ _ (record { answer_is = refl; out_is = refl })) refl
    ▸ end

pub slot_read : Each (Gives c.slot_read) (0 ∷ refusals c.slot_read)
unfolding refusals or_else unless each first_bad lengths formats format_of symbols1 symbols3 symbols5 symbols7 symbols_of symbols_for pilot_of pilot_for cut field joined total start slot_head slot.digits_verdict tfci_stands leaves slot.read_head slot.read_verdict
slot_read =
    gives (by.slot_read 1 1 good two two _ _ _ (record { answer_is = refl; data_is = refl; tfci_is = refl })) refl
    ▸ gives (by.slot_read 17 0 [] [] [] _ _ _ (record { answer_is = refl; data_is = refl; tfci_is = refl })) refl
    ▸ gives (by.slot_read 0 15 [] [] [] _ _ _ (record { answer_is = refl; data_is = refl; tfci_is = refl })) refl
    ▸ gives (by.slot_read 0 0 [] [] [] _ _ _ (record { answer_is = refl; data_is = refl; tfci_is = refl })) refl
    ▸ gives (by.slot_read 1 1 (ten 3) two two _ _ _ (record { answer_is = refl; data_is = refl; tfci_is = refl })) refl
    ▸ gives (by.slot_read 1 1 (ten 2) two two _ _ _ (record { answer_is = refl; data_is = refl; tfci_is = refl })) refl
    ▸ gives (by.slot_read 1 1 mixed two two _ _ _ (record { answer_is = refl; data_is = refl; tfci_is = refl })) refl
    ▸ gives (by.slot_read 1 1 wrong two two _ _ _ (record { answer_is = refl; data_is = refl; tfci_is = refl })) refl
    ▸ end

pub slot_map_antenna : Each (Gives c.slot_map_antenna) (0 ∷ refusals c.slot_map_antenna)
unfolding refusals or_else unless each first_bad lengths formats format_of slot_head slot.fields_verdict tfci_stands antenna.map_head antenna.map_verdict
slot_map_antenna =
    gives (by.slot_map_antenna 1 1 1 1 two two (ten 0) _ _ (record { answer_is = refl; out_is = refl })) refl
    ▸ gives (by.slot_map_antenna 17 0 0 0 [] [] [] _ _ (record { answer_is = refl; out_is = refl })) refl
    ▸ gives (by.slot_map_antenna 0 15 0 0 [] [] [] _ _ (record { answer_is = refl; out_is = refl })) refl
    ▸ gives (by.slot_map_antenna 0 0 0 0 [] [] [] _ _ (record { answer_is = refl; out_is = refl })) refl
    ▸ gives (by.slot_map_antenna 1 1 0 0 (3 ∷ 0 ∷ []) two (ten 0) _ _ (record { answer_is = refl; out_is = refl })) refl
    ▸ gives (by.slot_map_antenna 1 1 0 2 two two (ten 0) _ _ (record { answer_is = refl; out_is = refl })) refl
    ▸ gives (by.slot_map_antenna 1 1 0 1 two (0 ∷ 2 ∷ []) (ten 0) _ _ (record { answer_is = refl; out_is = refl })) refl
    ▸ gives (by.slot_map_antenna 0 0 2 0 [] [] [] _ _ (record { answer_is = refl; out_is = refl })) refl
    ▸ end

pub slot_read_antennas : Each (Gives c.slot_read_antennas) (0 ∷ refusals c.slot_read_antennas)
unfolding refusals or_else unless each first_bad lengths formats format_of symbols1 symbols3 symbols5 symbols7 symbols_of symbols_for pilot_of pilot_for cut field joined total start slot_head slot.digits_verdict tfci_stands leaves antenna.read_head antenna.read_body antenna.read_verdict second_of sttd bar_digit second_pilot printed14 table14
slot_read_antennas =
    gives (by.slot_read_antennas 1 1 good (second_of 1 1 good) two two _ _ _ (record { answer_is = refl; data_is = refl; tfci_is = refl })) refl
    ▸ gives (by.slot_read_antennas 17 0 [] [] [] [] _ _ _ (record { answer_is = refl; data_is = refl; tfci_is = refl })) refl
    ▸ gives (by.slot_read_antennas 0 15 [] [] [] [] _ _ _ (record { answer_is = refl; data_is = refl; tfci_is = refl })) refl
    ▸ gives (by.slot_read_antennas 0 0 [] [] [] [] _ _ _ (record { answer_is = refl; data_is = refl; tfci_is = refl })) refl
    ▸ gives (by.slot_read_antennas 1 1 (ten 3) (ten 0) two two _ _ _ (record { answer_is = refl; data_is = refl; tfci_is = refl })) refl
    ▸ gives (by.slot_read_antennas 1 1 (ten 2) (ten 0) two two _ _ _ (record { answer_is = refl; data_is = refl; tfci_is = refl })) refl
    ▸ gives (by.slot_read_antennas 1 1 mixed (ten 0) two two _ _ _ (record { answer_is = refl; data_is = refl; tfci_is = refl })) refl
    ▸ gives (by.slot_read_antennas 1 1 wrong (ten 0) two two _ _ _ (record { answer_is = refl; data_is = refl; tfci_is = refl })) refl
    ▸ gives (by.slot_read_antennas 1 1 good (ten 2) two two _ _ _ (record { answer_is = refl; data_is = refl; tfci_is = refl })) refl
    ▸ end

pub frame_map : Each (Gives c.frame_map) (0 ∷ refusals c.frame_map)
unfolding refusals or_else unless each first_bad lengths chain part formats format_of frame_head slot.fields_verdict tfci_stands frame.map_head frame.map_verdict
frame_map =
    gives (by.frame_map 1 (replicate 30 0) (replicate 30 0) (whole 0) (replicate 15 0) _ _ (record { answer_is = refl; out_is = refl })) refl
    ▸ gives (by.frame_map 17 [] [] [] [] _ _ (record { answer_is = refl; out_is = refl })) refl
    ▸ gives (by.frame_map 0 [] [] [] [] _ _ (record { answer_is = refl; out_is = refl })) refl
    ▸ gives (by.frame_map 1 (replicate 30 3) (replicate 30 0) (whole 0) (replicate 15 0) _ _ (record { answer_is = refl; out_is = refl })) refl
    ▸ gives (by.frame_map 1 (replicate 30 0) (replicate 30 0) (whole 0) (replicate 15 2) _ _ (record { answer_is = refl; out_is = refl })) refl
    ▸ gives (by.frame_map 1 (replicate 30 0) (0 ∷ 2 ∷ replicate 28 0) (whole 0) (replicate 15 0) _ _ (record { answer_is = refl; out_is = refl })) refl
    ▸ end

pub frame_read : Each (Gives c.frame_read) (0 ∷ refusals c.frame_read)
unfolding refusals or_else unless each first_bad lengths chain part formats format_of symbols1 symbols3 symbols5 symbols7 symbols_of symbols_for pilot_of pilot_for cut field joined total start frame_head slot.digits_verdict tfci_stands frame.read_head frame.read_verdict tab fields_of slot_of frame_of
frame_read =
    gives (by.frame_read 1 (frame_of (format_of 1) (replicate 30 0) (replicate 30 0) (replicate 15 0)) (replicate 30 0) (replicate 30 0) (replicate 15 0) _ _ _ _ (record { answer_is = refl; data_is = refl; tfci_is = refl; commands_is = refl })) refl
    ▸ gives (by.frame_read 17 [] [] [] [] _ _ _ _ (record { answer_is = refl; data_is = refl; tfci_is = refl; commands_is = refl })) refl
    ▸ gives (by.frame_read 0 [] [] [] [] _ _ _ _ (record { answer_is = refl; data_is = refl; tfci_is = refl; commands_is = refl })) refl
    ▸ gives (by.frame_read 1 (whole 3) (replicate 30 0) (replicate 30 0) (replicate 15 0) _ _ _ _ (record { answer_is = refl; data_is = refl; tfci_is = refl; commands_is = refl })) refl
    ▸ gives (by.frame_read 1 (whole 2) (replicate 30 0) (replicate 30 0) (replicate 15 0) _ _ _ _ (record { answer_is = refl; data_is = refl; tfci_is = refl; commands_is = refl })) refl
    ▸ gives (by.frame_read 1 (0 ∷ 0 ∷ 0 ∷ 2 ∷ replicate 146 0) (replicate 30 0) (replicate 30 0) (replicate 15 0) _ _ _ _ (record { answer_is = refl; data_is = refl; tfci_is = refl; commands_is = refl })) refl
    ▸ gives (by.frame_read 1 (whole 0) (replicate 30 0) (replicate 30 0) (replicate 15 0) _ _ _ _ (record { answer_is = refl; data_is = refl; tfci_is = refl; commands_is = refl })) refl
    ▸ end

pub compressed_map : Each (Gives c.compressed_map) (0 ∷ refusals c.compressed_map)
unfolding refusals or_else unless each first_bad lengths chain part formats format_of formats_a formats_b format_in gap_stands compressed.gap_head slot.fields_verdict tfci_stands compressed.map_head compressed.map_verdict
compressed_map =
    gives (by.compressed_map 3 1 0 7 (replicate 96 0) (replicate 32 0) (replicate 300 0) (replicate 8 0) _ _ (record { answer_is = refl; out_is = refl })) refl
    ▸ gives (by.compressed_map 3 0 0 7 [] [] [] [] _ _ (record { answer_is = refl; out_is = refl })) refl
    ▸ gives (by.compressed_map 3 1 0 7 [] [] [] [] _ _ (record { answer_is = refl; out_is = refl })) refl
    ▸ gives (by.compressed_map 3 1 0 7 (replicate 96 3) (replicate 32 0) (replicate 300 0) (replicate 8 0) _ _ (record { answer_is = refl; out_is = refl })) refl
    ▸ gives (by.compressed_map 3 1 0 7 (replicate 96 0) (replicate 32 0) (replicate 300 0) (replicate 8 2) _ _ (record { answer_is = refl; out_is = refl })) refl
    ▸ gives (by.compressed_map 3 1 0 7 (replicate 96 0) (0 ∷ 2 ∷ replicate 30 0) (replicate 300 0) (replicate 8 0) _ _ (record { answer_is = refl; out_is = refl })) refl
    ▸ gives (by.compressed_map 3 1 0 8 [] [] [] [] _ _ (record { answer_is = refl; out_is = refl })) refl
    ▸ end

pub compressed_read : Each (Gives c.compressed_read) (0 ∷ refusals c.compressed_read)
unfolding refusals or_else unless each first_bad lengths chain part formats format_of formats_a formats_b format_in gap_stands compressed.gap_head symbols1 symbols3 symbols5 symbols7 symbols_of symbols_for pilot_of pilot_for cut field joined total start pairs_twice is_missing turn_of slot.digits_verdict tfci_stands compressed.silent_verdict compressed.slot_verdict compressed.read_head compressed.read_verdict tab fields_of slot_of gapped.frame_of
compressed_read =
    gives (by.compressed_read 3 1 0 7 (gapped.frame_of (format_in 1 3) 0 7 (replicate 96 0) (replicate 32 0) (replicate 8 0)) (replicate 96 0) (replicate 32 0) (replicate 8 0) _ _ _ _ (record { answer_is = refl; data_is = refl; tfci_is = refl; commands_is = refl })) refl
    ▸ gives (by.compressed_read 3 0 0 7 [] [] [] [] _ _ _ _ (record { answer_is = refl; data_is = refl; tfci_is = refl; commands_is = refl })) refl
    ▸ gives (by.compressed_read 3 1 0 7 [] [] [] [] _ _ _ _ (record { answer_is = refl; data_is = refl; tfci_is = refl; commands_is = refl })) refl
    ▸ gives (by.compressed_read 3 1 0 7 (replicate 300 3) (replicate 96 0) (replicate 32 0) (replicate 8 0) _ _ _ _ (record { answer_is = refl; data_is = refl; tfci_is = refl; commands_is = refl })) refl
    ▸ gives (by.compressed_read 3 1 0 7 (replicate 300 2) (replicate 96 0) (replicate 32 0) (replicate 8 0) _ _ _ _ (record { answer_is = refl; data_is = refl; tfci_is = refl; commands_is = refl })) refl
    ▸ gives (by.compressed_read 3 1 0 7 (behind_gap (replicate 7 0 ++ 2 ∷ replicate 152 0)) (replicate 96 0) (replicate 32 0) (replicate 8 0) _ _ _ _ (record { answer_is = refl; data_is = refl; tfci_is = refl; commands_is = refl })) refl
    ▸ gives (by.compressed_read 3 1 0 7 (behind_gap (replicate 160 0)) (replicate 96 0) (replicate 32 0) (replicate 8 0) _ _ _ _ (record { answer_is = refl; data_is = refl; tfci_is = refl; commands_is = refl })) refl
    ▸ gives (by.compressed_read 3 1 0 7 (replicate 300 0) (replicate 96 0) (replicate 32 0) (replicate 8 0) _ _ _ _ (record { answer_is = refl; data_is = refl; tfci_is = refl; commands_is = refl })) refl
    ▸ gives (by.compressed_read 3 1 0 8 [] [] [] [] _ _ _ _ (record { answer_is = refl; data_is = refl; tfci_is = refl; commands_is = refl })) refl
    ▸ end
