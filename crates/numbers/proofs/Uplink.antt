-- Arguments for which the calls of the uplink DPDCH and DPCCH give each of their numbers, in the order of the list. All fit the types of include/slt.h.
-- Assumes nothing.
use mathlib.Core.Path.{refl}
use mathlib.Core.List.{[], ◌∷◌, ◌++◌}
use lib.ListN.{replicate}
use Rattle.run.specs.Fields.{cut, field, joined, start, total}
use Rattle.run.specs.First.{first_bad}
use Rattle.run.specs.Parts.{part}
use Rattle.run.specs.Table.{tab}
use Rattle.run.specs.Verdicts.{or_else, unless, each, leaves, lengths, chain}
use Rattle.dpch.specs.Heads.{frame_head, slot_head}
use Rattle.dpch.specs.Uplink.{dpdch_sizes, dpdch_size, dpcch_formats, dpcch_format}
use Rattle.dpch.specs.UplinkPilots.{table3, table4, printed_row, dpcch_pilot}
use Rattle.dpdch.specs.Outcome as dpdch
use Rattle.dpcch.specs.Rule as up
use Rattle.dpcch.specs.Outcome as dpcch
use Rattle.numbers.specs.Rule as c
use Rattle.numbers.specs.Rule.{refusals}
use Rattle.numbers.specs.Outcome as by
use Rattle.numbers.specs.Exact.{Gives}
use Rattle.numbers.proofs.Laws.{Each, end, ◌▸◌, gives}

pub dpdch_map : Each (Gives c.dpdch_map) (0 ∷ refusals c.dpdch_map)
unfolding refusals or_else unless each first_bad lengths frame_head dpdch_sizes dpdch_size dpdch.slots_verdict
dpdch_map =
    gives (by.dpdch_map 0 (replicate 10 0) (replicate 10 0) _ _ (record { answer_is = refl; out_is = refl })) refl
    ▸ gives (by.dpdch_map 7 [] [] _ _ (record { answer_is = refl; out_is = refl })) refl
    ▸ gives (by.dpdch_map 0 [] [] _ _ (record { answer_is = refl; out_is = refl })) refl
    ▸ gives (by.dpdch_map 0 (replicate 10 2) (replicate 10 0) _ _ (record { answer_is = refl; out_is = refl })) refl
    ▸ end

pub dpdch_read : Each (Gives c.dpdch_read) (0 ∷ refusals c.dpdch_read)
unfolding refusals or_else unless each first_bad lengths frame_head dpdch_sizes dpdch_size dpdch.slots_verdict
dpdch_read =
    gives (by.dpdch_read 0 (replicate 10 0) (replicate 10 0) _ _ (record { answer_is = refl; data_is = refl })) refl
    ▸ gives (by.dpdch_read 7 [] [] _ _ (record { answer_is = refl; data_is = refl })) refl
    ▸ gives (by.dpdch_read 0 [] [] _ _ (record { answer_is = refl; data_is = refl })) refl
    ▸ gives (by.dpdch_read 0 (replicate 10 2) (replicate 10 0) _ _ (record { answer_is = refl; data_is = refl })) refl
    ▸ end

pub dpdch_frame_map : Each (Gives c.dpdch_frame_map) (0 ∷ refusals c.dpdch_frame_map)
unfolding refusals or_else unless each first_bad lengths frame_head dpdch_sizes dpdch_size dpdch.slots_verdict
dpdch_frame_map =
    gives (by.dpdch_frame_map 0 (replicate 150 0) (replicate 150 0) _ _ (record { answer_is = refl; out_is = refl })) refl
    ▸ gives (by.dpdch_frame_map 7 [] [] _ _ (record { answer_is = refl; out_is = refl })) refl
    ▸ gives (by.dpdch_frame_map 0 [] [] _ _ (record { answer_is = refl; out_is = refl })) refl
    ▸ gives (by.dpdch_frame_map 0 (replicate 150 2) (replicate 150 0) _ _ (record { answer_is = refl; out_is = refl })) refl
    ▸ end

pub dpdch_frame_read : Each (Gives c.dpdch_frame_read) (0 ∷ refusals c.dpdch_frame_read)
unfolding refusals or_else unless each first_bad lengths frame_head dpdch_sizes dpdch_size dpdch.slots_verdict
dpdch_frame_read =
    gives (by.dpdch_frame_read 0 (replicate 150 0) (replicate 150 0) _ _ (record { answer_is = refl; data_is = refl })) refl
    ▸ gives (by.dpdch_frame_read 7 [] [] _ _ (record { answer_is = refl; data_is = refl })) refl
    ▸ gives (by.dpdch_frame_read 0 [] [] _ _ (record { answer_is = refl; data_is = refl })) refl
    ▸ gives (by.dpdch_frame_read 0 (replicate 150 2) (replicate 150 0) _ _ (record { answer_is = refl; data_is = refl })) refl
    ▸ end

pub dpcch_map : Each (Gives c.dpcch_map) (0 ∷ refusals c.dpcch_map)
unfolding refusals or_else unless each first_bad lengths dpcch_formats dpcch_format slot_head dpcch.fields_verdict dpcch.map_head dpcch.map_verdict
dpcch_map =
    gives (by.dpcch_map 2 0 0 (0 ∷ 0 ∷ []) (0 ∷ []) (replicate 10 0) _ _ (record { answer_is = refl; out_is = refl })) refl
    ▸ gives (by.dpcch_map 4 0 0 [] [] [] _ _ (record { answer_is = refl; out_is = refl })) refl
    ▸ gives (by.dpcch_map 0 15 0 [] [] [] _ _ (record { answer_is = refl; out_is = refl })) refl
    ▸ gives (by.dpcch_map 0 0 0 [] [] [] _ _ (record { answer_is = refl; out_is = refl })) refl
    ▸ gives (by.dpcch_map 2 0 0 (0 ∷ 0 ∷ []) (2 ∷ []) (replicate 10 0) _ _ (record { answer_is = refl; out_is = refl })) refl
    ▸ gives (by.dpcch_map 2 0 2 (0 ∷ 0 ∷ []) (0 ∷ []) (replicate 10 0) _ _ (record { answer_is = refl; out_is = refl })) refl
    ▸ end

pub dpcch_read : Each (Gives c.dpcch_read) (0 ∷ refusals c.dpcch_read)
unfolding refusals or_else unless each first_bad lengths dpcch_formats dpcch_format cut field joined total start printed_row table3 table4 dpcch_pilot leaves slot_head dpcch.digits_verdict dpcch.read_head dpcch.read_verdict up.fields_of up.slot_of
dpcch_read =
    gives (by.dpcch_read 2 0 (up.slot_of (dpcch_format 2) 0 0 (0 ∷ 0 ∷ []) (0 ∷ [])) (0 ∷ 0 ∷ []) (0 ∷ []) _ _ _ (record { answer_is = refl; tfci_is = refl; fbi_is = refl })) refl
    ▸ gives (by.dpcch_read 4 0 [] [] [] _ _ _ (record { answer_is = refl; tfci_is = refl; fbi_is = refl })) refl
    ▸ gives (by.dpcch_read 0 15 [] [] [] _ _ _ (record { answer_is = refl; tfci_is = refl; fbi_is = refl })) refl
    ▸ gives (by.dpcch_read 0 0 [] [] [] _ _ _ (record { answer_is = refl; tfci_is = refl; fbi_is = refl })) refl
    ▸ gives (by.dpcch_read 2 0 (replicate 10 2) (0 ∷ 0 ∷ []) (0 ∷ []) _ _ _ (record { answer_is = refl; tfci_is = refl; fbi_is = refl })) refl
    ▸ gives (by.dpcch_read 2 0 (replicate 9 0 ++ 1 ∷ []) (0 ∷ 0 ∷ []) (0 ∷ []) _ _ _ (record { answer_is = refl; tfci_is = refl; fbi_is = refl })) refl
    ▸ gives (by.dpcch_read 2 0 (replicate 10 0) (0 ∷ 0 ∷ []) (0 ∷ []) _ _ _ (record { answer_is = refl; tfci_is = refl; fbi_is = refl })) refl
    ▸ end

pub dpcch_frame_map : Each (Gives c.dpcch_frame_map) (0 ∷ refusals c.dpcch_frame_map)
unfolding refusals or_else unless each first_bad lengths dpcch_formats dpcch_format chain part frame_head dpcch.fields_verdict dpcch.frame_map_head dpcch.frame_map_verdict
dpcch_frame_map =
    gives (by.dpcch_frame_map 2 (replicate 30 0) (replicate 15 0) (replicate 150 0) (replicate 15 0) _ _ (record { answer_is = refl; out_is = refl })) refl
    ▸ gives (by.dpcch_frame_map 4 [] [] [] [] _ _ (record { answer_is = refl; out_is = refl })) refl
    ▸ gives (by.dpcch_frame_map 0 [] [] [] [] _ _ (record { answer_is = refl; out_is = refl })) refl
    ▸ gives (by.dpcch_frame_map 2 (replicate 30 2) (replicate 15 0) (replicate 150 0) (replicate 15 0) _ _ (record { answer_is = refl; out_is = refl })) refl
    ▸ gives (by.dpcch_frame_map 2 (replicate 30 0) (replicate 15 0) (replicate 150 0) (replicate 15 2) _ _ (record { answer_is = refl; out_is = refl })) refl
    ▸ end

pub dpcch_frame_read : Each (Gives c.dpcch_frame_read) (0 ∷ refusals c.dpcch_frame_read)
unfolding refusals or_else unless each first_bad lengths dpcch_formats dpcch_format cut field joined total start printed_row table3 table4 dpcch_pilot chain part frame_head dpcch.digits_verdict dpcch.frame_read_head dpcch.frame_read_verdict tab up.fields_of up.slot_of up.frame_of
dpcch_frame_read =
    gives (by.dpcch_frame_read 2 (up.frame_of (dpcch_format 2) (replicate 30 0) (replicate 15 0) (replicate 15 0)) (replicate 30 0) (replicate 15 0) (replicate 15 0) _ _ _ _ (record { answer_is = refl; tfci_is = refl; fbi_is = refl; commands_is = refl })) refl
    ▸ gives (by.dpcch_frame_read 4 [] [] [] [] _ _ _ _ (record { answer_is = refl; tfci_is = refl; fbi_is = refl; commands_is = refl })) refl
    ▸ gives (by.dpcch_frame_read 0 [] [] [] [] _ _ _ _ (record { answer_is = refl; tfci_is = refl; fbi_is = refl; commands_is = refl })) refl
    ▸ gives (by.dpcch_frame_read 2 (replicate 150 2) (replicate 30 0) (replicate 15 0) (replicate 15 0) _ _ _ _ (record { answer_is = refl; tfci_is = refl; fbi_is = refl; commands_is = refl })) refl
    ▸ gives (by.dpcch_frame_read 2 (replicate 9 0 ++ 1 ∷ replicate 140 0) (replicate 30 0) (replicate 15 0) (replicate 15 0) _ _ _ _ (record { answer_is = refl; tfci_is = refl; fbi_is = refl; commands_is = refl })) refl
    ▸ gives (by.dpcch_frame_read 2 (replicate 150 0) (replicate 30 0) (replicate 15 0) (replicate 15 0) _ _ _ _ (record { answer_is = refl; tfci_is = refl; fbi_is = refl; commands_is = refl })) refl
    ▸ end
