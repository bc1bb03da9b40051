-- Arguments for which the calls of the STTD encoder, the P-CCPCH and the HS-PDSCH give each of their numbers, in the order of the list. All fit the types of include/slt.h.
-- Assumes nothing.
use mathlib.Core.Path.{refl}
use mathlib.Core.List.{[], ◌∷◌}
use lib.ListN.{replicate}
use lib.IntN.{pos}
use Rattle.run.specs.First.{first_bad}
use Rattle.run.specs.Ranges.{between}
use Rattle.run.specs.Table.{tab}
use Rattle.run.specs.Verdicts.{or_else, unless, each, lengths}
use Rattle.dpch.specs.Heads.{frame_head}
use Rattle.sttd.specs.Rule.{sttd, bar_digit}
use Rattle.sttd.specs.Outcome as sttd
use Rattle.pccpch.specs.Rule as broadcast
use Rattle.pccpch.specs.Outcome as pccpch
use Rattle.hspdsch.specs.Rule.{slot_sizes, size, coded, second_of}
use Rattle.hspdsch.specs.Outcome as hspdsch
use Rattle.numbers.specs.Rule as c
use Rattle.numbers.specs.Rule.{refusals}
use Rattle.numbers.specs.Outcome as by
use Rattle.numbers.specs.Exact.{Gives}
use Rattle.numbers.proofs.Laws.{Each, end, ◌▸◌, gives}

pub sttd_digits : Each (Gives c.sttd_digits) (0 ∷ refusals c.sttd_digits)
unfolding refusals or_else unless each first_bad sttd.digits_verdict
sttd_digits =
    gives (by.sttd_digits (replicate 4 0) (replicate 4 0) _ _ (record { answer_is = refl; out_is = refl })) refl
    ▸ gives (by.sttd_digits (0 ∷ []) [] _ _ (record { answer_is = refl; out_is = refl })) refl
    ▸ gives (by.sttd_digits (replicate 4 3) (replicate 4 0) _ _ (record { answer_is = refl; out_is = refl })) refl
    ▸ end

pub sttd_values : Each (Gives c.sttd_values) (0 ∷ refusals c.sttd_values)
unfolding refusals or_else unless each first_bad between sttd.values_verdict
sttd_values =
    gives (by.sttd_values (replicate 32 (pos 16)) (replicate 32 (pos 0)) _ _ (record { answer_is = refl; out_is = refl })) refl
    ▸ gives (by.sttd_values [] [] _ _ (record { answer_is = refl; out_is = refl })) refl
    ▸ gives (by.sttd_values (replicate 32 (pos 17)) (replicate 32 (pos 0)) _ _ (record { answer_is = refl; out_is = refl })) refl
    ▸ end

pub pccpch_map : Each (Gives c.pccpch_map) (0 ∷ refusals c.pccpch_map)
unfolding refusals or_else unless each first_bad pccpch.map_verdict
pccpch_map =
    gives (by.pccpch_map (replicate 270 0) (replicate 300 0) (replicate 300 0) _ _ _ (record { answer_is = refl; antenna1_is = refl; antenna2_is = refl })) refl
    ▸ gives (by.pccpch_map [] [] [] _ _ _ (record { answer_is = refl; antenna1_is = refl; antenna2_is = refl })) refl
    ▸ gives (by.pccpch_map (replicate 270 2) (replicate 300 0) (replicate 300 0) _ _ _ (record { answer_is = refl; antenna1_is = refl; antenna2_is = refl })) refl
    ▸ end

pub pccpch_read : Each (Gives c.pccpch_read) (0 ∷ refusals c.pccpch_read)
unfolding refusals or_else unless each first_bad pccpch.read_head pccpch.right_kind pccpch.read_body pccpch.read_verdict broadcast.coded broadcast.data_in broadcast.filled broadcast.frame_of broadcast.second_of tab sttd bar_digit
pccpch_read =
    gives (by.pccpch_read (broadcast.frame_of (replicate 270 0)) (broadcast.second_of (replicate 270 0)) (replicate 270 0) _ _ (record { answer_is = refl; data_is = refl })) refl
    ▸ gives (by.pccpch_read [] [] [] _ _ (record { answer_is = refl; data_is = refl })) refl
    ▸ gives (by.pccpch_read (replicate 300 3) (replicate 300 0) (replicate 270 0) _ _ (record { answer_is = refl; data_is = refl })) refl
    ▸ gives (by.pccpch_read (replicate 300 2) (replicate 300 0) (replicate 270 0) _ _ (record { answer_is = refl; data_is = refl })) refl
    ▸ end

pub hspdsch_map : Each (Gives c.hspdsch_map) (0 ∷ refusals c.hspdsch_map)
unfolding refusals or_else unless each first_bad lengths frame_head slot_sizes size hspdsch.map_verdict
hspdsch_map =
    gives (by.hspdsch_map 0 (replicate 960 0) (replicate 960 0) (replicate 960 0) _ _ _ (record { answer_is = refl; antenna1_is = refl; antenna2_is = refl })) refl
    ▸ gives (by.hspdsch_map 2 [] [] [] _ _ _ (record { answer_is = refl; antenna1_is = refl; antenna2_is = refl })) refl
    ▸ gives (by.hspdsch_map 0 [] [] [] _ _ _ (record { answer_is = refl; antenna1_is = refl; antenna2_is = refl })) refl
    ▸ gives (by.hspdsch_map 0 (replicate 960 2) (replicate 960 0) (replicate 960 0) _ _ _ (record { answer_is = refl; antenna1_is = refl; antenna2_is = refl })) refl
    ▸ end

pub hspdsch_read : Each (Gives c.hspdsch_read) (0 ∷ refusals c.hspdsch_read)
unfolding refusals or_else unless each first_bad lengths frame_head slot_sizes size hspdsch.read_head hspdsch.read_body hspdsch.read_verdict coded sttd bar_digit
hspdsch_read =
    gives (by.hspdsch_read 0 (replicate 960 0) (second_of 0 (replicate 960 0)) (replicate 960 0) _ _ (record { answer_is = refl; data_is = refl })) refl
    ▸ gives (by.hspdsch_read 2 [] [] [] _ _ (record { answer_is = refl; data_is = refl })) refl
    ▸ gives (by.hspdsch_read 0 [] [] [] _ _ (record { answer_is = refl; data_is = refl })) refl
    ▸ gives (by.hspdsch_read 0 (replicate 960 2) (replicate 960 0) (replicate 960 0) _ _ (record { answer_is = refl; data_is = refl })) refl
    ▸ gives (by.hspdsch_read 0 (replicate 960 0) (replicate 960 0) (replicate 960 0) _ _ (record { answer_is = refl; data_is = refl })) refl
    ▸ end
