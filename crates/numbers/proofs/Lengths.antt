-- Arguments for which the calls of the lengths of a mapper's runs give each of their numbers, in the order of the list. All fit the types of include/slt.h.
-- Assumes nothing.
use mathlib.Core.Path.{refl}
use mathlib.Core.List.{◌∷◌}
use Rattle.run.specs.First.{first_bad}
use Rattle.run.specs.Verdicts.{or_else, unless, each, leaves, lengths}
use Rattle.dpch.specs.Formats.{formats, format_of}
use Rattle.dpch.specs.Compressed.{formats_a, formats_b, format_in}
use Rattle.dpch.specs.Heads.{frame_head}
use Rattle.dpch.specs.Uplink.{dpdch_sizes, dpdch_size, dpcch_formats, dpcch_format}
use Rattle.hspdsch.specs.Rule.{slot_sizes, size}
use Rattle.compressed.specs.Rule.{gap_stands}
use Rattle.compressed.specs.Outcome.{gap_head}
use Rattle.lengths.specs.Rule.{slot_lengths_of, frame_lengths_of, compressed_lengths_of, dpdch_lengths_of, dpcch_lengths_of, dpcch_frame_lengths_of, hspdsch_lengths_of}
use Rattle.lengths.specs.Outcome.{told_verdict}
use Rattle.numbers.specs.Rule as c
use Rattle.numbers.specs.Rule.{refusals}
use Rattle.numbers.specs.Outcome as by
use Rattle.numbers.specs.Exact.{Gives}
use Rattle.numbers.proofs.Laws.{Each, end, ◌▸◌, gives}

pub slot_lengths : Each (Gives c.slot_lengths) (0 ∷ refusals c.slot_lengths)
unfolding refusals or_else unless each first_bad lengths leaves frame_head told_verdict formats format_of slot_lengths_of
slot_lengths =
    gives (by.slot_lengths 0 0 _ (record { answer_is = refl })) refl
    ▸ gives (by.slot_lengths 17 0 _ (record { answer_is = refl })) refl
    ▸ gives (by.slot_lengths 0 4 _ (record { answer_is = refl })) refl
    ▸ end

pub frame_lengths : Each (Gives c.frame_lengths) (0 ∷ refusals c.frame_lengths)
unfolding refusals or_else unless each first_bad lengths leaves frame_head told_verdict formats format_of frame_lengths_of
frame_lengths =
    gives (by.frame_lengths 0 0 _ (record { answer_is = refl })) refl
    ▸ gives (by.frame_lengths 17 0 _ (record { answer_is = refl })) refl
    ▸ gives (by.frame_lengths 0 4 _ (record { answer_is = refl })) refl
    ▸ end

pub dpdch_lengths : Each (Gives c.dpdch_lengths) (0 ∷ refusals c.dpdch_lengths)
unfolding refusals or_else unless each first_bad lengths leaves frame_head told_verdict dpdch_sizes dpdch_size dpdch_lengths_of
dpdch_lengths =
    gives (by.dpdch_lengths 0 0 _ (record { answer_is = refl })) refl
    ▸ gives (by.dpdch_lengths 7 0 _ (record { answer_is = refl })) refl
    ▸ gives (by.dpdch_lengths 0 4 _ (record { answer_is = refl })) refl
    ▸ end

pub dpdch_frame_lengths : Each (Gives c.dpdch_frame_lengths) (0 ∷ refusals c.dpdch_frame_lengths)
unfolding refusals or_else unless each first_bad lengths leaves frame_head told_verdict dpdch_sizes dpdch_size dpdch_lengths_of
dpdch_frame_lengths =
    gives (by.dpdch_frame_lengths 0 0 _ (record { answer_is = refl })) refl
    ▸ gives (by.dpdch_frame_lengths 7 0 _ (record { answer_is = refl })) refl
    ▸ gives (by.dpdch_frame_lengths 0 4 _ (record { answer_is = refl })) refl
    ▸ end

pub dpcch_lengths : Each (Gives c.dpcch_lengths) (0 ∷ refusals c.dpcch_lengths)
unfolding refusals or_else unless each first_bad lengths leaves frame_head told_verdict dpcch_formats dpcch_format dpcch_lengths_of
dpcch_lengths =
    gives (by.dpcch_lengths 0 0 _ (record { answer_is = refl })) refl
    ▸ gives (by.dpcch_lengths 4 0 _ (record { answer_is = refl })) refl
    ▸ gives (by.dpcch_lengths 0 4 _ (record { answer_is = refl })) refl
    ▸ end

pub dpcch_frame_lengths : Each (Gives c.dpcch_frame_lengths) (0 ∷ refusals c.dpcch_frame_lengths)
unfolding refusals or_else unless each first_bad lengths leaves frame_head told_verdict dpcch_formats dpcch_format dpcch_frame_lengths_of
dpcch_frame_lengths =
    gives (by.dpcch_frame_lengths 0 0 _ (record { answer_is = refl })) refl
    ▸ gives (by.dpcch_frame_lengths 4 0 _ (record { answer_is = refl })) refl
    ▸ gives (by.dpcch_frame_lengths 0 4 _ (record { answer_is = refl })) refl
    ▸ end

pub hspdsch_lengths : Each (Gives c.hspdsch_lengths) (0 ∷ refusals c.hspdsch_lengths)
unfolding refusals or_else unless each first_bad lengths leaves frame_head told_verdict slot_sizes size hspdsch_lengths_of
hspdsch_lengths =
    gives (by.hspdsch_lengths 0 0 _ (record { answer_is = refl })) refl
    ▸ gives (by.hspdsch_lengths 2 0 _ (record { answer_is = refl })) refl
    ▸ gives (by.hspdsch_lengths 0 4 _ (record { answer_is = refl })) refl
    ▸ end

pub compressed_lengths : Each (Gives c.compressed_lengths) (0 ∷ refusals c.compressed_lengths)
unfolding refusals or_else unless each first_bad lengths leaves told_verdict formats format_of formats_a formats_b format_in gap_stands gap_head compressed_lengths_of
compressed_lengths =
    gives (by.compressed_lengths 3 1 0 7 0 _ (record { answer_is = refl })) refl
    ▸ gives (by.compressed_lengths 3 0 0 7 0 _ (record { answer_is = refl })) refl
    ▸ gives (by.compressed_lengths 3 1 0 7 4 _ (record { answer_is = refl })) refl
    ▸ gives (by.compressed_lengths 3 1 0 8 0 _ (record { answer_is = refl })) refl
    ▸ end
