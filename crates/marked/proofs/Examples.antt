-- The theorem of specs/Table.antt: both columns are computed and compared.
-- Assumes nothing.
use mathlib.Core.Path.{refl}
use lib.Count.{ones}
use Rattle.run.specs.Fields.{joined}
use Rattle.run.specs.First.{first_bad}
use Rattle.run.specs.Ranges.{between}
use Rattle.run.specs.Table.{tab}
use Rattle.run.specs.Verdicts.{or_else, unless, each, lengths, leaves}
use Rattle.whole.specs.Sum.{sum}
use Rattle.dpch.specs.Formats.{formats, format_of}
use Rattle.dpch.specs.Heads.{slot_head}
use Rattle.dpch.specs.Compressed.{pilot_for}
use Rattle.dpch.specs.Pilots.{symbols1, symbols3, symbols5, symbols7, symbols_of, symbols_for, pilot_of}
use Rattle.slot.specs.Rule.{fields_of, slot_of, tfci_stands}
use Rattle.slot.specs.Outcome.{map_head, fields_verdict, map_verdict as slot_verdict}
use Rattle.sttd.specs.Rule.{sttd, bar_digit}
use Rattle.sttd.specs.Outcome.{digits_verdict}
use Rattle.pich.specs.Rule.{is_np, q_of}
use Rattle.pich.specs.Outcome.{q_verdict}
use Rattle.signature.specs.Rule.{is_plus, sign}
use Rattle.aich.specs.Rule.{value_at, values_of, correlation, unit, indicators_in}
use Rattle.aich.specs.Outcome.{map_verdict as aichVerdict, given, read_head, read_verdict as aichReadVerdict}
use Rattle.correlator.specs.Rule.{part_of, combined_at, combined, number_of, numbers_of}
use Rattle.combiner.specs.Outcome.{some_gain, combine_head, combine_body, combine_verdict}
use Rattle.combiner.specs.Demand3.{clean}
use Rattle.marked.specs.Table.{table, MarkedExamples}

pub marked_examples : MarkedExamples
unfolding table leaves or_else unless each lengths first_bad between tab joined sum ones formats format_of symbols1 symbols3 symbols5 symbols7 symbols_of symbols_for pilot_for pilot_of fields_of slot_of tfci_stands slot_head map_head fields_verdict slot_verdict sttd bar_digit digits_verdict is_np q_of q_verdict is_plus sign value_at values_of correlation unit indicators_in aichVerdict given read_head aichReadVerdict part_of combined_at combined number_of numbers_of some_gain combine_head combine_body combine_verdict clean
marked_examples slot tpc tfci d lent = record { all_twelve = refl; as_said = refl }
