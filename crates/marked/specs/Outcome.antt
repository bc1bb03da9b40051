-- What a call comes to, for every call of the table in one type: the two definitions that its promise cites, its verdict and what it leaves.
-- Assumes nothing.
use Rattle.std.specs.Prelude.{ℕ, List, ℤ}
use Rattle.run.specs.Verdict.{Verdict}
use Rattle.run.specs.Verdicts.{leaves}
use Rattle.dpch.specs.Formats.{format_of}
use Rattle.slot.specs.Rule.{slot_of}
use Rattle.slot.specs.Outcome.{map_verdict as slot_verdict}
use Rattle.sttd.specs.Rule.{sttd, bar_digit}
use Rattle.sttd.specs.Outcome.{digits_verdict}
use Rattle.pich.specs.Rule.{q_of}
use Rattle.pich.specs.Outcome.{q_verdict}
use Rattle.aich.specs.Rule.{values_of, indicators_in}
use Rattle.aich.specs.Outcome.{map_verdict as aichVerdict, read_verdict as aichReadVerdict}
use Rattle.correlator.specs.declared.Complex.{Complex}
use Rattle.correlator.specs.Rule.{numbers_of}
use Rattle.combiner.specs.Outcome.{combine_verdict}
use Rattle.combiner.specs.Demand3.{clean}

-- what a call leaves: digits or whole numbers in the run that it was lent, or an answered number; nothing where it is refused
pub data Left : Type 0 where
  nothing : Left
  digits : List ℕ → Left
  values : List ℤ → Left
  q : ℕ → Left

pub record Outcome : Type 0 where
  pub verdict : Verdict
  pub left : Left

-- as the promises have it: the new where the call is done, what was there where it is refused
abbrev pub outcome : Verdict → Left → Outcome
outcome v new = record { verdict = v; left = leaves v new nothing }

-- ---- the calls of the table. `lent` is the length of the run that the call is to write

abbrev pub slot_map : (format slot tpc : ℕ) (tfci d : List ℕ) (lent : ℕ) → Outcome
slot_map format slot tpc tfci d lent =
    outcome (slot_verdict format slot tpc d tfci lent) (digits (slot_of (format_of format) slot tpc d tfci))

abbrev pub sttd_digits : List ℕ → ℕ → Outcome
sttd_digits input lent = outcome (digits_verdict input lent) (digits (sttd bar_digit input))

abbrev pub pich_q : (np sfn pi : ℕ) → Outcome
pich_q np sfn pi = outcome (q_verdict np (record { 0 = pi }) sfn) (q (q_of np pi sfn))

abbrev pub aich_map : List ℤ → ℕ → Outcome
aich_map indicators lent = outcome (aichVerdict indicators lent) (values (values_of indicators))

abbrev pub aich_read : List ℤ → ℕ → Outcome
aich_read input lent = outcome (aichReadVerdict input lent) (values (indicators_in input))

-- with no noise: what arrives when the indicators are sent from both antennas
abbrev pub combine_clean : (h1 h2 : Complex) → List ℤ → ℕ → Outcome
combine_clean h1 h2 indicators lent =
    outcome (combine_verdict h1 h2 (clean h1 h2 indicators) lent) (values (numbers_of h1 h2 (clean h1 h2 indicators)))
