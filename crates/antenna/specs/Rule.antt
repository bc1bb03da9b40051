-- docs/RULES.md, 'DPCH on the second antenna'; TS 25.211, 5.3.2.1: one slot of the downlink DPCH on two antennas.
-- Assumes nothing.
use Rattle.std.specs.Prelude.{ℕ, ◌-◌, cond, List, ◌++◌, take, drop, eqb, leb}
use Rattle.run.specs.Fields.{start}
use Rattle.dpch.specs.Formats.{format_of, widths}
use Rattle.dpch.specs.SecondPilots.{second_pilot}
use Rattle.slot.specs.Rule.{slot_of}
use Rattle.sttd.specs.Rule.{sttd, bar_digit}

-- where the pilot begins: behind Data1, TPC, TFCI and Data2
abbrev pub pilot_start : ℕ → ℕ
pilot_start format = start 4 (widths (format_of format))

-- Antenna 2's digits for those of antenna 1. Formats 0 and 1, which are those of spreading factor 512: the two TPC digits are the same, the four behind them are encoded. A pilot of
-- two bits: the whole slot is encoded. All others: what stands before the pilot is encoded. A pilot that is not encoded is that of table 14.
unfoldable pub second_of : ℕ → ℕ → List ℕ → List ℕ
second_of format slot first =
    cond (leb format 1) (take 2 first ++ sttd bar_digit (take 4 (drop 2 first)) ++ second_pilot (format_of format).pilot slot)
    (cond (eqb (format_of format).pilot 2) (sttd bar_digit first)
    (sttd bar_digit (take (pilot_start format) first) ++ second_pilot (format_of format).pilot slot))

-- what an antenna sends of a command, data and TFCI: number 0 is antenna 1, any other antenna 2
unfoldable pub sent_of : ℕ → ℕ → ℕ → ℕ → List ℕ → List ℕ → List ℕ
sent_of format slot antenna tpc d tfci =
    cond (eqb antenna 0) (slot_of (format_of format) slot tpc d tfci) (second_of format slot (slot_of (format_of format) slot tpc d tfci))

-- ---- words for the theorems: the digits that are encoded are those from the one place to before the other
unfoldable pub coded_from : ℕ → ℕ
coded_from format = cond (leb format 1) 2 0

unfoldable pub coded_to : ℕ → ℕ
coded_to format = cond (eqb (format_of format).pilot 2) (format_of format).slot (pilot_start format)

abbrev pub coded : ℕ → List ℕ → List ℕ
coded format xs = take (coded_to format - coded_from format) (drop (coded_from format) xs)
