-- docs/RULES.md, 'P-CCPCH'; TS 25.211, 5.3.3.3 and 5.3.3.3.1: the broadcast frame on each of two antennas.
-- Assumes nothing.
use Rattle.std.specs.Prelude.{ℕ, zero, suc, ◌+◌, ◌*◌, ◌/◌, ◌%◌, Bool, List, ◌++◌, ltb, get_or, set, take, drop, replicate}
use Rattle.run.specs.Digits.{dtx}
use Rattle.run.specs.Table.{tab}
use Rattle.sttd.specs.Rule.{sttd, bar_digit}

-- where data digit d stands: 18 data digits to a slot of 20, behind the slot's first two
abbrev pub place : ℕ → ℕ
place d = 20 * (d / 18) + 2 + d % 18

-- the frame is 300 digits of DTX with no digit put in it yet; then digit after digit stands at its place
unfoldable pub filled : List ℕ → ℕ → List ℕ
filled digits zero = replicate 300 dtx
filled digits (suc d) = set (filled digits d) (place d) (get_or digits d 0)

-- the frame of 270 digits: what antenna 1 carries of the data
unfoldable pub frame_of : List ℕ → List ℕ
frame_of digits = filled digits 270

-- antenna 2's digits: 0 to 267 encoded by STTD in fours through the whole frame, 268 and 269 as on antenna 1
unfoldable pub coded : List ℕ → List ℕ
coded digits = sttd bar_digit (take 268 digits) ++ drop 268 digits

-- what antenna 2 carries of the data
unfoldable pub second_of : List ℕ → List ℕ
second_of digits = frame_of (coded digits)

-- the data digits of antenna 1's frame, each read at its place
unfoldable pub data_in : List ℕ → List ℕ
data_in frame = tab 270 (λ (d : ℕ). get_or frame (place d) 0)

-- a slot's first two digits, 256 chips, in which the channel is not sent
abbrev pub silent : ℕ → Bool
silent k = ltb (k % 20) 2
