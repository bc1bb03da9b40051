-- docs/RULES.md, 'PICH'; TS 25.211, 5.3.3.10: the frame of paging indicators, and which indicator a higher-layer PI has.
-- Assumes nothing.
use Rattle.std.specs.Prelude.{ℕ, ◌+◌, ◌*◌, ◌/◌, ◌%◌, Bool, cond, ◌||◌, List, get_or, eqb, ltb}
use Rattle.run.specs.Digits.{dtx}
use Rattle.run.specs.Table.{tab}

-- Np: the indicators of a frame are 18, 36, 72 or 144
unfoldable pub is_np : ℕ → Bool
is_np np = eqb np 18 || eqb np 36 || eqb np 72 || eqb np 144

-- the digits that one indicator fills (table 24: 16, 8, 4 or 2)
abbrev pub width : ℕ → ℕ
width np = 288 / np

-- 'Indicator q fills 288/Np digits from (288/Np)·q'; the tail's first digit for an indicator that the frame has not
unfoldable pub first_digit : ℕ → ℕ → ℕ
first_digit np q = cond (ltb q np) (width np * q) 288

-- a frame is 300 digits: digit k of the first 288 is that of indicator floor(k / width), and the last 12 are DTX
unfoldable pub frame_of : ℕ → List ℕ → List ℕ
frame_of np indicators = tab 300 (λ (k : ℕ). cond (ltb k 288) (get_or indicators (k / width np) 0) dtx)

-- the indicators of a frame: indicator q is read where its digits begin
unfoldable pub indicators_in : ℕ → List ℕ → List ℕ
indicators_in np frame = tab np (λ (q : ℕ). get_or frame (width np * q) 0)

-- q = (PI + floor(((18·(SFN + floor(SFN/8) + floor(SFN/64) + floor(SFN/512))) mod 144)·Np/144)) mod Np
unfoldable pub q_of : ℕ → ℕ → ℕ → ℕ
q_of np pi sfn = (pi + 18 * (sfn + sfn / 8 + sfn / 64 + sfn / 512) % 144 * np / 144) % np
