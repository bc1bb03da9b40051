-- docs/RULES.md, 'Samples': which values and levels there are, and what a transmit setting sends of a value. TS 25.211 has no clause on samples: they are for
-- a simulator. A float is a value of IEEE 754 as lib.Ieee has it, with one NaN, and with the sign of a zero kept.
-- Assumes nothing.
use Rattle.std.specs.Prelude.{ℕ, suc, Bool, true, false, cond, ◌&&◌, eqb, ℤ, pos, negsuc, Float}
use Rattle.std.specs.Float.{fin, binary32}
use Rattle.std.specs.Float.Ieee.{le, mul}
use Rattle.run.specs.Ranges.{between}
use Rattle.sample.specs.declared.Setting.{Setting}
use Rattle.sample.specs.declared.Setting.TheVariants.{Off, Shared, Each}

-- a value: whole, -16 to 16
abbrev pub is_value : ℤ → Bool
is_value = between (negsuc 15) (pos 16)

-- 1/1024 and 1024, which are 2 to the -10 and 2 to the 10
abbrev pub lowest : Float
lowest = fin false 1 (negsuc 9)

abbrev pub highest : Float
highest = fin false 1 (pos 10)

-- a level: 1/1024 to 1024. A comparison with NaN is false, so NaN is no level
unfoldable pub is_level : Float → Bool
is_level x = le lowest x && le x highest

abbrev pub plus_zero : Float
plus_zero = fin false 0 (pos 0)

-- the whole value itself: nothing is rounded
abbrev pub exactly : ℤ → Float
exactly (pos n) = fin false n (pos 0)
exactly (negsuc n) = fin true (suc n) (pos 0)

-- value times level, rounded once: `mul` rounds the exact product of its factors to the nearest f32, a tie to the even one
unfoldable pub times : ℤ → Float → Float
times v level = mul binary32 (exactly v) level

-- the part of a sample that an antenna sends of a value: +0 where the setting is off, else the value at the level that is shared or the antenna's own. Number 0 is
-- antenna 1, and number 1 is antenna 2
unfoldable pub part : Setting → ℕ → ℤ → Float
part Off antenna v = plus_zero
part (Shared level) antenna v = times v level
part (Each first second) antenna v = cond (eqb antenna 0) (times v first) (times v second)
