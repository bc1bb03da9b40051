-- `cases::question::value` is safe: what is below 2 to the 31 has an opposite.
use Rattle.std.proofs.Common.{ℕ, ◌<◌, pos, ◌-ℤ◌, arith, lit<, w32, SFits}
use mir.Facts.{to_z_pos}
use Rattle.whole.proofs.Bound.{b_lit, b_diff, fits_by}
use Rattle.cases.proofs.question.value.Goals as goal

opposite : (n : ℕ) → n < 2147483648 → SFits w32 (pos 0 -ℤ pos n)
opposite n h =
    fits_by {A = 2147483647}
    (b_diff {A = 0} {B = 2147483647} {x = pos 0} {y = pos n} (b_lit tt) (record { size = omega arith }))
    (lit< tt)

pub overflow_sub-result : goal.overflow_sub-result
overflow_sub-result c = let h = c.read-size.ensures in rw (to_z_pos w32 h) (opposite _ h)
