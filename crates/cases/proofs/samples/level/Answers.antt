-- `cases::samples::level` is safe: a pattern below infinity's is no NaN's.
use Rattle.std.proofs.Common.{ℕ, ◌%◌, ◌<◌, ◌≤◌, Bool, not, T, sym, ◌∙◌, subst, arith, le-ltb}
use lib.Ieee.{nan_bits, binary32}
use lib.Ieee.Bits.{nan_bits_above}
use Rattle.cases.proofs.samples.level.Goals as goal

number_below : (n : ℕ) → n < 2139095040 → T (not (nan_bits binary32 n))
number_below n h =
    let low : n % 2147483648 ≤ 2139095040 = omega arith in
    subst (λ (b : Bool). T (not b)) (sym (nan_bits_above binary32 n ∙ le-ltb 2139095040 (n % 2147483648) low)) tt

pub float_from_bits-result : goal.float_from_bits-result
float_from_bits-result c = number_below _ (omega arith)
