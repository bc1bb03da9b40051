-- `correlator::NumberMul::mul` meets its contract: each product is within 2 ^ 46, and a sum or difference of two within 2 ^ 47.
use lib.Dec.{lit<}
use lib.IntN.{ℤ, ◌*ℤ◌}
use mir.Syntax.{w64}
use mir.Val.{SFits, to_z, of_z}
use Rattle.whole.specs.Bound.{Bounded}
use Rattle.whole.proofs.Bits.{Reads, r_in, fits_sum, r_sum, fits_diff, r_diff, fits_product, r_product}
use Rattle.correlator.proofs.NumberMul.mul.Goals as goal

-- a part of the gain times a part of the symbol
module _ {x y : ℤ} (p : Bounded 32768 x) (q : Bounded 2147483648 y) where
  fits : SFits w64 (to_z w64 (of_z w64 x) *ℤ to_z w64 (of_z w64 y))
  fits = fits_product (r_in p (lit< tt)) (r_in q (lit< tt)) (lit< tt)

  product : Reads w64 (of_z w64 (to_z w64 (of_z w64 x) *ℤ to_z w64 (of_z w64 y))) (x *ℤ y) 70368744177664
  product = r_product (r_in p (lit< tt)) (r_in q (lit< tt)) (lit< tt)

pub overflow_mul-result : goal.overflow_mul-result
overflow_mul-result c = let p = c.requires in fits p.0.re_in p.1.re_in

pub overflow_mul-result-2 : goal.overflow_mul-result-2
overflow_mul-result-2 c = let p = c.requires in fits p.0.im_in p.1.im_in

pub overflow_sub-result : goal.overflow_sub-result
overflow_sub-result c =
    let p = c.requires in
    fits_diff (product p.0.re_in p.1.re_in) (product p.0.im_in p.1.im_in) (lit< tt)

pub overflow_mul-result-3 : goal.overflow_mul-result-3
overflow_mul-result-3 c = let p = c.requires in fits p.0.re_in p.1.im_in

pub overflow_mul-result-4 : goal.overflow_mul-result-4
overflow_mul-result-4 c = let p = c.requires in fits p.0.im_in p.1.re_in

pub overflow_add-result : goal.overflow_add-result
overflow_add-result c =
    let p = c.requires in
    fits_sum (product p.0.re_in p.1.im_in) (product p.0.im_in p.1.re_in) (lit< tt)

pub returns : goal.returns
returns c =
    let p = c.requires in
    λ i. record {
      re = (r_diff (product p.0.re_in p.1.re_in) (product p.0.im_in p.1.im_in) (lit< tt)).is i;
      im = (r_sum (product p.0.re_in p.1.im_in) (product p.0.im_in p.1.re_in) (lit< tt)).is i;
    }
