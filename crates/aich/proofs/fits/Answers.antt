-- `aich::fits` meets its contract: 16 times a sign is small, and numbers are compared by their bits.
use mathlib.Core.Path.{◌≡◌, ap, ◌∙◌}
use lib.Dec.{lit<}
use lib.IntN.{ℤ, pos, ◌*ℤ◌}
use mir.Syntax.{w32}
use mir.Val.{SFits, to_z, of_z}
use mir.Facts.{to_z-of_z}
use Rattle.whole.proofs.Bound.{b_lit, b_product, fits_by}
use Rattle.whole.proofs.Equal.{bits_eq_z}
use Rattle.aich.specs.Method.{sign_of, fits16}
use Rattle.aich.proofs.Laws.{sign_of_small}
use Rattle.aich.proofs.fits.Goals as goal
use Rattle.aich.proofs.fits.Goals.{After-sign_of}

sixteen-fits : (z : ℤ) → SFits w32 (pos 16 *ℤ sign_of z)
sixteen-fits z = fits_by (b_product {A = 16} {B = 1} {x = pos 16} {y = sign_of z} (b_lit {x = pos 16} tt) (sign_of_small z)) (lit< tt)

-- the sign that `sign_of` answered, read from its bits
answered : (c : After-sign_of) → to_z w32 (of_z w32 c.sign_of.result) ≡ sign_of c.args.sum
answered c =
    let z = c.args.sum in
    let is = c.sign_of.ensures ∙ ap sign_of (to_z-of_z {w = w32} c.ranges.sum) in
    rw is (to_z-of_z {w = w32} (fits_by (sign_of_small z) (lit< tt)))

pub overflow_mul-result : goal.overflow_mul-result
overflow_mul-result c = rw (answered (goal.at.overflow_mul-result c).After-sign_of) (sixteen-fits c.args.sum)

pub returns : goal.returns
unfolding fits16
returns c = rw (answered (goal.at.returns c).After-sign_of) (bits_eq_z (sixteen-fits c.args.sum) c.ranges.sum)
