-- `combiner::narrow` meets its contract: what is within 4096 fits 16 bits.
use mathlib.Core.Path.{◌≡◌, sym, ◌∙◌, subst}
use lib.Dec.{lit<}
use lib.IntN.{ℤ}
use mir.Syntax.{w16, w64}
use mir.Val.{SFits, to_z, of_z}
use mir.Facts.{to_z-of_z}
use Rattle.whole.specs.Bound.{Bounded}
use Rattle.whole.proofs.Bound.{fits_by}
use Rattle.combiner.proofs.narrow.Goals as goal

-- a gain part that is in range, cast to 16 bits
module _ {z : ℤ} (b : Bounded 4096 z) where
  read : to_z w64 (of_z w64 z) ≡ z
  read = to_z-of_z {w = w64} (fits_by b (lit< tt))

  fits : SFits w16 (to_z w64 (of_z w64 z))
  fits = subst (SFits w16) (sym read) (fits_by b (lit< tt))

  narrowed : to_z w16 (of_z w16 (to_z w64 (of_z w64 z))) ≡ z
  narrowed = to_z-of_z {w = w16} fits ∙ read

pub overflow_cast-result : goal.overflow_cast-result
overflow_cast-result c = fits c.requires.re_in

pub overflow_cast-result-2 : goal.overflow_cast-result-2
overflow_cast-result-2 c = fits c.requires.im_in

pub returns : goal.returns
returns c = λ i. record { re = narrowed c.requires.re_in i; im = narrowed c.requires.im_in i }
