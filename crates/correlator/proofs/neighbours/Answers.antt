-- `correlator::neighbours` meets its contract: the sum of two parts within 2 ^ 48 fits.
use lib.Dec.{lit<}
use mir.Syntax.{w64}
use Rattle.whole.proofs.Bits.{r_in, fits_sum, r_sum}
use Rattle.correlator.proofs.neighbours.Goals as goal

pub overflow_add-result : goal.overflow_add-result
overflow_add-result c = let p = c.requires in fits_sum (r_in p.re_in (lit< tt)) (r_in p.im_in (lit< tt)) (lit< tt)

pub returns : goal.returns
returns c = let p = c.requires in (r_sum {w = w64} (r_in p.re_in (lit< tt)) (r_in p.im_in (lit< tt)) (lit< tt)).is
