-- `dpcch_fits::fits` meets its contract: each arm asks of the format that it names, and the table has no other.
use mathlib.Core.Path.{◌∙◌}
use native.Mathlib.Omega.{arith}
use borrow.Author.Tests.{lt-leb}
use Rattle.dpcch_fits.proofs.Laws.{past}
use Rattle.dpcch_fits.proofs.fits.Goals as goal

pub returns-in-0 : goal.returns-in-0
returns-in-0 c = c.fits_as.ensures ∙ rw c.in-0.is

pub returns-in-1 : goal.returns-in-1
returns-in-1 c = c.fits_as-in-1.ensures ∙ rw c.in-1.is

pub returns-in-2 : goal.returns-in-2
returns-in-2 c = c.fits_as-in-2.ensures ∙ rw c.in-2.is

pub returns-in-3 : goal.returns-in-3
returns-in-3 c = c.fits_as-in-3.ensures ∙ rw c.in-3.is

pub returns-in_default : goal.returns-in_default
returns-in_default c =
    rw (lt-leb _ 3 (past c.args.format (λ e. grind arith) (λ e. grind arith) (λ e. grind arith) (λ e. grind arith)))
