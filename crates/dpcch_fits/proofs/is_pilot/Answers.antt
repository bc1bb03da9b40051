-- `dpcch_fits::is_pilot` meets its contract.
use mathlib.Core.Path.{◌∙◌}
use native.Mathlib.Omega.{arith}
use borrow.Author.Tests.{le-leb}
use lib.ListN.{length}
use Rattle.dpcch.proofs.Pilots.{start_small, source_lent}
use Rattle.dpcch_fits.proofs.is_pilot.Goals as goal

pub slice_bounds-same_front-count : goal.slice_bounds-same_front-count
slice_bounds-same_front-count c = omega (arith, start_small _ _ c.pilot_start-a.ensures)

pub slice_bounds-same_front-start : goal.slice_bounds-same_front-start
slice_bounds-same_front-start c = omega (arith, start_small _ _ c.pilot_start-a.ensures)

pub returns : goal.returns
returns c =
    let s = c.args.s.now in
    c.same_front.ensures
    ∙ rw (c.pilot_start-a.ensures, c.pilot_row-row.ensures, source_lent _ _, le-leb (length s) (length s) (omega arith))
