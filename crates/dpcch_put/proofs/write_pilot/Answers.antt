-- `dpcch_put::write_pilot` meets its contract.
use mathlib.Core.Path.{◌∙◌}
use native.Mathlib.Omega.{arith}
use Rattle.dpcch.proofs.Pilots.{start_small, source_lent}
use Rattle.dpcch_put.proofs.write_pilot.Goals as goal

pub slice_bounds-copy-count : goal.slice_bounds-copy-count
slice_bounds-copy-count c = omega (arith, start_small _ _ c.pilot_start-a.ensures)

pub slice_bounds-copy-start : goal.slice_bounds-copy-start
slice_bounds-copy-start c = omega (arith, start_small _ _ c.pilot_start-a.ensures)

pub returns : goal.returns
returns c = c.copy.ensures ∙ rw (c.pilot_start-a.ensures, c.pilot_row-row.ensures, source_lent _ _)
