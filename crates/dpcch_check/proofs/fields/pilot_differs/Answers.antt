-- `dpcch_check::fields::pilot_differs` meets its contract.
use mathlib.Core.Path.{◌∙◌}
use native.Mathlib.Omega.{arith}
use Rattle.dpcch.proofs.Pilots.{start_small, source_lent}
use Rattle.dpcch_check.proofs.fields.pilot_differs.Goals as goal

pub slice_bounds-difference-count : goal.slice_bounds-difference-count
slice_bounds-difference-count c = omega (arith, start_small _ _ c.pilot_start-a.ensures)

pub slice_bounds-difference-start : goal.slice_bounds-difference-start
slice_bounds-difference-start c = omega (arith, start_small _ _ c.pilot_start-a.ensures)

pub returns : goal.returns
returns c = c.difference.ensures ∙ rw (c.pilot_start-a.ensures, c.pilot_row-row.ensures, source_lent _ _)
