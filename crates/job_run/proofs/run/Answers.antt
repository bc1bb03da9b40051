-- `job_run::run` meets its contract.
use mathlib.Core.Path.{◌≡◌, refl, ◌∙◌}
use native.Mathlib.Omega.{arith}
use Rattle.kinds.proofs.ByKind.{size_is}
use Rattle.run.specs.Verdicts.{leaves}
use Rattle.job.specs.Rule.{size_in}
use Rattle.job.proofs.Headed.{part_is, run_left, run_headed, run_told, run_told_left}
use Rattle.job_run.proofs.run.Goals as goal
use Rattle.job_run.proofs.run.Goals.{After-shape_of-shape}

size : (c : After-shape_of-shape) → c.shape_of-shape.result.size ≡ size_in c.args.window.now
size c = size_is _ _ _ (c.shape_of-shape.ensures ∙ rw (c.byte_at-2.ensures, c.byte_at.ensures))

pub returns-in_err-check_head : goal.returns-in_err-check_head
returns-in_err-check_head c = run_left _ _ _ _ _ _ c.from_residual.ensures.1 c.in_err-check_head.ensures

pub slice_bounds-record-end : goal.slice_bounds-record-end
slice_bounds-record-end c =
    let h = run_headed c.args.limit c.args.offset c.args.window.now c.args.line.now c.in_ok-check_head.ensures refl in
    omega (arith, size (goal.at.slice_bounds-record-end c).After-shape_of-shape, h.inside)

pub returns-in_err-length : goal.returns-in_err-length
returns-in_err-length c =
    let s = size (goal.at.returns-in_err-length c).After-shape_of-shape in
    run_told_left _ _ _ _ _ _ c.from_residual-in_err-length.ensures.1 c.in_ok-check_head.ensures s (rw (part_is _ s) at c.in_err-length.ensures)

pub returns : goal.returns
unfolding leaves
returns c =
    let s = size (goal.at.returns c).After-shape_of-shape in
    run_told _ _ _ _ c.in_ok-check_head.ensures refl s (rw (part_is _ s) at c.in_ok-length.ensures) refl
