-- `wake::look` meets its contract: the reader's own verdict, and one of the indicators that it hands back.
use mathlib.Core.Path.{sym, ap, ◌∙◌}
use native.Mathlib.Omega.{arith}
use lib.ListN.{replicate}
use lib.Seq.{length-take-le}
use Rattle.pich.proofs.Laws.{groups}
use Rattle.pich.specs.Outcome.{read_verdict}
use Rattle.wake.proofs.Laws.{looked, looked_refused}
use Rattle.wake.proofs.look.Goals as goal

pub slice_bounds-read-end : goal.slice_bounds-read-end
slice_bounds-read-end c = sym (length-take-le c.args.np (replicate 144 0) (groups _ c.requires.0).few)

pub slice_bounds-indicators-end : goal.slice_bounds-indicators-end
slice_bounds-indicators-end c = (groups _ c.requires.0).few

pub bounds-indicators-q : goal.bounds-indicators-q
bounds-indicators-q c = omega (arith, (groups _ c.requires.0).few)

pub returns-in_err-read : goal.returns-in_err-read
returns-in_err-read c = looked_refused _ _ _ c.from_residual.ensures.1 (c.in_err-read.ensures.verdict_is ∙ ap (read_verdict c.args.np c.args.digits.now) (length-take-le c.args.np (replicate 144 0) (groups _ c.requires.0).few))

pub returns : goal.returns
returns c = looked _ _ _ _ _ _ c.requires.1 (length-take-le c.args.np (replicate 144 0) (groups _ c.requires.0).few) c.in_ok-read.ensures
