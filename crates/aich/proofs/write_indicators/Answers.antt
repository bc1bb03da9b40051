-- `aich::write_indicators` meets its contract: each turn stores one indicator more.
use mathlib.Core.Path.{◌≡◌, sym, ap, ◌∙◌}
use native.Mathlib.Omega.{arith}
use lib.IntN.{pos}
use mir.Syntax.{w32}
use mir.Val.{to_z, of_z}
use mir.Facts.{to_z-of_z}
use Rattle.run.proofs.Front.{front_none, front_length, front_store, front_all}
use Rattle.aich.specs.Method.{sign_of}
use Rattle.aich.proofs.Reading.{units_length, units_at}
use borrow.Author.Rules.{rules}
use Rattle.aich.proofs.write_indicators.Goals as goal

pub loop-s-init : goal.loop-s-init
loop-s-init c = (omega arith, front_none (units_length _ ∙ sym c.requires.1))

pub bounds-indicators-s : goal.bounds-indicators-s
bounds-indicators-s c = omega (arith, front_length c.loop-s.invariant.1)

pub loop-s-preserved : goal.loop-s-preserved
loop-s-preserved c =
    let f = c.loop-s.invariant.1 in
    let l = front_length f in
    let kept : to_z w32 (of_z w32 c.sign_of.result) ≡ c.sign_of.result = search rules in (
      omega arith,
      front_store (pos 0) f (omega arith)
          (kept ∙ c.sign_of.ensures ∙ ap sign_of (to_z-of_z {w = w32} (record { sfits = search rules })) ∙ sym (units_at c.args.sums.now c.loop-s.s c.loop-s-test.true)),
    )

pub shape_of-indicators : goal.shape_of-indicators
shape_of-indicators c = front_length c.loop-s.invariant.1

pub returns : goal.returns
returns c = front_all c.loop-s.invariant.1 (omega arith)
