-- `dpcch_fits::digits_fit` meets its contract: no check of the definition's chain refuses, field by field.
use mathlib.Core.Path.{◌≡◌, refl, sym, ◌∙◌}
use Prim.Native.Nat.{◌+◌, ◌≤◌}
use native.Mathlib.Omega.{arith}
use lib.Dec.{eqb, lit<}
use lib.ListN.{length, get_or}
use Rattle.std.proofs.Math.Bool.{and_assoc}
use Rattle.run.specs.First.{at_most}
use Rattle.run.proofs.Chain.{both_fit_if, both_fit, each_fits}
use Rattle.run.proofs.Passing.{all_every, front_all}
use Rattle.dpcch.specs.Outcome.{digits_verdict}
use Rattle.dpcch.proofs.Laws.{sum}
use Rattle.dpcch_fits.proofs.Laws.{command_told, pilot_told}
use Rattle.dpcch_fits.proofs.digits_fit.Goals as goal
use Rattle.dpcch_fits.proofs.digits_fit.Goals.{Start}

sums : (c : Start) → (c.args.f.pilot + c.args.f.tfci + c.args.f.fbi + c.args.f.tpc ≡ c.args.f.slot) × (c.args.f.slot ≤ 10)
sums c = (sum _ c.requires.0.sound, c.requires.0.sound.short)

pub overflow_add-b : goal.overflow_add-b
overflow_add-b c = omega (arith, sums (goal.at.overflow_add-b c).Start)

pub overflow_add-b-2 : goal.overflow_add-b-2
overflow_add-b-2 c = omega (arith, sums (goal.at.overflow_add-b-2 c).Start)

pub overflow_add-c : goal.overflow_add-c
overflow_add-c c = omega (arith, sums (goal.at.overflow_add-c c).Start)

pub slice_bounds-is_pilot-end : goal.slice_bounds-is_pilot-end
slice_bounds-is_pilot-end c = omega (arith, sums (goal.at.slice_bounds-is_pilot-end c).Start, c.requires.0.slot_ok)

pub bounds-xs-c : goal.bounds-xs-c
bounds-xs-c c = omega (arith, sums (goal.at.bounds-xs-c c).Start, c.requires.0.slot_ok, c.requires.1)

pub bounds-xs-b : goal.bounds-xs-b
bounds-xs-b c = omega (arith, sums (goal.at.bounds-xs-b c).Start, c.requires.0.slot_ok, c.requires.1)

pub returns : goal.returns
unfolding digits_verdict
returns c =
    let f = c.args.f in
    let xs = c.args.xs.now in
    let w = c.requires.0 in
    let bits = front_all (length xs) f.slot (at_most 1 xs) w.slot_ok c.all_at_most.ensures in
    let p = f.pilot + f.tfci + f.fbi in
    both_fit_if _ _ (and_assoc c.all_at_most.result (eqb (get_or xs (p + 1) 0) (get_or xs p 0)) c.is_pilot.result) (each_fits 0 4 _ _ (lit< tt) bits)
    (λ good. both_fit _ _ refl
    (each_fits _ 5 _ _ (lit< tt) (command_told f xs w c.requires.1 (all_every _ (at_most 1 xs) (sym bits ∙ good))))
    (each_fits _ 7 _ _ (lit< tt) (pilot_told f xs w c.args.slot c.is_pilot.ensures)))
