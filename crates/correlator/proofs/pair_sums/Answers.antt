-- `correlator::pair_sums` meets its contract: each turn stores the sums of two symbols more.
use mathlib.Core.Path.{◌≡◌, refl, ap, ◌∙◌}
use native.Mathlib.Omega.{arith}
use lib.Dec.{lit<}
use lib.IntN.{ℤ, ◌+ℤ◌}
use mir.Syntax.{w64}
use mir.Val.{to_z, of_z}
use mir.Facts.{to_z-of_z}
use Rattle.run.proofs.Front.{front_none, front_all}
use Rattle.whole.proofs.Bound.{b_sum, fits_by}
use Rattle.correlator.specs.declared.Complex.{Complex}
use Rattle.correlator.specs.Rule.{t1, t2}
use Rattle.correlator.specs.Method.{Small}
use Rattle.correlator.proofs.Pairs.{pairs_length}
use Rattle.correlator.proofs.Combining.{symbol_small, first_small, second_small, turn_front}
use Rattle.correlator.proofs.pair_sums.Goals as goal
use Rattle.correlator.proofs.pair_sums.Goals.{After-symbol-r2}

-- a sum of two parts, read back from its bits
kept : {z : Complex} {n : ℤ} → Small 281474976710656 z → n ≡ z.re +ℤ z.im → to_z w64 (of_z w64 n) ≡ z.re +ℤ z.im
kept p e = rw e (to_z-of_z {w = w64} (fits_by (b_sum p.re_in p.im_in) (lit< tt)))

-- what T is made of is in range
asked : (c : After-symbol-r2) → Small 32768 c.args.h1 × Small 32768 c.args.h2 × Small 2147483648 c.symbol-r1.result × Small 2147483648 c.symbol-r2.result
asked c =
    let p = c.requires in
    (p.0, p.1, rw c.symbol-r1.ensures (symbol_small p.2 _ (omega arith)), rw c.symbol-r2.ensures (symbol_small p.2 _ (omega arith)))

pub loop-m-init : goal.loop-m-init
loop-m-init c = (omega arith, front_none (pairs_length _))

pub symbol-r1-requires : goal.symbol-r1-requires
symbol-r1-requires c = (c.requires.2.long, omega arith)

pub symbol-r2-requires : goal.symbol-r2-requires
symbol-r2-requires c = (c.requires.2.long, omega arith)

pub first_of-requires : goal.first_of-requires
first_of-requires c = asked (goal.at.first_of-requires c).After-symbol-r2

pub neighbours-first-requires : goal.neighbours-first-requires
neighbours-first-requires c =
    let p = asked (goal.at.neighbours-first-requires c).After-symbol-r2 in rw c.first_of.ensures (first_small p.0 p.1 p.2 p.3)

pub second_of-requires : goal.second_of-requires
second_of-requires c = asked (goal.at.second_of-requires c).After-symbol-r2

pub neighbours-second-requires : goal.neighbours-second-requires
neighbours-second-requires c =
    let p = asked (goal.at.neighbours-second-requires c).After-symbol-r2 in rw c.second_of.ensures (second_small p.0 p.1 p.2 p.3)

pub loop-m-preserved : goal.loop-m-preserved
loop-m-preserved c =
    let a = c.args in
    let p = asked (goal.at.loop-m-preserved c).After-symbol-r2 in
    let first_in : Small 281474976710656 c.first_of.result = rw c.first_of.ensures (first_small p.0 p.1 p.2 p.3) in
    let second_in : Small 281474976710656 c.second_of.result = rw c.second_of.ensures (second_small p.0 p.1 p.2 p.3) in
    let first_is = c.first_of.ensures ∙ (λ i. t1 a.h1 a.h2 (c.symbol-r1.ensures i) (c.symbol-r2.ensures i)) in
    let second_is = c.second_of.ensures ∙ (λ i. t2 a.h1 a.h2 (c.symbol-r1.ensures i) (c.symbol-r2.ensures i)) in (
      omega arith,
      turn_front a.h1 a.h2 a.received.now c.loop-m.m c.loop-m-test.true _ _ _ _
          (kept first_in c.neighbours-first.ensures ∙ ap (λ (z : Complex). z.re +ℤ z.im) first_is)
          (kept second_in c.neighbours-second.ensures ∙ ap (λ (z : Complex). z.re +ℤ z.im) second_is)
          refl c.loop-m.invariant.1,
    )

pub returns : goal.returns
returns c = front_all c.loop-m.invariant.1 (omega arith)
