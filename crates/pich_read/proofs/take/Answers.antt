-- `pich_read::take` meets its contract: the digit that stands for w digits is one of the halves of those that stand for half as many.
use mathlib.Core.Path.{refl, sym, ◌∙◌}
use native.Mathlib.Omega.{arith}
use lib.Seq.{length-take-le}
use lib.Dec.{lit<}
use Rattle.pich.specs.Rule.{is_np}
use Rattle.pich_read.proofs.Laws.{by_2, by_4, by_8, by_16, first_np}
use Rattle.pich_read.proofs.take.Goals as goal

pub slice_bounds-halve-end : goal.slice_bounds-halve-end
slice_bounds-halve-end g c = sym (length-take-le 288 c.args.frame.now (omega arith))

pub halve-requires : goal.halve-requires
halve-requires g c = length-take-le 288 c.args.frame.now (omega arith)

pub keep-requires : goal.keep-requires
unfolding is_np
keep-requires g c =
    let found = by_2 _ _ c.requires.1 (c.halve.ensures c.if-not-halve.false) in
    (lit< tt, (refl, c.requires.1, c.requires.2 ∙ c.if-this-eq144.true, found))

pub keep-requires-then-this-eq72 : goal.keep-requires-then-this-eq72
unfolding is_np
keep-requires-then-this-eq72 g c =
    let twice = by_2 _ _ c.requires.1 (c.halve.ensures c.if-not-halve.false) in
    let found = by_4 _ _ _ c.halve.auto.half twice (c.halve-2.ensures c.if-not-halve-2.false) in
    (lit< tt, (refl, c.requires.1, c.requires.2 ∙ c.if-this-eq72.true, found))

pub keep-requires-then-this-eq36 : goal.keep-requires-then-this-eq36
unfolding is_np
keep-requires-then-this-eq36 g c =
    let of_144 = by_2 _ _ c.requires.1 (c.halve.ensures c.if-not-halve.false) in
    let twice = by_4 _ _ _ c.halve.auto.half of_144 (c.halve-2.ensures c.if-not-halve-2.false) in
    let found = by_8 _ _ _ c.halve-2.auto.half twice (c.halve-3.ensures c.if-not-halve-3.false) in
    (lit< tt, (refl, c.requires.1, c.requires.2 ∙ c.if-this-eq36.true, found))

pub keep-requires-then-halve : goal.keep-requires-then-halve
unfolding is_np
keep-requires-then-halve g c =
    let of_144 = by_2 _ _ c.requires.1 (c.halve.ensures c.if-not-halve.false) in
    let of_72 = by_4 _ _ _ c.halve.auto.half of_144 (c.halve-2.ensures c.if-not-halve-2.false) in
    let twice = by_8 _ _ _ c.halve-2.auto.half of_72 (c.halve-3.ensures c.if-not-halve-3.false) in
    let found = by_16 _ _ _ c.halve-3.auto.half twice (c.halve-4.ensures c.if-halve.true) in
    let least = first_np _ c.requires.0 c.if-this-eq144.false c.if-this-eq72.false c.if-this-eq36.false in
    (lit< tt, (refl, c.requires.1, c.requires.2 ∙ least, found))

pub returns-then-halve : goal.returns-then-halve
returns-then-halve g c =
    let least = first_np _ c.requires.0 c.if-this-eq144.false c.if-this-eq72.false c.if-this-eq36.false in
    rw least c.keep-then-halve.ensures
