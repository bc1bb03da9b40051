-- `antenna::write` meets its contract: three parts of the run, lent one after the other.
use mathlib.Core.Path.{refl}
use Prim.Native.Nat.{◌≤◌}
use native.Mathlib.Omega.{arith}
use Rattle.dpch.specs.Formats.{format_of}
use Rattle.antenna.proofs.Laws.{blocks, all_written}
use Rattle.antenna.proofs.write.Goals as goal
use Rattle.antenna.proofs.write.Goals.{After-coded_to-e}

-- the encoded digits lie in the slot
facts : (c : After-coded_to-e) → (c.coded_from-a.result ≤ c.coded_to-e.result) × (c.coded_to-e.result ≤ (format_of c.args.format).slot)
facts c = rw (c.coded_from-a.ensures, c.coded_to-e.ensures) ((blocks _).ordered, (blocks _).within)

pub slice_bounds-copy-end : goal.slice_bounds-copy-end
slice_bounds-copy-end c = omega (arith, facts (goal.at.slice_bounds-copy-end c).After-coded_to-e, c.requires)

pub slice_bounds-encode-count : goal.slice_bounds-encode-count
slice_bounds-encode-count c = omega (arith, facts (goal.at.slice_bounds-encode-count c).After-coded_to-e, c.requires, c.out-1.given)

pub slice_bounds-encode-start : goal.slice_bounds-encode-start
slice_bounds-encode-start c = omega (arith, facts (goal.at.slice_bounds-encode-start c).After-coded_to-e, c.requires, c.out-1.given)

pub slice_bounds-encode-end : goal.slice_bounds-encode-end
slice_bounds-encode-end c = omega (arith, facts (goal.at.slice_bounds-encode-end c).After-coded_to-e, c.requires, c.out-1.given)

pub slice_bounds-encode-count-2 : goal.slice_bounds-encode-count-2
slice_bounds-encode-count-2 c = omega (arith, facts (goal.at.slice_bounds-encode-count-2 c).After-coded_to-e, c.requires, c.out-1.given)

pub slice_bounds-encode-start-2 : goal.slice_bounds-encode-start-2
slice_bounds-encode-start-2 c = omega (arith, facts (goal.at.slice_bounds-encode-start-2 c).After-coded_to-e, c.requires, c.out-1.given)

pub slice_bounds-encode-end-2 : goal.slice_bounds-encode-end-2
slice_bounds-encode-end-2 c = omega (arith, facts (goal.at.slice_bounds-encode-end-2 c).After-coded_to-e, c.requires, c.out-1.given)

pub slice_bounds-write_second-count : goal.slice_bounds-write_second-count
slice_bounds-write_second-count c = omega (arith, facts (goal.at.slice_bounds-write_second-count c).After-coded_to-e, c.requires, c.out-2-1.given, c.out-1.given)

pub slice_bounds-write_second-start : goal.slice_bounds-write_second-start
slice_bounds-write_second-start c = omega (arith, facts (goal.at.slice_bounds-write_second-start c).After-coded_to-e, c.requires, c.out-2-1.given, c.out-1.given)

pub returns : goal.returns
returns c =
    let ct = c in
    let start = c in
    all_written start.args.format start.args.slot start.args.first.now start.args.out.now start.requires.1 start.requires.2 _ _ _
    ct.coded_from-a.ensures ct.coded_to-e.ensures refl _ _ _ c.copy.ensures c.encode.ensures c.write_second.ensures
