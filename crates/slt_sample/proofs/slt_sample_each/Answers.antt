-- `slt_sample::slt_sample_each` meets its contract: the answer of `sample::take` of the values, which the machine reads back from their bits, packed.
use mir.Syntax.{w64}
use mir.ValLaws.{to_z-of_z}
use Rattle.slt_sample.proofs.Exact.{taken_narrow, sample_at}
use Rattle.slt_sample.proofs.slt_sample_each.Goals as goal

pub pack_sample-requires : goal.pack_sample-requires
pack_sample-requires c = taken_narrow c.take.ensures

pub returns : goal.returns
returns c =
    let s = c in
    sample_at (rw (to_z-of_z w64 s.args.i s.ranges.i, to_z-of_z w64 s.args.q s.ranges.q) at c.take.ensures) c.pack_sample.ensures
