-- `slt_combiner::slt_aich_combine` meets its contract: the combiner's own answer, packed, which fits the fields.
use mir.Syntax.{w64}
use mir.ValLaws.{to_z-of_z}
use lib.Dec.{lit<}
use Rattle.combiner.proofs.Exact.{packs}
use Rattle.packed.proofs.Exact.{fitted}
use Rattle.slt_combiner.proofs.slt_aich_combine.Goals as goal

pub returns : goal.returns
returns c =
    let s = c in
    let m =
    rw (
      to_z-of_z w64 s.args.h1_re s.ranges.h1_re,
      to_z-of_z w64 s.args.h1_im s.ranges.h1_im,
      to_z-of_z w64 s.args.h2_re s.ranges.h2_re,
      to_z-of_z w64 s.args.h2_im s.ranges.h2_im,
    )
    at c.combine.ensures
    in
    record { answer_is = fitted 0 c.done.ensures m.verdict_is (packs _ _ _ _) (lit< tt); results_is = m.results_is }
