-- `sample::times` meets its contract: a value is exact as an f32, so the product of the cast is the product of the value.
use mir.Syntax.{w64}
use mir.ValLaws.{to_z-of_z}
use Rattle.sample.proofs.Laws.{in_float_lem, cast_times}
use Rattle.sample.proofs.times.Goals as goal

pub int_to_float-result : goal.int_to_float-result
int_to_float-result c =
    let s = c in
    rw (to_z-of_z w64 s.args.v s.ranges.v) (in_float_lem s.args.v s.requires)

pub returns : goal.returns
returns c =
    let s = c in
    rw (to_z-of_z w64 s.args.v s.ranges.v) (cast_times s.args.v s.args.level s.requires)
