-- `hspdsch_encode::encode_all` meets its contract: each turn writes eight digits more from the front on.
use mathlib.Core.Path.{refl, sym, ◌∙◌}
use native.Mathlib.Omega.{arith}
use Rattle.run.proofs.Front.{front_none, front_all}
use Rattle.sttd.proofs.Blocks.{part_more}
use Rattle.hspdsch.specs.Rule.{coded}
use Rattle.hspdsch.specs.Outcome.{flip}
use Rattle.hspdsch.proofs.Laws.{coded_length, coded_part}
use Rattle.hspdsch_encode.proofs.encode_all.Goals as goal

pub loop-i-init : goal.loop-i-init
loop-i-init g c = (refl, omega arith, front_none (coded_length flip c.args.input.now c.requires.0 g.row.FORMAT ∙ sym c.requires.1))

pub loop-i-preserved : goal.loop-i-preserved
loop-i-preserved g c = (
  omega arith,
  omega arith,
  part_more (coded flip g.row.FORMAT) c.args.input.now 8 (omega arith) c.loop-i.invariant.2
      (coded_part flip c.args.input.now c.requires.0 g.row.FORMAT c.loop-i.i 8 c.loop-i.invariant.0 refl (omega arith)) c.encode_one.ensures,
)

pub returns : goal.returns
returns g c = front_all c.loop-i.invariant.2 (omega arith)
