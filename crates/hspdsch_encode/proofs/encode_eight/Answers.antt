-- `hspdsch_encode::encode_eight` meets its contract: the eight stores are the figure's block.
use Rattle.hspdsch.proofs.Laws.{eight_stored}
use Rattle.hspdsch_encode.proofs.encode_eight.Goals as goal

pub returns : goal.returns
returns c =
    eight_stored c.args.input.now c.args.out.now c.requires.1
