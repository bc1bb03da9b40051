-- `hspdsch_encode::encode_two_fours` meets its contract: the eight stores are the two blocks encoded.
use Rattle.hspdsch.proofs.Laws.{fours_stored}
use Rattle.hspdsch_encode.proofs.encode_two_fours.Goals as goal

pub returns : goal.returns
returns c =
    fours_stored c.args.input.now c.args.out.now c.requires.0 c.requires.1
