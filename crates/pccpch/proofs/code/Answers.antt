-- `pccpch::code` meets its contract: the encoder's blocks, and the last two digits as they are.
use Rattle.pccpch.proofs.Laws.{code_stands}
use Rattle.pccpch.proofs.code.Goals as goal

pub returns : goal.returns
returns c =
    code_stands _ c.requires.0 c.args.out.now _ c.requires.1 c.encode.ensures
