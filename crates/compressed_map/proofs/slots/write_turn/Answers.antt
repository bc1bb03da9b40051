-- `compressed_map::slots::write_turn` meets its contract.
use Rattle.compressed.proofs.Laws.{turn_is}
use Rattle.compressed_map.proofs.slots.write_turn.Goals as goal

pub returns : goal.returns
returns c =
    let a = c.args in
    turn_is _ _ _ _ a.«data».now a.tfci.now a.commands.now a.out.now _ c.requires c.put_row.ensures
