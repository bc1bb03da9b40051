-- `compressed_map::slots::write_slot` meets its contract: silence, or the slot of its turn.
use mathlib.Core.Path.{sym, ◌∙◌}
use Rattle.compressed.proofs.Laws.{silence_is, sent_is, turn_there}
use Rattle.compressed_map.proofs.slots.write_slot.Goals as goal

pub write_turn-requires : goal.write_turn-requires
write_turn-requires c =
    let pre = c.requires in
    turn_there _ _ _ _ _ _ _ _ _ _ _ pre.0 pre.1 pre.3 pre.2 (sym c.is_missing.ensures ∙ c.if-is_missing.false) c.turn_of-turn.ensures

pub returns-then-is_missing : goal.returns-then-is_missing
returns-then-is_missing c =
    let a = c.args in
    silence_is _ _ _ _ _ a.commands.now a.out.now _ _ (sym c.is_missing.ensures ∙ c.if-is_missing.true) c.requires.3 c.fill.ensures

pub returns-else-is_missing : goal.returns-else-is_missing
returns-else-is_missing c = sent_is _ _ _ _ _ c.args.commands.now _ _ _ (sym c.is_missing.ensures ∙ c.if-is_missing.false) c.turn_of-turn.ensures c.write_turn.ensures
