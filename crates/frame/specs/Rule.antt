-- docs/RULES.md, 'DPCH slot': a frame, which is slots 0 to 14 of one format, with fifteen commands.
-- Assumes nothing.
use Rattle.std.specs.Prelude.{ℕ, List, get_or}
use Rattle.run.specs.Fields.{joined}
use Rattle.run.specs.Parts.{part}
use Rattle.run.specs.Table.{tab}
use Rattle.dpch.specs.declared.Format.{Format}
use Rattle.slot.specs.Rule as slot
use Rattle.slot.specs.Rule.{data_size, slot_of, command_in}

-- slot k of the frame: the slot of the k-th command and of the k-th parts of data and TFCI
abbrev pub slot_at : Format → List ℕ → List ℕ → List ℕ → ℕ → List ℕ
slot_at f d tfci commands k = slot_of f k (get_or commands k 0) (part k (data_size f) d) (part k f.tfci tfci)

-- the frame: the digits of its fifteen slots in order
unfoldable pub frame_of : Format → List ℕ → List ℕ → List ℕ → List ℕ
frame_of f d tfci commands = joined (tab 15 (slot_at f d tfci commands))

-- the fields of a frame's digits: those of its slots, in order
unfoldable pub data_in : Format → List ℕ → List ℕ
data_in f xs = joined (tab 15 (λ (k : ℕ). slot.data_in f (part k f.slot xs)))

unfoldable pub tfci_in : Format → List ℕ → List ℕ
tfci_in f xs = joined (tab 15 (λ (k : ℕ). slot.tfci_in f (part k f.slot xs)))

unfoldable pub commands_in : Format → List ℕ → List ℕ
commands_in f xs = tab 15 (λ (k : ℕ). command_in f (part k f.slot xs))
