-- docs/RULES.md, 'Compressed frames'; TS 25.211, 5.3.2: a frame with a gap, which is a run of missing slots. It is told by its first slot and by how many are missing.
-- Assumes nothing.
use Rattle.std.specs.Prelude.{ℕ, ◌+◌, ◌-◌, Bool, cond, not, ◌&&◌, List, get_or, replicate, leb, ltb}
use Rattle.run.specs.Digits.{dtx}
use Rattle.run.specs.Fields.{joined}
use Rattle.run.specs.Parts.{part}
use Rattle.run.specs.Table.{tab}
use Rattle.dpch.specs.declared.Format.{Format}
use Rattle.slot.specs.Rule as slot
use Rattle.slot.specs.Rule.{data_size, slot_of, command_in}

-- slot k is missing
unfoldable pub is_missing : ℕ → ℕ → ℕ → Bool
is_missing first missing k = leb first k && ltb k (first + missing)

-- how many of the fifteen slots are transmitted
abbrev pub transmitted : ℕ → ℕ
transmitted missing = 15 - missing

-- the number of the i-th transmitted slot: behind the gap it is later by as many as are missing
unfoldable pub number_of : ℕ → ℕ → ℕ → ℕ
number_of first missing i = cond (ltb i first) i (i + missing)

-- which of the transmitted slots slot k is
unfoldable pub turn_of : ℕ → ℕ → ℕ → ℕ
turn_of first missing k = cond (ltb k first) k (k - missing)

-- the gap leaves as many slots as the row permits, and ends by slot 14
unfoldable pub gap_stands : Format → ℕ → ℕ → Bool
gap_stands f first missing = leb f.fewest (transmitted missing) && (leb (transmitted missing) f.most && leb (first + missing) 15)

-- slot k of the frame: that of its command and of its parts of data and TFCI, which count transmitted slots only, with the pilot of its own number; or nothing but DTX
abbrev pub slot_at : Format → ℕ → ℕ → List ℕ → List ℕ → List ℕ → ℕ → List ℕ
slot_at f first missing d tfci commands k =
    cond (not (is_missing first missing k))
    (slot_of f k (get_or commands (turn_of first missing k) 0) (part (turn_of first missing k) (data_size f) d) (part (turn_of first missing k) f.tfci tfci))
    (replicate f.slot dtx)

-- the frame: the digits of its fifteen slots in order
unfoldable pub frame_of : Format → ℕ → ℕ → List ℕ → List ℕ → List ℕ → List ℕ
frame_of f first missing d tfci commands = joined (tab 15 (slot_at f first missing d tfci commands))

-- the fields of a frame's digits: those of its transmitted slots, in order
unfoldable pub data_in : Format → ℕ → ℕ → List ℕ → List ℕ
data_in f first missing xs = joined (tab (transmitted missing) (λ (i : ℕ). slot.data_in f (part (number_of first missing i) f.slot xs)))

unfoldable pub tfci_in : Format → ℕ → ℕ → List ℕ → List ℕ
tfci_in f first missing xs = joined (tab (transmitted missing) (λ (i : ℕ). slot.tfci_in f (part (number_of first missing i) f.slot xs)))

unfoldable pub commands_in : Format → ℕ → ℕ → List ℕ → List ℕ
commands_in f first missing xs = tab (transmitted missing) (λ (i : ℕ). command_in f (part (number_of first missing i) f.slot xs))
