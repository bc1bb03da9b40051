-- docs/RULES.md, 'Uplink DPCCH'; TS 25.211, 5.2.1.1, tables 2 to 4: slots and frames of the uplink DPCCH.
-- Assumes nothing.
use Rattle.std.specs.Prelude.{ℕ, List, [], ◌∷◌, get_or, replicate}
use Rattle.run.specs.Fields.{joined, field}
use Rattle.run.specs.Parts.{part}
use Rattle.run.specs.Table.{tab}
use Rattle.dpch.specs.declared.Dpcch.{Dpcch}
use Rattle.dpch.specs.Uplink.{dpcch_widths}
use Rattle.dpch.specs.UplinkPilots.{dpcch_pilot}

-- the fields in their order: pilot, TFCI, FBI, TPC, every digit of which is the command
unfoldable pub fields_of : Dpcch → ℕ → ℕ → List ℕ → List ℕ → List (List ℕ)
fields_of f slot tpc tfci fbi = dpcch_pilot f.pilot slot ∷ tfci ∷ fbi ∷ replicate f.tpc tpc ∷ []

-- the slot: each field begins where the field before it ends
unfoldable pub slot_of : Dpcch → ℕ → ℕ → List ℕ → List ℕ → List ℕ
slot_of f slot tpc tfci fbi = joined (fields_of f slot tpc tfci fbi)

-- the fields of a slot's digits
abbrev pub pilot_in : Dpcch → List ℕ → List ℕ
pilot_in f xs = field 0 (dpcch_widths f) xs

abbrev pub tfci_in : Dpcch → List ℕ → List ℕ
tfci_in f xs = field 1 (dpcch_widths f) xs

abbrev pub fbi_in : Dpcch → List ℕ → List ℕ
fbi_in f xs = field 2 (dpcch_widths f) xs

abbrev pub tpc_in : Dpcch → List ℕ → List ℕ
tpc_in f xs = field 3 (dpcch_widths f) xs

-- the command that the TPC digits carry
abbrev pub command_in : Dpcch → List ℕ → ℕ
command_in f xs = get_or (tpc_in f xs) 0 0

-- slot k of a frame: the slot of the k-th command and of the k-th parts of TFCI and FBI
abbrev pub slot_at : Dpcch → List ℕ → List ℕ → List ℕ → ℕ → List ℕ
slot_at f tfci fbi commands k = slot_of f k (get_or commands k 0) (part k f.tfci tfci) (part k f.fbi fbi)

-- the frame: the digits of its fifteen slots in order
unfoldable pub frame_of : Dpcch → List ℕ → List ℕ → List ℕ → List ℕ
frame_of f tfci fbi commands = joined (tab 15 (slot_at f tfci fbi commands))

-- the fields of a frame's digits: those of its slots, in order
unfoldable pub frame_tfci_in : Dpcch → List ℕ → List ℕ
frame_tfci_in f xs = joined (tab 15 (λ (k : ℕ). tfci_in f (part k f.slot xs)))

unfoldable pub frame_fbi_in : Dpcch → List ℕ → List ℕ
frame_fbi_in f xs = joined (tab 15 (λ (k : ℕ). fbi_in f (part k f.slot xs)))

unfoldable pub commands_in : Dpcch → List ℕ → List ℕ
commands_in f xs = tab 15 (λ (k : ℕ). command_in f (part k f.slot xs))
