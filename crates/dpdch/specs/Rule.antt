-- docs/RULES.md, 'Uplink DPDCH'; TS 25.211, 5.2.1.1, table 1: slots and frames of the uplink DPDCH.
-- Assumes nothing.
use Rattle.std.specs.Prelude.{ℕ, List, [], ◌∷◌}
use Rattle.run.specs.Fields.{joined, field}
use Rattle.run.specs.Parts.{part}
use Rattle.run.specs.Table.{tab}
use Rattle.dpch.specs.Uplink.{dpdch_size}
use Rattle.dpch.specs.Layouts.{uplink_dpdch, layout_of}

-- the slot: data is its only field
unfoldable pub slot_of : List ℕ → List ℕ
slot_of d = joined (d ∷ [])

-- the data of a slot's digits
unfoldable pub data_in : ℕ → List ℕ → List ℕ
data_in format xs = field 0 (layout_of uplink_dpdch format).fields xs

-- the frame: fifteen slots, slot k of the k-th part of the data
unfoldable pub frame_of : ℕ → List ℕ → List ℕ
frame_of format d = joined (tab 15 (λ (k : ℕ). slot_of (part k (dpdch_size format) d)))

-- the data of a frame's digits: that of its slots, in order
unfoldable pub frame_data_in : ℕ → List ℕ → List ℕ
frame_data_in format xs = joined (tab 15 (λ (k : ℕ). data_in format (part k (dpdch_size format) xs)))
