-- docs/RULES.md, 'DPCH slot'; TS 25.211, 5.3.2: one slot of the downlink DPCH.
-- Assumes nothing.
use Rattle.std.specs.Prelude.{ℕ, ◌+◌, Bool, not, List, [], ◌∷◌, ◌++◌, get_or, take, drop, replicate, eqb}
use Rattle.std.specs.Bool.{beq}
use Rattle.run.specs.Digits.{dtx}
use Rattle.run.specs.Fields.{joined, field}
use Rattle.dpch.specs.declared.Format.{Format}
use Rattle.dpch.specs.Formats.{widths}
use Rattle.dpch.specs.Compressed.{pilot_for}

-- data is one run, Data1's digits before Data2's
abbrev pub data_size : Format → ℕ
data_size f = f.data1 + f.data2

-- the fields in their order: Data1, TPC, every digit of which is the command, TFCI, Data2, pilot. The row may be of any kind; a pair of equal TPC bits stands twice in B as it is
unfoldable pub fields_of : Format → ℕ → ℕ → List ℕ → List ℕ → List (List ℕ)
fields_of f slot tpc d tfci =
    take f.data1 d ∷ replicate f.tpc tpc ∷ tfci ∷ drop f.data1 d ∷ pilot_for f.kind f.pilot slot ∷ []

-- the slot: each field begins where the field before it ends
unfoldable pub slot_of : Format → ℕ → ℕ → List ℕ → List ℕ → List ℕ
slot_of f slot tpc d tfci = joined (fields_of f slot tpc d tfci)

-- the fields of a slot's digits
abbrev pub tpc_in : Format → List ℕ → List ℕ
tpc_in f xs = field 1 (widths f) xs

abbrev pub tfci_in : Format → List ℕ → List ℕ
tfci_in f xs = field 2 (widths f) xs

abbrev pub pilot_in : Format → List ℕ → List ℕ
pilot_in f xs = field 4 (widths f) xs

abbrev pub data_in : Format → List ℕ → List ℕ
data_in f xs = field 0 (widths f) xs ++ field 3 (widths f) xs

-- the command that the TPC digits carry
abbrev pub command_in : Format → List ℕ → ℕ
command_in f xs = get_or (tpc_in f xs) 0 0

-- the digits of a TFCI field are all bits or all DTX; at digit k: it is of the kind (DTX or not) of the first TFCI digit
unfoldable pub tfci_stands : List ℕ → ℕ → Bool
tfci_stands tfci k = beq (eqb (get_or tfci k 0) dtx) (eqb (get_or tfci 0 0) dtx)

-- a digit is of another kind than the first
abbrev pub is_mixed : ℕ → ℕ → Bool
is_mixed first digit = not (beq (eqb digit dtx) (eqb first dtx))
