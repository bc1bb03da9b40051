-- The pilot of each format, cut out of table 4's row.
-- Assumes nothing.
use mathlib.Core.Path.{◌≡◌, refl, sym, ap, ◌∙◌}
use mathlib.Core.Bool.{Bool, true, false, cond, ◌||◌}
use mathlib.Core.List.{List, [], ◌++◌}
use Prim.Native.Nat.{ℕ, ◌+◌, ◌-◌, ◌≤◌}
use native.Mathlib.Omega.{arith}
use borrow.Author.Tests.{eqb-true, ltb-true, ltb-false}
use lib.Dec.{eqb, leb, ltb}
use lib.ListN.{length, take, drop, replicate, length-drop, get_or-eq_default}
use Rattle.run.specs.Fields.{cut, field}
use Rattle.run.specs.Table.{tab}
use Rattle.run.proofs.Bools.{either}
use Rattle.run.proofs.Lent.{rest_of}
use Rattle.run.proofs.Table.{by_table, table_test}
use Rattle.dpch.specs.declared.Dpcch.{Dpcch}
use Rattle.dpch.specs.Uplink.{dpcch_row, dpcch_formats, dpcch_format}
use Rattle.dpch.specs.UplinkPilots.{table3, table4, printed_row, patterns, dpcch_pilot}
use Rattle.dpch.proofs.Exact.{row4_long}
use Rattle.dpcch.specs.Ready.{pilot_row, pilot_start, pilot_source, PilotCut}

-- the bits that a pilot can have, 0 for the row of zeros
pilot_bits : ℕ → Bool
pilot_bits bits = eqb bits 0 || eqb bits 5 || eqb bits 6 || eqb bits 7 || eqb bits 8

-- what holds for pilots of 0, 5, 6, 7 and 8 bits holds for the pilot of every format
at_each : (P : ℕ → Type 0) → P 0 → P 5 → P 6 → P 7 → P 8 → (format : ℕ) → P (dpcch_format format).pilot
unfolding dpcch_format dpcch_formats pilot_bits
at_each P p0 p5 p6 p7 p8 format =
    bits (dpcch_format format).pilot (table_test (λ (f : Dpcch). pilot_bits f.pilot) (dpcch_row 0 0 0 0 0) refl dpcch_formats refl format)
  where
    bits : (n : ℕ) → (eqb n 0 || eqb n 5 || eqb n 6 || eqb n 7 || eqb n 8) ≡ true → P n
    bits n e =
        either _ (eqb n 8) e
        (λ e. either _ (eqb n 7) e
        (λ e. either _ (eqb n 6) e
        (λ e. either (eqb n 0) (eqb n 5) e (λ h. rw (eqb-true n 0 h) p0) (λ h. rw (eqb-true n 5 h) p5))
        (λ h. rw (eqb-true n 6 h) p6))
        (λ h. rw (eqb-true n 7 h) p7))
        (λ h. rw (eqb-true n 8 h) p8)

pub row_long : (slot : ℕ) → length (pilot_row slot) ≡ 15
unfolding pilot_row
row_long slot = row4_long slot

-- the row from there on, as the code lends it
pub start_small : (bits a : ℕ) → a ≡ pilot_start bits → a ≤ 15
unfolding pilot_start
start_small bits a e = rw e (pick (eqb bits 8) (eqb bits 5))
  where
    pick : (a b : Bool) → cond a 7 (cond b 1 0) ≤ 15
    pick true b = omega arith
    pick false true = omega arith
    pick false false = omega arith

pub source_lent : (bits slot : ℕ) → take (15 - pilot_start bits) (drop (pilot_start bits) (pilot_row slot)) ≡ pilot_source bits slot
unfolding pilot_source
source_lent bits slot =
    ap (λ (n : ℕ). take (n - pilot_start bits) (drop (pilot_start bits) (pilot_row slot))) (sym (row_long slot)) ∙ rest_of (pilot_start bits) (pilot_row slot)

-- rules that have the same row in each of the fifteen slots, and past them
in_every_slot : (f g : ℕ → List ℕ) → tab 15 f ≡ tab 15 g → ((slot : ℕ) → 15 ≤ slot → f slot ≡ g slot) → (slot : ℕ) → f slot ≡ g slot
in_every_slot f g e past slot = side (ltb slot 15) refl
  where
    side : (b : Bool) → ltb slot 15 ≡ b → f slot ≡ g slot
    side true t = by_table [] 15 f g e slot (ltb-true _ _ t)
    side false t = past slot (ltb-false _ _ t)

cut_at : (format slot : ℕ) → dpcch_pilot (dpcch_format format).pilot slot ≡ take (dpcch_format format).pilot (pilot_source (dpcch_format format).pilot slot)
unfolding dpcch_pilot printed_row field cut pilot_source pilot_row pilot_start tab table3 table4
cut_at format slot =
    at_each (λ (n : ℕ). dpcch_pilot n slot ≡ take n (pilot_source n slot)) refl (all 5 refl refl) (all 6 refl refl) (all 7 refl refl) (all 8 refl refl) format
  where
    -- past the tables both are cut from zeros
    all : (n : ℕ) → tab 15 (dpcch_pilot n) ≡ tab 15 (λ (k : ℕ). take n (pilot_source n k))
        → cond (leb 3 n) (field {A = ℕ} (n - 3) patterns (replicate 18 0 ++ replicate 15 0)) [] ≡ take n (drop (pilot_start n) (replicate 15 0))
        → dpcch_pilot n slot ≡ take n (pilot_source n slot)
    all n e z = in_every_slot (dpcch_pilot n) (λ (k : ℕ). take n (pilot_source n k)) e (λ k past. rw (get_or-eq_default table3 (replicate 18 0) past, get_or-eq_default table4 (replicate 15 0) past) z) slot

enough_at : (format slot : ℕ) → (dpcch_format format).pilot ≤ length (pilot_source (dpcch_format format).pilot slot)
unfolding pilot_source pilot_start
enough_at format slot =
    at_each (λ (k : ℕ). k ≤ length (pilot_source k slot)) (room 0 0 (omega arith)) (room 1 5 (omega arith)) (room 0 6 (omega arith)) (room 0 7 (omega arith)) (room 7 8 (omega arith)) format
  where
    room : (a k : ℕ) → a + k ≤ 15 → k ≤ length (drop a (pilot_row slot))
    room a k h = let n = row_long slot in simp length-drop (omega arith)

pub pilot_cut : (format slot : ℕ) → PilotCut (dpcch_format format).pilot slot
pilot_cut format slot = record { cut_from = cut_at format slot; enough = enough_at format slot }
