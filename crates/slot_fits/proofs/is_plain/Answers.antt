-- `slot_fits::is_plain` meets its contract: each arm compares the digits of the width that it names, and no pilot has another.
use Prim.Native.Nat.{ℕ}
use native.Mathlib.Omega.{arith}
use lib.ListN.{take, drop}
use Rattle.dpch.specs.Pilots.{pilot_row, pilot_of}
use Rattle.slot_tfci.proofs.Laws.{none_to_ask}
use Rattle.slot_fits.proofs.Laws.{pilot_told, pilot_2, pilot_4, pilot_8, pilot_16}
use Rattle.slot_fits.proofs.is_plain.Goals as goal

pub returns-in-2 : goal.returns-in-2
returns-in-2 c =
    let a = c.args in
    pilot_told (λ (n : ℕ). pilot_of n a.slot) a.s.now (take 2 (drop 2 (pilot_row a.slot))) 2 c.in-2.is (pilot_2 a.s.now a.slot)
    (rw c.pilot_row-row.ensures at c.all_agree.ensures)

pub returns-in-4 : goal.returns-in-4
returns-in-4 c =
    let a = c.args in
    pilot_told (λ (n : ℕ). pilot_of n a.slot) a.s.now (pilot_row a.slot) 4 c.in-4.is (pilot_4 a.s.now a.slot)
    (rw c.pilot_row-row.ensures at c.all_agree-in-4.ensures)

pub returns-in-8 : goal.returns-in-8
returns-in-8 c =
    let a = c.args in
    pilot_told (λ (n : ℕ). pilot_of n a.slot) a.s.now (pilot_row a.slot) 8 c.in-8.is (pilot_8 a.s.now a.slot)
    (rw c.pilot_row-row.ensures at c.all_agree-in-8.ensures)

pub returns-in-16 : goal.returns-in-16
returns-in-16 c =
    let a = c.args in
    pilot_told (λ (n : ℕ). pilot_of n a.slot) a.s.now (pilot_row a.slot) 16 c.in-16.is (pilot_16 a.s.now a.slot)
    (rw c.pilot_row-row.ensures at c.all_agree-in-16.ensures)

pub returns-in_default : goal.returns-in_default
returns-in_default c =
    none_to_ask _ _ (c.requires.none (λ e. omega arith) (λ e. grind arith) (λ e. grind arith) (λ e. grind arith) (λ e. grind arith))
