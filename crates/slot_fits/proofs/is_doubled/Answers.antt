-- `slot_fits::is_doubled` meets its contract: each arm compares the digits of the width that it names, and no pilot has another.
use native.Mathlib.Omega.{arith}
use mathlib.Core.Path.{refl}
use Prim.Native.Nat.{ℕ}
use lib.ListN.{take, drop}
use Rattle.dpch.specs.Formats.{kind_b}
use Rattle.dpch.specs.Pilots.{pilot_row}
use Rattle.dpch.specs.Compressed.{pairs_twice, pilot_for}
use Rattle.slot_tfci.proofs.Laws.{none_to_ask}
use Rattle.slot_fits.proofs.Laws.{pilot_told, doubled_4, doubled_8, doubled_16, doubled_32}
use Rattle.slot_fits.proofs.is_doubled.Goals as goal

pub returns-in-4 : goal.returns-in-4
returns-in-4 c =
    let a = c.args in
    pilot_told (λ (n : ℕ). pilot_for kind_b n a.slot) a.s.now (take 4 (drop 4 (pairs_twice (pilot_row a.slot)))) 4 c.in-4.is (doubled_4 a.s.now a.slot)
    (rw c.doubled_row-row.ensures at c.all_agree.ensures)

pub returns-in-8 : goal.returns-in-8
returns-in-8 c =
    let a = c.args in
    pilot_told (λ (n : ℕ). pilot_for kind_b n a.slot) a.s.now (pairs_twice (pilot_row a.slot)) 8 c.in-8.is (doubled_8 a.s.now a.slot)
    (rw c.doubled_row-row.ensures at c.all_agree-in-8.ensures)

pub returns-in-16 : goal.returns-in-16
returns-in-16 c =
    let a = c.args in
    pilot_told (λ (n : ℕ). pilot_for kind_b n a.slot) a.s.now (pairs_twice (pilot_row a.slot)) 16 c.in-16.is (doubled_16 a.s.now a.slot)
    (rw c.doubled_row-row.ensures at c.all_agree-in-16.ensures)

pub returns-in-32 : goal.returns-in-32
returns-in-32 c =
    let a = c.args in
    pilot_told (λ (n : ℕ). pilot_for kind_b n a.slot) a.s.now (pairs_twice (pilot_row a.slot)) 32 c.in-32.is (doubled_32 a.s.now a.slot)
    (rw c.doubled_row-row.ensures at c.all_agree-in-32.ensures)

pub returns-in_default : goal.returns-in_default
returns-in_default c =
    none_to_ask _ _ (c.requires.none_doubled refl (λ e. grind arith) (λ e. grind arith) (λ e. grind arith) (λ e. grind arith))
