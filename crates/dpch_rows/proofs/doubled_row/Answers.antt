-- `dpch_rows::doubled_row` meets its contract: digit k is one of pair k / 4 of the row. One test compares all 32 places, whatever the row's digits are.
use mathlib.Core.Path.{◌≡◌, refl, ap, ◌∙◌}
use mathlib.Core.List.{List}
use Prim.Native.Nat.{ℕ, ◌+◌, ◌*◌, ◌/◌, ◌%◌, ◌<◌}
use native.Mathlib.Omega.{arith}
use lib.ListN.{length, get_or}
use Rattle.run.specs.Fields.{joined}
use Rattle.run.specs.Table.{tab}
use Rattle.run.proofs.Front.{front_none, front_length, front_store, front_all}
use Rattle.run.proofs.Table.{by_table}
use Rattle.dpch.specs.Pilots.{symbols_of, pilot_row}
use Rattle.dpch.specs.Compressed.{pairs_twice}
use Rattle.dpch_rows.proofs.doubled_row.Goals as goal

digit-is : (slot k : ℕ) → k < 32 → get_or (pilot_row slot) (k / 4 * 2 + k % 2) 0 ≡ get_or (pairs_twice (pilot_row slot)) k 0
unfolding tab pairs_twice pilot_row symbols_of joined
digit-is slot = by_table 0 32 (λ (k : ℕ). get_or (pilot_row slot) (k / 4 * 2 + k % 2) 0) (λ (k : ℕ). get_or (pairs_twice (pilot_row slot)) k 0) refl

doubled-long : (slot : ℕ) → length (pairs_twice (pilot_row slot)) ≡ 32
unfolding pairs_twice pilot_row symbols_of joined
doubled-long slot = refl

pub loop-k-init : goal.loop-k-init
loop-k-init c = front_none (doubled-long _)

pub loop-k-preserved : goal.loop-k-preserved
loop-k-preserved c =
    let slot = c.args.slot in
    let k = c.loop-k.k in
    let read : get_or c.pilot_row-row.result (k / 4 * 2 + k % 2) 0 ≡ get_or (pairs_twice (pilot_row slot)) k 0 =
    ap (λ (row : List ℕ). get_or row (k / 4 * 2 + k % 2) 0) c.pilot_row-row.ensures ∙ digit-is slot k (omega arith)
    in
    front_store 0 c.loop-k.invariant (omega (arith, front_length c.loop-k.invariant)) read

pub returns : goal.returns
returns c = front_all c.loop-k.invariant (omega arith)
