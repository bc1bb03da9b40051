-- `dpcch_frame_map::slots::are_bits` meets its contract: where neither length is the run's, a scan looks at all.
use mathlib.Core.Path.{◌≡◌, sym, ◌∙◌}
use mathlib.Core.Bool.{false, false≢true}
use mathlib.Core.List.{List}
use Prim.Native.Nat.{ℕ}
use native.Mathlib.Omega.{arith}
use borrow.Author.Tests.{le-leb}
use lib.ListN.{length}
use Rattle.std.specs.Option.{is_some, unwrap_or}
use Rattle.std.specs.Prelude.{Option, Some, None}
use Rattle.run.specs.First.{first_bad, Every, at_most}
use Rattle.run.proofs.Passing.{all_every}
use Rattle.run.proofs.Places.{above_first}
use Rattle.dpdch.proofs.Laws.{few_bits}
use Rattle.dpcch_frame_map.proofs.slots.are_bits.Goals as goal
use Rattle.dpcch_frame_map.proofs.slots.are_bits.Goals.{then-are_few_bits, else-are_few_bits}

-- a scan that finds no place has looked at all
none_above : (s : List ℕ) (found : Option ℕ) → unwrap_or found (length s) ≡ first_bad (at_most 1 s) (length s) → is_some found ≡ false → Every (at_most 1 s) (length s)
none_above s None e h = all_every (length s) (at_most 1 s) (le-leb _ _ (omega (arith, e)))
none_above s (Some i) e h = absurd (false≢true (sym h))

pub returns-else-are_few_bits-2 : goal.returns-else-are_few_bits-2
returns-else-are_few_bits-2 c = λ e. none_above c.args.s.now c.above.result (above_first 1 _ c.above.ensures) (c.is_none.ensures ∙ rw e)

pub returns-then-are_few_bits-2 : goal.returns-then-are_few_bits-2
returns-then-are_few_bits-2 c h = elim c.if-are_few_bits.branch [
  | then-are_few_bits w ↦ few_bits _ 15 c.are_few_bits.ensures w.if-are_few_bits.true
  | else-are_few_bits w ↦ few_bits _ 30 w.are_few_bits-else-are_few_bits.ensures (sym w.value-is ∙ h)
]
