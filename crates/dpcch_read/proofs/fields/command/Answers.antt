-- `dpcch_read::fields::command` meets its contract: the first TPC digit stands where FBI ends.
use mathlib.Core.Path.{◌≡◌}
use Prim.Native.Nat.{◌+◌, ◌≤◌}
use native.Mathlib.Omega.{arith}
use Rattle.dpcch.proofs.Laws.{sum, command_at}
use Rattle.dpcch_read.proofs.fields.command.Goals as goal
use Rattle.dpcch_read.proofs.fields.command.Goals.{Start}

sums : (c : Start) → (c.args.f.pilot + c.args.f.tfci + c.args.f.fbi + c.args.f.tpc ≡ c.args.f.slot) × (c.args.f.slot ≤ 10)
sums c = (sum _ c.requires.0.sound, c.requires.0.sound.short)

pub overflow_add-a : goal.overflow_add-a
overflow_add-a c = omega (arith, sums (goal.at.overflow_add-a c).Start)

pub overflow_add-a-2 : goal.overflow_add-a-2
overflow_add-a-2 c = omega (arith, sums (goal.at.overflow_add-a-2 c).Start)

pub bounds-xs-a : goal.bounds-xs-a
bounds-xs-a c = omega (arith, sums (goal.at.bounds-xs-a c).Start, c.requires.0.slot_ok, c.requires.1)

pub returns : goal.returns
returns c = command_at _ _ c.requires.0 c.requires.1
