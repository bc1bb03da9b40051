use Prim.Native.Nat.{◌≤◌}
use Rattle.run.proofs.Front.{Front}
use Rattle.aich.specs.Rule.{offers}
use Rattle.desk.specs.Method.{marks_of}
use Rattle.desk_serve.proofs.marks.Given as goal

abbrev pub invariant-loop-s : goal.invariant-loop-s
invariant-loop-s l = (l.s ≤ 16) × Front (marks_of (offers l.candidates) l.last l.q) l.initial.indicators l.indicators l.s
