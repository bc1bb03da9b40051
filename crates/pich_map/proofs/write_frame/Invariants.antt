use Prim.Native.Nat.{◌*◌}
use Rattle.run.proofs.Front.{Front}
use Rattle.pich.specs.Rule.{frame_of}
use Rattle.pich_map.proofs.write_frame.Given as goal

abbrev pub invariant-loop-q : goal.invariant-loop-q
invariant-loop-q l = Front (frame_of l.np l.indicators) l.initial.frame l.frame (l.width * l.q)
