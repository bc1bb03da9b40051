use lib.ListN.{replicate}
use Rattle.run.proofs.Front.{Front}
use Rattle.dpch.specs.Pilots.{pilot_row}
use Rattle.dpch.specs.Compressed.{pairs_twice}
use Rattle.dpch_rows.proofs.doubled_row.Given as goal

abbrev pub invariant-loop-k : goal.invariant-loop-k
invariant-loop-k l = Front (pairs_twice (pilot_row l.slot)) (replicate 32 0) l.doubled l.k
