-- `records` reads what its turns read, one after the other.
use Rattle.std.proofs.Common.{rules}
use Rattle.std.proofs.lemmas.Result.{err_from_is_err_and}
use Rattle.slotline.proofs.Spending.{spent_then}
use Rattle.slotline.proofs.records.Goals as goal

pub returns-in_err-s-clause-limit : goal.returns-in_err-s-clause-limit
returns-in_err-s-clause-limit g c =
    let p = err_from_is_err_and c.from_residual.result c.from_residual.ensures.1 in
    rw p.1 (spent_then c.loop-s.invariant.spent c.in_err-s.ensures.limit)

pub loop-s-preserved : goal.loop-s-preserved
loop-s-preserved g c = record {
  sound = c.in_ok-s.ensures.ok.sound;
  window = search rules;
  out = search rules;
  spent = spent_then c.loop-s.invariant.spent c.in_ok-s.ensures.limit;
}
