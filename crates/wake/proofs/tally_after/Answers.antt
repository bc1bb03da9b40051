-- `wake::tally_after` meets its contract: the checks in their order, and then the tally one frame on.
use mathlib.Core.Path.{◌≡◌, sym, ◌∙◌}
use Rattle.run.proofs.Answers.{goes_on}
use Rattle.run.proofs.Chain.{leaves_done, number_0}
use Rattle.pich.specs.Rule.{q_of}
use Rattle.pich.proofs.Laws.{asked}
use Rattle.pich.proofs.Exact.{q_below}
use Rattle.wake.specs.Outcome.{frame_verdict}
use Rattle.wake.proofs.Laws.{q_told, roomy, ends, no_tally, frame_read}
use Rattle.wake.proofs.tally_after.Goals as goal

pub returns-in_err-check_head : goal.returns-in_err-check_head
unfolding frame_verdict
returns-in_err-check_head c = no_tally _ _ _ c.from_residual.ensures.1 (ends _ _ c.in_err-check_head.ensures)

pub returns-in_err-q : goal.returns-in_err-q
unfolding frame_verdict
returns-in_err-q c = no_tally _ _ _ c.from_residual-in_err-q.ensures.1 (goes_on c.in_ok-check_head.ensures (ends _ _ c.in_err-q.ensures.verdict_is))

pub look-requires : goal.look-requires
look-requires c =
    let p = c.in_ok-q.ensures in
    let z = number_0 (sym p.verdict_is) in
    let ok = (asked _ _ _ z).np_ok in
    let at-q : c.in_ok-q.q.0 ≡ q_of _ _ _ = q_told _ _ _ _ z p.q_is in
    (ok, rw at-q (q_below _ _ _ ok))

pub returns-in_err-indicator : goal.returns-in_err-indicator
unfolding frame_verdict
returns-in_err-indicator c =
    no_tally _ _ _ c.from_residual-in_err-indicator.ensures.1
    (goes_on c.in_ok-check_head.ensures (goes_on c.in_ok-q.ensures.verdict_is c.in_err-indicator.ensures.0))

pub moved-requires : goal.moved-requires
moved-requires c =
    let room = roomy _ _ _ (number_0 (sym c.in_ok-check_head.ensures)) in
    (room.read_room, room.woke_room, (asked _ _ _ (number_0 (sym c.in_ok-q.ensures.verdict_is))).sfn_ok)

pub returns : goal.returns
unfolding frame_verdict
returns c =
    let p = c.in_ok-q.ensures in
    let z = number_0 (sym p.verdict_is) in
    let v = c.in_ok-indicator.ensures in
    let there = v.1 ∙ leaves_done _ _ _ (number_0 (sym v.0)) in
    let at-q : c.in_ok-q.q.0 ≡ q_of _ _ _ = q_told _ _ _ _ z p.q_is in
    let f = frame_read _ _ _ _ (goes_on c.in_ok-check_head.ensures (goes_on p.verdict_is v.0)) _ (c.moved.ensures ∙ rw (there, at-q)) in
    (f.verdict_is, f.tally_is)
