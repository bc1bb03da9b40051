-- `desk_serve::serve` meets its contract.
use mathlib.Core.Path.{refl, sym}
use Prim.Native.Nat.{◌≤◌, ◌<◌}
use native.Mathlib.Omega.{arith}
use lib.Bits.{and_le_l}
use Rattle.desk.specs.Rule.{place_of}
use Rattle.desk.proofs.Serving.{after_small}
use Rattle.run.proofs.Answers.{refuses}
use Rattle.run.proofs.Chain.{number_0}
use Rattle.desk.proofs.Slot.{taken, serve_refused, serve_done, mapper_done}
use Rattle.desk_serve.proofs.serve.Goals as goal

pub returns-in_err-check : goal.returns-in_err-check
returns-in_err-check c =
    serve_refused _ _ _ _ _ _ _ c.from_residual.ensures.1 c.in_err-check.ensures

pub last_served-after-requires : goal.last_served-after-requires
last_served-after-requires c =
    (taken _ _ _ (number_0 (sym c.in_ok-check.ensures))).desk_ok

pub overflow_add-q : goal.overflow_add-q
overflow_add-q c =
    let fits = (taken _ _ _ (number_0 (sym c.in_ok-check.ensures))).desk_ok in
    let small : c.last_served-after.result ≤ 15 = rw c.last_served-after.ensures (after_small _ _ _ fits) in
    omega arith

pub overflow_sub-q : goal.overflow_sub-q
overflow_sub-q c =
    let fits : c.args.desk.last ≤ 15 = (taken _ _ _ (number_0 (sym c.in_ok-check.ensures))).desk_ok in
    omega arith

pub overflow_cast-candidates : goal.overflow_cast-candidates
overflow_cast-candidates c =
    let less = and_le_l c.args.heard c.args.available in
    let wide : c.args.heard < 65536 = c.ranges.heard.fits in
    omega arith

pub overflow_cast-last : goal.overflow_cast-last
overflow_cast-last c =
    let fits : c.args.desk.last ≤ 15 = (taken _ _ _ (number_0 (sym c.in_ok-check.ensures))).desk_ok in
    omega arith

pub marks-indicators-requires : goal.marks-indicators-requires
marks-indicators-requires c = (taken _ _ _ (number_0 (sym c.in_ok-check.ensures))).desk_ok

pub returns-in_err-map : goal.returns-in_err-map
unfolding place_of
returns-in_err-map c =
    absurd (refuses c.in_err-map.field-0.0 0 (number_0 (mapper_done _ _ _ _ _ c.in_ok-check.ensures c.last_served-after.ensures refl c.marks-indicators.ensures c.in_err-map.ensures)))

pub returns : goal.returns
unfolding place_of
returns c = serve_done _ _ _ _ _ c.in_ok-check.ensures c.last_served-after.ensures refl c.marks-indicators.ensures c.in_ok-map.ensures
