-- `sttd_digits::encode_digits` meets its contract: each turn writes two blocks more from the front on, and then the one that is left.
use mathlib.Core.Path.{◌≡◌, subst}
use Prim.Native.Nat.{ℕ, ◌+◌, ◌-◌, ◌*◌, ◌/◌}
use native.Mathlib.Omega.{arith}
use borrow.Rule.Slice.PartMut.{put_mid}
use Rattle.sttd.specs.Outcome.{encoded_over}
use Rattle.run.proofs.Front.{Front, front_none}
use Rattle.sttd.proofs.Runs.{encoded_length, encoded_part, encoded_end}
use Rattle.sttd_digits.proofs.encode_digits.Goals as goal

pub loop-k-init : goal.loop-k-init
loop-k-init c = front_none (encoded_length _ _)

pub loop-k-preserved : goal.loop-k-preserved
loop-k-preserved c =
    let step : 8 * c.loop-k.k + 8 ≡ 8 * (c.loop-k.k + 1) = omega arith in
    subst (λ (n : ℕ). Front (encoded_over c.args.input.now c.args.out.now) c.args.out.now (put_mid (8 * c.loop-k.k) (8 * c.loop-k.k + 8 - 8 * c.loop-k.k) c.loop-k.out c.encode_two.new.out) n) step
    (encoded_part _ _ (8 * c.loop-k.k + 8) c.min-n.ensures (omega arith) (omega arith) (omega arith) (omega arith) c.loop-k.invariant c.encode_two.ensures)

pub returns-then-e-n : goal.returns-then-e-n
returns-then-e-n c =
    let all : c.loop-k.k ≡ c.min-n.result / 8 = omega arith in
    encoded_end _ _ c.min-n.ensures (omega arith)
    (encoded_part _ _ (8 * (c.min-n.result / 8) + 4) c.min-n.ensures (omega arith) (omega arith) (omega arith) (omega arith) (rw all at c.loop-k.invariant) c.encode_block.ensures)

pub returns-else-e-n : goal.returns-else-e-n
returns-else-e-n c = encoded_end _ _ c.min-n.ensures (omega arith) c.loop-k.invariant
