-- `slt_sttd::slt_sttd_digits` meets its contract: the encoder's own answer, packed, where the run is short enough for a place to fit.
use mathlib.Core.Path.{◌≡◌, sym, ◌∙◌}
use Prim.Native.Nat.{ℕ}
use native.Mathlib.Omega.{arith}
use lib.Dec.{lit<}
use lib.ListN.{length}
use Rattle.run.proofs.Chain.{leaves_refused}
use Rattle.packed.proofs.Exact.{fitted}
use Rattle.slt_sttd.proofs.Exact.{short_narrow, too_long, short_enough}
use Rattle.slt_sttd.proofs.slt_sttd_digits.Goals as goal

pub returns-then-input-gt4294967295 : goal.returns-then-input-gt4294967295
returns-then-input-gt4294967295 c =
    let input = c.args.input.now in
    let out-length = length c.args.out.now in
    let long = too_long input out-length c.if-input-gt4294967295.true in
    record {
      answer_is = fitted 0 c.done.ensures (sym long) (short_narrow input out-length) (lit< tt);
      out_is = sym (leaves_refused _ _ _ (λ e. let z : ◌≡◌ {A = ℕ} 3 0 = rw long at e in omega arith));
    }

pub returns : goal.returns
returns c =
    let m = c.digits.ensures in
    let input = c.args.input.now in
    let out-length = length c.args.out.now in
    let short = short_enough input out-length c.if-input-gt4294967295.false in
    record {
      answer_is = fitted 0 c.done-2.ensures (m.verdict_is ∙ sym short) (short_narrow input out-length) (lit< tt);
      out_is = rw short m.out_is;
    }
