-- `sttd_digits::encode` meets its contract: both of its loops do.
use native.Mathlib.Omega.{arith}
use Rattle.run.proofs.First.{none_first}
use Rattle.run.proofs.Places.{above_first}
use Rattle.sttd_digits.proofs.encode.Goals as goal

pub encode_digits-requires : goal.encode_digits-requires
encode_digits-requires c =
    let e = rw c.in-None.is at (above_first 2 c.args.input.now c.above.ensures) in
    none_first _ _ (omega (arith, e))
