-- `sttd_digits::encode_two` meets its contract: it writes two blocks from the front on.
use mathlib.Core.Path.{refl}
use native.Mathlib.Omega.{arith}
use Rattle.run.proofs.Front.{front_none}
use Rattle.sttd.proofs.Runs.{encoded_length, capped_block, encoded_end}
use Rattle.sttd_digits.proofs.encode_two.Goals as goal

pub returns : goal.returns
returns c =
    let ok = c.requires.2 in
    let one =
    capped_block c.args.input.now c.args.out.now ok refl refl (omega arith) (front_none (encoded_length _ _)) c.min.ensures c.min-2.ensures c.min-3.ensures c.min-4.ensures in
    encoded_end _ _ refl (omega arith) (capped_block _ _ ok refl refl (omega arith) one c.min-5.ensures c.min-6.ensures c.min-7.ensures c.min-8.ensures)
