-- `sttd_digits::encode_block` meets its contract: it writes one block from the front on.
use mathlib.Core.Path.{refl}
use native.Mathlib.Omega.{arith}
use Rattle.run.proofs.Front.{front_none}
use Rattle.sttd.proofs.Runs.{encoded_length, capped_block, encoded_end}
use Rattle.sttd_digits.proofs.encode_block.Goals as goal

pub returns : goal.returns
returns c =
    encoded_end _ _ refl (omega arith)
    (capped_block _ _ c.requires.2 refl refl (omega arith) (front_none (encoded_length _ _)) c.min.ensures c.min-2.ensures
    c.min-3.ensures c.min-4.ensures)
