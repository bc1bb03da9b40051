-- `lines::pich_record` meets its contract.
use mathlib.Core.Path.{refl}
use Prim.Native.Nat.{ℕ}
use native.Mathlib.Omega.{arith}
use lib.ListN.{length-replicate}
use Rattle.lines.proofs.Records.{writes_left, writes_done, pich_is, pich_long, pich_text}
use Rattle.lines.proofs.pich_record.Goals as goal

pub returns-in_err-map : goal.returns-in_err-map
returns-in_err-map c =
    writes_left _ _ _ _ c.from_residual.ensures.1 (pich_is _ c.requires.0 (length-replicate {A = ℕ} 300 0) c.in_err-map.ensures)

pub pich_line-requires : goal.pich_line-requires
pich_line-requires c =
    (omega arith, pich_long _ c.requires.0 (length-replicate {A = ℕ} 300 0) c.in_ok-map.ensures refl, c.requires.1)

pub returns : goal.returns
returns c =
    let m = c.in_ok-map.ensures in
    let long = length-replicate {A = ℕ} 300 0 in
    writes_done _ (pich_is _ c.requires.0 long m) refl (rw (pich_text _ c.requires.0 long m refl) c.pich_line.ensures)
