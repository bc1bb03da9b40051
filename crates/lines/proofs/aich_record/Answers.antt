-- `lines::aich_record` meets its contract.
use mathlib.Core.Path.{refl}
use lib.IntN.{ℤ, pos}
use lib.ListN.{length-replicate}
use Rattle.lines.proofs.Records.{writes_left, writes_done, aich_is, aich_sized, aich_text}
use Rattle.lines.proofs.aich_record.Goals as goal

pub returns-in_err-map : goal.returns-in_err-map
returns-in_err-map c =
    writes_left _ _ _ _ c.from_residual.ensures.1 (aich_is _ c.requires.0 _ c.indicators_of-indicators.ensures (length-replicate {A = ℤ} 32 (pos 0)) c.in_err-map.ensures)

pub aich_line-requires : goal.aich_line-requires
aich_line-requires c =
    let s = aich_sized _ c.requires.0 _ c.indicators_of-indicators.ensures (length-replicate {A = ℤ} 32 (pos 0)) c.in_ok-map.ensures refl in
    (rw s.long s.small, s.long, c.requires.1)

pub returns : goal.returns
returns c =
    let m = c.in_ok-map.ensures in
    let long = length-replicate {A = ℤ} 32 (pos 0) in
    writes_done _ (aich_is _ c.requires.0 _ c.indicators_of-indicators.ensures long m) refl
    (rw (aich_text _ c.requires.0 _ c.indicators_of-indicators.ensures long m refl) c.aich_line.ensures)
