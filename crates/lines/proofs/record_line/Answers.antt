-- `lines::record_line` meets its contract: a whole record is one of its kind.
use mathlib.Core.Path.{◌≡◌}
use native.Mathlib.Omega.{arith}
use lib.ListN.{get_or}
use Rattle.kinds.specs.Kinds.{byte_of}
use Rattle.lines.proofs.Records.{whole_some, whole_kind, whole_aich, whole_pich, whole_dpch}
use Rattle.lines.proofs.record_line.Goals as goal
use Rattle.lines.proofs.record_line.Goals.{After-unwrap_or-kind}

here : (c : After-unwrap_or-kind) → get_or c.args.r.now 0 0 ≡ byte_of c.unwrap_or-kind.result
here c = rw c.unwrap_or-kind.ensures (whole_kind _ _ c.requires.0 c.try_from-named.ensures)

pub bounds-r-0 : goal.bounds-r-0
bounds-r-0 c = whole_some _ c.requires.0

pub aich_record-requires : goal.aich_record-requires
aich_record-requires c = (whole_aich _ c.requires.0 (rw c.in-Aich.is at (here (goal.at.aich_record-requires c).After-unwrap_or-kind)), c.requires.1)

pub pich_record-requires : goal.pich_record-requires
pich_record-requires c = (whole_pich _ c.requires.0 (rw c.in-Pich.is at (here (goal.at.pich_record-requires c).After-unwrap_or-kind)), c.requires.1)

pub dpch_record-requires : goal.dpch_record-requires
dpch_record-requires c =
    let e = rw c.in-Dpch.is at (here (goal.at.dpch_record-requires c).After-unwrap_or-kind) in
    (whole_dpch _ c.requires.0 (λ h. grind (arith, e)) (λ h. grind (arith, e)), c.requires.1)
