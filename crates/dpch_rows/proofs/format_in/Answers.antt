-- `dpch_rows::format_in` meets its contract.
use mathlib.Core.Path.{◌≡◌, sym, ◌∙◌}
use Rattle.dpch.specs.Formats.{no_row}
use Rattle.dpch.specs.Compressed.{format_in}
use Rattle.dpch.proofs.Exact.{pinned}
use Rattle.dpch_rows.proofs.Laws.{none, beside, lacking, there}
use Rattle.dpch_rows.proofs.format_in.Goals as goal
use Rattle.dpch_rows.proofs.format_in.Goals.{then-kind-gt-KIND_B-via-then-kind-gt-KIND_B, then-kind-gt-KIND_B-via-else-kind-gt-KIND_B+then-n-gt16, then-kind-gt-KIND_B-via-else-kind-gt-KIND_B+else-n-gt16+then-is_lacking}

pub returns-then-kind-eq-NORMAL : goal.returns-then-kind-eq-NORMAL
unfolding format_in
returns-then-kind-eq-NORMAL c = c.format_of-f.ensures ∙ rw c.if-kind-eq-NORMAL.true

pub returns-then-kind-gt-KIND_B : goal.returns-then-kind-gt-KIND_B
returns-then-kind-gt-KIND_B c =
    let lacks : format_in c.args.kind c.args.n ≡ no_row =
    elim c.then-kind-gt-KIND_B.branch [
      | then-kind-gt-KIND_B-via-then-kind-gt-KIND_B w ↦ pinned.no_kind _ _ w.if-kind-gt-KIND_B.true
      | then-kind-gt-KIND_B-via-else-kind-gt-KIND_B+then-n-gt16 w ↦ pinned.no_number _ _ w.if-n-gt16.true
      | then-kind-gt-KIND_B-via-else-kind-gt-KIND_B+else-n-gt16+then-is_lacking w ↦
          lacking _ _ (beside _ _ c.if-kind-eq-NORMAL.false w.if-kind-gt-KIND_B.false c.format_of-f.ensures) (sym w.is_lacking.ensures ∙ w.if-is_lacking.true)
    ]
    in
    c.format_of.ensures ∙ none ∙ sym lacks

pub row_beside-requires : goal.row_beside-requires
row_beside-requires c = beside _ _ c.if-kind-eq-NORMAL.false c.if-kind-gt-KIND_B.false c.format_of-f.ensures

pub returns : goal.returns
returns c =
    let row = beside _ _ c.if-kind-eq-NORMAL.false c.if-kind-gt-KIND_B.false c.format_of-f.ensures in
    c.row_beside.ensures ∙ there _ _ row c.if-n-gt16.false (sym c.is_lacking.ensures ∙ c.if-is_lacking.false) c.format_of-f.ensures
