-- `lines::dpch_record` meets its contract.
use lib.ListN.{length-replicate}
use borrow.Rule.Slice.PartMut.{same_len_mid}
use Rattle.lines.proofs.Records.{front_long}
use Rattle.dpch.specs.declared.Format.{Format}
use lib.ListN.{replicate}
use Prim.Native.Nat.{ℕ}
use mathlib.Core.Path.{refl, ap}
use mathlib.Core.Path.{◌∙◌}
use Prim.Native.Nat.{◌-◌, ◌≤◌}
use native.Mathlib.Omega.{arith}
use Rattle.dpch.proofs.Exact.{format_sizes}
use Rattle.lines.proofs.Records.{writes_left, writes_done, dpch_is, dpch_slot, dpch_text, front_back}
use Rattle.lines.proofs.dpch_record.Goals as goal

pub slice_bounds-digits-end : goal.slice_bounds-digits-end
slice_bounds-digits-end c =
    let h : c.format_of-f.result.slot ≤ 1280 = rw c.format_of-f.ensures (format_sizes _).short in
    omega (arith, h)

pub returns-in_err-map_slot : goal.returns-in_err-map_slot
returns-in_err-map_slot c =
    let size = c.format_of-f.ensures in
    let small : c.format_of-f.result.slot ≤ 1280 = rw size (format_sizes _).short in
    let long = front_long c.format_of-f.result.slot (replicate {A = ℕ} 1280 0) small ∙ ap (λ (f : Format). f.slot) size in
    writes_left _ _ _ _ c.from_residual.ensures.1 (dpch_is _ c.requires.0 long c.in_err-map_slot.ensures)

pub overflow_cast-r : goal.overflow_cast-r
overflow_cast-r c = omega arith

pub slice_bounds-dpch_line-end : goal.slice_bounds-dpch_line-end
slice_bounds-dpch_line-end c =
    let size = c.format_of-f.ensures in
    let small : c.format_of-f.result.slot ≤ 1280 = rw size (format_sizes _).short in
    let long = front_long c.format_of-f.result.slot (replicate {A = ℕ} 1280 0) small ∙ ap (λ (f : Format). f.slot) size in
    let kept = same_len_mid 0 (c.format_of-f.result.slot - 0) (replicate {A = ℕ} 1280 0) c.map_slot.new.digits c.digits-2-1.given in
    omega (arith, small, kept, length-replicate {A = ℕ} 1280 0)

pub dpch_line-requires : goal.dpch_line-requires
dpch_line-requires c =
    let size = c.format_of-f.ensures in
    let small : c.format_of-f.result.slot ≤ 1280 = rw size (format_sizes _).short in
    let long = front_long c.format_of-f.result.slot (replicate {A = ℕ} 1280 0) small ∙ ap (λ (f : Format). f.slot) size in
    let m = c.in_ok-map_slot.ensures in
    let ok = refl in
    let back = front_back c.format_of-f.result.slot (replicate {A = ℕ} 1280 0) c.map_slot.new.digits (c.digits-2-1.given ∙ front_long c.format_of-f.result.slot (replicate {A = ℕ} 1280 0) small) in
    let digits = c.digits-2-1.given ∙ front_long c.format_of-f.result.slot (replicate {A = ℕ} 1280 0) small in
    (c.requires.0.format_ok, dpch_slot _ c.requires.0 long m ok, rw back (omega (arith, digits, small)), c.requires.1)

pub returns : goal.returns
returns c =
    let size = c.format_of-f.ensures in
    let small : c.format_of-f.result.slot ≤ 1280 = rw size (format_sizes _).short in
    let long = front_long c.format_of-f.result.slot (replicate {A = ℕ} 1280 0) small ∙ ap (λ (f : Format). f.slot) size in
    let m = c.in_ok-map_slot.ensures in
    let ok = refl in
    let back = front_back c.format_of-f.result.slot (replicate {A = ℕ} 1280 0) c.map_slot.new.digits (c.digits-2-1.given ∙ front_long c.format_of-f.result.slot (replicate {A = ℕ} 1280 0) small) in
    writes_done _ (dpch_is _ c.requires.0 long m) ok (rw (dpch_text _ c.requires.0 long m ok) (rw back at c.dpch_line.ensures))
