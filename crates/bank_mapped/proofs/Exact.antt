-- The theorem of specs/Exact.antt: a mapped slot has 10 to 1280 digits, each 0, 1 or 2.
-- Assumes nothing.
use mathlib.Core.Path.{◌≡◌, refl, sym, ap, ◌∙◌}
use mathlib.Core.Bool.{true}
use Prim.Native.Nat.{ℕ, ◌≤◌}
use native.Mathlib.Omega.{arith}
use borrow.Author.Tests.{leb-true, le-leb}
use lib.Dec.{leb}
use lib.ListN.{length}
use Rattle.run.specs.Verdict.{Verdict}
use Rattle.run.specs.First.{first_bad, Every}
use Rattle.run.proofs.First.{every_by}
use Rattle.run.proofs.Chain.{leaves_done}
use Rattle.dpch.specs.Formats.{formats, format_of}
use Rattle.dpch.proofs.Exact.{format_sizes}
use Rattle.slot.specs.Rule.{slot_of}
use Rattle.slot.specs.Outcome.{map_verdict}
use Rattle.slot.proofs.Laws.{normal_row}
use Rattle.slot.proofs.Accept.{mapped}
use Rattle.slot.proofs.Rows.{mapped_digits_ok}
use Rattle.slot.proofs.Exact.{slot_placed}
use Rattle.bank.specs.Slots.{is_length}
use Rattle.bank.proofs.Again.{stores_good, gives_back}
use Rattle.bank_mapped.specs.Exact.{MappedBanked}

-- no slot format has fewer than 10 digits
slots_long : Every (λ (n : ℕ). leb 10 (format_of n).slot) 17
unfolding formats format_of first_bad
slots_long = every_by _ 17 refl

length_good : (format : ℕ) → format ≤ 16 → is_length (format_of format).slot ≡ true
unfolding is_length
length_good format h =
    let low = leb-true _ _ (slots_long format (omega arith)) in
    let high = (format_sizes format).short in
    rw (le-leb 10 (format_of format).slot low, le-leb (format_of format).slot 1280 high)

pub mapped_banked : MappedBanked
mapped_banked format slot tpc d tfci out answer digits p z =
    let v : (map_verdict format slot tpc d tfci (length out)).number ≡ 0 = ap (λ (w : Verdict). w.number) (sym p.verdict_is) ∙ z in
    let m = mapped format slot tpc d tfci (length out) v in
    let is : digits ≡ slot_of (format_of format) slot tpc d tfci = p.out_is ∙ leaves_done (map_verdict format slot tpc d tfci (length out)) (slot_of (format_of format) slot tpc d tfci) out v in
    let long : length (slot_of (format_of format) slot tpc d tfci) ≡ (format_of format).slot = (slot_placed format slot tpc d tfci m.head.ready.data_ok m.head.ready.tfci_ok).long in
    let good : is_length (length (slot_of (format_of format) slot tpc d tfci)) ≡ true = ap is_length long ∙ length_good format m.head.format_ok in
    let each =
    let below = m.head.slot_ok in
    (mapped_digits_ok (format_of format) (normal_row format m.head.format_ok) slot tpc d tfci (omega arith) m.head.ready.data_ok m.head.ready.tfci_ok m.fields).digits
    in
    rw is
    (record {
      takes = λ bank number e low new fits. stores_good bank number (slot_of (format_of format) slot tpc d tfci) e low good each new fits;
      gives_back = λ bank number answer after s done out told out-after same f. gives_back bank number (slot_of (format_of format) slot tpc d tfci) answer after s done out told out-after same f;
    })
