-- A run whose length is right is a slot; and a slot's pilot, compared in its lent stretch.
-- Assumes nothing.
use mathlib.Core.Path.{◌≡◌, ap, sym, ◌∙◌}
use mathlib.Core.Bool.{not}
use mathlib.Core.List.{List}
use Prim.Native.Nat.{ℕ, ◌+◌, ◌-◌, ◌≤◌, min}
use native.Mathlib.Omega.{arith}
use borrow.Author.Tests.{eqb-true}
use lib.ListN.{length, take, drop}
use lib.Dec.{leb, eqb, lit<}
use Rattle.std.specs.Prelude.{Option}
use Rattle.std.specs.Option.{unwrap_or}
use Rattle.std.specs.List.{position, zip}
use Rattle.run.specs.Verdict.{Verdict}
use Rattle.run.specs.First.{first_bad, agree}
use Rattle.run.specs.Verdicts.{done, unless, each}
use Rattle.run.specs.Fields.{start}
use Rattle.run.proofs.Chain.{unless_done, number_0}
use Rattle.run.proofs.Places.{difference_first}
use Rattle.run.proofs.Stretch.{lent_long, check_pattern}
use Rattle.dpch.specs.declared.Format.{Format}
use Rattle.dpch.specs.Formats.{widths}
use Rattle.dpch.specs.Compressed.{pilot_for, source_for}
use Rattle.slot.specs.Rule.{pilot_in}
use Rattle.slot.specs.Ready.{Sound, Whole}
use Rattle.slot.proofs.Laws.{sum}

pub whole : {f : Format} (xs : List ℕ) → Sound f → done ≡ unless (eqb (length xs) f.slot) 3 0 → Whole f (length xs)
whole xs s e = record { sound = s; slot_ok = eqb-true _ _ (unless_done _ 3 0 (lit< tt) (number_0 (sym e))) }

-- its fields end where it does
pub sums : (f : Format) (xs : List ℕ) → Sound f → done ≡ unless (eqb (length xs) f.slot) 3 0
    → (f.data1 + f.tpc + f.tfci + f.data2 + f.pilot ≡ length xs) × (length xs ≤ 1280)
sums f xs s e =
    let n = sum f s in
    let w = (whole xs s e).slot_ok in
    let short = s.short in
    (omega arith, omega arith)

-- a run compared with one that is no shorter
found_in : (s t : List ℕ) {r : Option ℕ} → length s ≤ length t → r ≡ position (λ p. not (eqb p.0 p.1)) (zip s t)
    → unwrap_or r (length s) ≡ first_bad (agree s t) (min (length s) (length t))
found_in s t {r} h e =
    let all : length s ≡ min (length s) (length t) = omega arith in
    ap (λ (n : ℕ). unwrap_or r n) all ∙ difference_first s t e

pub check_pilot : (f : Format) (xs : List ℕ) (w : Whole f (length xs)) (slot a e : ℕ) → a ≡ start 4 (widths f) → e ≡ a + f.pilot → (base number : ℕ) (found : Option ℕ) {r : Verdict}
    → found ≡ position (λ p. not (eqb p.0 p.1)) (zip (take (e - a) (drop a xs)) (source_for f.kind (length (take (e - a) (drop a xs))) slot))
    → r ≡ unless (leb (length (take (e - a) (drop a xs))) (unwrap_or found (length (take (e - a) (drop a xs))))) number (base + a + unwrap_or found (length (take (e - a) (drop a xs))))
    → r ≡ each (base + start 4 (widths f)) number (agree (pilot_in f xs) (pilot_for f.kind f.pilot slot)) (length (pilot_in f xs))
check_pilot f xs w slot a e p q base number found {r} h is =
    let cut = w.sound.pilot slot in
    let fills = w.sound.fills in
    let long = w.slot_ok in
    let n = lent_long (widths f) xs 4 a e (lit< tt) p q (omega arith) in
    let field = take (e - a) (drop a xs) in
    check_pattern (widths f) xs 4 a e (lit< tt) p q (omega arith)
    (λ (n : ℕ). source_for f.kind n slot) (pilot_for f.kind f.pilot slot) cut.cut_from cut.enough base number (unwrap_or found (length field)) r
    (found_in field (source_for f.kind (length field) slot) (rw n cut.enough) h) is
