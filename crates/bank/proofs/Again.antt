-- A slot that is stored is taken where it is good, and is fetched as it was stored.
-- Assumes nothing.
use mathlib.Core.Path.{◌≡◌, refl, sym, ap, ◌∙◌}
use mathlib.Core.Bool.{Bool, true, false, cond, not, ◌||◌, false≢true}
use mathlib.Core.List.{List, [], ◌∷◌, ◌++◌}
use Prim.Native.Nat.{ℕ, ◌+◌, ◌≤◌}
use borrow.Author.Tests.{le-leb, eq-eqb}
use lib.Dec.{eqb}
use lib.ListN.{length}
use Rattle.run.specs.Verdict.{Verdict}
use Rattle.run.specs.First.{Every, at_most}
use Rattle.run.specs.Verdicts.{done}
use Rattle.run.proofs.Chain.{or_else_pass, unless_pass, each_pass, leaves_done, number_0}
use Rattle.bank.specs.Slots.{Slot, has, stored, fetched, taken, is_number, is_length}
use Rattle.bank.specs.Plain.{store_plain, drop_plain, fetch_plain, stores, after}
use Rattle.bank.specs.Layout.{slots_in, is_bank}
use Rattle.bank.specs.Outcome.{store_verdict, Store, Fetch}
use Rattle.bank.proofs.Calls.{store_done}
use Rattle.bank.proofs.Exact.{seen}
use Rattle.bank.proofs.Reading.{holds_slots, holds_bank}

pub stores_good : (bank : List ℕ) (number : ℕ) (slot : List ℕ) → is_bank bank ≡ true → is_number number ≡ true → is_length (length slot) ≡ true → Every (at_most 2 slot) (length slot)
    → has number (slots_in bank) ≡ false → taken (slots_in bank) + (4 + length slot) ≤ length bank → store_verdict bank number slot ≡ done
unfolding store_verdict store_plain
stores_good bank number slot e low long digits new fits =
    or_else_pass (unless_pass 28 0 e)
    (or_else_pass (unless_pass 11 0 low)
    (or_else_pass (unless_pass 3 0 long)
    (or_else_pass (each_pass 0 4 _ _ digits)
    (or_else_pass (unless_pass 30 0 (ap not new)) (unless_pass 31 0 (le-leb _ _ fits))))))

-- the slot that came last is found behind others with other numbers
has_last : (s : Slot) (ss : List Slot) → has s.number (ss ++ s ∷ []) ≡ true
unfolding has
has_last s [] = rw (eq-eqb s.number s.number refl)
has_last s (p ∷ ss) = side (eqb p.number s.number) (has_last s ss)
  where
    side : (b : Bool) → has s.number (ss ++ s ∷ []) ≡ true → (b || has s.number (ss ++ s ∷ [])) ≡ true
    side true h = refl
    side false h = h

fetched_last : (s : Slot) (ss : List Slot) → has s.number ss ≡ false → fetched s.number (ss ++ s ∷ []) ≡ s.digits
unfolding has fetched
fetched_last s [] new = rw (eq-eqb s.number s.number refl)
fetched_last s (p ∷ ss) new = side (eqb p.number s.number) new (fetched_last s ss)
  where
    side : (b : Bool) → (b || has s.number ss) ≡ false → (has s.number ss ≡ false → fetched s.number (ss ++ s ∷ []) ≡ s.digits)
        → cond b p.digits (fetched s.number (ss ++ s ∷ [])) ≡ s.digits
    side true h rest = absurd (false≢true (sym h))
    side false h rest = rest h

fetch_done : (ss : List Slot) (number n : ℕ) → is_number number ≡ true → has number ss ≡ true → n ≡ length (fetched number ss) → fetch_plain ss number n ≡ done
unfolding fetch_plain drop_plain
fetch_done ss number n low there long = or_else_pass (or_else_pass (unless_pass 11 0 low) (unless_pass 29 0 there)) (unless_pass 3 0 (eq-eqb _ _ long))

module _ (bank : List ℕ) (number : ℕ) (slot : List ℕ) (answer : Verdict) (bank_after : List ℕ) (p : Store bank number slot answer bank_after) (z : answer.number ≡ 0) where
  told : (store_verdict bank number slot).number ≡ 0
  told = ap (λ (v : Verdict). v.number) (sym p.verdict_is) ∙ z

  slots_after : after (length bank) (slots_in bank) (stores number slot) ≡ stored (slots_in bank) (record { number = number; digits = slot })
  unfolding after
  slots_after =
      let s = store_done bank number slot told in
      leaves_done (store_plain (length bank) (slots_in bank) number slot) _ _ (ap (λ (v : Verdict). v.number) (sym (seen.store bank number slot answer bank_after p s.bank).0) ∙ z)

  pub gives_back : (out : List ℕ) (answer' : Verdict) (out_after : List ℕ) → length out ≡ length slot → Fetch bank_after number out answer' out_after → (answer' ≡ done) × (out_after ≡ slot)
  gives_back out answer' out_after long f =
      let s = store_done bank number slot told in
      let new : Slot = record { number = number; digits = slot } in
      let h = (seen.store bank number slot answer bank_after p s.bank).1.holds in
      let is : slots_in bank_after ≡ stored (slots_in bank) new = holds_slots h ∙ slots_after in
      let got : fetched number (slots_in bank_after) ≡ slot = ap (fetched number) is ∙ fetched_last new (slots_in bank) s.new in
      let there : has number (slots_in bank_after) ≡ true = ap (has number) is ∙ has_last new (slots_in bank) in
      let plain = fetch_done (slots_in bank_after) number (length out) s.low there (long ∙ ap length (sym got)) in
      let call = seen.fetch bank_after number out answer' out_after f (holds_bank h) in
      (call.0 ∙ plain, call.1 ∙ leaves_done _ _ _ (number_0 plain) ∙ got)
