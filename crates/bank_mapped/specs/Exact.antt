-- docs/RULES.md, 'Bank': a bank takes the slots that the mapper of the downlink DPCH writes, and gives them back. Proved in proofs/Exact.antt under its name in small letters.
-- Assumes nothing.
use Rattle.std.specs.Prelude.{ℕ, ◌+◌, ◌≤◌, ◌≡◌, true, false, List, length}
use Rattle.run.specs.Verdict.{Verdict}
use Rattle.run.specs.Verdicts.{done}
use Rattle.slot.specs.Outcome.{Map}
use Rattle.bank.specs.Slots.{has, taken, is_number}
use Rattle.bank.specs.Layout.{slots_in, is_bank}
use Rattle.bank.specs.Outcome.{store_verdict, Store, Fetch}

-- a bank takes the digits under a number that is free, where there is room; and a fetch gives back what was stored
pub record Banked (digits : List ℕ) : Type 0 where
  pub takes : (bank : List ℕ) (number : ℕ) → is_bank bank ≡ true → is_number number ≡ true → has number (slots_in bank) ≡ false
      → taken (slots_in bank) + (4 + length digits) ≤ length bank → store_verdict bank number digits ≡ done
  pub gives_back : (bank : List ℕ) (number : ℕ) (answer : Verdict) (bank_after : List ℕ) → Store bank number digits answer bank_after → answer.number ≡ 0
      → (out : List ℕ) (told : Verdict) (out_after : List ℕ) → length out ≡ length digits → Fetch bank_after number out told out_after → (told ≡ done) × (out_after ≡ digits)

-- every slot that `slot_map::map` writes
abbrev pub MappedBanked : Type 0
MappedBanked =
    (format slot tpc : ℕ) (d tfci out : List ℕ) (answer : Verdict) (digits : List ℕ) → Map format slot tpc d tfci out answer digits → answer.number ≡ 0 → Banked digits
