-- The bank of slots for C: the answer of the call behind each function, packed, and the same lent runs (docs/RULES.md, 'Packed answers').
-- Assumes nothing.
use Rattle.std.specs.Prelude.{ℕ, ◌-◌, ◌≡◌, List, [], length}
use Rattle.run.specs.Verdicts.{leaves}
use Rattle.run.specs.Written.{over}
use Rattle.bank.specs.Slots.{stored, fetched, without, taken}
use Rattle.bank.specs.Layout.{layout, slots_in}
use Rattle.bank.specs.Outcome.{empty_verdict, store_verdict, drop_verdict, fetch_verdict, room_verdict}
use Rattle.packed.specs.Rule.{packed}

pub record BankEmpty (bank : List ℕ) (answer : ℕ) (bank_after : List ℕ) : Type 0 where
  pub answer_is : answer ≡ packed (empty_verdict (length bank)) 0
  pub bank_is : bank_after ≡ leaves (empty_verdict (length bank)) (over (layout []) bank) bank

pub record BankStore (bank : List ℕ) (number : ℕ) (slot : List ℕ) (answer : ℕ) (bank_after : List ℕ) : Type 0 where
  pub answer_is : answer ≡ packed (store_verdict bank number slot) 0
  pub bank_is :
      bank_after
      ≡ leaves (store_verdict bank number slot) (over (layout (stored (slots_in bank) (record { number = number; digits = slot }))) bank) bank

pub record BankFetch (bank : List ℕ) (number : ℕ) (out : List ℕ) (answer : ℕ) (out_after : List ℕ) : Type 0 where
  pub answer_is : answer ≡ packed (fetch_verdict bank number (length out)) 0
  pub out_is : out_after ≡ leaves (fetch_verdict bank number (length out)) (fetched number (slots_in bank)) out

pub record BankDrop (bank : List ℕ) (number : ℕ) (answer : ℕ) (bank_after : List ℕ) : Type 0 where
  pub answer_is : answer ≡ packed (drop_verdict bank number) 0
  pub bank_is : bank_after ≡ leaves (drop_verdict bank number) (over (layout (without number (slots_in bank))) bank) bank

pub record BankLength (bank : List ℕ) (number answer : ℕ) : Type 0 where
  pub answer_is : answer ≡ packed (drop_verdict bank number) (leaves (drop_verdict bank number) (length (fetched number (slots_in bank))) 0)

pub record BankRoom (bank : List ℕ) (answer : ℕ) : Type 0 where
  pub answer_is : answer ≡ packed (room_verdict bank) (leaves (room_verdict bank) (length bank - taken (slots_in bank)) 0)
