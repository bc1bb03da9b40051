-- What an answer of a C call tells, and that a promise allows one outcome. Proved in proofs/Exact.antt, each under its name in small letters.
-- Assumes nothing.
use Rattle.std.specs.Prelude.{ℕ, ◌-◌, ◌≡◌, List, length}
use Rattle.run.specs.Verdicts.{leaves}
use Rattle.bank.specs.Slots.{fetched, taken}
use Rattle.bank.specs.Layout.{slots_in}
use Rattle.bank.specs.Outcome.{empty_verdict, store_verdict, drop_verdict, fetch_verdict, room_verdict}
use Rattle.packed.specs.Exact.{Tells}
use Rattle.slt_bank.specs.Outcome.{BankEmpty, BankStore, BankFetch, BankDrop, BankLength, BankRoom}

-- what an answer tells of the call
pub record BankTells : Type 0 where
  pub empty : (bank : List ℕ) (answer : ℕ) (after : List ℕ) → BankEmpty bank answer after → Tells answer (empty_verdict (length bank)) 0
  pub store : (bank : List ℕ) (number : ℕ) (slot : List ℕ) (answer : ℕ) (after : List ℕ) → BankStore bank number slot answer after → Tells answer (store_verdict bank number slot) 0
  pub fetch : (bank : List ℕ) (number : ℕ) (out : List ℕ) (answer : ℕ) (after : List ℕ) → BankFetch bank number out answer after → Tells answer (fetch_verdict bank number (length out)) 0
  pub drop : (bank : List ℕ) (number answer : ℕ) (after : List ℕ) → BankDrop bank number answer after → Tells answer (drop_verdict bank number) 0
  pub length_of : (bank : List ℕ) (number answer : ℕ) → BankLength bank number answer
      → Tells answer (drop_verdict bank number) (leaves (drop_verdict bank number) (length (fetched number (slots_in bank))) 0)
  pub room : (bank : List ℕ) (answer : ℕ) → BankRoom bank answer → Tells answer (room_verdict bank) (leaves (room_verdict bank) (length bank - taken (slots_in bank)) 0)

-- two outcomes that a promise allows are equal
pub record BankOnce : Type 0 where
  pub empty : (bank : List ℕ) (a b : ℕ) (x y : List ℕ) → BankEmpty bank a x → BankEmpty bank b y → (a ≡ b) × (x ≡ y)
  pub store : (bank : List ℕ) (number : ℕ) (slot : List ℕ) (a b : ℕ) (x y : List ℕ) → BankStore bank number slot a x → BankStore bank number slot b y → (a ≡ b) × (x ≡ y)
  pub fetch : (bank : List ℕ) (number : ℕ) (out : List ℕ) (a b : ℕ) (x y : List ℕ) → BankFetch bank number out a x → BankFetch bank number out b y → (a ≡ b) × (x ≡ y)
  pub drop : (bank : List ℕ) (number a b : ℕ) (x y : List ℕ) → BankDrop bank number a x → BankDrop bank number b y → (a ≡ b) × (x ≡ y)
  pub length_of : (bank : List ℕ) (number a b : ℕ) → BankLength bank number a → BankLength bank number b → a ≡ b
  pub room : (bank : List ℕ) (a b : ℕ) → BankRoom bank a → BankRoom bank b → a ≡ b
