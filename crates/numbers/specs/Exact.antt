-- Which numbers a C call can answer: 0 and those of its list, each for some arguments, and no other for any (docs/RULES.md, 'Numbers a call can return'). Proved in proofs/Exact.antt under
-- its name in small letters.
-- Assumes nothing.
use Rattle.std.specs.Prelude.{ℕ, ◌≡◌, ◌↔◌, Bool, true, false, ◌||◌, List, [], ◌∷◌, eqb}
use Rattle.packed.specs.Rule.{number_in}
use Rattle.numbers.specs.Rule.{Call, refusals}
use Rattle.numbers.specs.Outcome.{Answered}

-- whether a number is one of a list
unfoldable pub listed : List ℕ → ℕ → Bool
listed [] n = false
listed (m ∷ ms) n = eqb m n || listed ms n

-- whether it is 0 or a refusal of the call
abbrev pub is_number_of : Call → ℕ → Bool
is_number_of call = listed (0 ∷ refusals call)

-- a call gives a number: some answer of it has that number
pub record Gives (call : Call) (number : ℕ) : Type 0 where
  pub answer : ℕ
  pub answered : Answered call answer
  pub number_is : number_in answer ≡ number

-- a call gives these numbers and no other
abbrev pub Numbers : Type 0
Numbers = (call : Call) (number : ℕ) → Gives call number ↔ (is_number_of call number ≡ true)
