-- The number of a verdict is one of those of its checks.
-- Assumes nothing.
use mathlib.Core.Path.{◌≡◌, refl, subst}
use mathlib.Core.Bool.{Bool, true, false, cond, ◌||◌, false≢true}
use mathlib.Core.List.{List, [], ◌∷◌}
use Prim.Native.Nat.{ℕ, zero, suc}
use lib.Dec.{eqb, eqb→eq}
use Rattle.run.specs.Verdict.{Verdict}
use Rattle.run.specs.Verdicts.{refused, or_else, unless, each, lengths, chain}
use Rattle.dpch.specs.Heads.{frame_head, slot_head}
use Rattle.packed.specs.Rule.{number_in}
use Rattle.packed.specs.Exact.{Tells}
use Rattle.numbers.specs.Rule.{Call}
use Rattle.numbers.specs.Outcome.{Answered}
use Rattle.numbers.specs.Exact.{listed, Gives}

-- a number is 0 or one of these
abbrev pub Has : List ℕ → ℕ → Type 0
Has r number = listed (0 ∷ r) number ≡ true

-- .. and a verdict's is
pub record Among (r : List ℕ) (v : Verdict) : Type 0 where
  pub has : Has r v.number

-- an answer tells its verdict's number
pub told : {r : List ℕ} {answer : ℕ} {v : Verdict} {value : ℕ} → Tells answer v value → Among r v → Has r (number_in answer)
told t a = rw t.number_is a.has

module _ {r : List ℕ} where
  pub done_among : (place : ℕ) → Among r (refused 0 place)
  unfolding listed
  done_among place = record { has = refl }

  pub or_else_among : {v w : Verdict} → Among r v → Among r w → Among r (or_else v w)
  unfolding or_else
  or_else_among {v} {w} p q = pick (eqb v.number 0)
    where
      pick : (b : Bool) → Among r (cond b w v)
      pick true = q
      pick false = p

  pub unless_among : (ok : Bool) (number place : ℕ) → Has r number → Among r (unless ok number place)
  unfolding unless
  unless_among true number place h = done_among 0
  unless_among false number place h = record { has = h }

  -- a check, and what comes after it
  pub check_among : (ok : Bool) (number place : ℕ) {w : Verdict} → Has r number → Among r w → Among r (or_else (unless ok number place) w)
  check_among ok number place h q = or_else_among (unless_among ok number place h) q

  pub each_among : (base number : ℕ) (ok : ℕ → Bool) (n : ℕ) → Has r number → Among r (each base number ok n)
  unfolding each
  each_among base number ok n h = unless_among _ number _ h

  pub lengths_among : (right : List Bool) → Has r 3 → Among r (lengths right)
  unfolding lengths
  lengths_among right h = each_among _ 3 _ _ h

  pub chain_among : (n : ℕ) (v : ℕ → Verdict) → ((k : ℕ) → Among r (v k)) → Among r (chain n v)
  unfolding chain
  chain_among zero v all = done_among 0
  chain_among (suc n) v all = or_else_among (all 0) (chain_among n (λ (k : ℕ). v (suc k)) (λ k. all (suc k)))

  pub frame_head_among : (last format : ℕ) (right : List Bool) → Has r 1 → Has r 3 → Among r (frame_head last format right)
  unfolding frame_head
  frame_head_among last format right one three = check_among _ 1 _ one (lengths_among right three)

  pub slot_head_among : (last format slot : ℕ) (right : List Bool) → Has r 1 → Has r 2 → Has r 3 → Among r (slot_head last format slot right)
  unfolding slot_head
  slot_head_among last format slot right one two three = check_among _ 1 _ one (check_among _ 2 _ two (lengths_among right three))

-- ---- numbers that are given
-- a proof for each number of a list
pub data Each (P : ℕ → Type 0) : List ℕ → Type 0 where
  end : Each P []
  ◌▸◌ : {n : ℕ} {ns : List ℕ} → P n → Each P ns → Each P (n ∷ ns)

infixr 5 ◌▸◌
-- .. is one for every number that is listed
pub of_listed : {P : ℕ → Type 0} (ns : List ℕ) → Each P ns → (n : ℕ) → listed ns n ≡ true → P n
unfolding listed
of_listed [] end n h = absurd (false≢true h)
of_listed {P} (m ∷ ns) (p ▸ ps) n h = pick (λ (t : listed ns n ≡ true). of_listed ns ps n t) (eqb m n) refl h
  where
    pick : (listed ns n ≡ true → P n) → (b : Bool) → eqb m n ≡ b → (b || listed ns n) ≡ true → P n
    pick later true same t = subst P (eqb→eq m n (rw same tt)) p
    pick later false other t = later t

-- an answer of a call that has the number
pub gives : {call : Call} {answer : ℕ} {number : ℕ} → Answered call answer → number_in answer ≡ number → Gives call number
gives a is = record { answer = _; answered = a; number_is = is }
