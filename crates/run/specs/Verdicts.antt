-- docs/RULES.md, 'Numbers a call can return': the first check that fails is told, and within one check the lowest place.
-- Assumes nothing.
use Rattle.std.specs.Prelude.{ℕ, zero, suc, ◌+◌, ◌<◌, Bool, true, cond, List, length, get_or, eqb}
use Rattle.run.specs.Verdict.{Verdict}
use Rattle.run.specs.First.{first_bad, all}
use Rattle.run.specs.Refusals.{length_refused}

abbrev pub refused : ℕ → ℕ → Verdict
refused number place = record { number = number; place = place }

-- number 0, and place 0
abbrev pub done : Verdict
done = refused 0 0

-- the first of two checks that refuses
unfoldable pub or_else : Verdict → Verdict → Verdict
or_else v w = cond (eqb v.number 0) w v

-- refused with a number and a place where the test fails
unfoldable pub unless : Bool → ℕ → ℕ → Verdict
unless ok number place = cond ok done (refused number place)

-- refused at the first of n places at which the test fails; places count from base
unfoldable pub each : ℕ → ℕ → (ℕ → Bool) → ℕ → Verdict
each base number ok n = unless (all n ok) number (base + first_bad ok n)

-- 3 at the first lent run that has the wrong length: whether each of a call's runs has its own, in the order of the call
unfoldable pub lengths : List Bool → Verdict
lengths right = each 0 length_refused (λ (k : ℕ). get_or right k true) (length right)

-- the first of n verdicts that refuses, as of slots one by one
unfoldable pub chain : ℕ → (ℕ → Verdict) → Verdict
chain zero v = done
chain (suc n) v = or_else (v 0) (chain n (λ (k : ℕ). v (suc k)))

-- what a lent run holds, or a value is, afterwards: the new where the call is done, the old where it is refused
unfoldable pub leaves : {A : Type 0} → Verdict → A → A → A
leaves v new old = cond (eqb v.number 0) new old

-- number and place fit 16 and 32 bits
pub record Narrow (v : Verdict) : Type 0 where
  pub number_fits : v.number < 65536
  pub place_fits : v.place < 4294967296
