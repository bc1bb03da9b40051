-- docs/RULES.md, 'The random access desk'; TS 25.211, 5.3.3.7 (what an indicator says) and 7.3 (the distances): who is served in an access slot, and when.
-- Assumes nothing.
use Rattle.std.specs.Prelude.{ℕ, zero, suc, ◌+◌, ◌-◌, ◌%◌, Bool, cond, ◌&&◌, List, eqb, ltb, ℤ, pos, negsuc}
use Rattle.run.specs.Count.{count}
use Rattle.run.specs.Table.{tab}
use Rattle.aich.specs.Rule.{offers}

-- an available signature that was heard
unfoldable pub candidate : ℕ → ℕ → ℕ → Bool
candidate heard available s = offers heard s && offers available s

-- the place of signature s in circular order: 0 just after the last one served, 15 for that one itself
unfoldable pub place_of : ℕ → ℕ → ℕ
place_of last s = (s + 15 - last) % 16

-- the signature at a place
unfoldable pub signature_at : ℕ → ℕ → ℕ
signature_at last place = (last + 1 + place) % 16

-- ---- who is served, of the signatures that pass the test `asks`

-- how many of them come before signature s
unfoldable pub ahead : (ℕ → Bool) → ℕ → ℕ → ℕ
ahead asks last s = count 16 (λ (t : ℕ). asks t && ltb (place_of last t) (place_of last s))

-- those before which fewer than n stand
unfoldable pub served : (ℕ → Bool) → ℕ → ℕ → ℕ → Bool
served asks last n s = asks s && ltb (ahead asks last s) n

-- +1 for those, -1 for the others that ask, 0 for all else
unfoldable pub indicator_of : (ℕ → Bool) → ℕ → ℕ → ℕ → ℤ
indicator_of asks last n s = cond (asks s) (cond (ltb (ahead asks last s) n) (pos 1) (negsuc 0)) (pos 0)

unfoldable pub indicators_of : (ℕ → Bool) → ℕ → ℕ → List ℤ
indicators_of asks last n = tab 16 (indicator_of asks last n)

-- the last one served at the first m places; where nobody is, the one that was
unfoldable pub last_served : (ℕ → Bool) → ℕ → ℕ → ℕ → ℕ
last_served asks last n zero = last
last_served asks last n (suc m) = cond (served asks last n (signature_at last m)) (signature_at last m) (last_served asks last n m)

-- the desk after an access slot
abbrev pub last_after : (ℕ → Bool) → ℕ → ℕ → ℕ
last_after asks last n = last_served asks last n 16

-- a desk that has served nobody starts from signature 0
abbrev pub fresh_last : ℕ
fresh_last = 15

-- ---- TS 25.211, 7.3: chips from the start of a preamble, for AICH_Transmission_Timing 0 and 1

-- to the acquisition indicator
unfoldable pub to_aich : ℕ → ℕ
to_aich timing = cond (eqb timing 0) 7680 12800

-- to the message part
unfoldable pub to_message : ℕ → ℕ
to_message timing = cond (eqb timing 0) 15360 20480
