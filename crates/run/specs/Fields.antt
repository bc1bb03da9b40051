-- A run made of fields, one after the other, each beginning where the field before it ends; for any list of widths.
-- Assumes nothing.
use Rattle.std.specs.Prelude.{ℕ, ◌+◌, List, [], ◌∷◌, ◌++◌, get_or, take, drop}

-- the digits of all fields
unfoldable pub total : List ℕ → ℕ
total [] = 0
total (w ∷ ws) = w + total ws

-- the run cut into fields of the given widths
unfoldable pub cut : {A : Type 0} → List ℕ → List A → List (List A)
cut [] s = []
cut (w ∷ ws) s = take w s ∷ cut ws (drop w s)

-- the fields joined to a run
unfoldable pub joined : {A : Type 0} → List (List A) → List A
joined [] = []
joined (f ∷ fs) = f ++ joined fs

-- field k of a run, and where it begins
unfoldable pub field : {A : Type 0} → ℕ → List ℕ → List A → List A
field k ws s = get_or (cut ws s) k []

unfoldable pub start : ℕ → List ℕ → ℕ
start k ws = total (take k ws)
