-- A run made of parts of one length.
-- Assumes nothing.
use Rattle.std.specs.Prelude.{ℕ, ◌*◌, List, take, drop}

-- part k of a run whose parts have n entries each
unfoldable pub part : {A : Type 0} → ℕ → ℕ → List A → List A
part k n s = take n (drop (k * n) s)
