-- What a copy leaves in the run that it writes.
-- Assumes nothing.
use Rattle.std.specs.Prelude.{List, ◌++◌, length, take, drop}

-- dst with src over its front, as far as the shorter of the two goes
unfoldable pub over : {A : Type 0} → List A → List A → List A
over src dst = take (length dst) src ++ drop (length src) dst
