-- The theorem of specs/Exact.antt.
-- Assumes nothing.
use Rattle.signature.specs.Exact.{Rows}
use Rattle.signature.proofs.Signs.{sign_second, dot}

pub rows : Rows
rows = record { orthogonal = dot; pairs = sign_second }
