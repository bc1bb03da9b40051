-- The kinds in code: the byte that stands for each, and what the code says of a record's first two bytes in the words of specs/Rule.antt.
-- Assumes nothing.
use Rattle.std.specs.Prelude.{ℕ, ◌≡◌, false, Result, MatchResult}
use Rattle.run.specs.Answers.{verdict_of}
use Rattle.kinds.specs.declared.Kind.{Kind}
use Rattle.kinds.specs.declared.Kind.TheVariants.{Aich, Pich, Dpch}
use Rattle.kinds.specs.declared.Shape.{Shape as Found}
use Rattle.kinds.specs.declared.UnknownKind.{UnknownKind}
use Rattle.kinds.specs.Rule.{aich_kind, pich_kind, dpch_kind, is_kind, Shape}

abbrev pub byte_of : Kind → ℕ
byte_of Aich = aich_kind
byte_of Pich = pich_kind
byte_of Dpch = dpch_kind

-- the kind that a byte stands for, where there is one
abbrev pub Names : ℕ → Result Kind UnknownKind → Type 0
Names byte kind = MatchResult kind (λ k. byte_of k ≡ byte) (λ e. (e.0 ≡ byte) × (is_kind byte ≡ false))

abbrev pub told : Found → Shape
told s = record { known = s.known; verdict = verdict_of s.second; size = s.size }
