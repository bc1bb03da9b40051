-- What an answer of a C call tells, and that a promise allows one outcome. Proved in proofs/Exact.antt, each under its name in small letters.
-- Assumes nothing.
use Rattle.std.specs.Prelude.{ℕ, ◌≡◌, List, length, ℤ}
use Rattle.run.specs.Verdicts.{leaves}
use Rattle.desk.specs.Rule.{to_aich, to_message}
use Rattle.desk.specs.Outcome.{serve_verdict, timing_verdict}
use Rattle.packed.specs.Exact.{Tells}
use Rattle.slt_desk.specs.Outcome.{DeskServe, DeskToAich, DeskToMessage}

-- what an answer tells of the call
pub record DeskTells : Type 0 where
  pub serve : (last heard available n : ℕ) (values : List ℤ) (answer last_after : ℕ) (after : List ℤ)
      → DeskServe last heard available n values answer last_after after → Tells answer (serve_verdict last n (length values)) 0
  pub to_aich_lem : (timing answer : ℕ) → DeskToAich timing answer → Tells answer (timing_verdict timing) (leaves (timing_verdict timing) (to_aich timing) 0)
  pub to_message_lem : (timing answer : ℕ) → DeskToMessage timing answer → Tells answer (timing_verdict timing) (leaves (timing_verdict timing) (to_message timing) 0)

-- two outcomes that a promise allows are equal
pub record DeskOnce : Type 0 where
  pub serve : (last heard available n : ℕ) (values : List ℤ) (a b k l : ℕ) (x y : List ℤ)
      → DeskServe last heard available n values a k x → DeskServe last heard available n values b l y → (a ≡ b) × (k ≡ l) × (x ≡ y)
  pub to_aich_lem : (timing a b : ℕ) → DeskToAich timing a → DeskToAich timing b → a ≡ b
  pub to_message_lem : (timing a b : ℕ) → DeskToMessage timing a → DeskToMessage timing b → a ≡ b
