-- What an answer of a C call tells, and that a promise allows one answer. Proved in proofs/Exact.antt, each under its name in small letters.
-- Assumes nothing.
use Rattle.std.specs.Prelude.{ℕ, ◌≡◌, List, [], get_or}
use Rattle.run.specs.Verdict.{Verdict}
use Rattle.run.specs.Verdicts.{leaves}
use Rattle.dpch.specs.Compressed.{format_in}
use Rattle.dpch.specs.Heads.{frame_head}
use Rattle.compressed.specs.Outcome.{gap_head}
use Rattle.lengths.specs.Rule.{slot_lengths_of, frame_lengths_of, compressed_lengths_of, dpdch_lengths_of, dpcch_lengths_of, dpcch_frame_lengths_of, hspdsch_lengths_of}
use Rattle.lengths.specs.Outcome.{told_verdict}
use Rattle.packed.specs.Exact.{Tells}
use Rattle.slt_lengths.specs.Outcome.{LengthTold}

-- number, place and length are had back from an answer
abbrev TellsLength : Verdict → List ℕ → Type 0
TellsLength head runs =
    (run answer : ℕ) → LengthTold head runs run answer → Tells answer (told_verdict head runs run) (leaves (told_verdict head runs run) (get_or runs run 0) 0)

-- .. of every call
pub record LengthsTell : Type 0 where
  pub of_slot : (format : ℕ) → TellsLength (frame_head 16 format []) (slot_lengths_of format)
  pub of_frame : (format : ℕ) → TellsLength (frame_head 16 format []) (frame_lengths_of format)
  pub of_compressed : (format kind first missing : ℕ) → TellsLength (gap_head (format_in kind format) first missing []) (compressed_lengths_of kind format missing)
  pub of_dpdch : (format : ℕ) → TellsLength (frame_head 6 format []) (dpdch_lengths_of 1 format)
  pub of_dpdch_frame : (format : ℕ) → TellsLength (frame_head 6 format []) (dpdch_lengths_of 15 format)
  pub of_dpcch : (format : ℕ) → TellsLength (frame_head 3 format []) (dpcch_lengths_of format)
  pub of_dpcch_frame : (format : ℕ) → TellsLength (frame_head 3 format []) (dpcch_frame_lengths_of format)
  pub of_hspdsch : (format : ℕ) → TellsLength (frame_head 1 format []) (hspdsch_lengths_of format)

-- two answers that a promise allows are equal
abbrev pub LengthsOnce : Type 0
LengthsOnce = (head : Verdict) (runs : List ℕ) (run a b : ℕ) → LengthTold head runs run a → LengthTold head runs run b → a ≡ b
