-- The lengths told are those that the mappers ask for. Each theorem is proved in proofs/Exact.antt under its name in small letters.
-- Assumes nothing.
use Rattle.std.specs.Prelude.{ℕ, ◌<◌, ◌≡◌, Bool, List, [], ◌∷◌, length, get_or, eqb, leb}
use Rattle.run.specs.Verdict.{Verdict}
use Rattle.run.specs.First.{at_most}
use Rattle.run.specs.Refusals.{format_refused, slot_refused, range_refused, digit_refused}
use Rattle.run.specs.Verdicts.{or_else, unless, each, lengths, Narrow}
use Rattle.dpch.specs.Compressed.{format_in}
use Rattle.dpch.specs.Heads.{slot_head, frame_head}
use Rattle.slot.specs.Outcome as slot
use Rattle.antenna.specs.Outcome as antenna
use Rattle.frame.specs.Outcome as frame
use Rattle.compressed.specs.Outcome as compressed
use Rattle.compressed.specs.Outcome.{gap_head}
use Rattle.dpdch.specs.Outcome as dpdch
use Rattle.dpcch.specs.Outcome as dpcch
use Rattle.hspdsch.specs.Outcome as hspdsch
use Rattle.lengths.specs.Length.{Length}
use Rattle.lengths.specs.Rule.{slot_lengths_of, frame_lengths_of, compressed_lengths_of, dpdch_lengths_of, dpcch_lengths_of, dpcch_frame_lengths_of, hspdsch_lengths_of}
use Rattle.lengths.specs.Outcome.{told_verdict, Told}

-- of each lent run whether it is as long as told
unfoldable pub as_told : List ℕ → List ℕ → List Bool
as_told [] _ = []
as_told (n ∷ ns) [] = []
as_told (n ∷ ns) (m ∷ ms) = eqb n m ∷ as_told ns ms

-- every mapper asks its runs, in this order, for just the lengths that are told of its format, and for nothing else in this check
pub record Asked : Type 0 where
  pub of_slot : (format k a b c : ℕ) → slot.map_head format k a b c ≡ slot_head 16 format k (as_told (a ∷ b ∷ c ∷ []) (slot_lengths_of format))
  pub of_antenna : (format k sender a b c : ℕ)
      → antenna.map_head format k sender a b c
      ≡ or_else (unless (leb format 16) format_refused 0)
      (or_else (unless (leb k 14) slot_refused 0)
      (or_else (unless (leb sender 1) range_refused 0)
      (lengths (as_told (a ∷ b ∷ c ∷ []) (slot_lengths_of format)))))
  pub of_frame : (format a b c d : ℕ) → frame.map_head format a b c d ≡ frame_head 16 format (as_told (a ∷ b ∷ c ∷ d ∷ []) (frame_lengths_of format))
  pub of_compressed : (format kind first missing a b c d : ℕ)
      → compressed.map_head (format_in kind format) first missing a b c d
      ≡ gap_head (format_in kind format) first missing (as_told (a ∷ b ∷ c ∷ d ∷ []) (compressed_lengths_of kind format missing))
  pub of_dpdch : (slots format : ℕ) (input : List ℕ) (b : ℕ)
      → dpdch.slots_verdict slots format input b
      ≡ or_else (frame_head 6 format (as_told (length input ∷ b ∷ []) (dpdch_lengths_of slots format))) (each 0 digit_refused (at_most 1 input) (length input))
  pub of_dpcch : (format k a b c : ℕ) → dpcch.map_head format k a b c ≡ slot_head 3 format k (as_told (a ∷ b ∷ c ∷ []) (dpcch_lengths_of format))
  pub of_dpcch_frame : (format a b c d : ℕ)
      → dpcch.frame_map_head format a b c d ≡ frame_head 3 format (as_told (a ∷ b ∷ c ∷ d ∷ []) (dpcch_frame_lengths_of format))
  pub of_hspdsch : (format : ℕ) (input : List ℕ) (b c : ℕ)
      → hspdsch.map_verdict format input b c
      ≡ or_else (frame_head 1 format (as_told (length input ∷ b ∷ c ∷ []) (hspdsch_lengths_of format))) (each 0 digit_refused (at_most 1 input) (length input))

-- two answers that a promise allows are equal
abbrev pub Once : Type 0
Once = (head : Verdict) (runs : List ℕ) (run : ℕ) (a b : Length) → Told head runs run a → Told head runs run b → a ≡ b

-- number and place of each call fit a packed answer
pub record Packs : Type 0 where
  pub of_format : (last format : ℕ) (runs : List ℕ) (run : ℕ) → Narrow (told_verdict (frame_head last format []) runs run)
  pub of_gap : (kind format first missing : ℕ) (runs : List ℕ) (run : ℕ) → Narrow (told_verdict (gap_head (format_in kind format) first missing []) runs run)

-- .. and so does every length
pub record Short : Type 0 where
  pub of_slot : (format k : ℕ) → get_or (slot_lengths_of format) k 0 < 65536
  pub of_frame : (format k : ℕ) → get_or (frame_lengths_of format) k 0 < 65536
  pub of_compressed : (kind format missing k : ℕ) → get_or (compressed_lengths_of kind format missing) k 0 < 65536
  pub of_dpdch : (format k : ℕ) → get_or (dpdch_lengths_of 1 format) k 0 < 65536
  pub of_dpdch_frame : (format k : ℕ) → get_or (dpdch_lengths_of 15 format) k 0 < 65536
  pub of_dpcch : (format k : ℕ) → get_or (dpcch_lengths_of format) k 0 < 65536
  pub of_dpcch_frame : (format k : ℕ) → get_or (dpcch_frame_lengths_of format) k 0 < 65536
  pub of_hspdsch : (format k : ℕ) → get_or (hspdsch_lengths_of format) k 0 < 65536
