-- The theorems of specs/Exact.antt.
-- Assumes nothing.
use mathlib.Core.Path.{refl}
use mathlib.Core.List.{List, [], ◌∷◌}
use Prim.Native.Nat.{ℕ, zero, suc, ◌*◌, ◌≤◌, ◌<◌}
use native.Mathlib.Omega.{arith}
use lib.Dec.{lit<}
use lib.ListN.{get_or}
use Rattle.run.specs.Verdict.{Verdict}
use Rattle.run.specs.Verdicts.{Narrow}
use Rattle.run.proofs.Chain.{or_else_narrow, unless_narrow}
use Rattle.dpch.specs.Compressed.{format_in}
use Rattle.dpch.proofs.Heads.{frame_head_narrow}
use Rattle.dpch.specs.Formats.{format_of}
use Rattle.dpch.specs.Uplink.{dpdch_size, dpcch_format}
use Rattle.dpch.specs.declared.Format.{Format}
use Rattle.slot.specs.Rule.{data_size}
use Rattle.slot.specs.Ready.{Sound}
use Rattle.slot.proofs.Laws.{sound_row, sound_format, data_small, tfci_small}
use Rattle.slot.specs.Outcome as slot
use Rattle.antenna.specs.Outcome as antenna
use Rattle.frame.specs.Outcome as frame
use Rattle.compressed.specs.Outcome as compressed
use Rattle.compressed.specs.Rule.{transmitted}
use Rattle.compressed.proofs.Accept.{gap_head_narrow}
use Rattle.compressed.proofs.Gap.{small_product}
use Rattle.dpdch.specs.Outcome as dpdch
use Rattle.dpdch.proofs.Laws.{slots_small}
use Rattle.dpcch.specs.Outcome as dpcch
use Rattle.dpcch.proofs.Laws.{sizes}
use Rattle.hspdsch.specs.Rule.{slot_sizes, size}
use Rattle.hspdsch.specs.Outcome as hspdsch
use Rattle.lengths.specs.Rule.{slot_lengths_of, frame_lengths_of, compressed_lengths_of, dpdch_lengths_of, dpcch_lengths_of, dpcch_frame_lengths_of, hspdsch_lengths_of}
use Rattle.lengths.specs.Outcome.{told_verdict}
use Rattle.lengths.specs.Exact.{as_told, Asked, Once, Packs, Short}

-- each mapper's check of lengths has the list of the rule written out
pub asked : Asked
unfolding as_told slot_lengths_of frame_lengths_of compressed_lengths_of dpdch_lengths_of dpcch_lengths_of dpcch_frame_lengths_of hspdsch_lengths_of slot.map_head antenna.map_head frame.map_head compressed.map_head dpdch.slots_verdict dpcch.map_head dpcch.frame_map_head hspdsch.map_verdict
asked =
    record {
      of_slot = λ format k a b c. refl;
      of_antenna = λ format k sender a b c. refl;
      of_frame = λ format a b c d. refl;
      of_compressed = λ format kind first missing a b c d. refl;
      of_dpdch = λ slots format input b. refl;
      of_dpcch = λ format k a b c. refl;
      of_dpcch_frame = λ format a b c d. refl;
      of_hspdsch = λ format input b c. refl;
    }

pub once : Once
once head runs run a b p q = rw (p.verdict_is, q.verdict_is, p.length_is, q.length_is)

narrow : (head : Verdict) (runs : List ℕ) (run : ℕ) → Narrow head → Narrow (told_verdict head runs run)
unfolding told_verdict
narrow head runs run h = or_else_narrow _ _ h (λ _. unless_narrow _ 11 0 (lit< tt) (lit< tt))

pub packs : Packs
packs =
    record {
      of_format = λ last format runs run. narrow _ runs run (frame_head_narrow last format [] (lit< tt));
      of_gap = λ kind format first missing runs run. narrow _ runs run (gap_head_narrow (format_in kind format) first missing [] (lit< tt));
    }

-- ---- every length is short: numbers below a bound, one by one and picked from their list
module _ (top : ℕ) (some : 0 < top) where
  abbrev Below : List ℕ → Type 0
  Below [] = Unit {0}
  Below (n ∷ ns) = (n < top) × Below ns

  one_below : (ns : List ℕ) → Below ns → (k : ℕ) → get_or ns k 0 < top
  one_below [] h k = some
  one_below (n ∷ ns) h zero = h.0
  one_below (n ∷ ns) h (suc k) = one_below ns h.1 k

-- those of a row's slot, and of so many
row_short : (n : ℕ) (f : Format) → n ≤ 15 → Sound f → (n * data_size f < 65536) × (n * f.tfci < 65536) × (15 * f.slot < 65536)
row_short n f few s =
    let d = small_product n _ few (data_small f s) in
    let t = small_product n _ few (tfci_small f s) in
    let w = s.short in
    (omega arith, omega arith, omega arith)

sizes_listed : Below 641 (lit< tt) slot_sizes
unfolding slot_sizes
sizes_listed = (lit< tt, (lit< tt, tt))

subframe_short : (format : ℕ) → size format < 65536
unfolding size
subframe_short format =
    let h = one_below 641 (lit< tt) slot_sizes sizes_listed format in
    omega arith

short_of_slot : (format k : ℕ) → get_or (slot_lengths_of format) k 0 < 65536
unfolding slot_lengths_of
short_of_slot format =
    let s = sound_format format in
    let d = data_small _ s in
    let t = tfci_small _ s in
    let w = s.short in
    one_below 65536 (lit< tt) (data_size (format_of format) ∷ (format_of format).tfci ∷ (format_of format).slot ∷ []) (omega arith, (omega arith, (omega arith, tt)))

short_of_frame : (format k : ℕ) → get_or (frame_lengths_of format) k 0 < 65536
unfolding frame_lengths_of
short_of_frame format =
    let r = row_short 15 (format_of format) (omega arith) (sound_format format) in
    one_below 65536 (lit< tt) (15 * data_size (format_of format) ∷ 15 * (format_of format).tfci ∷ 15 * (format_of format).slot ∷ 15 ∷ []) (r.0, (r.1, (r.2, (lit< tt, tt))))

short_of_compressed : (kind format missing k : ℕ) → get_or (compressed_lengths_of kind format missing) k 0 < 65536
unfolding compressed_lengths_of
short_of_compressed kind format missing =
    let f = format_in kind format in
    let n = transmitted missing in
    let r = row_short n f (omega arith) (sound_row kind format) in
    one_below 65536 (lit< tt) (n * data_size f ∷ n * f.tfci ∷ 15 * f.slot ∷ n ∷ []) (r.0, (r.1, (r.2, (omega arith, tt))))

short_of_dpdch : (slots format : ℕ) → slots ≤ 15 → (k : ℕ) → get_or (dpdch_lengths_of slots format) k 0 < 65536
unfolding dpdch_lengths_of
short_of_dpdch slots format few =
    let h = slots_small slots format few in
    one_below 65536 (lit< tt) (slots * dpdch_size format ∷ slots * dpdch_size format ∷ []) (omega arith, (omega arith, tt))

short_of_dpcch : (format k : ℕ) → get_or (dpcch_lengths_of format) k 0 < 65536
unfolding dpcch_lengths_of
short_of_dpcch format =
    let f = dpcch_format format in
    let s = sizes format f refl in
    let t = s.tfci_short in
    let b = s.fbi_short in
    let w = s.slot_short in
    one_below 65536 (lit< tt) (f.tfci ∷ f.fbi ∷ f.slot ∷ []) (omega arith, (omega arith, (omega arith, tt)))

short_of_dpcch_frame : (format k : ℕ) → get_or (dpcch_frame_lengths_of format) k 0 < 65536
unfolding dpcch_frame_lengths_of
short_of_dpcch_frame format =
    let f = dpcch_format format in
    let s = sizes format f refl in
    let t = s.tfci_short in
    let b = s.fbi_short in
    let w = s.slot_short in
    one_below 65536 (lit< tt) (15 * f.tfci ∷ 15 * f.fbi ∷ 15 * f.slot ∷ 15 ∷ []) (omega arith, (omega arith, (omega arith, (lit< tt, tt))))

short_of_hspdsch : (format k : ℕ) → get_or (hspdsch_lengths_of format) k 0 < 65536
unfolding hspdsch_lengths_of
short_of_hspdsch format =
    let h = subframe_short format in
    one_below 65536 (lit< tt) (size format ∷ size format ∷ size format ∷ []) (h, (h, (h, tt)))

pub short : Short
short =
    record {
      of_slot = short_of_slot;
      of_frame = short_of_frame;
      of_compressed = short_of_compressed;
      of_dpdch = λ format. short_of_dpdch 1 format (omega arith);
      of_dpdch_frame = λ format. short_of_dpdch 15 format (omega arith);
      of_dpcch = short_of_dpcch;
      of_dpcch_frame = short_of_dpcch_frame;
      of_hspdsch = short_of_hspdsch;
    }
