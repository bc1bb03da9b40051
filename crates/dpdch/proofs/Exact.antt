-- The theorems of specs/Exact.antt.
-- Assumes nothing.
use mathlib.Core.Path.{◌≡◌, sym, ap, ◌∙◌, subst}
use mathlib.Core.List.{List}
use Prim.Native.Nat.{ℕ, ◌*◌}
use native.Mathlib.Nat.{one-mul}
use native.Mathlib.Omega.{arith}
use lib.ListN.{length}
use Rattle.run.specs.Verdict.{Verdict}
use Rattle.run.specs.Parts.{part}
use Rattle.run.specs.Verdicts.{done}
use Rattle.run.proofs.Chain.{one_outcome}
use Rattle.dpch.specs.Uplink.{dpdch_size}
use Rattle.dpdch.specs.Rule.{slot_of, data_in, frame_of, frame_data_in}
use Rattle.dpdch.specs.Outcome.{slots_verdict}
use Rattle.dpdch.specs.Exact.{Gives, Exact, ReadExact, FrameReadExact, FrameSlots, MapOnce, ReadOnce, FrameMapOnce, FrameReadOnce, Packs}
use Rattle.dpdch.proofs.Laws.{slot_plain, data_plain, frame_plain, frame_data_plain, Taken, taken, slots_narrow}

-- of so many slots: what is written and what is handed back is the run as it is
module _ (slots format size : ℕ) (is : size ≡ slots * dpdch_size format) (written handed : List ℕ → List ℕ)
    (written_plain : (d : List ℕ) → length d ≡ size → written d ≡ d) (handed_plain : (xs : List ℕ) → length xs ≡ size → handed xs ≡ xs) where
  verdict : List ℕ → ℕ → Verdict
  verdict = slots_verdict slots format

  known : (d : List ℕ) → slots_verdict slots format d size ≡ done → Taken slots format d size
  known d e = taken slots format d size (ap (λ (v : Verdict). v.number) e)

  -- data that gives a run is the run
  same : (d xs : List ℕ) → Gives (slots_verdict slots format) written (slots_verdict slots format) handed size d xs → d ≡ xs
  same d xs g = sym (written_plain d ((known d g.is_taken).long ∙ sym is)) ∙ g.is_written

  exact : (xs : List ℕ) → length xs ≡ size → Exact (slots_verdict slots format) written (slots_verdict slots format) handed size xs
  exact xs long =
      record {
        accepts = (
          λ e. (xs, record { is_taken = e; is_written = written_plain xs long }),
          λ x. subst (λ (s : List ℕ). slots_verdict slots format s size ≡ done) (same x.0 xs x.1) x.1.is_taken,
        );
        hands_back = λ d g. handed_plain xs long ∙ sym (same d xs g);
        one_set = λ d others g h. same d xs g ∙ sym (same others xs h);
      }

pub read_exact : ReadExact
read_exact format xs format_ok long =
    exact 1 format (dpdch_size format) (sym (one-mul (dpdch_size format))) slot_of (data_in format) (λ d _. slot_plain d) (data_plain format) xs long

pub frame_read_exact : FrameReadExact
frame_read_exact format xs format_ok long =
    exact 15 format (15 * dpdch_size format) (λ _. 15 * dpdch_size format) (frame_of format) (frame_data_in format) (frame_plain format) (frame_data_plain format) xs long

pub frame_slots : FrameSlots
frame_slots format d long k h = ap (part k (dpdch_size format)) (frame_plain format d long) ∙ sym (slot_plain (part k (dpdch_size format) d))

pub map_once : MapOnce
map_once format d out a b x y p r = (one_outcome p.verdict_is r.verdict_is, one_outcome p.out_is r.out_is)

pub read_once : ReadOnce
read_once format xs d a b x y p r = (one_outcome p.verdict_is r.verdict_is, one_outcome p.data_is r.data_is)

pub frame_map_once : FrameMapOnce
frame_map_once format d out a b x y p r = (one_outcome p.verdict_is r.verdict_is, one_outcome p.out_is r.out_is)

pub frame_read_once : FrameReadOnce
frame_read_once format xs d a b x y p r = (one_outcome p.verdict_is r.verdict_is, one_outcome p.data_is r.data_is)

pub packs : Packs
packs =
    record {
      map_narrow = λ format d outLength. slots_narrow 1 format d outLength (omega arith);
      read_narrow = λ format xs dataLength. slots_narrow 1 format xs dataLength (omega arith);
      frame_map_narrow = λ format d outLength. slots_narrow 15 format d outLength (omega arith);
      frame_read_narrow = λ format xs dataLength. slots_narrow 15 format xs dataLength (omega arith);
    }
