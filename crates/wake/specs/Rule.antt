-- docs/RULES.md, 'Wake simulation'; TS 25.211, 5.3.3.10: when a handset wakes, counted over the list of recorded PICH frames. `frame k` is frame k of the list.
-- Assumes nothing.
use Rattle.std.specs.Prelude.{ℕ, ◌+◌, ◌%◌, Bool, cond, List, eqb, get_or}
use Rattle.run.specs.Count.{count}
use Rattle.run.specs.Parts.{part}
use Rattle.pich.specs.Rule.{indicators_in, q_of}
use Rattle.wake.specs.declared.Tally.{Tally}

-- a recording holds its frames one after the other, 300 digits each
abbrev pub frame_at : List ℕ → ℕ → List ℕ
frame_at frames k = part k 300 frames

-- the first SFN moved on k times, modulo 4096; not moved, it is what it is
unfoldable pub sfn_at : ℕ → ℕ → ℕ
sfn_at first k = cond (eqb k 0) first ((first + k) % 4096)

-- the handset wakes at a frame: the indicator with the number q of this frame's SFN is 1
unfoldable pub wakes : ℕ → ℕ → ℕ → List ℕ → Bool
wakes np pi sfn frame = eqb (get_or (indicators_in np frame) (q_of np pi sfn) 0) 1

-- how many of the first n frames have a 1 at their own q
unfoldable pub woken : ℕ → ℕ → ℕ → (ℕ → List ℕ) → ℕ → ℕ
woken np pi first frame n = count n (λ (k : ℕ). wakes np pi (sfn_at first k) (frame k))

-- a tally after n more frames were read
unfoldable pub tally_at : ℕ → ℕ → Tally → (ℕ → List ℕ) → ℕ → Tally
tally_at np pi t frame n =
    record {
      read = t.read + n;
      woke = t.woke + woken np pi t.next frame n;
      next = sfn_at t.next n;
    }
