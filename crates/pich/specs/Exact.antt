-- Demand 2 for the PICH (docs/RULES.md, 'The demands' and 'PICH'), and where each indicator's digits stand. Each statement is proved in proofs/Exact.antt under its name in small letters.
-- Assumes nothing.
use Rattle.std.specs.Prelude.{ℕ, ◌+◌, ◌*◌, ◌<◌, ◌≤◌, ◌≡◌, true, List, ◌↔◌, length, get_or}
use Rattle.run.specs.Verdict.{Verdict}
use Rattle.run.specs.Digits.{dtx}
use Rattle.run.specs.Verdicts.{done, Narrow}
use Rattle.pich.specs.declared.Pi.{Pi}
use Rattle.pich.specs.Paging.{Paging}
use Rattle.pich.specs.Rule.{is_np, width, frame_of, indicators_in, q_of}
use Rattle.pich.specs.Outcome.{q_verdict, Q, map_verdict, Map, read_verdict, Read}

-- indicators give a frame: map takes them, and this is what it writes
pub record Gives (np : ℕ) (indicators frame : List ℕ) : Type 0 where
  pub taken : map_verdict np indicators 300 ≡ done
  pub written : frame_of np indicators ≡ frame

-- read accepts a frame exactly when some indicators give it, and hands back those, of which there is one set
pub record Exact (np : ℕ) (frame : List ℕ) : Type 0 where
  pub accepts : (read_verdict np frame np ≡ done) ↔ ((indicators : List ℕ) × Gives np indicators frame)
  pub hands_back : (indicators : List ℕ) → Gives np indicators frame → indicators_in np frame ≡ indicators
  pub one_set : (indicators others : List ℕ) → Gives np indicators frame → Gives np others frame → indicators ≡ others

abbrev pub ReadExact : Type 0
ReadExact = (np : ℕ) (frame : List ℕ) → is_np np ≡ true → length frame ≡ 300 → Exact np frame

-- indicator q fills its 288/Np digits from (288/Np)·q on, and digits 288 to 299 are DTX
pub record Filled (np : ℕ) (indicators : List ℕ) : Type 0 where
  pub long : length (frame_of np indicators) ≡ 300
  pub fills : (q i : ℕ) → q < np → i < width np → get_or (frame_of np indicators) (width np * q + i) 0 ≡ get_or indicators q 0
  pub tail : (k : ℕ) → 288 ≤ k → k < 300 → get_or (frame_of np indicators) k 0 ≡ dtx

abbrev pub FrameFilled : Type 0
FrameFilled = (np : ℕ) (indicators : List ℕ) → is_np np ≡ true → Filled np indicators

-- q is the number of an indicator of the frame
abbrev pub QBelow : Type 0
QBelow = (np pi sfn : ℕ) → is_np np ≡ true → q_of np pi sfn < np

-- each promise allows one outcome
abbrev pub QOnce : Type 0
QOnce = (np : ℕ) (pi : Pi) (sfn : ℕ) (a b : Paging) → Q np pi sfn a → Q np pi sfn b → a ≡ b

abbrev pub MapOnce : Type 0
MapOnce =
    (np : ℕ) (indicators frame : List ℕ) (a b : Verdict) (x y : List ℕ) → Map np indicators frame a x → Map np indicators frame b y → (a ≡ b) × (x ≡ y)

abbrev pub ReadOnce : Type 0
ReadOnce =
    (np : ℕ) (frame indicators : List ℕ) (a b : Verdict) (x y : List ℕ) → Read np frame indicators a x → Read np frame indicators b y → (a ≡ b) × (x ≡ y)

-- number and place fit the 16 and 32 bits that the C boundary has for them, and q its 16
pub record Packs : Type 0 where
  pub q_narrow : (np : ℕ) (pi : Pi) (sfn : ℕ) → Narrow (q_verdict np pi sfn)
  pub q_small : (np : ℕ) (pi : Pi) (sfn : ℕ) (answer : Paging) → Q np pi sfn answer → answer.q.0 < 65536
  pub map_narrow : (np : ℕ) (indicators : List ℕ) (frame_length : ℕ) → Narrow (map_verdict np indicators frame_length)
  pub read_narrow : (np : ℕ) (frame : List ℕ) (indicators_length : ℕ) → Narrow (read_verdict np frame indicators_length)
