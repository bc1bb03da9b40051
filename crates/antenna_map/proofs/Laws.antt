-- An antenna that there is not.
-- Assumes nothing.
use mathlib.Core.Path.{◌≡◌, refl, sym, ap, ◌∙◌}
use mathlib.Core.Bool.{Bool, true, false}
use mathlib.Core.List.{List}
use Prim.Native.Nat.{ℕ, ◌<◌}
use native.Mathlib.Omega.{arith}
use borrow.Author.Tests.{lt-leb}
use lib.Dec.{leb}
use lib.ListN.{length}
use Rattle.run.specs.Verdict.{Verdict}
use Rattle.run.specs.Verdicts.{refused, or_else, unless, lengths}
use Rattle.run.proofs.Chain.{or_else_refused, leaves_refused}
use Rattle.antenna.specs.Outcome.{map_head, map_verdict, Map}
use Rattle.antenna_map.specs.Method.{no_antenna}

-- whatever the two numbers are, one of the three checks refuses
refuses : (a b : Bool) → (or_else (unless a 1 0) (or_else (unless b 2 0) (refused 11 0))).number ≡ 0 → ⊥
unfolding or_else unless
refuses true true h = omega arith
refuses true false h = omega arith
refuses false b h = omega arith

stops : (w : Verdict) → or_else (unless false 11 0) w ≡ refused 11 0
unfolding or_else unless
stops w = refl

pub out_of_range : (format slot antenna tpc : ℕ) (d tfci : List ℕ) (n : ℕ) → 1 < antenna → map_verdict format slot antenna tpc d tfci n ≡ no_antenna format slot
unfolding map_verdict map_head no_antenna
out_of_range format slot antenna tpc d tfci n h =
    rw (lt-leb antenna 1 h, stops (lengths _)) (or_else_refused (no_antenna format slot) _ (refuses (leb format 16) (leb slot 14)))

pub none_mapped : (format slot antenna tpc : ℕ) (d tfci out : List ℕ) (answer : Verdict) → 1 < antenna → answer ≡ no_antenna format slot → Map format slot antenna tpc d tfci out answer out
unfolding no_antenna
none_mapped format slot antenna tpc d tfci out answer h e =
    let is = e ∙ sym (out_of_range format slot antenna tpc d tfci (length out) h) in
    record {
      verdict_is = is;
      out_is = sym (leaves_refused _ _ _ (λ z. refuses (leb format 16) (leb slot 14) (ap (λ (v : Verdict). v.number) (sym e ∙ is) ∙ z)));
    }
