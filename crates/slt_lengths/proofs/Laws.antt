-- An answer of the crate `lengths`, packed, where number, place and length fit their fields.
-- Assumes nothing.
use mathlib.Core.Path.{◌≡◌, ap, ◌∙◌}
use mathlib.Core.List.{List}
use Prim.Native.Nat.{ℕ, ◌<◌}
use lib.Dec.{lit<}
use lib.ListN.{get_or}
use Rattle.run.specs.Verdict.{Verdict}
use Rattle.run.specs.Verdicts.{Narrow}
use Rattle.run.proofs.Chain.{leaves_small}
use Rattle.packed.specs.Rule.{packed}
use Rattle.packed.specs.Outcome.{packed_cut}
use Rattle.packed.proofs.Exact.{fitted}
use Rattle.lengths.specs.Length.{Length}
use Rattle.lengths.specs.Outcome.{told_verdict, Told}
use Rattle.slt_lengths.specs.Outcome.{LengthTold}

pub length_packed : (head : Verdict) (runs : List ℕ) (run : ℕ) {l : Length} {answer : ℕ} → answer ≡ packed_cut l.verdict l.length → Told head runs run l
    → Narrow (told_verdict head runs run) → get_or runs run 0 < 65536 → LengthTold head runs run answer
length_packed head runs run {l} {answer} e t n h =
    let small : l.length < 65536 = rw t.length_is (leaves_small (told_verdict head runs run) (get_or runs run 0) 65536 (λ _. h) (lit< tt)) in
    record { answer_is = fitted l.length e t.verdict_is n small ∙ ap (packed (told_verdict head runs run)) t.length_is }
