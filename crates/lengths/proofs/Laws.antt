-- What is told of a run, and where the head or the run's number is refused.
-- Assumes nothing.
use mathlib.Core.Path.{◌≡◌, refl, sym, ◌∙◌}
use mathlib.Core.List.{List}
use Prim.Native.Nat.{ℕ, ◌≤◌, ◌<◌}
use borrow.Author.Tests.{ltb-true}
use lib.Dec.{ltb, lit<}
use lib.ListN.{length, get_or}
use Rattle.std.specs.Prelude.{Result, Ok, Err}
use Rattle.std.specs.Result.{IsErrAnd}
use Rattle.run.specs.Verdict.{Verdict}
use Rattle.run.specs.declared.refusal.Refusal.{Refusal}
use Rattle.run.specs.Answers.{number_of, value_of}
use Rattle.run.specs.Refusals.{range_refused}
use Rattle.run.specs.Verdicts.{refused, done, unless}
use Rattle.run.proofs.Chain.{unless_done, number_0}
use Rattle.run.proofs.Answers.{handed, stops, goes_on, left, written}
use Rattle.dpch.specs.declared.Format.{Format}
use Rattle.dpch.specs.Compressed.{format_in}
use Rattle.slot.specs.Rule.{data_size}
use Rattle.slot.proofs.Laws.{sound_row, data_small, tfci_small}
use Rattle.lengths.specs.Length.{length_of}
use Rattle.lengths.specs.Outcome.{told_verdict, Told}

-- no run of a slot is longer than the longest slot
pub row_short : (kind format : ℕ) (f : Format) → f ≡ format_in kind format → (data_size f ≤ 1280) × (f.tfci ≤ 1280) × (f.slot ≤ 1280)
row_short kind format f e = let s = sound_row kind format in rw e (data_small _ s, tfci_small _ s, s.short)

none_told : (r : Result ℕ Refusal) (x : Refusal) → IsErrAnd r (λ e. e ≡ x) → value_of r ≡ 0
none_told (Ok n) x h = absurd h
none_told (Err e) x h = refl

-- a head that refuses is what is told ..
pub head_refused : (head : Verdict) (runs : List ℕ) (run : ℕ) (r : Result ℕ Refusal) (x : Refusal) → IsErrAnd r (λ e. e ≡ x) → refused (number_of x.reason) x.place ≡ head
    → Told head runs run (length_of r)
unfolding told_verdict
head_refused head runs run r x h e =
    let v = stops r x (unless (ltb run (length runs)) range_refused 0) h e in
    record { verdict_is = v; length_is = none_told r x h ∙ left x _ 0 (sym (handed r x h) ∙ v) }

-- .. and one that does not is not seen
pub head_passed : {head : Verdict} {runs : List ℕ} {run : ℕ} (r : Result ℕ Refusal) → done ≡ head → Told done runs run (length_of r) → Told head runs run (length_of r)
head_passed {head} {runs} {run} r e t = rw (sym e) t

-- the run is not one of them, or it is
pub run_refused : (runs : List ℕ) (run : ℕ) (r : Result ℕ Refusal) (x : Refusal) → IsErrAnd r (λ e. e ≡ x) → refused (number_of x.reason) x.place ≡ unless (ltb run (length runs)) range_refused 0
    → Told done runs run (length_of r)
unfolding told_verdict
run_refused runs run r x h e =
    let v = handed r x h ∙ goes_on refl e in
    record { verdict_is = v; length_is = none_told r x h ∙ left x _ 0 (goes_on refl e) }

pub run_there : (run n : ℕ) → done ≡ unless (ltb run n) range_refused 0 → run < n
run_there run n e = ltb-true _ _ (unless_done _ 11 0 (lit< tt) (number_0 (sym e)))

pub run_told : (runs : List ℕ) (run : ℕ) {n : ℕ} → n ≡ get_or runs run 0 → done ≡ unless (ltb run (length runs)) range_refused 0 → Told done runs run (length_of (Ok n))
unfolding told_verdict
run_told runs run {n} is e =
    let v = goes_on refl e in
    record { verdict_is = v; length_is = written _ _ v is }
