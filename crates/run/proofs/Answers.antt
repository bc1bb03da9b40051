-- Answers of calls: a call that ends at the first check that refuses (`?`), in the words of the chain of its checks.
-- Assumes nothing.
use mathlib.Core.Path.{◌≡◌, refl, sym, ap, ◌∙◌}
use mathlib.Core.Bool.{Bool, true, false, cond}
use Prim.Native.Nat.{ℕ, ◌+◌, ◌≤◌, ◌<◌}
use native.Mathlib.Nat.{zero-add}
use native.Mathlib.Omega.{arith}
use borrow.Author.Tests.{le-leb, lt-leb}
use lib.Dec.{leb, lit<}
use Rattle.std.specs.Prelude.{Option, Result, Ok, Err}
use Rattle.std.specs.Option.{unwrap_or}
use Rattle.std.specs.Result.{IsErrAnd}
use Rattle.run.specs.Verdict.{Verdict}
use Rattle.run.specs.declared.refusal.Reason.{Reason}
use Rattle.run.specs.declared.refusal.Reason.TheVariants.{Format, Slot, Length, Digit, Tpc, Tfci, Pilot, Np, Frame, Values, Range, Gains, OverLong, Mark, Version, Kind, EndsEarly, BytesAfter, Signature, Gap, Bank, Absent, Present, Room, Count}
use Rattle.run.specs.declared.refusal.Refusal.{Refusal}
use Rattle.run.specs.Answers.{number_of, verdict_of, value_of}
use Rattle.run.specs.First.{first_bad, all}
use Rattle.run.specs.Verdicts.{refused, done, or_else, unless, each, leaves}
use Rattle.run.proofs.Chain.{or_else_refused, or_else_next, each_is, each_here, leaves_done, leaves_refused}

-- a reason's number is not that of a call that is done
pub number_some : (r : Reason) → 0 < number_of r
number_some Format = lit< tt
number_some Slot = lit< tt
number_some Length = lit< tt
number_some Digit = lit< tt
number_some Tpc = lit< tt
number_some Tfci = lit< tt
number_some Pilot = lit< tt
number_some Np = lit< tt
number_some Frame = lit< tt
number_some Values = lit< tt
number_some Range = lit< tt
number_some Gains = lit< tt
number_some OverLong = lit< tt
number_some Mark = lit< tt
number_some Version = lit< tt
number_some Kind = lit< tt
number_some EndsEarly = lit< tt
number_some BytesAfter = lit< tt
number_some Signature = lit< tt
number_some Gap = lit< tt
number_some Bank = lit< tt
number_some Absent = lit< tt
number_some Present = lit< tt
number_some Room = lit< tt
number_some Count = lit< tt

pub refuses : (r : Refusal) (place : ℕ) → (refused (number_of r.reason) place).number ≡ 0 → ⊥
refuses r place e = let l = number_some r.reason in omega (arith, e)

-- a refusal that is handed on (`?`) tells what it told
pub handed : {A : Type 0} (r : Result A Refusal) (x : Refusal) → IsErrAnd r (λ e. e ≡ x) → verdict_of r ≡ refused (number_of x.reason) x.place
handed {A} r x h = told r h
  where
    told : (r : Result A Refusal) → IsErrAnd r (λ e. e ≡ x) → verdict_of r ≡ refused (number_of x.reason) x.place
    told (Ok a) h = absurd h
    told (Err e) h = ap (λ y. refused (number_of y.reason) y.place) h

-- where a check refuses, so does the chain that it begins
pub stops : {A : Type 0} (r : Result A Refusal) (x : Refusal) (w : Verdict) {v : Verdict} → IsErrAnd r (λ e. e ≡ x) → refused (number_of x.reason) x.place ≡ v → verdict_of r ≡ or_else v w
stops {A} r x w {v} h e = handed r x h ∙ rw (sym e) (sym (or_else_refused _ w (refuses x x.place)))

-- where it is done, the chain goes on
pub goes_on : {u v w : Verdict} → done ≡ v → u ≡ w → u ≡ or_else v w
goes_on {u} {v} {w} e rest = rw (sym e) (rest ∙ sym (or_else_next done w refl))

-- what is left where a call refuses
pub left : {A : Type 0} (r : Refusal) {v : Verdict} (new old : A) → refused (number_of r.reason) r.place ≡ v → old ≡ leaves v new old
left {A} r {v} new old e = rw (sym e) (sym (leaves_refused _ new old (refuses r r.place)))

-- .. and where it is done
pub written : {A : Type 0} {v : Verdict} {after : A} (new old : A) → done ≡ v → after ≡ new → after ≡ leaves v new old
written {A} {v} {after} new old e is = rw (sym e) (is ∙ sym (leaves_done done new old refl))

-- a check of places, once the first that fails is known: there is none ..
pub each_none : (base number : ℕ) (ok : ℕ → Bool) (n : ℕ) → n ≡ first_bad ok n → done ≡ each base number ok n
unfolding each unless
each_none base number ok n e = rw (le-leb n (first_bad ok n) (omega (arith, e)))

-- .. or it is told
pub each_some : (number : ℕ) (ok : ℕ → Bool) (n : ℕ) {i : ℕ} → i ≡ first_bad ok n → i < n → refused number i ≡ each 0 number ok n
unfolding unless
each_some number ok n {i} e l = sym (each_here number ok n ∙ rw (lt-leb n (first_bad ok n) (omega (arith, e)), sym e))

-- a check by a scan, whose answer is found again in the run
pub found_each : (base number : ℕ) (ok : ℕ → Bool) (n : ℕ) (found : Option ℕ) {r : Verdict} → unwrap_or found n ≡ first_bad ok n
    → r ≡ unless (leb n (unwrap_or found n)) number (base + unwrap_or found n) → r ≡ each base number ok n
found_each base number ok n found {r} e h = each_is base number ok n (unwrap_or found n) r e h
