-- A record whose head passed its checks: its bytes are all in the window, and what is left is the mapper's verdict.
-- Assumes nothing.
use mathlib.Core.Path.{◌≡◌, refl, sym, ap, ap₂, ◌∙◌}
use mathlib.Core.Bool.{Bool, true, false}
use mathlib.Core.List.{List}
use Prim.Native.Nat.{ℕ, ◌+◌, ◌-◌, ◌≤◌, ◌<◌}
use native.Mathlib.Omega.{arith}
use borrow.Author.Tests.{eqb-true, eqb-false, ltb-true}
use lib.Dec.{eqb}
use lib.ListN.{length, get_or, take, drop}
use lib.Seq.{get_or-take, length-take-le}
use Rattle.std.specs.Prelude.{Result, Ok, Err}
use Rattle.std.specs.Result.{IsErrAnd}
use Rattle.run.specs.Verdict.{Verdict}
use Rattle.run.specs.declared.refusal.Refusal.{Refusal}
use Rattle.run.proofs.Answers.{refuses, left}
use Rattle.run.specs.Verdicts.{done, or_else, leaves}
use Rattle.run.proofs.Chain.{five_done, or_else_done, or_else_next, unless_pass, leaves_done, leaves_refused, number_0}
use Rattle.lines.specs.Answers.{Told, verdict_in}
use Rattle.kinds.specs.Rule.{is_kind, second_verdict}
use Rattle.lines.specs.Outcome.{room, is_whole, line_verdict, Record}
use Rattle.kinds.proofs.ByKind.{size_some}
use Rattle.lines.proofs.Checks.{then_refused, then_next}
use Rattle.lines.proofs.Records.{prints_refused, is_whole_lem}
use Rattle.job.specs.declared.Opened.{Opened as WasOpened}
use Rattle.job.specs.Answers.{Opened, opened_of}
use Rattle.job.specs.declared.Ran.{Ran as WasRun}
use Rattle.job.specs.Answers.{Ran, ran_of}
use Rattle.job.specs.Rule.{version_in, width_of, size_in, record_in}
use Rattle.job.specs.Outcome.{present, head_verdict, kind_head, record_head, record_verdict, open_verdict, run_verdict, Open, Run}
use Rattle.job.proofs.Checks.{check_done, reach_done}

pub record Headed (window : List ℕ) : Type 0 where
  pub kind_ok : is_kind (get_or window 0 0) ≡ true
  pub second_ok : (second_verdict (get_or window 0 0) (get_or window 1 0)).number ≡ 0
  pub inside : size_in window ≤ length window

pub headed : (limit offset : ℕ) (window : List ℕ) → (record_head limit offset window).number ≡ 0 → Headed window
unfolding record_head kind_head
headed limit offset window h =
    let c = five_done _ _ _ _ _ h in
    let r : offset + size_in window ≤ offset + length window = reach_done limit _ _ c.fifth in
    record { kind_ok = check_done _ _ c.second; second_ok = c.fourth; inside = omega arith }

-- .. so the record is whole
module _ (window : List ℕ) where
  entry : (k : ℕ) → k < size_in window → get_or (record_in window) k 0 ≡ get_or window k 0
  unfolding record_in
  entry k h = get_or-take (size_in window) window k 0 h

  record_long : size_in window ≤ length window → length (record_in window) ≡ size_in window
  unfolding record_in
  record_long h = length-take-le (size_in window) window h

  pub record_whole : Headed window → is_whole (record_in window) ≡ true
  record_whole h =
      let some = size_some (get_or window 0 0) (get_or window 1 0) in
      let first = entry 0 (omega arith) in
      let second = entry 1 (omega arith) in
      is_whole_lem (record_in window) (record {
        kind_ok = rw first h.kind_ok;
        second_ok = rw (first, second) h.second_ok;
        sized = record_long h.inside ∙ rw (first, second);
      })

  -- .. as the code lends it
  pub part_is : {size : ℕ} → size ≡ size_in window → take (size - 0) (drop 0 window) ≡ record_in window
  unfolding record_in
  part_is {size} e = let n : size - 0 ≡ size_in window = omega arith in rw n

-- the head's refusal is the record's; where the head passes, what the record's own bytes say is
module _ (limit offset : ℕ) (window line : List ℕ) {t : Verdict} (e : t ≡ or_else (room 1 (length line)) (record_head limit offset window)) where
  pub run_refused : (t.number ≡ 0 → ⊥) → Run limit offset window line (record { verdict = t; size = 0; length = 0 }) line
  unfolding run_verdict record_verdict
  run_refused h =
      let is : t ≡ run_verdict limit offset window (length line) = then_refused _ _ _ e refl refl h in
      let k = rw is at h in
      record { verdict_is = is; size_is = sym (leaves_refused _ _ _ k); prints = prints_refused _ _ line k }

  pub run_headed : t.number ≡ 0 → Headed window
  run_headed h = headed limit offset window (or_else_done _ _ (rw e at h)).rest

  run_is : t.number ≡ 0 → line_verdict (record_in window) (length line) ≡ run_verdict limit offset window (length line)
  unfolding line_verdict run_verdict record_verdict
  run_is h =
      let whole = record_whole window (run_headed h) in
      or_else_next _ _ (number_0 (unless_pass 3 0 whole))
      ∙ or_else_next _ _ (or_else_done _ _ (rw e at h)).first
      ∙ then_next _ _ _ e refl refl h

  pub run_told : {size : ℕ} {told : Told} {line' : List ℕ} {answer : Ran} → t.number ≡ 0 → size ≡ size_in window → Record (record_in window) line told line'
      → answer ≡ record { verdict = told.verdict; size = leaves told.verdict size 0; length = told.length } → Run limit offset window line answer line'
  run_told {size} {told} h s r a =
      let is = run_is h in
      let v : told.verdict ≡ run_verdict limit offset window (length line) = r.verdict_is ∙ is in
      rw a (record { verdict_is = v; size_is = ap₂ (λ (w : Verdict) (n : ℕ). leaves w n 0) v s; prints = rw (← is) r.prints })

-- .. in the words of a call that hands a refusal on
ran_refused : (a : Result WasRun Refusal) (x : Refusal) → IsErrAnd a (λ e. e ≡ x) → ran_of a ≡ record { verdict = verdict_in x; size = 0; length = 0 }
ran_refused (Ok r) x h = absurd h
ran_refused (Err e) x h = rw h

pub run_left : (limit offset : ℕ) (window line : List ℕ) (a : Result WasRun Refusal) (x : Refusal) → IsErrAnd a (λ e. e ≡ x)
    → verdict_in x ≡ or_else (room 1 (length line)) (record_head limit offset window) → Run limit offset window line (ran_of a) line
run_left limit offset window line a x h e = rw (ran_refused a x h) (run_refused limit offset window line e (refuses x x.place))

pub run_told_left : (limit offset : ℕ) (window line : List ℕ) (a : Result WasRun Refusal) (x : Refusal) {size : ℕ} {line' : List ℕ} → IsErrAnd a (λ e. e ≡ x)
    → done ≡ or_else (room 1 (length line)) (record_head limit offset window) → size ≡ size_in window
    → Record (record_in window) line (record { verdict = verdict_in x; length = 0 }) line' → Run limit offset window line (ran_of a) line'
run_told_left limit offset window line a x {size} h e s r =
    run_told limit offset window line e refl s r (ran_refused a x h ∙ rw (leaves_refused (verdict_in x) size 0 (refuses x x.place)))

opened_refused : (a : Result WasOpened Refusal) (x : Refusal) → IsErrAnd a (λ e. e ≡ x)
    → opened_of a ≡ record { verdict = verdict_in x; limit = 0; count = 0; next = 0; length = 0 }
opened_refused (Ok o) x h = absurd h
opened_refused (Err e) x h = rw h

pub open_left : (window line : List ℕ) (a : Result WasOpened Refusal) (x : Refusal) → IsErrAnd a (λ e. e ≡ x) → verdict_in x ≡ open_verdict window (length line)
    → Open window line (opened_of a) line
open_left window line a x h e =
    rw (opened_refused a x h)
    (record {
      verdict_is = e;
      limit_is = left x _ 0 e;
      count_is = left x _ 0 e;
      next_is = left x _ 0 e;
      prints = rw (sym e) (prints_refused (verdict_in x) _ line (refuses x x.place));
    })

-- a call whose checks pass does not refuse
pub never : (x : Refusal) {v : Verdict} → verdict_in x ≡ v → v.number ≡ 0 → ⊥
never x {v} e h = refuses x x.place (ap (λ (w : Verdict). w.number) e ∙ h)

-- what was opened or run lies within its window
pub run_fits : {limit offset : ℕ} {window line : List ℕ} {answer : Ran} {line' : List ℕ} → Run limit offset window line answer line' → answer.size ≤ length window
unfolding run_verdict record_verdict
run_fits {limit} {offset} {window} {line} {answer} r = pick (eqb (run_verdict limit offset window (length line)).number 0) refl
  where
    pick : (b : Bool) → eqb (run_verdict limit offset window (length line)).number 0 ≡ b → answer.size ≤ length window
    pick true e =
        let h = eqb-true _ _ e in
        let size = r.size_is ∙ leaves_done _ _ _ h in
        let inside = (headed limit offset window (or_else_done _ _ (or_else_done _ _ h).rest).first).inside in
        omega arith
    pick false e = let size = r.size_is ∙ leaves_refused _ _ _ (eqb-false _ _ e) in omega arith

pub open_fits : {window line : List ℕ} {answer : Opened} {line' : List ℕ} → Open window line answer line' → answer.next ≤ length window
unfolding open_verdict head_verdict present
open_fits {window} {line} {answer} r = pick (eqb (open_verdict window (length line)).number 0) refl
  where
    pick : (b : Bool) → eqb (open_verdict window (length line)).number 0 ≡ b → answer.next ≤ length window
    pick true e =
        let h = eqb-true _ _ e in
        let next = r.next_is ∙ leaves_done _ _ _ h in
        let marked = (or_else_done _ _ (or_else_done _ _ (or_else_done _ _ (or_else_done _ _ h).rest).rest).rest).rest in
        let known = (or_else_done _ _ (or_else_done _ _ (or_else_done _ _ marked).rest).rest).rest in
        let there : 4 + width_of (version_in window) < length window = ltb-true _ _ (check_done _ _ known) in
        omega arith
    pick false e = let next = r.next_is ∙ leaves_refused _ _ _ (eqb-false _ _ e) in omega arith
