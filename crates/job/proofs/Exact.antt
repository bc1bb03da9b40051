-- The theorems of specs/Exact.antt.
-- Assumes nothing.
use mathlib.Core.Path.{◌≡◌, refl, sym, ap, ap₂, ◌∙◌}
use mathlib.Core.Bool.{Bool, true, false}
use mathlib.Core.List.{List, [], ◌++◌, append-nil}
use Prim.Native.Nat.{ℕ, zero, suc, ◌+◌, ◌≤◌}
use native.Mathlib.Omega.{arith}
use borrow.Author.Tests.{eqb-true, eqb-false}
use lib.Dec.{eqb}
use lib.ListN.{length, take, drop, replicate, length-replicate}
use lib.Seq.{take_at}
use Rattle.run.specs.Verdict.{Verdict}
use Rattle.run.specs.First.{first_bad}
use Rattle.run.specs.Fields.{joined}
use Rattle.run.specs.Table.{tab}
use Rattle.run.specs.Verdicts.{or_else, unless, each, lengths, leaves}
use Rattle.run.proofs.Chain.{one_outcome, or_else_done, or_else_next, leaves_done, leaves_refused}
use Rattle.dpch.specs.Formats.{formats, format_of}
use Rattle.dpch.specs.Heads.{slot_head}
use Rattle.dpch.specs.Compressed.{pilot_for}
use Rattle.dpch.specs.Pilots.{symbols1, symbols3, symbols5, symbols7, symbols_of, symbols_for, pilot_of}
use Rattle.slot.specs.Rule.{fields_of, slot_of, tfci_stands}
use Rattle.slot.specs.Outcome.{map_head, fields_verdict, map_verdict}
use Rattle.kinds.specs.Rule.{is_kind, by_kind, size_of, second_verdict}
use Rattle.lines.specs.Rule.{head_line, dpch_line, record_line, refusal_line}
use Rattle.lines.specs.Text.{decimal_by, decimal, glyph, glyphs, put}
use Rattle.lines.specs.Outcome.{line_size, room, mapper_verdict, Prints}
use Rattle.lines.proofs.Exact.{prints_once}
use Rattle.job.specs.Answers.{Opened}
use Rattle.job.specs.Answers.{Ran}
use Rattle.job.specs.Rule.{version_in, is_version, width_of, limit_of, count_in, first_record, size_in, record_in}
use Rattle.job.specs.Faults.{verdict_of, check}
use Rattle.job.specs.Outcome.{within, reach, present, byte_is, length_verdict, kind_head, record_head, head_verdict, record_verdict, end_verdict, open_verdict, run_verdict, Open, Run}
use Rattle.job.specs.Windows.{record_asks, Window, First}
use Rattle.job.specs.Printed.{records, printed_as, printed}
use Rattle.job.specs.Exact.{Tells, Steps, Job, JobPrints, OpenOnce, RunOnce, EndOnce, Worked}
use Rattle.job.specs.Exact.Steps.{ends, left_over, runs, refuses}
use Rattle.job.specs.Exact.Job.{opens, closed}
use Rattle.job.proofs.Checks.{room_passes}
use Rattle.job.proofs.Windows.{window_opens, window_runs, window_ends}

-- ---- what a call prints, as a caller takes it off the line
printed_off : {v : Verdict} {text line line' : List ℕ} {n : ℕ} → Prints v text line n line' → v.number ≡ 0 → take n line' ≡ text
unfolding put
printed_off {v} {text} {line} {line'} {n} p h =
    ap₂ (λ (k : ℕ) (l : List ℕ). take k l) (p.length_is ∙ leaves_done v _ _ h) (p.line_is ∙ leaves_done v _ _ h)
    ∙ take_at text (drop (0 + length text) line) (length text) refl

open_verdict_lem : (window line : List ℕ) → line_size ≤ length line → open_verdict window (length line) ≡ head_verdict window
unfolding open_verdict
open_verdict_lem window line h = or_else_next _ _ (room_passes 1 (length line) h)

run_verdict_lem : (limit offset : ℕ) (window line : List ℕ) → line_size ≤ length line → run_verdict limit offset window (length line) ≡ record_verdict limit offset window
unfolding run_verdict
run_verdict_lem limit offset window line h = or_else_next _ _ (room_passes 1 (length line) h)

record_head_lem : (limit offset : ℕ) (window : List ℕ) → (record_verdict limit offset window).number ≡ 0 → (record_head limit offset window).number ≡ 0
unfolding record_verdict
record_head_lem limit offset window h = (or_else_done _ _ h).first

told : {v : Verdict} {text : List ℕ} → Tells v text → text ≡ refusal_line v
told t = sym t.text_is ∙ printed_off t.call.prints (room_passes 0 (length t.line) t.roomy)

-- ---- every such program prints what is defined ..
steps_print : {limit : ℕ} {file : List ℕ} {n offset : ℕ} {text : List ℕ} → Steps limit file n offset text → text ≡ records limit n offset file
unfolding records
steps_print {limit} {file} (ends offset window w h) = let e = window_ends limit file offset window w in sym (leaves_done _ _ _ (rw e at h))
steps_print {limit} {file} (left_over offset window text w h t) =
    let e = window_ends limit file offset window w in
    told t ∙ ap refusal_line e ∙ sym (leaves_refused _ _ _ (rw e at h))
steps_print {limit} {file} (runs n offset window line line' answer rest w room call h steps) =
    let e = run_verdict_lem limit offset window line room in
    let v = call.verdict_is ∙ e in
    let ok : (record_verdict limit offset window).number ≡ 0 = rw v at h in
    let same = window_runs limit file offset window w in
    let head = record_head_lem limit offset window ok in
    let size = rw e at call.size_is ∙ leaves_done _ _ _ ok ∙ same.size head in
    ap₂ (λ (x y : List ℕ). x ++ y) (printed_off call.prints (rw call.verdict_is at h) ∙ ap record_line (same.bytes head))
    (steps_print steps ∙ ap (λ (k : ℕ). records limit n (offset + k) file) size)
    ∙ sym (leaves_done _ _ _ (rw same.verdict at ok))
steps_print {limit} {file} (refuses n offset window line line' answer text w room call h t) =
    let v = call.verdict_is ∙ run_verdict_lem limit offset window line room ∙ (window_runs limit file offset window w).verdict in
    told t ∙ ap refusal_line v ∙ sym (leaves_refused _ _ _ (rw v at h))

job_prints_only : {file text : List ℕ} → Job file text → text ≡ printed file
unfolding printed_as
job_prints_only {file} (opens window line line' answer rest w room call h steps) =
    let e = open_verdict_lem window line room in
    let v = call.verdict_is ∙ e in
    let ok : (head_verdict window).number ≡ 0 = rw v at h in
    let same = window_opens file window w in
    let limit = rw (e, same.version) at call.limit_is ∙ leaves_done _ _ _ ok in
    let count = rw (e, same.count, same.version) at call.count_is ∙ leaves_done _ _ _ ok in
    let next = rw (e, same.version) at call.next_is ∙ leaves_done _ _ _ ok in
    let line = printed_off call.prints (rw call.verdict_is at h) in
    ap₂ (λ (x y : List ℕ). x ++ y) (rw (same.count, same.version) at line) (steps_print steps ∙ rw (limit, count, next))
    ∙ sym (leaves_done _ _ _ (rw same.verdict at ok))
job_prints_only {file} (closed window line line' answer text w room call h t) =
    let v = call.verdict_is ∙ open_verdict_lem window line room ∙ (window_opens file window w).verdict in
    told t ∙ ap refusal_line v ∙ sym (leaves_refused _ _ _ (rw v at h))

-- ---- .. and there is one: on a line of 0s, with all that is left of the file for a window, every call has an answer
abbrev blank : List ℕ
blank = replicate line_size 0

blank_room : line_size ≤ length blank
blank_room = let l = length-replicate {A = ℕ} line_size 0 in omega arith

all_left : (limit : ℕ) (file : List ℕ) (offset asked : ℕ) → Window limit file offset asked (drop offset file)
all_left limit file offset asked = record { behind = []; cut = sym (append-nil (drop offset file)); holds = λ h. absurd (h refl) }

tells : (v : Verdict) → Tells v (refusal_line v)
tells v =
    let ok = room_passes 0 (length blank) blank_room in
    let p : Prints (room 0 (length blank)) (refusal_line v) blank (leaves (room 0 (length blank)) (length (refusal_line v)) 0) (leaves (room 0 (length blank)) (put 0 (refusal_line v) blank) blank) = record { length_is = refl; line_is = refl } in
    record {
      line = blank;
      line_after = _;
      answer = record { verdict = room 0 (length blank); length = _ };
      roomy = blank_room;
      call = record { verdict_is = refl; prints = p };
      text_is = printed_off p ok;
    }

steps_any : (limit : ℕ) (file : List ℕ) (n offset : ℕ) → Steps limit file n offset (records limit n offset file)
unfolding records
steps_any limit file zero offset = pick (eqb (end_verdict limit offset (drop offset file)).number 0) refl
  where
    end : Verdict
    end = end_verdict limit offset (drop offset file)

    pick : (b : Bool) → eqb end.number 0 ≡ b → Steps limit file zero offset (leaves end [] (refusal_line end))
    pick true e = let h = eqb-true _ _ e in rw (leaves_done {A = List ℕ} end [] (refusal_line end) h) (ends offset _ (all_left limit file offset 1) h)
    pick false e =
        let h = eqb-false _ _ e in
        rw (leaves_refused {A = List ℕ} end [] (refusal_line end) h) (left_over offset _ _ (all_left limit file offset 1) h (tells end))
steps_any limit file (suc n) offset = pick (steps_any limit file n (offset + size_in (drop offset file))) (eqb (record_verdict limit offset (drop offset file)).number 0) refl
  where
    window : List ℕ
    window = drop offset file

    v : Verdict
    v = run_verdict limit offset window (length blank)

    own : Verdict
    own = record_verdict limit offset window

    text : List ℕ
    text = record_line (record_in window)

    line' : List ℕ
    line' = leaves v (put 0 text blank) blank

    rest : List ℕ
    rest = records limit n (offset + size_in window) file

    answer : Ran
    answer = record { verdict = v; size = leaves v (size_in window) 0; length = leaves v (length text) 0 }

    call : Run limit offset window blank answer line'
    call = record { verdict_is = refl; size_is = refl; prints = record { length_is = refl; line_is = refl } }

    same : v ≡ own
    same = run_verdict_lem limit offset window blank blank_room

    all : Window limit file offset (record_asks window) window
    all = all_left limit file offset (record_asks window)

    pick : Steps limit file n (offset + size_in window) rest → (b : Bool) → eqb own.number 0 ≡ b → Steps limit file (suc n) offset (leaves own (text ++ rest) (refusal_line own))
    pick steps true e =
        let h = eqb-true _ _ e in
        let ok : v.number ≡ 0 = rw same h in
        rw (leaves_done {A = List ℕ} own (text ++ rest) (refusal_line own) h, ← printed_off call.prints ok)
        (runs n offset window blank line' answer rest all blank_room call ok (rw (leaves_done {A = ℕ} v (size_in window) 0 ok) steps))
    pick steps false e =
        let h = eqb-false _ _ e in
        rw (leaves_refused {A = List ℕ} own (text ++ rest) (refusal_line own) h)
        (refuses n offset window blank line' answer (refusal_line own) all blank_room call (rw same h) (rw same (tells own)))

job_any : (file : List ℕ) → Job file (printed file)
unfolding printed_as
job_any file = pick (eqb (head_verdict file).number 0) refl
  where
    version : ℕ
    version = version_in file

    width : ℕ
    width = width_of version

    v : Verdict
    v = open_verdict file (length blank)

    text : List ℕ
    text = head_line version (count_in width file)

    line' : List ℕ
    line' = leaves v (put 0 text blank) blank

    answer : Opened
    answer = record { verdict = v; limit = leaves v (limit_of version) 0; count = leaves v (count_in width file) 0; next = leaves v (first_record width) 0; length = leaves v (length text) 0 }

    call : Open file blank answer line'
    call = record { verdict_is = refl; limit_is = refl; count_is = refl; next_is = refl; prints = record { length_is = refl; line_is = refl } }

    same : v ≡ head_verdict file
    same = open_verdict_lem file blank blank_room

    rest : List ℕ
    rest = records (limit_of version) (count_in width file) (first_record width) file

    all : First file file
    all = all_left (limit_of version) file 0 _

    pick : (b : Bool) → eqb (head_verdict file).number 0 ≡ b → Job file (leaves (head_verdict file) (text ++ rest) (refusal_line (head_verdict file)))
    pick true e =
        let h = eqb-true _ _ e in
        let ok : v.number ≡ 0 = rw same h in
        rw (leaves_done {A = List ℕ} (head_verdict file) (text ++ rest) (refusal_line (head_verdict file)) h, ← printed_off call.prints ok)
        (opens file blank line' answer rest all blank_room call ok
        (rw (leaves_done {A = ℕ} v (limit_of version) 0 ok, leaves_done {A = ℕ} v (count_in width file) 0 ok, leaves_done {A = ℕ} v (first_record width) 0 ok)
        (steps_any (limit_of version) file (count_in width file) (first_record width))))
    pick false e =
        let h = eqb-false _ _ e in
        rw (leaves_refused {A = List ℕ} (head_verdict file) (text ++ rest) (refusal_line (head_verdict file)) h)
        (closed file blank line' answer (refusal_line (head_verdict file)) all blank_room call (rw same h) (rw same (tells (head_verdict file))))

pub job_prints : JobPrints
job_prints file text = (job_prints_only, λ e. rw e (job_any file))

-- ---- each promise allows one outcome
pub open_once : OpenOnce
open_once window line a b x y p q =
    let s = prints_once p.prints q.prints in (
      λ i. record {
        verdict = one_outcome p.verdict_is q.verdict_is i;
        limit = one_outcome p.limit_is q.limit_is i;
        count = one_outcome p.count_is q.count_is i;
        next = one_outcome p.next_is q.next_is i;
        length = s.0 i;
      },
      s.1,
    )

pub run_once : RunOnce
run_once limit offset window line a b x y p q =
    let s = prints_once p.prints q.prints in
    (λ i. record { verdict = one_outcome p.verdict_is q.verdict_is i; size = one_outcome p.size_is q.size_is i; length = s.0 i }, s.1)

pub end_once : EndOnce
end_once limit offset window a b p q = one_outcome p q

pub worked : Worked
unfolding printed_as leaves head_verdict or_else unless each lengths first_bad check verdict_of byte_is present is_version width_of limit_of length_verdict count_in within reach head_line decimal decimal_by records record_verdict record_head kind_head is_kind second_verdict by_kind size_of record_in mapper_verdict record_line dpch_line end_verdict glyphs glyph tab formats format_of map_verdict map_head slot_head fields_verdict tfci_stands slot_of fields_of joined pilot_for pilot_of symbols_for symbols_of symbols1 symbols3 symbols5 symbols7
worked = record { example = refl; of_version_2 = refl }
