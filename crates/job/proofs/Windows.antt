-- The theorems of specs/Windows.antt: what stands behind a window makes no difference to what is told for it.
-- Assumes nothing.
use mathlib.Core.Path.{◌≡◌, refl, sym, ap, ◌∙◌}
use mathlib.Core.Bool.{Bool, true, false, cond}
use mathlib.Core.List.{List, [], ◌∷◌, ◌++◌, append-nil}
use Prim.Native.Nat.{ℕ, zero, suc, ◌+◌, ◌≤◌, ◌<◌, min}
use native.Mathlib.Omega.{arith}
use borrow.Author.Tests.{eqb-true, eqb-false, eq-eqb, leb-true, leb-false, le-leb, lt-leb, lt-ltb}
use lib.Dec.{eqb, leb}
use lib.ListN.{length, get_or, drop, length-append, get_or-append}
use lib.Seq.{take-append-le}
use Rattle.run.specs.Verdict.{Verdict}
use Rattle.run.specs.Verdicts.{or_else}
use Rattle.run.proofs.Chain.{or_else_refused}
use Rattle.kinds.specs.Rule.{is_kind, second_verdict}
use Rattle.kinds.proofs.ByKind.{size_some, size_small}
use Rattle.lines.specs.Outcome.{mapper_verdict}
use Rattle.job.specs.declared.fault.Fault.{Fault}
use Rattle.job.specs.declared.fault.Fault.TheVariants.{OverLong, WrongMark, UnknownVersion}
use Rattle.job.specs.Faults.{check}
use Rattle.job.specs.Rule.{version_in, is_version, width_of, limit_of, count_in, size_in, record_in}
use Rattle.job.specs.Outcome.{within, reach, present, byte_is, length_verdict, head_verdict, size_from, kind_head, record_head, record_verdict, end_verdict}
use Rattle.job.specs.Windows.{head_asks, record_asks, Window, SameHead, Same, WindowOpens, WindowRuns, WindowEnds, RecordAsksFew}
use Rattle.job.proofs.Checks.{check_done, reach_done, width_small}
use Rattle.job.proofs.Headed.{headed}

not_nothing : {x : ℕ} {s : List ℕ} → x ∷ s ≡ [] → ⊥
not_nothing {x} {s} e = let z : suc (length s) ≡ 0 = ap length e in let n : ⊥ = omega arith in n

-- two chains whose first checks are the same, and whose others are where those pass
or_else_same : {u v : Verdict} {x y : Verdict} → u ≡ v → (u.number ≡ 0 → x ≡ y) → or_else u x ≡ or_else v y
or_else_same {u} {v} {x} {y} e f = pick (eqb u.number 0) refl ∙ ap (λ (w : Verdict). or_else w y) e
  where
    pick : (b : Bool) → eqb u.number 0 ≡ b → or_else u x ≡ or_else u y
    pick true h = ap (or_else u) (f (eqb-true _ _ h))
    pick false h = let n = eqb-false _ _ h in or_else_refused u x n ∙ sym (or_else_refused u y n)

-- ---- a file of s bytes and a longer one of t: they are told the same of all bytes that the shorter has, or where it has the limit's
module _ (limit s t end : ℕ) (longer : s ≤ t) (holds : min end (suc limit) ≤ s) where
  within_same : within limit s end ≡ within limit t end
  unfolding within
  within_same = pick (leb end limit) refl
    where
      pick : (b : Bool) → leb end limit ≡ b → check (leb (min end s) limit) (OverLong limit) ≡ check (leb (min end t) limit) (OverLong limit)
      pick true e = let h : end ≤ limit = leb-true _ _ e in rw (le-leb (min end s) limit (omega arith), le-leb (min end t) limit (omega arith))
      pick false e = let h : limit < end = leb-false _ _ e in rw (lt-leb (min end s) limit (omega arith), lt-leb (min end t) limit (omega arith))

  within_there : (within limit s end).number ≡ 0 → end ≤ s
  unfolding within
  within_there h = let m : min end s ≤ limit = leb-true _ _ (check_done _ _ h) in omega arith

  reach_same : reach limit s end ≡ reach limit t end
  unfolding reach check
  reach_same =
      or_else_same within_same
      (λ h.
      let m = within_there h in
      rw (le-leb end s (omega arith), le-leb end t (omega arith)))

-- ---- a record
module _ (window : List ℕ) where
  asks_one : 1 ≤ record_asks window
  unfolding record_asks
  asks_one = pick (is_kind (get_or window 0 0)) (eqb (second_verdict (get_or window 0 0) (get_or window 1 0)).number 0) (size_some (get_or window 0 0) (get_or window 1 0))
    where
      pick : (a b : Bool) → 2 ≤ size_in window → 1 ≤ cond a (cond b (size_in window) 2) 1
      pick false b h = omega arith
      pick true false h = omega arith
      pick true true h = omega arith

  asks_two : is_kind (get_or window 0 0) ≡ true → 2 ≤ record_asks window
  unfolding record_asks
  asks_two e = rw e (pick (eqb (second_verdict (get_or window 0 0) (get_or window 1 0)).number 0) (size_some (get_or window 0 0) (get_or window 1 0)))
    where
      pick : (b : Bool) → 2 ≤ size_in window → 2 ≤ cond b (size_in window) 2
      pick false h = omega arith
      pick true h = h

  asks_all : is_kind (get_or window 0 0) ≡ true → (second_verdict (get_or window 0 0) (get_or window 1 0)).number ≡ 0 → record_asks window ≡ size_in window
  unfolding record_asks
  asks_all e h = rw (e, eq-eqb (second_verdict (get_or window 0 0) (get_or window 1 0)).number 0 h)

pub record_asks_few : RecordAsksFew
unfolding record_asks
record_asks_few window h = pick (is_kind (get_or window 0 0)) (eqb (second_verdict (get_or window 0 0) (get_or window 1 0)).number 0) (size_small (get_or window 0 0) (get_or window 1 0) h)
  where
    pick : (a b : Bool) → size_in window ≤ 1284 → cond a (cond b (size_in window) 2) 1 ≤ 1284
    pick false b k = omega arith
    pick true false k = omega arith
    pick true true k = k

module _ (limit offset : ℕ) (window behind : List ℕ) (holds : min (offset + record_asks window) (suc limit) ≤ offset + length window) where
  -- the bytes that are asked for are told the same ..
  told_same : (k : ℕ) → k ≤ record_asks window → reach limit (size_from offset window) (offset + k) ≡ reach limit (size_from offset (window ++ behind)) (offset + k)
  told_same k h = let l = length-append window behind in reach_same limit _ _ _ (omega arith) (omega arith)

  told_there : (k : ℕ) → (reach limit (size_from offset window) (offset + k)).number ≡ 0 → k ≤ length window
  told_there k h = let r : offset + k ≤ offset + length window = reach_done limit _ _ h in omega arith

  -- .. and are the same
  byte_same : (k : ℕ) → k < length window → get_or window k 0 ≡ get_or (window ++ behind) k 0
  byte_same k h = sym (get_or-append window behind 0 k h)

  size_same : 2 ≤ length window → size_in window ≡ size_in (window ++ behind)
  size_same h = rw (← byte_same 0 (omega arith), ← byte_same 1 (omega arith))

  kind_same : 1 ≤ length window → kind_head limit offset window ≡ kind_head limit offset (window ++ behind)
  unfolding kind_head
  kind_same some =
      or_else_same (rw (← byte_same 0 some))
      (λ known.
      or_else_same (told_same 2 (asks_two window (check_done _ _ known)))
      (λ two.
      let h = told_there 2 two in
      or_else_same (rw (← byte_same 0 some, ← byte_same 1 h))
      (λ second.
      let all = asks_all window (check_done _ _ known) second in
      told_same (size_in window) (omega arith) ∙ rw (size_same h))))

  head_same : record_head limit offset window ≡ record_head limit offset (window ++ behind)
  unfolding record_head
  head_same = or_else_same (told_same 1 (asks_one window)) (λ one. kind_same (told_there 1 one))

  head_there : (record_head limit offset window).number ≡ 0 → size_in window ≤ length window
  head_there h = (headed limit offset window h).inside

  head_size : (record_head limit offset window).number ≡ 0 → size_in window ≡ size_in (window ++ behind)
  head_size h =
      let some = size_some (get_or window 0 0) (get_or window 1 0) in
      let there = head_there h in
      size_same (omega arith)

  head_bytes : (record_head limit offset window).number ≡ 0 → record_in window ≡ record_in (window ++ behind)
  unfolding record_in
  head_bytes h = rw (← head_size h) (sym (take-append-le (size_in window) window behind (head_there h)))

  same_record : Same limit offset window (window ++ behind)
  unfolding record_verdict
  same_record = record { verdict = or_else_same head_same (λ h. ap mapper_verdict (head_bytes h)); size = head_size; bytes = head_bytes }

-- a window that reaches the file's end, or one behind which something is left
module _ {limit : ℕ} {file : List ℕ} {offset asked : ℕ} {window : List ℕ} (w : Window limit file offset asked window) (P : List ℕ → Type 0) where
  pub by_window : P window → ((behind : List ℕ) → min (offset + asked) (suc limit) ≤ offset + length window → P (window ++ behind)) → P (drop offset file)
  by_window whole more = rw w.cut (pick w.behind refl)
    where
      pick : (behind : List ℕ) → w.behind ≡ behind → P (window ++ w.behind)
      pick [] e = rw (e, append-nil window) whole
      pick (x ∷ xs) e = more w.behind (w.holds (λ n. not_nothing (sym e ∙ n)))

pub window_runs : WindowRuns
window_runs limit file offset window w =
    by_window w (Same limit offset window) (record { verdict = refl; size = λ h. refl; bytes = λ h. refl }) (λ behind h. same_record limit offset window behind h)

-- ---- the end
end_same : (limit offset : ℕ) (window behind : List ℕ) → min (offset + 1) (suc limit) ≤ offset + length window → end_verdict limit offset window ≡ end_verdict limit offset (window ++ behind)
unfolding end_verdict
end_same limit offset window behind holds =
    let l = length-append window behind in
    let longer : offset + length window ≤ offset + length (window ++ behind) = omega arith in
    or_else_same (within_same limit _ _ (offset + 1) longer holds)
    (λ h.
    let m = within_there limit _ _ (offset + 1) longer holds h in
    rw (lt-leb (offset + length window) offset (omega arith), lt-leb (offset + length (window ++ behind)) offset (omega arith)))

pub window_ends : WindowEnds
window_ends limit file offset window w =
    by_window w (λ (rest : List ℕ). end_verdict limit offset window ≡ end_verdict limit offset rest) refl (λ behind h. end_same limit offset window behind h)

-- ---- the header
module _ (window behind : List ℕ) (holds : min (0 + head_asks window) (suc (limit_of (version_in window))) ≤ 0 + length window) where
  abbrev file : List ℕ
  file = window ++ behind

  seven : 7 ≤ length window
  unfolding head_asks limit_of
  seven = pick (eqb (version_in window) 1) holds
    where
      pick : (b : Bool) → min (0 + cond b 65536 7) (suc (cond b 65535 1048576)) ≤ 0 + length window → 7 ≤ length window
      pick true h = omega arith
      pick false h = omega arith

  first_over : version_in window ≡ 1 → 65535 < length window
  unfolding head_asks limit_of
  first_over e = let h = rw (eq-eqb (version_in window) 1 e) at holds in omega arith

  header_byte : (k : ℕ) → k < 7 → get_or file k 0 ≡ get_or window k 0
  header_byte k h = get_or-append window behind 0 k (let m = seven in omega arith)

  present_same : (k : ℕ) → k < 7 → present file k ≡ present window k
  unfolding present check
  present_same k h =
      let m = seven in
      let l = length-append window behind in
      rw (lt-ltb k (length file) (omega arith), lt-ltb k (length window) (omega arith))

  byte_is_same : (k : ℕ) (ok : Bool) (fault : Fault) → k < 7 → byte_is file k ok fault ≡ byte_is window k ok fault
  unfolding byte_is
  byte_is_same k ok fault h = rw (present_same k h)

  length_same : length_verdict (version_in window) (length file) ≡ length_verdict (version_in window) (length window)
  unfolding length_verdict limit_of
  length_same = pick (eqb (version_in window) 1) refl
    where
      pick : (b : Bool) → eqb (version_in window) 1 ≡ b → length_verdict (version_in window) (length file) ≡ length_verdict (version_in window) (length window)
      pick true e =
          let o = first_over (eqb-true _ _ e) in
          let l = length-append window behind in
          rw (e, lt-leb (length file) 65535 (omega arith), lt-leb (length window) 65535 (omega arith))
      pick false e = rw e

  verdict_same : head_verdict window ≡ head_verdict file
  unfolding head_verdict
  verdict_same =
      let w = width_small (version_in window) in
      rw (
        header_byte 0 (omega arith),
        header_byte 1 (omega arith),
        header_byte 2 (omega arith),
        header_byte 3 (omega arith),
        header_byte 4 (omega arith),
        byte_is_same 0 (eqb (get_or window 0 0) 83) (WrongMark 0) (omega arith),
        byte_is_same 1 (eqb (get_or window 1 0) 76) (WrongMark 1) (omega arith),
        byte_is_same 2 (eqb (get_or window 2 0) 84) (WrongMark 2) (omega arith),
        byte_is_same 3 (eqb (get_or window 3 0) 0) (UnknownVersion 3) (omega arith),
        byte_is_same 4 (is_version (version_in window)) (UnknownVersion 4) (omega arith),
        length_same,
        present_same (4 + width_of (version_in window)) (omega arith),
      )

  count_same : (width : ℕ) → 5 + width ≤ 7 → count_in width window ≡ count_in width file
  unfolding count_in
  count_same zero h = refl
  count_same (suc width) h = rw (count_same width (omega arith), header_byte (5 + width) (omega arith))

  pub same_head : SameHead window file
  same_head =
      let w = width_small (version_in window) in
      record { verdict = verdict_same; version = sym (header_byte 4 (omega arith)); count = count_same (width_of (version_in window)) (omega arith) }

pub window_opens : WindowOpens
window_opens _ window w =
    by_window w (SameHead window) (record { verdict = refl; version = refl; count = refl }) (λ behind h. same_head window behind h)
