-- Laws of the tally: moved on by no frame, by some and then by others; and of one frame's checks in their order.
-- Assumes nothing.
use mathlib.Core.Path.{◌≡◌, refl, sym, ap, ◌∙◌}
use mathlib.Core.Bool.{Bool, true, false, cond}
use mathlib.Core.List.{List, ◌++◌}
use Prim.Native.Nat.{ℕ, ◌+◌, ◌%◌, ◌<◌}
use native.Mathlib.Nat.{add-zero}
use native.Mathlib.Omega.{arith}
use borrow.Author.Tests.{eqb-true, eqb-false, ltb-true, ne_eqb}
use lib.Dec.{eqb, ltb}
use lib.ListN.{length, get_or, get_or-append}
use Rattle.run.specs.Verdict.{Verdict}
use Rattle.run.specs.Count.{count}
use Rattle.run.specs.Verdicts.{refused, done, or_else, leaves}
use Rattle.run.specs.Answers.{number_of, verdict_of, value_of}
use Rattle.run.specs.declared.refusal.Refusal.{Refusal}
use Rattle.run.proofs.Answers.{refuses, handed, left, written}
use Rattle.std.specs.Prelude.{Result, Ok, Err, IfOk}
use Rattle.std.specs.Result.{IsErrAnd}
use Rattle.pich.specs.Outcome.{Read}
use Rattle.wake.specs.Exact.{simulated}
use Rattle.run.proofs.Bools.{and_left, and_right}
use Rattle.run.proofs.Chain.{or_else_done, or_else_refused, unless_done, leaves_done, number_0}
use Rattle.run.proofs.Count.{count_same, count_sum}
use Rattle.pich.proofs.Laws.{indicators_length}
use Rattle.pich.specs.Rule.{indicators_in, q_of}
use Rattle.pich.specs.Outcome.{q_verdict, read_verdict}
use Rattle.wake.specs.declared.Tally.{Tally}
use Rattle.wake.specs.Rule.{sfn_at, wakes, woken, tally_at}
use Rattle.wake.specs.Outcome.{has_room, frame_head, frame_verdict, frame_tally, Frame, verdict_at}

-- ---- the SFN

pub sfn_none : (first : ℕ) → sfn_at first 0 ≡ first
unfolding sfn_at
sfn_none first = refl

pub sfn_some : (first k : ℕ) → 0 < k → sfn_at first k ≡ (first + k) % 4096
unfolding sfn_at
sfn_some first k h = rw (ne_eqb k 0 (λ e. let z : ⊥ = omega arith in z))

pub sfn_add : (first m k : ℕ) → sfn_at first (m + k) ≡ sfn_at (sfn_at first m) k
sfn_add first m k = side (eqb m 0) refl (eqb k 0) refl
  where
    side : (a : Bool) → eqb m 0 ≡ a → (b : Bool) → eqb k 0 ≡ b → sfn_at first (m + k) ≡ sfn_at (sfn_at first m) k
    side true e b f =
        let z : m ≡ 0 = eqb-true _ _ e in
        let none : m + k ≡ k = omega arith in
        ap (sfn_at first) none ∙ ap (λ (x : ℕ). sfn_at x k) (sym (ap (sfn_at first) z ∙ sfn_none first))
    side false e true f =
        let z : k ≡ 0 = eqb-true _ _ f in
        let none : m + k ≡ m = omega arith in
        ap (sfn_at first) none ∙ sym (ap (sfn_at (sfn_at first m)) z ∙ sfn_none (sfn_at first m))
    side false e false f =
        let some-m : m ≡ 0 → ⊥ = eqb-false _ _ e in
        let some-k : k ≡ 0 → ⊥ = eqb-false _ _ f in
        sfn_some first (m + k) (omega arith)
        ∙ (let z : (first + (m + k)) % 4096 ≡ ((first + m) % 4096 + k) % 4096 = omega arith in z)
        ∙ sym (sfn_some (sfn_at first m) k (omega arith) ∙ ap (λ (x : ℕ). (x + k) % 4096) (sfn_some first m (omega arith)))

-- an SFN moved on is one, where the first is
pub sfn_fits : (first k : ℕ) → first < 4096 → sfn_at first k ≡ (first + k) % 4096
sfn_fits first k h = side (eqb k 0) refl
  where
    side : (b : Bool) → eqb k 0 ≡ b → sfn_at first k ≡ (first + k) % 4096
    side true e =
        let z : k ≡ 0 = eqb-true _ _ e in
        ap (sfn_at first) z ∙ sfn_none first ∙ (let same : first ≡ (first + k) % 4096 = omega arith in same)
    side false e = let some : k ≡ 0 → ⊥ = eqb-false _ _ e in sfn_some first k (omega arith)

-- ---- the tally

same_tally : {a b : Tally} → a.read ≡ b.read → a.woke ≡ b.woke → a.next ≡ b.next → a ≡ b
same_tally p q r = λ i. record { read = p i; woke = q i; next = r i }

module _ (np pi : ℕ) where
  pub tally_none : (t : Tally) (frame : ℕ → List ℕ) → tally_at np pi t frame 0 ≡ t
  unfolding tally_at woken count
  tally_none t frame = same_tally (add-zero t.read) (add-zero t.woke) (sfn_none t.next)

  -- frames that are the same one by one
  pub tally_same : (t : Tally) (f g : ℕ → List ℕ) (n : ℕ) → ((k : ℕ) → k < n → f k ≡ g k) → tally_at np pi t f n ≡ tally_at np pi t g n
  unfolding tally_at woken
  tally_same t f g n same =
      same_tally refl
      (ap (λ (x : ℕ). t.woke + x) (count_same n _ _ (λ k h. ap (wakes np pi (sfn_at t.next k)) (same k h))))
      refl

  -- m frames, and then k more
  pub tally_add : (t : Tally) (f : ℕ → List ℕ) (m k : ℕ) → tally_at np pi t f (m + k) ≡ tally_at np pi (tally_at np pi t f m) (λ (j : ℕ). f (m + j)) k
  unfolding tally_at woken
  tally_add t f m k =
      same_tally (let z : t.read + (m + k) ≡ t.read + m + k = omega arith in z) both (sfn_add t.next m k)
    where
      both : t.woke + count (m + k) (λ (j : ℕ). wakes np pi (sfn_at t.next j) (f j))
          ≡ t.woke + count m (λ (j : ℕ). wakes np pi (sfn_at t.next j) (f j)) + count k (λ (j : ℕ). wakes np pi (sfn_at (sfn_at t.next m) j) (f (m + j)))
      both =
          let parts = count_sum m k (λ (j : ℕ). wakes np pi (sfn_at t.next j) (f j)) in
          let moved : count k (λ (j : ℕ). wakes np pi (sfn_at t.next (m + j)) (f (m + j))) ≡ count k (λ (j : ℕ). wakes np pi (sfn_at (sfn_at t.next m) j) (f (m + j)))
          = count_same k _ _ (λ j _. ap (λ (s : ℕ). wakes np pi s (f (m + j))) (sfn_add t.next m j)) in
          omega arith

  pub verdict_add : (t : Tally) (f : ℕ → List ℕ) (m k : ℕ) → verdict_at np pi t f (m + k) ≡ verdict_at np pi (tally_at np pi t f m) (λ (j : ℕ). f (m + j)) k
  unfolding verdict_at
  verdict_add t f m k = ap (λ (u : Tally). frame_verdict np pi u (f (m + k))) (tally_add t f m k)

  -- one frame more
  pub tally_more : (t : Tally) (f : ℕ → List ℕ) (k : ℕ) → tally_at np pi t f (k + 1) ≡ tally_at np pi (tally_at np pi t f k) (λ (j : ℕ). f k) 1
  tally_more t f k =
      tally_add t f k 1
      ∙ tally_same _ _ _ 1 (λ j h. ap f (let z : k + j ≡ k = omega arith in z))

-- ---- one frame, its checks in their order

-- q, as it is answered where it is not refused, is the number of an indicator
pub q_told : (np pi sfn q : ℕ) → (q_verdict np (record { 0 = pi }) sfn).number ≡ 0 → q ≡ leaves (q_verdict np (record { 0 = pi }) sfn) (q_of np pi sfn) 0 → q ≡ q_of np pi sfn
q_told np pi sfn q z e = e ∙ leaves_done (q_verdict np (record { 0 = pi }) sfn) (q_of np pi sfn) 0 z

pub record Passed (np pi : ℕ) (t : Tally) (frame : List ℕ) : Type 0 where
  pub head_ok : (frame_head t.read t.woke (length frame)).number ≡ 0
  pub q_ok : (q_verdict np (record { 0 = pi }) t.next).number ≡ 0
  pub read_ok : (read_verdict np frame np).number ≡ 0

pub record Roomy (read woke frame_length : ℕ) : Type 0 where
  pub long : frame_length ≡ 300
  pub read_room : read < 4294967295
  pub woke_room : woke < 4294967295

pub roomy : (read woke frame_length : ℕ) → (frame_head read woke frame_length).number ≡ 0 → Roomy read woke frame_length
unfolding frame_head has_room
roomy read woke frame_length h =
    let both = or_else_done _ _ h in
    let room = unless_done _ 32 0 (omega arith) both.rest in
    record {
      long = eqb-true _ _ (unless_done _ 3 0 (omega arith) both.first);
      read_room = ltb-true _ _ (and_left _ _ room);
      woke_room = ltb-true _ _ (and_right (ltb read 4294967295) _ room);
    }

module _ (np pi : ℕ) (t : Tally) (frame : List ℕ) where
  pub frame_passed : (frame_verdict np pi t frame).number ≡ 0 → Passed np pi t frame
  unfolding frame_verdict
  frame_passed h =
      let a = or_else_done _ _ h in
      let b = or_else_done _ _ a.rest in
      record { head_ok = a.first; q_ok = b.first; read_ok = b.rest }

  -- refused by the frame's verdict: the tally is as it was
  pub frame_stops : {A : Type 0} (r : Result A Refusal) (x : Refusal) → IsErrAnd r (λ e. e ≡ x) → refused (number_of x.reason) x.place ≡ frame_verdict np pi t frame
      → Frame np pi t frame (simulated (verdict_of r) t)
  unfolding frame_tally
  frame_stops r x h e = record { verdict_is = handed r x h ∙ e; tally_is = left x _ t e }

  -- read: the tally one frame on
  pub frame_read : done ≡ frame_verdict np pi t frame
      → (u : Tally) → u ≡ record { read = t.read + 1; woke = t.woke + cond (eqb (get_or (indicators_in np frame) (q_of np pi t.next) 0) 1) 1 0; next = (t.next + 1) % 4096 }
      → Frame np pi t frame (simulated done u)
  unfolding frame_tally tally_at woken count wakes sfn_at
  frame_read e u is = record { verdict_is = e; tally_is = written (tally_at np pi t (λ (k : ℕ). frame) 1) t e (is ∙ one) }
    where
      one : ◌≡◌ {A = Tally} (record { read = t.read + 1; woke = t.woke + cond (eqb (get_or (indicators_in np frame) (q_of np pi t.next) 0) 1) 1 0; next = (t.next + 1) % 4096 }) (tally_at np pi t (λ (k : ℕ). frame) 1)
      one = same_tally refl (let z : t.woke + cond (eqb (get_or (indicators_in np frame) (q_of np pi t.next) 0) 1) 1 0 ≡ t.woke + (0 + cond (eqb (get_or (indicators_in np frame) (q_of np pi t.next) 0) 1) 1 0) = omega arith in z) refl

-- a refusal that is handed on has no tally
pub no_tally : {A : Type 0} (P : A → Type 0) (r : Result A Refusal) (x : Refusal) {v : Verdict} → IsErrAnd r (λ e. e ≡ x) → refused (number_of x.reason) x.place ≡ v
    → (verdict_of r ≡ v) × IfOk r P
no_tally P (Ok a) x h e = absurd h
no_tally {A} P (Err y) x h e = (handed {A = A} (Err y) x h ∙ e, tt)

-- an indicator of a frame, where the reader hands all of them back
pub looked : (np q : ℕ) (digits before new rest : List ℕ) → q < np → length before ≡ np → Read np digits before done new
    → (done ≡ read_verdict np digits np) × (get_or (new ++ rest) q 0 ≡ leaves (read_verdict np digits np) (get_or (indicators_in np digits) q 0) 0)
looked np q digits before new rest h n r =
    let told : done ≡ read_verdict np digits np = rw n at r.verdict_is in
    let is : new ≡ indicators_in np digits = r.indicators_is ∙ leaves_done _ _ _ (number_0 (sym r.verdict_is)) in
    (told, written (get_or (indicators_in np digits) q 0) 0 told (rw is (get_or-append (indicators_in np digits) rest 0 q (rw (indicators_length np digits) h))))

-- .. and where it refuses
pub looked_refused : (r : Result ℕ Refusal) (x : Refusal) {v : Verdict} (value : ℕ) → IsErrAnd r (λ e. e ≡ x) → refused (number_of x.reason) x.place ≡ v
    → (verdict_of r ≡ v) × (value_of r ≡ leaves v value 0)
looked_refused (Ok n) x value h e = absurd h
looked_refused (Err y) x value h e = (handed {A = ℕ} (Err y) x h ∙ e, left x value 0 e)

-- a check that refuses ends the chain that it begins
pub ends : (x : Refusal) {v : Verdict} (w : Verdict) → refused (number_of x.reason) x.place ≡ v → refused (number_of x.reason) x.place ≡ or_else v w
ends x w e = rw (sym e) (sym (or_else_refused _ w (refuses x x.place)))
