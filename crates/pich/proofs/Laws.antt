-- Laws of the four numbers of indicators, and of a frame's groups of digits.
-- Assumes nothing.
use mathlib.Core.Path.{◌≡◌, refl, ap, ◌∙◌}
use mathlib.Core.Bool.{true, false}
use mathlib.Core.List.{List}
use mathlib.Core.Logic.{◌⊎◌, inl, inr, ⊎_elim}
use Prim.Native.Nat.{ℕ, ◌+◌, ◌*◌, ◌/◌, ◌%◌, ◌≤◌, ◌<◌}
use native.Mathlib.Nat.{mul-le-mul, mul-le-mul_left, div-mul-le_self}
use native.Mathlib.Omega.{arith}
use borrow.Author.Tests.{eqb-true, ltb-true, ne_eqb, lt-ltb, le-ltb}
use lib.Dec.{eqb}
use lib.ListN.{length, get_or}
use Rattle.run.specs.Digits.{dtx}
use Rattle.run.specs.First.{Every, at_most}
use Rattle.run.proofs.Bools.{either}
use Rattle.run.proofs.Chain.{four_done, or_else_done, unless_done, each_done}
use Rattle.run.proofs.Table.{tab_length, tab_at}
use Rattle.run.proofs.Answers.{left}
use Rattle.run.specs.Answers.{number_of}
use Rattle.run.specs.Verdicts.{refused}
use Rattle.run.specs.declared.refusal.Refusal.{Refusal}
use Rattle.std.specs.Prelude.{Result, Ok, Err}
use Rattle.std.specs.Result.{IsErrAnd}
use Rattle.pich.specs.Rule.{is_np, width, first_digit, frame_of, indicators_in, q_of}
use Rattle.pich.specs.declared.Pi.{Pi}
use Rattle.pich.specs.declared.Indicator.{Indicator}
use Rattle.pich.specs.Paging.{paging_of}
use Rattle.pich.specs.Outcome.{q_verdict, Q, map_verdict, stands, read_head, read_verdict}

-- what holds at 18, 36, 72 and 144 holds at every Np
pub at_each : (P : ℕ → Type 0) → P 18 → P 36 → P 72 → P 144 → (np : ℕ) → is_np np ≡ true → P np
unfolding is_np
at_each P a b c d np e =
    either _ (eqb np 144) e
    (λ f.
    either _ (eqb np 72) f
    (λ g. either (eqb np 18) (eqb np 36) g (λ h. rw (eqb-true np 18 h) a) (λ h. rw (eqb-true np 36 h) b))
    (λ h. rw (eqb-true np 72 h) c))
    (λ h. rw (eqb-true np 144 h) d)

-- an Np that is none of the first three
pub last_np : (np : ℕ) → is_np np ≡ true → (np ≡ 18 → ⊥) → (np ≡ 36 → ⊥) → (np ≡ 72 → ⊥) → np ≡ 144
last_np =
    at_each (λ (n : ℕ). (n ≡ 18 → ⊥) → (n ≡ 36 → ⊥) → (n ≡ 72 → ⊥) → n ≡ 144)
    (λ a b c. absurd (a refl))
    (λ a b c. absurd (b refl))
    (λ a b c. absurd (c refl))
    (λ a b c. refl)

-- the groups lie within the first 288 digits, and fill them
pub record Groups (np : ℕ) : Type 0 where
  pub some : 0 < np
  pub few : np ≤ 144
  pub wide : 0 < width np
  pub whole : width np * np ≡ 288
  pub inside : (q : ℕ) → q < np → width np * q + width np ≤ 288
  pub next : (q : ℕ) → width np * q + width np ≡ width np * (q + 1)
  pub group_of : (q i : ℕ) → i < width np → (width np * q + i) / width np ≡ q
  pub in_a_group : (k : ℕ) → k < 288 → k / width np < np

pub groups : (np : ℕ) → is_np np ≡ true → Groups np
groups = at_each Groups (omega arith) (omega arith) (omega arith) (omega arith)

-- a stretch of any number of indicators begins within 288 digits
pub begins_within : (np q : ℕ) → q < np → width np * q ≤ 288
begins_within np q h =
    let below : 288 / np * q ≤ 288 / np * np = mul-le-mul_left (288 / np) (omega arith) in
    let whole = div-mul-le_self 288 np in
    omega arith

-- an indicator of the frame: where it begins, and that it ends before the tail
pub record Stretch (np q start : ℕ) : Type 0 where
  pub begins : start ≡ width np * q
  pub inside : start + width np ≤ 288

pub stretch : (np q start : ℕ) → is_np np ≡ true → q < np → start ≡ first_digit np q → Stretch np q start
unfolding first_digit
stretch np q start ok h e =
    let begins : start ≡ width np * q = e ∙ rw (lt-ltb q np h) in
    let room = (groups np ok).inside q h in
    record { begins = begins; inside = omega arith }

pub np_named : (np : ℕ) → (np ≡ 18) ⊎ ((np ≡ 36) ⊎ ((np ≡ 72) ⊎ (np ≡ 144))) → true ≡ is_np np
unfolding is_np
np_named np = ⊎_elim (λ e. rw e) (⊎_elim (λ e. rw e) (⊎_elim (λ e. rw e) (λ e. rw e)))

pub np_unnamed : (np : ℕ) → ((np ≡ 18) ⊎ ((np ≡ 36) ⊎ ((np ≡ 72) ⊎ (np ≡ 144))) → ⊥) → false ≡ is_np np
unfolding is_np
np_unnamed np h =
    rw (ne_eqb np 18 (λ e. h (inl e)), ne_eqb np 36 (λ e. h (inr (inl e))), ne_eqb np 72 (λ e. h (inr (inr (inl e)))), ne_eqb np 144 (λ e. h (inr (inr (inr e)))))

-- a product with a variable is no term of linear arithmetic: its bound
pub scaled : (y np : ℕ) → np ≤ 144 → y % 144 * np ≤ 20736
scaled y np h = mul-le-mul {n₁ = y % 144} {m₁ = np} {n₂ = 144} {m₂ = 144} (omega arith) h

-- the digits of a frame: each group has its indicator's, and the tail is DTX
module _ (np : ℕ) (indicators : List ℕ) where
  pub frame_length : length (frame_of np indicators) ≡ 300
  unfolding frame_of
  frame_length = tab_length 300 _

  pub digit_at : (k : ℕ) → k < 288 → get_or (frame_of np indicators) k 0 ≡ get_or indicators (k / width np) 0
  unfolding frame_of
  digit_at k h = tab_at 300 _ k 0 (omega arith) ∙ rw (lt-ltb k 288 h)

  pub tail_at : (k : ℕ) → 288 ≤ k → k < 300 → get_or (frame_of np indicators) k 0 ≡ dtx
  unfolding frame_of
  tail_at k h l = tab_at 300 _ k 0 l ∙ rw (le-ltb k 288 h)

  pub filled_at : is_np np ≡ true → (q i : ℕ) → q < np → i < width np → get_or (frame_of np indicators) (width np * q + i) 0 ≡ get_or indicators q 0
  filled_at ok q i h l =
      let g = groups np ok in
      let room = g.inside q h in
      digit_at (width np * q + i) (omega arith) ∙ ap (λ (j : ℕ). get_or indicators j 0) (g.group_of q i l)

-- the indicators of a frame
module _ (np : ℕ) (frame : List ℕ) where
  pub indicators_length : length (indicators_in np frame) ≡ np
  unfolding indicators_in
  indicators_length = tab_length np _

  pub indicator_at : (q : ℕ) → q < np → get_or (indicators_in np frame) q 0 ≡ get_or frame (width np * q) 0
  unfolding indicators_in
  indicator_at q h = tab_at np _ q 0 h

-- what is known where no check refused
pub record Asked (np : ℕ) (pi : Pi) (sfn : ℕ) : Type 0 where
  pub np_ok : is_np np ≡ true
  pub pi_ok : pi.0 < np
  pub sfn_ok : sfn < 4096

pub asked : (np : ℕ) (pi : Pi) (sfn : ℕ) → (q_verdict np pi sfn).number ≡ 0 → Asked np pi sfn
unfolding q_verdict
asked np pi sfn h =
    let c1 = or_else_done _ _ h in
    let c2 = or_else_done _ _ c1.rest in
    record {
      np_ok = unless_done _ 8 0 (omega arith) c1.first;
      pi_ok = ltb-true _ _ (unless_done _ 11 0 (omega arith) c2.first);
      sfn_ok = ltb-true _ _ (unless_done _ 11 1 (omega arith) c2.rest);
    }

-- .. and where `q` refuses
pub q_refused : (np : ℕ) (pi : Pi) (sfn : ℕ) (r : Result Indicator Refusal) (x : Refusal) → IsErrAnd r (λ e. e ≡ x)
    → refused (number_of x.reason) x.place ≡ q_verdict np pi sfn → Q np pi sfn (paging_of r)
q_refused np pi sfn (Ok q) x h e = absurd h
q_refused np pi sfn (Err y) x h e =
    let same : y ≡ x = h in
    let told : refused (number_of y.reason) y.place ≡ q_verdict np pi sfn = rw same e in
    record { verdict_is = told; q_is = left y (q_of np pi.0 sfn) 0 told }

pub record Taken (np : ℕ) (indicators : List ℕ) (frame_len : ℕ) : Type 0 where
  pub np_ok : is_np np ≡ true
  pub indicators_ok : length indicators ≡ np
  pub frame_ok : frame_len ≡ 300
  pub digits_ok : Every (at_most 1 indicators) (length indicators)

pub taken : (np : ℕ) (indicators : List ℕ) (frame_len : ℕ) → (map_verdict np indicators frame_len).number ≡ 0 → Taken np indicators frame_len
unfolding map_verdict
taken np indicators frame_len h =
    let c = four_done _ _ _ _ h in
    record {
      np_ok = unless_done _ 8 0 (omega arith) c.first;
      indicators_ok = eqb-true _ _ (unless_done _ 3 0 (omega arith) c.second);
      frame_ok = eqb-true _ _ (unless_done _ 3 1 (omega arith) c.third);
      digits_ok = each_done 0 4 _ _ (omega arith) c.fourth;
    }

pub record Headed (np : ℕ) (frame : List ℕ) (indicators_len : ℕ) : Type 0 where
  pub np_ok : is_np np ≡ true
  pub frame_ok : length frame ≡ 300
  pub indicators_ok : indicators_len ≡ np
  pub digits_ok : Every (at_most 2 frame) (length frame)

pub headed : (np : ℕ) (frame : List ℕ) (indicators_len : ℕ) → (read_head np frame indicators_len).number ≡ 0 → Headed np frame indicators_len
unfolding read_head
headed np frame indicators_len h =
    let c = four_done _ _ _ _ h in
    record {
      np_ok = unless_done _ 8 0 (omega arith) c.first;
      frame_ok = eqb-true _ _ (unless_done _ 3 0 (omega arith) c.second);
      indicators_ok = eqb-true _ _ (unless_done _ 3 1 (omega arith) c.third);
      digits_ok = each_done 0 4 _ _ (omega arith) c.fourth;
    }

pub record Accepted (np : ℕ) (frame : List ℕ) (indicators_len : ℕ) : Type 0 where
  pub head : Headed np frame indicators_len
  pub stand : Every (stands np frame) 300

pub accepted : (np : ℕ) (frame : List ℕ) (indicators_len : ℕ) → (read_verdict np frame indicators_len).number ≡ 0 → Accepted np frame indicators_len
unfolding read_verdict
accepted np frame indicators_len h =
    let c1 = or_else_done _ _ h in
    record {
      head = headed np frame indicators_len c1.first;
      stand = each_done 0 9 _ _ (omega arith) c1.rest;
    }
