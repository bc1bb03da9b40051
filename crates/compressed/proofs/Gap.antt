-- A gap of missing slots: the transmitted slots and the slots outside it are one to one.
-- Assumes nothing.
use mathlib.Core.Path.{◌≡◌, refl, sym}
use mathlib.Core.Bool.{Bool, true, false, not, true≢false}
use Prim.Native.Nat.{ℕ, ◌+◌, ◌-◌, ◌*◌, ◌≤◌, ◌<◌}
use native.Mathlib.Nat.{mul-le-mul_right}
use native.Mathlib.Omega.{arith}
use borrow.Author.Tests.{ltb-true, ltb-false, lt-ltb, le-ltb, le-leb, lt-leb}
use lib.Dec.{ltb}
use Rattle.run.proofs.Frames.{Plan}
use Rattle.compressed.specs.Rule.{is_missing, transmitted, number_of, turn_of}
use Rattle.compressed.specs.Exact.{OneToOne}

-- before a place or not
sides : {X : Type 0} (a b : ℕ) → (a < b → X) → (b ≤ a → X) → X
sides {X} a b p q = side (ltb a b) refl
  where
    side : (t : Bool) → ltb a b ≡ t → X
    side true e = p (ltb-true a b e)
    side false e = q (ltb-false a b e)

module _ (first missing : ℕ) where
  pub number_before : (i : ℕ) → i < first → number_of first missing i ≡ i
  unfolding number_of
  number_before i h = rw (lt-ltb i first h)

  pub number_behind : (i : ℕ) → first ≤ i → number_of first missing i ≡ i + missing
  unfolding number_of
  number_behind i h = rw (le-ltb i first h)

  pub turn_before : (k : ℕ) → k < first → turn_of first missing k ≡ k
  unfolding turn_of
  turn_before k h = rw (lt-ltb k first h)

  pub turn_behind : (k : ℕ) → first ≤ k → turn_of first missing k ≡ k - missing
  unfolding turn_of
  turn_behind k h = rw (le-ltb k first h)

  pub sent_before : (k : ℕ) → k < first → is_missing first missing k ≡ false
  unfolding is_missing
  sent_before k h = rw (lt-leb first k h)

  sent_behind : (k : ℕ) → first + missing ≤ k → is_missing first missing k ≡ false
  unfolding is_missing
  sent_behind k h = rw (le-leb first k (omega arith), le-ltb k (first + missing) h)

  -- a slot that is not missing stands before the gap or behind it
  outside : {X : Type 0} (k : ℕ) → is_missing first missing k ≡ false → (k < first → X) → (first + missing ≤ k → X) → X
  unfolding is_missing
  outside k e p q = sides k first p (λ h. q (ltb-false k (first + missing) (rw (le-leb first k h) at e)))

  -- the number of a transmitted slot, by where it stands
  pub numbered : {X : Type 0} (i : ℕ) → (i < first → number_of first missing i ≡ i → X) → (first ≤ i → number_of first missing i ≡ i + missing → X) → X
  numbered i p q = sides i first (λ h. p h (number_before i h)) (λ h. q h (number_behind i h))

  module _ (ends : first + missing ≤ 15) where
    pub one_to_one : OneToOne first missing
    one_to_one =
        record {
          number_below = λ i h. numbered i (λ l e. omega arith) (λ l e. omega arith);
          number_sent = λ i h. numbered i (λ l e. rw e (sent_before i l)) (λ l e. rw e (sent_behind (i + missing) (omega arith)));
          turn_back = λ i h.
              numbered i (λ l e. rw e (turn_before i l)) (λ l e. let t = turn_behind (i + missing) (omega arith) in rw e (let z : i + missing - missing ≡ i = omega arith in rw z at t));
          turn_below = λ k h e. outside k e (λ l. let t = turn_before k l in omega arith) (λ l. let t = turn_behind k (omega arith) in omega arith);
          number_back = λ k h e.
              outside k e (λ l. rw (turn_before k l) (number_before k l))
              (λ l. let t = turn_behind k (omega arith) in rw t (let n = number_behind (k - missing) (omega arith) in omega arith));
          in_order = λ i j h. numbered i (λ l e. numbered j (λ m g. omega arith) (λ m g. omega arith)) (λ l e. numbered j (λ m g. omega arith) (λ m g. omega arith));
        }

-- .. so the frames of the gap are frames of the general kind
pub not_missing : (b : Bool) → not b ≡ true → b ≡ false
not_missing true e = absurd (true≢false (sym e))
not_missing false e = refl

pub missing_not : (b : Bool) → not b ≡ false → b ≡ true
missing_not true e = refl
missing_not false e = absurd (true≢false e)

unfoldable pub plan : (first missing : ℕ) → first + missing ≤ 15 → Plan
plan first missing ends =
    let o = one_to_one first missing ends in
    record {
      count = transmitted missing;
      sent = λ (k : ℕ). not (is_missing first missing k);
      number = number_of first missing;
      turn = turn_of first missing;
      number_below = o.number_below;
      number_sent = λ i h. rw (o.number_sent i h);
      turn_back = o.turn_back;
      turn_below = λ k h e. o.turn_below k h (not_missing _ e);
      number_back = λ k h e. o.number_back k h (not_missing _ e);
    }

-- so many slots of a size are no more than a frame's longest run
pub small_product : (n size : ℕ) → n ≤ 15 → size ≤ 1280 → n * size ≤ 19200
small_product n size h k =
    let r = mul-le-mul_right size h in
    omega arith
