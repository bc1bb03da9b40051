-- The first place that fails a test, and a loop that looks for it: one proof over the test.
-- Assumes nothing.
use mathlib.Core.Path.{◌≡◌, refl, sym, ap, ◌∙◌}
use mathlib.Core.Bool.{Bool, true, false, cond}
use mathlib.Core.List.{List}
use Prim.Native.Nat.{ℕ, zero, suc, ◌+◌, ◌-◌, ◌≤◌, ◌<◌, min, suc-le-suc}
use native.Mathlib.Nat.{le_of_suc-le-suc, not-suc-le-zero}
use native.Mathlib.Omega.{arith}
use borrow.Author.Count.{below_none, below_more}
use borrow.Author.Tests.{eqb-true, eq-eqb, le-leb, leb-true, leb-false, ltb-true, ltb-false}
use lib.Dec.{leb, ltb, eqb}
use lib.ListN.{length, get_or, take}
use lib.Seq.{ext_get_or, get_or-take}
use Rattle.run.specs.First.{first_bad, Every, at_most, agree}

cond_le : (b : Bool) (m n : ℕ) → m ≤ n → cond b (suc m) 0 ≤ suc n
cond_le true m n h = omega arith
cond_le false m n h = omega arith

cond_taken : (b : Bool) (m n : ℕ) → n < cond b m 0 → b ≡ true
cond_taken true m n h = refl
cond_taken false m n h = absurd (not-suc-le-zero h)

cond_more : (b : Bool) (m n : ℕ) → suc n < cond b (suc m) 0 → n < m
cond_more true m n h = le_of_suc-le-suc h
cond_more false m n h = absurd (not-suc-le-zero h)

pub first_le : (ok : ℕ → Bool) (n : ℕ) → first_bad ok n ≤ n
unfolding first_bad
first_le ok zero = omega arith
first_le ok (suc n) = cond_le (ok 0) _ _ (first_le (λ (k : ℕ). ok (suc k)) n)

-- every place before the first that fails passes
pub first_below : (ok : ℕ → Bool) (n : ℕ) → Every ok (first_bad ok n)
unfolding first_bad
first_below ok zero k h = absurd (not-suc-le-zero h)
first_below ok (suc n) zero h = cond_taken (ok 0) _ _ h
first_below ok (suc n) (suc k) h = first_below (λ (j : ℕ). ok (suc j)) n k (cond_more (ok 0) _ _ h)

-- a place before which all pass, and which fails or is n, is the first
pub first_is : (ok : ℕ → Bool) (n k : ℕ) → k ≤ n → Every ok k → (k < n → ok k ≡ false) → first_bad ok n ≡ k
unfolding first_bad
first_is ok zero k h all bad = omega arith
first_is ok (suc n) zero h all bad = rw (bad (omega arith))
first_is ok (suc n) (suc k) h all bad =
    rw (all 0 (omega arith))
    (ap suc (first_is (λ (j : ℕ). ok (suc j)) n k (le_of_suc-le-suc h) (λ j l. all (suc j) (suc-le-suc l)) (λ l. bad (suc-le-suc l))))

fails_at : (ok : ℕ → Bool) (f n : ℕ) (b : Bool) → ok 0 ≡ b → (f < n → ok (suc f) ≡ false) → cond b (suc f) 0 < suc n → ok (cond b (suc f) 0) ≡ false
fails_at ok f n true e rest h = rest (le_of_suc-le-suc h)
fails_at ok f n false e rest h = e

-- where it is below n, it fails
pub first_fails : (ok : ℕ → Bool) (n : ℕ) → first_bad ok n < n → ok (first_bad ok n) ≡ false
unfolding first_bad
first_fails ok zero h = absurd (not-suc-le-zero h)
first_fails ok (suc n) h = fails_at ok _ n (ok 0) refl (first_fails (λ (k : ℕ). ok (suc k)) n) h

-- tests that agree at each of the places have the same first place that fails
pub first_same : (ok test : ℕ → Bool) (n : ℕ) → ((k : ℕ) → k < n → ok k ≡ test k) → first_bad ok n ≡ first_bad test n
first_same ok test n same =
    let w = first_le test n in
    first_is ok n (first_bad test n) w
    (λ k h. same k (omega arith) ∙ first_below test n k h)
    (λ h. same (first_bad test n) h ∙ first_fails test n h)

pub first_none : (ok : ℕ → Bool) (n : ℕ) → Every ok n → first_bad ok n ≡ n
first_none ok n all = first_is ok n n (omega arith) all (λ h. absurd (let z : ⊥ = omega arith in z))

pub none_first : (ok : ℕ → Bool) (n : ℕ) → n ≤ first_bad ok n → Every ok n
none_first ok n h k l = first_below ok n k (omega arith)

-- a test of n places that the checker computes
pub every_by : (ok : ℕ → Bool) (n : ℕ) → first_bad ok n ≡ n → Every ok n
every_by ok n e = none_first ok n (omega arith)

-- what a scan keeps: every place that it has passed passes the test
pub record Scanned (ok : ℕ → Bool) (n i : ℕ) : Type 0 where
  pub within : i ≤ n
  pub passed : Every ok i

module _ {ok : ℕ → Bool} {n : ℕ} where
  pub scan_start : Scanned ok n 0
  scan_start = record { within = omega arith; passed = below_none (λ (k : ℕ). ok k ≡ true) }

  pub scan_hit : {i : ℕ} → Scanned ok n i → i < n → ok i ≡ false → i ≡ first_bad ok n
  scan_hit {i} inv h bad = sym (first_is ok n i inv.within inv.passed (λ _. bad))

  pub scan_pass : {i : ℕ} → Scanned ok n i → i < n → ok i ≡ true → Scanned ok n (i + 1)
  scan_pass {i} inv h good =
      record { within = omega arith; passed = below_more (λ (k : ℕ). ok k ≡ true) i inv.passed good }

  pub scan_end : {i : ℕ} → Scanned ok n i → n ≤ i → i ≡ first_bad ok n
  scan_end {i} inv h = sym (first_is ok n i inv.within inv.passed (λ l. absurd (let z : ⊥ = omega arith in z)))

-- a bound on the digits passed, raised to one more
pub raised : (s : List ℕ) (low high i : ℕ) → Every (at_most low s) i → (low ≤ high) × (get_or s i 0 ≤ high) → Every (at_most high s) (i + 1)
raised s low high i all h =
    below_more (λ (k : ℕ). at_most high s k ≡ true) i
    (λ k l. let m : get_or s k 0 ≤ low = leb-true _ _ (all k l) in le-leb (get_or s k 0) high (omega arith))
    (le-leb _ _ h.1)

-- runs of one length that agree at every place are equal, and a run agrees with itself
pub no_diff : (s t : List ℕ) → length s ≡ length t → Every (agree s t) (length s) → s ≡ t
no_diff s t e all = ext_get_or 0 s t e (λ k h. eqb-true _ _ (all k h))

pub diff_none : (s t : List ℕ) (n : ℕ) → s ≡ t → Every (agree s t) n
diff_none s t n e k h = eq-eqb _ _ (ap (λ (l : List ℕ). get_or l k 0) e)

-- a run compared with what begins with its pattern
pub begins_scan : (s source pattern : List ℕ) → pattern ≡ take (length s) source → length s ≤ length source
    → first_bad (agree s source) (min (length s) (length source)) ≡ first_bad (agree s pattern) (length s)
begins_scan s source pattern e h =
    let all : min (length s) (length source) ≡ length s = omega arith in
    rw all
    (first_same _ _ (length s)
    (λ k l. ap (λ (x : ℕ). eqb (get_or s k 0) x) (sym (ap (λ (t : List ℕ). get_or t k 0) e ∙ get_or-take (length s) source k 0 l))))

-- a run scanned part by part: `part` is the test within the w places from a on, before which all pass
module _ (ok part : ℕ → Bool) (a w : ℕ) (before : Every ok a) (same : (j : ℕ) → j < w → part j ≡ ok (a + j)) where
  in_part : (f : ℕ) → Every part f → f ≤ w → Every ok (a + f)
  in_part f all h k l = side (leb a k) refl
    where
      side : (b : Bool) → leb a k ≡ b → ok k ≡ true
      side true t =
          let m : a ≤ k = leb-true _ _ t in
          let j : k - a < w = omega arith in
          let e : a + (k - a) ≡ k = omega arith in
          ap ok (sym e) ∙ sym (same (k - a) j) ∙ all (k - a) (omega arith)
      side false t = before k (leb-false _ _ t)

  -- the first place that fails is the part's own, counted from a
  pub first_in_part : (n : ℕ) → a + w ≤ n → first_bad part w < w → a + first_bad part w ≡ first_bad ok n
  first_in_part n h l =
      sym (first_is ok n (a + first_bad part w) (omega arith)
      (in_part (first_bad part w) (first_below part w) (first_le part w))
      (λ _. sym (same (first_bad part w) l) ∙ first_fails part w l))

  -- the part passes, and so does all up to its end
  pub part_passes : w ≤ first_bad part w → Every ok (a + w)
  part_passes l = in_part w (none_first part w l) (omega arith)

  -- the last part
  pub first_in_last : a + first_bad part w ≡ first_bad ok (a + w)
  first_in_last = last (ltb (first_bad part w) w) refl
    where
      last : (b : Bool) → ltb (first_bad part w) w ≡ b → a + first_bad part w ≡ first_bad ok (a + w)
      last true t = first_in_part (a + w) (omega arith) (ltb-true _ _ t)
      last false t =
          let l : w ≤ first_bad part w = ltb-false _ _ t in
          let m = first_le part w in
          let e : first_bad part w ≡ w = omega arith in
          ap (λ (f : ℕ). a + f) e ∙ sym (first_none ok (a + w) (part_passes l))
