-- The theorems of specs/Exact.antt.
-- Assumes nothing.
use mathlib.Core.Path.{◌≡◌, refl, sym, ap, ◌∙◌}
use mathlib.Core.Bool.{Bool, true, false}
use mathlib.Core.List.{List, [], ◌∷◌, ◌++◌}
use Prim.Native.Nat.{ℕ, zero, suc, ◌+◌, ◌*◌, ◌-◌, ◌/◌, ◌%◌, ◌≤◌, ◌<◌}
use native.Mathlib.Nat.{not-suc-le-zero}
use native.Mathlib.Omega.{arith}
use borrow.Author.Tests.{ltb-true, ltb-false}
use lib.Dec.{ltb}
use lib.ListN.{length, get_or, length-append, get_or-append}
use lib.Seq.{get_or-append_seam}
use Rattle.run.specs.Verdict.{Verdict}
use Rattle.run.proofs.Chain.{one_outcome}
use Rattle.lines.specs.Text.{nought, decimal}
use Rattle.lines.specs.Outcome.{Prints}
use Rattle.lines.specs.Exact.{read_from, Numeral, DecimalReads, HeadOnce, RecordOnce, TellOnce}
use Rattle.lines.proofs.Words.{decimal_one, decimal_more, decimal_longer}

-- ---- a number's text
read_append : (s : List ℕ) (before d : ℕ) → read_from before (s ++ (d ∷ [])) ≡ read_from before s * 10 + (d - 48)
unfolding read_from
read_append [] before d = refl
read_append (x ∷ s) before d = read_append s (before * 10 + (x - 48)) d

digits_append : (s : List ℕ) (d : ℕ) → ((k : ℕ) → k < length s → (48 ≤ get_or s k 0) × (get_or s k 0 ≤ 57)) → (48 ≤ d) × (d ≤ 57)
    → (k : ℕ) → k < length (s ++ (d ∷ [])) → (48 ≤ get_or (s ++ (d ∷ [])) k 0) × (get_or (s ++ (d ∷ [])) k 0 ≤ 57)
digits_append s d all last k h = pick (ltb k (length s)) refl
  where
    l : length (s ++ (d ∷ [])) ≡ length s + 1
    l = length-append s (d ∷ [])

    pick : (b : Bool) → ltb k (length s) ≡ b → (48 ≤ get_or (s ++ (d ∷ [])) k 0) × (get_or (s ++ (d ∷ [])) k 0 ≤ 57)
    pick true e = let m : k < length s = ltb-true _ _ e in rw (get_or-append s (d ∷ []) 0 k m) (all k m)
    pick false e =
        let m : length s ≤ k = ltb-false _ _ e in
        let sum = l in
        let is : k ≡ length s = omega arith in
        rw (is, get_or-append_seam s d [] 0) last

some_digit : (n : ℕ) → 0 < length (decimal n)
some_digit n = pick (ltb n 10) refl
  where
    pick : (b : Bool) → ltb n 10 ≡ b → 0 < length (decimal n)
    pick true e = rw (decimal_one n (ltb-true _ _ e)) (omega arith)
    pick false e = let l = decimal_longer n (ltb-false _ _ e) in omega arith

-- the last digit
last_digit : (n : ℕ) → (48 ≤ nought + n % 10) × (nought + n % 10 ≤ 57)
last_digit n = (omega arith, omega arith)

one_digit : (n : ℕ) → n < 10 → Numeral n
unfolding read_from
one_digit n h =
    let e = decimal_one n h in
    let is : 0 * 10 + (nought + n % 10 - 48) ≡ n = omega arith in
    record {
      reads = ap (read_from 0) e ∙ is;
      digits = rw e (digits_append [] (nought + n % 10) (λ k m. absurd (not-suc-le-zero m)) (last_digit n));
      shortest = λ some z.
          let first : nought + n % 10 ≡ 48 = sym (ap (λ (s : List ℕ). get_or s 0 0) e) ∙ z in
          let no_way : ⊥ = omega arith in
          no_way;
    }

numeral : (fuel n : ℕ) → n ≤ fuel → Numeral n
numeral zero n h = one_digit n (omega arith)
numeral (suc fuel) n h = pick (λ m. numeral fuel (n / 10) m) (ltb n 10) refl
  where
    pick : (n / 10 ≤ fuel → Numeral (n / 10)) → (b : Bool) → ltb n 10 ≡ b → Numeral n
    pick rest true e = one_digit n (ltb-true _ _ e)
    pick rest false e =
        let big : 10 ≤ n = ltb-false _ _ e in
        let r = rest (omega arith) in
        let is = decimal_more n big in
        record {
          reads = ap (read_from 0) is ∙ read_append (decimal (n / 10)) 0 (nought + n % 10) ∙ rw r.reads (omega arith);
          digits = rw is (digits_append (decimal (n / 10)) (nought + n % 10) r.digits (last_digit n));
          shortest = λ some z.
              r.shortest (omega arith)
              (sym (ap (λ (s : List ℕ). get_or s 0 0) is ∙ get_or-append (decimal (n / 10)) ((nought + n % 10) ∷ []) 0 0 (some_digit (n / 10))) ∙ z);
        }

pub decimal_reads : DecimalReads
decimal_reads n = numeral n n (omega arith)

-- ---- each promise allows one outcome
pub prints_once : {v : Verdict} {text line x y : List ℕ} {m n : ℕ} → Prints v text line m x → Prints v text line n y → (m ≡ n) × (x ≡ y)
prints_once p q = (one_outcome p.length_is q.length_is, one_outcome p.line_is q.line_is)

pub head_once : HeadOnce
head_once version count line a b x y p q =
    let s = prints_once p.prints q.prints in
    (λ i. record { verdict = one_outcome p.verdict_is q.verdict_is i; length = s.0 i }, s.1)

pub record_once : RecordOnce
record_once r line a b x y p q =
    let s = prints_once p.prints q.prints in
    (λ i. record { verdict = one_outcome p.verdict_is q.verdict_is i; length = s.0 i }, s.1)

pub tell_once : TellOnce
tell_once refusal line a b x y p q =
    let s = prints_once p.prints q.prints in
    (λ i. record { verdict = one_outcome p.verdict_is q.verdict_is i; length = s.0 i }, s.1)
