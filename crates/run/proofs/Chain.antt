-- Chains of checks: what is known where none refused, and when none does.
-- Assumes nothing.
use mathlib.Core.Path.{◌≡◌, refl, sym, ap, ◌∙◌}
use mathlib.Core.Bool.{Bool, true, false, cond, ◌&&◌}
use mathlib.Core.List.{List, [], ◌∷◌}
use Prim.Native.Nat.{ℕ, zero, suc, ◌+◌, ◌<◌, suc-le-suc}
use native.Mathlib.Nat.{zero-add, suc-add, not-suc-le-zero, le_of_suc-le-suc}
use native.Mathlib.Omega.{arith}
use borrow.Author.Tests.{eqb-true, eqb-false, eq-eqb, ne_eqb, leb-false, lt-leb}
use lib.Dec.{eqb, leb, lit<}
use lib.ListN.{length, get_or}
use Rattle.run.specs.Verdict.{Verdict}
use Rattle.run.specs.First.{first_bad, all, Every}
use Rattle.run.specs.Verdicts.{refused, done, or_else, unless, each, lengths, chain, leaves, Narrow}
use Rattle.run.proofs.First.{first_le}
use Rattle.run.proofs.Passing.{all_every, every_all}

-- the chain is done: its first check is, and so are the others
pub record Both (v w : Verdict) : Type 0 where
  pub first : v.number ≡ 0
  pub rest : w.number ≡ 0

or_else_cases : (v w : Verdict) (b : Bool) → eqb v.number 0 ≡ b → (cond b w v).number ≡ 0 → Both v w
or_else_cases v w true e h = record { first = eqb-true _ _ e; rest = h }
or_else_cases v w false e h = absurd (eqb-false _ _ e h)

pub or_else_done : (v w : Verdict) → (or_else v w).number ≡ 0 → Both v w
unfolding or_else
or_else_done v w h = or_else_cases v w (eqb v.number 0) refl h

-- .. and so in a chain of four checks, and of five
pub record Four (a b c d : Verdict) : Type 0 where
  pub first : a.number ≡ 0
  pub second : b.number ≡ 0
  pub third : c.number ≡ 0
  pub fourth : d.number ≡ 0

pub four_done : (a b c d : Verdict) → (or_else a (or_else b (or_else c d))).number ≡ 0 → Four a b c d
four_done a b c d h =
    let c1 = or_else_done _ _ h in
    let c2 = or_else_done _ _ c1.rest in
    let c3 = or_else_done _ _ c2.rest in
    record { first = c1.first; second = c2.first; third = c3.first; fourth = c3.rest }

pub record Five (a b c d e : Verdict) : Type 0 where
  pub first : a.number ≡ 0
  pub second : b.number ≡ 0
  pub third : c.number ≡ 0
  pub fourth : d.number ≡ 0
  pub fifth : e.number ≡ 0

pub five_done : (a b c d e : Verdict) → (or_else a (or_else b (or_else c (or_else d e)))).number ≡ 0 → Five a b c d e
five_done a b c d e h =
    let c1 = or_else_done _ _ h in
    let f = four_done _ _ _ _ c1.rest in
    record { first = c1.first; second = f.first; third = f.second; fourth = f.third; fifth = f.fourth }

pub unless_done : (ok : Bool) (number place : ℕ) → 0 < number → (unless ok number place).number ≡ 0 → ok ≡ true
unfolding unless
unless_done true number place l h = refl
unless_done false number place l h = absurd (let z : ⊥ = omega arith in z)

pub each_done : (base number : ℕ) (ok : ℕ → Bool) (n : ℕ) → 0 < number → (each base number ok n).number ≡ 0 → Every ok n
unfolding each
each_done base number ok n l h = all_every n ok (unless_done _ number _ l h)

-- the other way: a check that passes is done, and the chain goes on
pub or_else_pass : {v w : Verdict} → v ≡ done → w ≡ done → or_else v w ≡ done
unfolding or_else
or_else_pass p q = rw (p, q)

pub unless_pass : {ok : Bool} (number place : ℕ) → ok ≡ true → unless ok number place ≡ done
unfolding unless
unless_pass number place h = rw h

pub each_pass : (base number : ℕ) (ok : ℕ → Bool) (n : ℕ) → Every ok n → each base number ok n ≡ done
unfolding each
each_pass base number ok n every = unless_pass number _ (every_all n ok every)

pub number_0 : {v : Verdict} → v ≡ done → v.number ≡ 0
number_0 e = ap (λ (v : Verdict). v.number) e

-- a chain in code, link by link
pub or_else_is : {r v w : Verdict} {a b : Verdict} → r ≡ or_else v w → v ≡ a → w ≡ b → r ≡ or_else a b
or_else_is e p q = e ∙ rw (p, q)

-- a check by a scan, whose answer is found again in the run
pub each_is : (base number : ℕ) (ok : ℕ → Bool) (n i : ℕ) (r : Verdict) → i ≡ first_bad ok n → r ≡ unless (leb n i) number (base + i) → r ≡ each base number ok n
unfolding each
each_is base number ok n i r e h = h ∙ rw e

-- the lengths of four runs one after the other, and of three and of two where nothing is asked of the rest
pub lengths_four : (a b c d : Bool) → or_else (unless a 3 0) (or_else (unless b 3 1) (or_else (unless c 3 2) (unless d 3 3))) ≡ lengths (a ∷ b ∷ c ∷ d ∷ [])
unfolding lengths each first_bad or_else unless
lengths_four false b c d = refl
lengths_four true false c d = refl
lengths_four true true false d = refl
lengths_four true true true false = refl
lengths_four true true true true = refl

pub lengths_three : (a b c : Bool) → lengths (a ∷ b ∷ c ∷ true ∷ []) ≡ lengths (a ∷ b ∷ c ∷ [])
unfolding lengths each first_bad unless
lengths_three false b c = refl
lengths_three true false c = refl
lengths_three true true false = refl
lengths_three true true true = refl

pub lengths_two : (a b : Bool) → lengths (a ∷ b ∷ true ∷ true ∷ []) ≡ lengths (a ∷ b ∷ [])
unfolding lengths each first_bad unless
lengths_two false b = refl
lengths_two true false = refl
lengths_two true true = refl

-- every one of them is right where the check is done, and the other way
pub lengths_done : (right : List Bool) → (lengths right).number ≡ 0 → Every (λ (k : ℕ). get_or right k true) (length right)
unfolding lengths
lengths_done right h = each_done 0 3 _ _ (lit< tt) h

abbrev pub AllRight : List Bool → Type 0
AllRight [] = Unit {0}
AllRight (r ∷ rs) = (r ≡ true) × AllRight rs

all_right : (right : List Bool) → AllRight right → Every (λ (k : ℕ). get_or right k true) (length right)
all_right [] all k h = absurd (not-suc-le-zero h)
all_right (r ∷ rs) all zero h = all.0
all_right (r ∷ rs) all (suc k) h = all_right rs all.1 k (le_of_suc-le-suc h)

pub lengths_pass : (right : List Bool) → AllRight right → lengths right ≡ done
unfolding lengths
lengths_pass right h = each_pass 0 3 _ _ (all_right right h)

-- where the first check's answer is known
pub or_else_refused : (v w : Verdict) → (v.number ≡ 0 → ⊥) → or_else v w ≡ v
unfolding or_else
or_else_refused v w h = rw (ne_eqb v.number 0 h)

pub or_else_next : (v w : Verdict) → v.number ≡ 0 → or_else v w ≡ w
unfolding or_else
or_else_next v w h = rw (eq-eqb v.number 0 h)

-- a verdict whose number is 0 has place 0 too: each link of a chain is such
pub unless_plain : (ok : Bool) (number place : ℕ) → 0 < number → (unless ok number place).number ≡ 0 → unless ok number place ≡ done
unless_plain ok number place some h = unless_pass number place (unless_done ok number place some h)

pub each_plain : (base number : ℕ) (ok : ℕ → Bool) (n : ℕ) → 0 < number → (each base number ok n).number ≡ 0 → each base number ok n ≡ done
each_plain base number ok n some h = each_pass base number ok n (each_done base number ok n some h)

pub or_else_plain : (v w : Verdict) → (v.number ≡ 0 → v ≡ done) → (w.number ≡ 0 → w ≡ done) → (or_else v w).number ≡ 0 → or_else v w ≡ done
or_else_plain v w p q h = let both = or_else_done v w h in or_else_pass (p both.first) (q both.rest)

-- .. and a check behind it that passes is not seen
pub or_else_last : (v : Verdict) → (v.number ≡ 0 → v ≡ done) → or_else v done ≡ v
or_else_last v p = side (eqb v.number 0) refl
  where
    side : (b : Bool) → eqb v.number 0 ≡ b → or_else v done ≡ v
    side true e = let d = p (eqb-true _ _ e) in or_else_pass d refl ∙ sym d
    side false e = or_else_refused v done (eqb-false _ _ e)

-- a chain of n verdicts: none refuses, or the first that does
pub chain_pass : (n : ℕ) (v : ℕ → Verdict) → ((k : ℕ) → k < n → v k ≡ done) → chain n v ≡ done
unfolding chain
chain_pass zero v h = refl
chain_pass (suc n) v h = or_else_pass (h 0 (omega arith)) (chain_pass n (λ (k : ℕ). v (suc k)) (λ k l. h (suc k) (suc-le-suc l)))

pub chain_done : (n : ℕ) (v : ℕ → Verdict) → (chain n v).number ≡ 0 → (k : ℕ) → k < n → (v k).number ≡ 0
unfolding chain
chain_done zero v h k l = absurd (not-suc-le-zero l)
chain_done (suc n) v h zero l = (or_else_done _ _ h).first
chain_done (suc n) v h (suc k) l = chain_done n (λ (j : ℕ). v (suc j)) (or_else_done _ _ h).rest k (le_of_suc-le-suc l)

pub chain_end : (n : ℕ) (v : ℕ → Verdict) → ((k : ℕ) → k < n → (v k).number ≡ 0) → chain n v ≡ done
unfolding chain
chain_end zero v h = refl
chain_end (suc n) v h = or_else_next _ _ (h 0 (omega arith)) ∙ chain_end n (λ (k : ℕ). v (suc k)) (λ k l. h (suc k) (suc-le-suc l))

pub chain_hit : (n : ℕ) (v : ℕ → Verdict) (k : ℕ) → k < n → ((j : ℕ) → j < k → (v j).number ≡ 0) → ((v k).number ≡ 0 → ⊥) → chain n v ≡ v k
unfolding chain
chain_hit zero v k l before h = absurd (not-suc-le-zero l)
chain_hit (suc n) v zero l before h = or_else_refused _ _ h
chain_hit (suc n) v (suc k) l before h =
    or_else_next _ _ (before 0 (omega arith))
    ∙ chain_hit n (λ (j : ℕ). v (suc j)) k (le_of_suc-le-suc l) (λ j m. before (suc j) (suc-le-suc m)) h

-- verdicts that are the same one by one
pub chain_same : (n : ℕ) (v w : ℕ → Verdict) → ((k : ℕ) → k < n → v k ≡ w k) → chain n v ≡ chain n w
unfolding chain
chain_same zero v w h = refl
chain_same (suc n) v w h =
    let rest = chain_same n (λ (k : ℕ). v (suc k)) (λ (k : ℕ). w (suc k)) (λ k l. h (suc k) (suc-le-suc l)) in
    rw (h 0 (omega arith), rest)

-- m + n verdicts of which the first m refuse nothing are the n after them
pub chain_goes_on : (m n : ℕ) (v : ℕ → Verdict) → ((k : ℕ) → k < m → (v k).number ≡ 0) → chain (m + n) v ≡ chain n (λ (k : ℕ). v (m + k))
unfolding chain
chain_goes_on zero n v h = ap (λ (j : ℕ). chain j v) (zero-add n) ∙ chain_same n v (λ (k : ℕ). v (0 + k)) (λ k l. ap v (sym (zero-add k)))
chain_goes_on (suc m) n v h =
    ap (λ (j : ℕ). chain j v) (suc-add m n)
    ∙ or_else_next _ _ (h 0 (omega arith))
    ∙ chain_goes_on m n (λ (k : ℕ). v (suc k)) (λ k l. h (suc k) (suc-le-suc l))
    ∙ chain_same n (λ (k : ℕ). v (suc (m + k))) (λ (k : ℕ). v (suc m + k)) (λ k l. ap v (sym (suc-add m k)))

-- a check that counts its places from 0, as a scan's answer gives it
pub each_here : (number : ℕ) (ok : ℕ → Bool) (n : ℕ) → each 0 number ok n ≡ unless (all n ok) number (first_bad ok n)
unfolding each
each_here number ok n = ap (unless (all n ok) number) (zero-add (first_bad ok n))

pub each_stops : (number : ℕ) (ok : ℕ → Bool) (n : ℕ) → first_bad ok n < n → each 0 number ok n ≡ refused number (first_bad ok n)
unfolding unless
each_stops number ok n l = each_here number ok n ∙ rw (lt-leb n (first_bad ok n) l)

-- .. and where it refuses, it tells the first place that fails
pub each_told : (number : ℕ) (ok : ℕ → Bool) (n s : ℕ) → 0 < number → each 0 number ok n ≡ refused number s → (s ≡ first_bad ok n) × (s < n)
unfolding each unless
each_told number ok n s some e = side (all n ok) refl e
  where
    side : (b : Bool) → all n ok ≡ b → cond b done (refused number (0 + first_bad ok n)) ≡ refused number s → (s ≡ first_bad ok n) × (s < n)
    side true t h = let z : 0 ≡ number = ap (λ (v : Verdict). v.number) h in absurd (let w : ⊥ = omega arith in w)
    side false t h =
        let p : 0 + first_bad ok n ≡ s = ap (λ (v : Verdict). v.place) h in
        let l : first_bad ok n < n = leb-false _ _ t in
        (omega arith, omega arith)

-- number and place fit their fields in each link of a chain
pub or_else_narrow : (v w : Verdict) → Narrow v → (v.number ≡ 0 → Narrow w) → Narrow (or_else v w)
unfolding or_else
or_else_narrow v w p q = pick (eqb v.number 0) refl
  where
    pick : (b : Bool) → eqb v.number 0 ≡ b → Narrow (cond b w v)
    pick true e = q (eqb-true _ _ e)
    pick false e = p

pub unless_narrow : (ok : Bool) (number place : ℕ) → number < 65536 → place < 4294967296 → Narrow (unless ok number place)
unfolding unless
unless_narrow true number place h k = record { number_fits = lit< tt; place_fits = lit< tt }
unless_narrow false number place h k = record { number_fits = h; place_fits = k }

pub each_narrow : (base number : ℕ) (ok : ℕ → Bool) (n : ℕ) → number < 65536 → base + n < 4294967296 → Narrow (each base number ok n)
unfolding each
each_narrow base number ok n h k = unless_narrow _ number _ h (let l = first_le ok n in omega arith)

pub lengths_narrow : (right : List Bool) → length right < 4294967296 → Narrow (lengths right)
unfolding lengths
lengths_narrow right h = each_narrow 0 3 _ (length right) (lit< tt) (omega arith)

pub chain_narrow : (n : ℕ) (v : ℕ → Verdict) → ((k : ℕ) → k < n → Narrow (v k)) → Narrow (chain n v)
unfolding chain
chain_narrow zero v h = record { number_fits = lit< tt; place_fits = lit< tt }
chain_narrow (suc n) v h = or_else_narrow _ _ (h 0 (omega arith)) (λ _. chain_narrow n (λ (k : ℕ). v (suc k)) (λ k l. h (suc k) (suc-le-suc l)))

-- a check with a number of the table, and what comes after it where it passes
pub check_narrow : (ok : Bool) (number place : ℕ) (w : Verdict) → 0 < number → number < 65536 → place < 4294967296 → (ok ≡ true → Narrow w) → Narrow (or_else (unless ok number place) w)
check_narrow ok number place w some h k next =
    or_else_narrow _ w (unless_narrow ok number place h k) (λ e. next (unless_done ok number place some e))

-- what is left where the call is done, and where it is refused
pub leaves_done : {A : Type 0} (v : Verdict) (new old : A) → v.number ≡ 0 → leaves v new old ≡ new
unfolding leaves
leaves_done v new old e = rw (eq-eqb v.number 0 e)

pub leaves_refused : {A : Type 0} (v : Verdict) (new old : A) → (v.number ≡ 0 → ⊥) → leaves v new old ≡ old
unfolding leaves
leaves_refused v new old e = rw (ne_eqb v.number 0 e)

-- a value answered beside a verdict, 0 where it refuses, is small where it is small when the call is done
pub leaves_small : (v : Verdict) (value top : ℕ) → (v.number ≡ 0 → value < top) → 0 < top → leaves v value 0 < top
unfolding leaves
leaves_small v value top small some = pick (eqb v.number 0) refl
  where
    pick : (b : Bool) → eqb v.number 0 ≡ b → cond b value 0 < top
    pick true e = small (eqb-true _ _ e)
    pick false e = some

-- two outcomes that equal one definition are equal: so a promise by equations allows one outcome
pub one_outcome : {A : Type 0} {x y z : A} → x ≡ z → y ≡ z → x ≡ y
one_outcome p q = p ∙ sym q

-- whether none of two checks refuses. The second is asked where the first holds
pub both_fit_if : (v w : Verdict) {r a b : Bool} → r ≡ (a && b) → a ≡ eqb v.number 0 → (a ≡ true → b ≡ eqb w.number 0) → r ≡ eqb (or_else v w).number 0
unfolding or_else
both_fit_if v w {r} {a} {b} e p q = e ∙ side a p q
  where
    side : (a : Bool) → a ≡ eqb v.number 0 → (a ≡ true → b ≡ eqb w.number 0) → (a && b) ≡ eqb (cond (eqb v.number 0) w v).number 0
    side true p q = q refl ∙ rw (sym p)
    side false p q = rw (sym p) p

pub both_fit : (v w : Verdict) {r a b : Bool} → r ≡ (a && b) → a ≡ eqb v.number 0 → b ≡ eqb w.number 0 → r ≡ eqb (or_else v w).number 0
both_fit v w e p q = both_fit_if v w e p (λ _. q)

-- a check refuses where its test fails at some place
unless_fits : (ok : Bool) (number place : ℕ) → 0 < number → ok ≡ eqb (unless ok number place).number 0
unfolding unless
unless_fits true number place h = refl
unless_fits false number place h = sym (ne_eqb number 0 (λ e. let z : ⊥ = omega arith in z))

pub each_fits : (base number : ℕ) (ok : ℕ → Bool) (n : ℕ) {r : Bool} → 0 < number → r ≡ all n ok → r ≡ eqb (each base number ok n).number 0
unfolding each
each_fits base number ok n h told = told ∙ unless_fits (all n ok) number _ h
