-- What the looks through a whole bank answer: the total taken, and where a slot begins; or that the bytes are no bank.
-- Assumes nothing.
use mathlib.Core.Path.{◌≡◌, refl, sym, ap, ◌∙◌}
use mathlib.Core.Bool.{Bool, true, false, cond, not, false≢true}
use mathlib.Core.List.{List}
use Prim.Native.Nat.{ℕ, ◌≤◌}
use native.Mathlib.Omega.{arith}
use lib.ListN.{length}
use Rattle.std.specs.Option.{is_some}
use Rattle.std.specs.Prelude.{Option, Some, None, Result, Ok, Err}
use Rattle.std.specs.Result.{IsErrAnd}
use Rattle.run.specs.declared.refusal.Refusal.{Refusal}
use Rattle.run.specs.Answers.{number_of, verdict_of, value_of}
use Rattle.run.specs.Verdicts.{refused, done, unless, leaves}
use Rattle.run.specs.Verdict.{Verdict}
use Rattle.run.proofs.Answers.{left}
use Rattle.bank.specs.declared.Looked.{Looked}
use Rattle.bank.specs.Slots.{has, taken}
use Rattle.bank.specs.Layout.{slots_in, is_bank, place_of}
use Rattle.bank.specs.declared.Place.{Place}
use Rattle.bank.specs.Answers.{found_of}
use Rattle.bank.proofs.Front.{room_low}
use Rattle.bank.proofs.Reading.{bank_holds, holds_fits}
use Rattle.bank.specs.Outcome.{no_bank, bank_total, looked, drop_verdict, Find}

-- a value where a test holds, and the refusal of bytes that are no bank where it does not
abbrev given : {A : Type 0} → Bool → A → Result A Refusal
given b x = cond b (Ok x) (Err no_bank)

given_ok : {A : Type 0} (b : Bool) (x : A) {y : A} → Ok y ≡ given b x → (b ≡ true) × (y ≡ x)
given_ok true x e = (refl, cc)
given_ok false x e = cc

given_err : {A : Type 0} (b : Bool) (x : A) {r : Refusal} → Err r ≡ given b x → (b ≡ false) × (r ≡ no_bank)
given_err true x e = cc
given_err false x e = (refl, cc)

verdict_given : {A : Type 0} (b : Bool) (x : A) → verdict_of (given b x) ≡ unless b 28 0
unfolding unless
verdict_given true x = refl
verdict_given false x = refl

some_ok : (b : Bool) (p : ℕ) {i : ℕ} → Some i ≡ cond b (Some p) None → (b ≡ true) × (i ≡ p)
some_ok true p e = (refl, cc)
some_ok false p e = cc

none_ok : (b : Bool) (p : ℕ) → None ≡ cond b (Some p) None → b ≡ false
none_ok true p e = cc
none_ok false p e = refl

new_is : (b : Bool) (p : ℕ) {o : Option ℕ} {n : Bool} → o ≡ cond b (Some p) None → is_some o ≡ not n → n ≡ not b
new_is true p {n = true} e told = absurd (false≢true (sym told ∙ ap is_some e))
new_is true p {n = false} e told = refl
new_is false p {n = true} e told = refl
new_is false p {n = false} e told = absurd (false≢true (sym (ap is_some e) ∙ told))

-- a refusal that is handed on (`?`)
pub err_is : {A : Type 0} (r : Result A Refusal) {x : Refusal} → IsErrAnd r (λ e. e ≡ x) → r ≡ Err x
err_is (Ok a) h = absurd h
err_is (Err e) h = ap (λ y. Err y) h

module _ (bytes : List ℕ) where
  -- the total
  pub ok_total : is_bank bytes ≡ true → Ok (taken (slots_in bytes)) ≡ bank_total bytes
  unfolding bank_total
  ok_total e = rw e

  pub err_total : is_bank bytes ≡ false → Err no_bank ≡ bank_total bytes
  unfolding bank_total
  err_total e = rw e

  pub total_ok : {n : ℕ} → Ok n ≡ bank_total bytes → (is_bank bytes ≡ true) × (n ≡ taken (slots_in bytes))
  unfolding bank_total
  total_ok e = given_ok (is_bank bytes) _ e

  pub total_err : {r : Refusal} → Err r ≡ bank_total bytes → (is_bank bytes ≡ false) × (r ≡ no_bank)
  unfolding bank_total
  total_err e = given_err (is_bank bytes) _ e

  pub total_done : {n : ℕ} → Ok n ≡ bank_total bytes → done ≡ unless (is_bank bytes) 28 0
  unfolding bank_total
  total_done e = ap verdict_of e ∙ verdict_given (is_bank bytes) _

  pub total_refused : {r : Refusal} → Err r ≡ bank_total bytes → refused (number_of r.reason) r.place ≡ unless (is_bank bytes) 28 0
  unfolding bank_total
  total_refused {r} e = ap verdict_of e ∙ verdict_given (is_bank bytes) _

  -- a look for a slot
  module _ (number : ℕ) where
    pub looked_bank : {l : Looked} → Ok l ≡ looked bytes number → is_bank bytes ≡ true
    unfolding looked
    looked_bank e = (given_ok (is_bank bytes) _ e).0

    pub looked_total : {l : Looked} → Ok l ≡ looked bytes number → l.total ≡ taken (slots_in bytes)
    unfolding looked
    looked_total e = ap (λ l. l.total) (given_ok (is_bank bytes) _ e).1

    pub looked_start : {l : Looked} → Ok l ≡ looked bytes number → l.start ≡ cond (has number (slots_in bytes)) (Some (place_of number (slots_in bytes))) None
    unfolding looked
    looked_start e = ap (λ l. l.start) (given_ok (is_bank bytes) _ e).1

    pub looked_none : {r : Refusal} → Err r ≡ looked bytes number → is_bank bytes ≡ false
    unfolding looked
    looked_none e = (given_err (is_bank bytes) _ e).0

    pub start_there : {i : ℕ} → has number (slots_in bytes) ≡ true → i ≡ place_of number (slots_in bytes) → Some i ≡ cond (has number (slots_in bytes)) (Some (place_of number (slots_in bytes))) None
    start_there t e = rw (t, e)

    pub start_nowhere : has number (slots_in bytes) ≡ false → None ≡ cond (has number (slots_in bytes)) (Some (place_of number (slots_in bytes))) None
    start_nowhere t = rw t

    pub ok_looked : {n : ℕ} {i : Option ℕ} → is_bank bytes ≡ true → n ≡ taken (slots_in bytes) → i ≡ cond (has number (slots_in bytes)) (Some (place_of number (slots_in bytes))) None
        → Ok (record { total = n; start = i }) ≡ looked bytes number
    unfolding looked
    ok_looked t p q = rw (t, p, q)

    pub err_looked : is_bank bytes ≡ false → Err no_bank ≡ looked bytes number
    unfolding looked
    err_looked e = rw e

    pub start_some : {i : ℕ} → Some i ≡ cond (has number (slots_in bytes)) (Some (place_of number (slots_in bytes))) None → (has number (slots_in bytes) ≡ true) × (i ≡ place_of number (slots_in bytes))
    start_some e = some_ok (has number (slots_in bytes)) _ e

    pub start_none : None ≡ cond (has number (slots_in bytes)) (Some (place_of number (slots_in bytes))) None → has number (slots_in bytes) ≡ false
    start_none e = none_ok (has number (slots_in bytes)) _ e

    pub looked_done : {l : Looked} → Ok l ≡ looked bytes number → done ≡ unless (is_bank bytes) 28 0
    unfolding looked
    looked_done e = ap verdict_of e ∙ verdict_given (is_bank bytes) _

    pub looked_refused : {r : Refusal} → Err r ≡ looked bytes number → refused (number_of r.reason) r.place ≡ unless (is_bank bytes) 28 0
    unfolding looked
    looked_refused e = ap verdict_of e ∙ verdict_given (is_bank bytes) _

    pub looked_new : {l : Looked} {b : Bool} → Ok l ≡ looked bytes number → is_some l.start ≡ not b → b ≡ not (has number (slots_in bytes))
    looked_new {l} {b} e told = new_is (has number (slots_in bytes)) _ (looked_start e) told

    pub looked_low : {l : Looked} → Ok l ≡ looked bytes number → l.total ≤ 65536
    looked_low e = let h = bank_holds bytes (looked_bank e) in let t = looked_total e in omega (arith, holds_fits h, room_low (length bytes) h.room)

    -- a search that refuses
    pub found_refused : (y : Refusal) → refused (number_of y.reason) y.place ≡ drop_verdict bytes number → Find bytes number (found_of bytes number (Err y))
    found_refused y e = record { verdict_is = e; total_is = refl; start_is = refl; length_is = refl }

    pub found_err : (r : Result Place Refusal) (x : Refusal) → IsErrAnd r (λ e. e ≡ x) → verdict_of r ≡ drop_verdict bytes number → Find bytes number (found_of bytes number r)
    found_err (Ok p) x h e = absurd h
    found_err (Err y) x h e = found_refused y e

-- the number that a refused call answers
pub counted_err : (r : Result ℕ Refusal) (x : Refusal) {v : Verdict} (n : ℕ) → IsErrAnd r (λ e. e ≡ x) → refused (number_of x.reason) x.place ≡ v → value_of r ≡ leaves v n 0
counted_err (Ok k) x n h e = absurd h
counted_err (Err y) x n h e = left x n 0 e
