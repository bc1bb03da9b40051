-- The circle gone round place by place: what is known before each place.
-- Assumes nothing.
use mathlib.Core.Path.{◌≡◌, refl, sym, ap, ◌∙◌}
use mathlib.Core.Bool.{Bool, true, false, cond, not, ◌&&◌, and-true, and-false}
use Prim.Native.Nat.{ℕ, zero, suc, ◌+◌, ◌-◌, ◌%◌, ◌≤◌, ◌<◌}
use native.Mathlib.Numerals.{add-one}
use native.Mathlib.Omega.{arith}
use borrow.Author.Tests.{eqb-true, eqb-false, leb-true, ltb-true, ltb-false, lt-ltb, le-ltb, le-leb, lt-leb}
use lib.Bits.{bit_and, and_le_l}
use lib.Count.{count_trailing_zeros}
use lib.Dec.{eqb, ltb, leb}
use Rattle.run.proofs.Bools.{and_left, and_right}
use Rattle.aich.specs.Rule.{offers}
use Rattle.run.specs.Count.{count}
use Rattle.desk.specs.Rule.{signature_at, last_served}
use Rattle.desk.specs.Method.{Turned}
use Rattle.desk.proofs.Digits.{lowest_small, lowest_set, below_lowest, without_lowest, none_set}
use Rattle.run.proofs.Count.{count_more}
use Rattle.desk.proofs.Serving.{one_more}

-- how many of those that ask were met, and who was served last
pub record Round (asks : ℕ → Bool) (last n place met after : ℕ) : Type 0 where
  pub within : place ≤ 16
  pub met_is : met ≡ count place (λ (p : ℕ). asks (signature_at last p))
  pub after_is : after ≡ last_served asks last n place

module _ (asks : ℕ → Bool) (last n : ℕ) where
  pub round_start : Round asks last n 0 0 last
  unfolding count last_served
  round_start = record { within = omega arith; met_is = refl; after_is = refl }

  module _ (fits : last ≤ 15) {place met after : ℕ} (r : Round asks last n place met after) (h : place < 16) where
    more : (b : Bool) → asks (signature_at last place) ≡ b → met + cond b 1 0 ≡ count (place + 1) (λ (p : ℕ). asks (signature_at last p))
    more b e = rw (count_more place (λ (p : ℕ). asks (signature_at last p)), e, r.met_is)

    moved : (b : Bool) → (asks (signature_at last place) && ltb met n) ≡ b → cond b (signature_at last place) after ≡ last_served asks last n (place + 1)
    moved b e =
        let one : (asks (signature_at last place) && ltb (count place (λ (p : ℕ). asks (signature_at last p))) n) ≡ b = rw r.met_is at e in
        rw (add-one place, one_more asks last n fits place h, one, r.after_is)

    pub round_silent : asks (signature_at last place) ≡ false → Round asks last n (place + 1) met after
    round_silent e =
        let counted = more false e in
        record { within = omega arith; met_is = omega arith; after_is = moved false (rw e) }

    pub round_served : asks (signature_at last place) ≡ true → met < n → Round asks last n (place + 1) (met + 1) (signature_at last place)
    round_served e l = record { within = omega arith; met_is = more true e; after_is = moved true (rw (e, lt-ltb met n l)) }

    pub round_refused : asks (signature_at last place) ≡ true → n ≤ met → Round asks last n (place + 1) (met + 1) after
    round_refused e l = record { within = omega arith; met_is = more true e; after_is = moved false (rw (e, le-ltb met n l)) }

-- ---- from one that asks to the next

module _ (asks : ℕ → Bool) (last n : ℕ) (fits : last ≤ 15) where
  -- places at which nobody asks
  pub round_over : {place met after : ℕ} (on : ℕ) → Round asks last n place met after → place + on ≤ 16
      → ((p : ℕ) → place ≤ p → p < place + on → asks (signature_at last p) ≡ false) → Round asks last n (place + on) met after
  round_over {place} zero r h none = let e : place + 0 ≡ place = omega arith in rw e r
  round_over {place} (suc on) r h none =
      let e : place + suc on ≡ place + on + 1 = omega arith in
      let before = round_over on r (omega arith) (λ p l m. none p l (omega arith)) in
      rw e (round_silent asks last n fits before (omega arith) (none (place + on) (omega arith) (omega arith)))

  -- n were met: whoever else asks, the desk stays
  pub record Full (place after : ℕ) : Type 0 where
    pub met : ℕ
    pub enough : n ≤ met
    pub round : Round asks last n place met after

  full_next : {place after : ℕ} → Full place after → place < 16 → Full (place + 1) after
  full_next {place} {after} f h = side (asks (signature_at last place)) refl
    where
      side : (b : Bool) → asks (signature_at last place) ≡ b → Full (place + 1) after
      side true e = let l = f.enough in record { met = f.met + 1; enough = omega arith; round = round_refused asks last n fits f.round h e l }
      side false e = record { met = f.met; enough = f.enough; round = round_silent asks last n fits f.round h e }

  pub round_full : {place met after : ℕ} (on : ℕ) → Round asks last n place met after → place + on ≤ 16 → n ≤ met → Full (place + on) after
  round_full {place} {met} zero r h l = let e : place + 0 ≡ place = omega arith in rw e (record { met = met; enough = l; round = r })
  round_full {place} (suc on) r h l =
      let e : place + suc on ≡ place + on + 1 = omega arith in
      rw e (full_next (round_full on r (omega arith) l) (omega arith))

signature_next : (last z : ℕ) → signature_at last z ≡ (last + (z + 1)) % 16
unfolding signature_at
signature_next last z = omega arith

-- what the code keeps: those that ask at the places that are left, as digits, and the desk by the place behind the last one served
pub record Ring (asks : ℕ → Bool) (last n place met rest : ℕ) : Type 0 where
  pub round : Round asks last n place met ((last + place) % 16)
  pub small : rest < 65536
  pub left : (p : ℕ) → p < 16 → offers rest p ≡ (asks (signature_at last p) && leb place p)

-- who asks at a place behind z is left, and nobody else
left_next : (place z p : ℕ) → place ≤ z → (a : Bool) → (p < z → (a && leb place p) ≡ false) → ((a && leb place p) && not (eqb p z)) ≡ (a && leb (z + 1) p)
left_next place z p on a none = side (ltb p z) refl (eqb p z) refl
  where
    side : (b : Bool) → ltb p z ≡ b → (c : Bool) → eqb p z ≡ c → ((a && leb place p) && not c) ≡ (a && leb (z + 1) p)
    side true e c f = let l = ltb-true p z e in rw (none l, lt-leb (z + 1) p (omega arith)) (sym (and-false a))
    side false e true f = let is = eqb-true p z f in rw (lt-leb (z + 1) p (omega arith)) (and-false (a && leb place p) ∙ sym (and-false a))
    side false e false f =
        let l = ltb-false p z e in
        let n = eqb-false p z f in
        rw (le-leb place p (omega arith), le-leb (z + 1) p (omega (arith, n))) (and-true (a && true))

module _ {asks : ℕ → Bool} {last n : ℕ} (fits : last ≤ 15) where
  pub ring_start : {rest : ℕ} → Turned asks last rest → Ring asks last n 0 0 rest
  ring_start t =
      let e : (last + 0) % 16 ≡ last = omega arith in
      record { round = rw e (round_start asks last n); small = t.small; left = λ p h. t.digit p h ∙ rw (le-leb 0 p (omega arith)) (sym (and-true (asks (signature_at last p)))) }

  module _ {place met rest : ℕ} (r : Ring asks last n place met rest) where
    -- nobody is left, or n were met
    pub ring_empty : rest ≡ 0 → (last + place) % 16 ≡ last_served asks last n 16
    ring_empty none =
        let w = r.round.within in
        let e : place + (16 - place) ≡ 16 = omega arith in
        let gone : (p : ℕ) → place ≤ p → p < place + (16 - place) → asks (signature_at last p) ≡ false =
        λ p l m.
        let h : p < 16 = omega arith in
        sym (and-true (asks (signature_at last p))) ∙ sym (rw (le-leb place p l) at (r.left p h)) ∙ ap (λ (x : ℕ). offers x p) none ∙ none_set p
        in
        (rw e at (round_over asks last n fits (16 - place) r.round (omega arith) gone)).after_is

    pub ring_full : n ≤ met → (last + place) % 16 ≡ last_served asks last n 16
    ring_full l =
        let w = r.round.within in
        let e : place + (16 - place) ≡ 16 = omega arith in
        (rw e at (round_full asks last n fits (16 - place) r.round (omega arith) l)).round.after_is

    -- the next one that asks
    pub ring_next : (rest ≡ 0 → ⊥) → met < n → Ring asks last n (count_trailing_zeros 32 rest + 1) (met + 1) (bit_and rest (rest - 1))
    ring_next some less =
        let z = count_trailing_zeros 32 rest in
        let wide : 0 < rest = omega (arith, some) in
        let room = r.small in
        let here : z < 16 = lowest_small 32 16 rest wide room (omega arith) in
        let at-z : (asks (signature_at last z) && leb place z) ≡ true = sym (r.left z here) ∙ lowest_set 32 rest wide (omega arith) in
        let asked = and_left (asks (signature_at last z)) (leb place z) at-z in
        let on : place ≤ z = leb-true place z (and_right (asks (signature_at last z)) (leb place z) at-z) in
        let e : place + (z - place) ≡ z = omega arith in
        let none : (p : ℕ) → place ≤ p → p < place + (z - place) → asks (signature_at last p) ≡ false =
        λ p l m.
        let h : p < 16 = omega arith in
        sym (and-true (asks (signature_at last p))) ∙ sym (rw (le-leb place p l) at (r.left p h)) ∙ below_lowest 32 rest p (omega arith)
        in
        let before : Round asks last n z met ((last + place) % 16) = rw e at (round_over asks last n fits (z - place) r.round (omega arith) none) in
        let after : signature_at last z ≡ (last + (z + 1)) % 16 = signature_next last z in
        let fewer = and_le_l rest (rest - 1) in
        record {
          round = rw after at (round_served asks last n fits before here asked less);
          small = omega arith;
          left = λ p h.
              without_lowest 32 rest p wide (omega arith) ∙ ap (λ (b : Bool). b && not (eqb p z)) (r.left p h) ∙ left_next place z p on (asks (signature_at last p)) (λ l. sym (r.left p h) ∙ below_lowest 32 rest p l);
        }
