-- Who is served: as many as n allows, in circular order, and up to the last one served.
-- Assumes nothing.
use mathlib.Core.Path.{◌≡◌, refl, sym, ap, ◌∙◌}
use mathlib.Core.Bool.{Bool, true, false, cond, ◌&&◌, false≢true}
use mathlib.Core.Logic.{◌⊎◌, inl, inr, ⊎_elim}
use Prim.Native.Nat.{ℕ, zero, suc, ◌+◌, ◌≤◌, ◌<◌, min}
use native.Mathlib.Omega.{arith}
use borrow.Author.Tests.{eqb-true, eqb-false, ltb-true, ltb-false, lt-ltb, le-leb, lt-leb}
use lib.Dec.{eqb, ltb, leb}
use Rattle.run.proofs.Bools.{and_right}
use Rattle.run.specs.Count.{count}
use Rattle.desk.specs.Rule.{place_of, signature_at, ahead, served, last_served}
use Rattle.run.proofs.Count.{count_same, count_grows, count_bounded, count_some, count_none}
use Rattle.desk.proofs.Circle.{place_small, signature_small, place_at, at_place, by_places, all_places, place_moved}

module _ (asks : ℕ → Bool) (last n : ℕ) (fits : last ≤ 15) where
  -- how many ask at the first m places
  abbrev asking : ℕ → ℕ
  asking m = count m (λ (p : ℕ). asks (signature_at last p))

  -- who is served at a place
  abbrev at : ℕ → Bool
  at p = asks (signature_at last p) && ltb (asking p) n

  pub ahead_is : (s : ℕ) → ahead asks last s ≡ asking (place_of last s)
  unfolding ahead
  ahead_is s = let l = place_small last s in by_places last fits asks (place_of last s) (omega arith)

  pub served_at : (p : ℕ) → p < 16 → served asks last n (signature_at last p) ≡ at p
  unfolding served
  served_at p h = rw (ahead_is (signature_at last p), place_at last fits p h)

  pub served_is : (s : ℕ) → s < 16 → served asks last n s ≡ at (place_of last s)
  served_is s h =
      ap (served asks last n) (sym (at_place last fits s h)) ∙ served_at (place_of last s) (place_small last s)

  turn : (a b : Bool) (m x y : ℕ) → x ≡ min n y → ltb y n ≡ b → x + cond (a && b) 1 0 ≡ min n (y + cond a 1 0)
  turn true true m x y e t = let l = ltb-true y n t in omega arith
  turn true false m x y e t = let l = ltb-false y n t in omega arith
  turn false b m x y e t = omega arith

  -- of the first m places
  pub served_count : (m : ℕ) → count m at ≡ min n (asking m)
  unfolding count
  served_count zero = omega arith
  served_count (suc m) = turn (asks (signature_at last m)) (ltb (asking m) n) m (count m at) (asking m) (served_count m) refl

  -- counted by signatures: before one, and all
  pub served_before : (s : ℕ) → count 16 (λ (t : ℕ). served asks last n t && ltb (place_of last t) (place_of last s)) ≡ min n (ahead asks last s)
  served_before s =
      let l = place_small last s in
      by_places last fits (served asks last n) (place_of last s) (omega arith)
      ∙ count_same (place_of last s) _ at (λ p h. served_at p (omega arith))
      ∙ served_count (place_of last s)
      ∙ ap (min n) (sym (ahead_is s))

  pub served_all : count 16 (served asks last n) ≡ min n (count 16 asks)
  served_all =
      all_places last fits (served asks last n)
      ∙ count_same 16 _ at (λ p h. served_at p h)
      ∙ served_count 16
      ∙ ap (min n) (sym (all_places last fits asks))

  -- of the first m places: either nobody is served there and the desk is as it was, or the desk holds the one at the highest place that is served
  pub record Highest (m after : ℕ) : Type 0 where
    pub place : ℕ
    pub within : place < m
    pub is : after ≡ signature_at last place
    pub one : at place ≡ true
    pub above : (p : ℕ) → p < m → at p ≡ true → p ≤ place

  pub record Nobody (m after : ℕ) : Type 0 where
    pub same : after ≡ last
    pub none : (p : ℕ) → p < m → at p ≡ false

  -- what is said of the first m places, and of the next, is said of one more
  next_none : (m : ℕ) → at m ≡ false → ((p : ℕ) → p < m → at p ≡ false) → (p : ℕ) → p < suc m → at p ≡ false
  next_none m e none p l = side (eqb p m) refl
    where
      side : (b : Bool) → eqb p m ≡ b → at p ≡ false
      side true t = ap at (eqb-true p m t) ∙ e
      side false t = let ne = eqb-false p m t in none p (omega (arith, ne))

  next_above : (m q : ℕ) → at m ≡ false → ((p : ℕ) → p < m → at p ≡ true → p ≤ q) → (p : ℕ) → p < suc m → at p ≡ true → p ≤ q
  next_above m q e above p l t = side (eqb p m) refl
    where
      side : (b : Bool) → eqb p m ≡ b → p ≤ q
      side true is = absurd (false≢true (sym e ∙ ap at (sym (eqb-true p m is)) ∙ t))
      side false is = let ne = eqb-false p m is in above p (omega (arith, ne)) t

  Ends : ℕ → ℕ → Type 0
  Ends m after = Highest m after ⊎ Nobody m after

  step : (m after : ℕ) (b : Bool) → at m ≡ b → Ends m after → Ends (suc m) (cond b (signature_at last m) after)
  unfolding Ends
  step m after true e ends = inl (record { place = m; within = omega arith; is = refl; one = e; above = λ p l _. omega arith })
  step m after false e (inl high) =
      let w = high.within in
      inl (record { place = high.place; within = omega arith; is = high.is; one = high.one; above = next_above m high.place e high.above })
  step m after false e (inr none) = inr (record { same = none.same; none = next_none m e none.none })

  -- the desk after one place more
  pub one_more : (m : ℕ) → m < 16 → last_served asks last n (suc m) ≡ cond (at m) (signature_at last m) (last_served asks last n m)
  unfolding last_served
  one_more m h = ap (λ (b : Bool). cond b (signature_at last m) (last_served asks last n m)) (served_at m h)

  pub latest : (m : ℕ) → m ≤ 16 → Highest m (last_served asks last n m) ⊎ Nobody m (last_served asks last n m)
  unfolding last_served Ends
  latest zero h = inr (record { same = refl; none = λ p l. absurd (let z : ⊥ = omega arith in z) })
  latest (suc m) h = rw (one_more m (omega arith)) (step m (last_served asks last n m) (at m) refl (latest m (omega arith)))

  -- the desk afterwards is a signature
  pub after_small : last_served asks last n 16 ≤ 15
  after_small =
      ⊎_elim
      (λ high. let e = high.is in let l = signature_small last high.place in omega arith)
      (λ none. let e = none.same in omega arith)
      (latest 16 (omega arith))

  -- where somebody asks, somebody is served
  pub somebody : 1 ≤ n → (s : ℕ) → s < 16 → asks s ≡ true → Highest 16 (last_served asks last n 16)
  somebody some s h e =
      let l = place_small last s in
      let counted = count_some 16 (place_of last s) (λ (q : ℕ). asks (signature_at last q)) l (ap asks (at_place last fits s h) ∙ e) in
      let is = served_count 16 in
      ⊎_elim
      (λ high. high)
      (λ nobody. let none = count_none 16 at nobody.none in absurd (let z : ⊥ = omega arith in z))
      (latest 16 (omega arith))

  module _ (s : ℕ) (h : s < 16) (e : asks s ≡ true) (high : Highest 16 (last_served asks last n 16)) where
    after_place : place_of last (last_served asks last n 16) ≡ high.place
    after_place = ap (place_of last) high.is ∙ place_at last fits high.place high.within

    -- fewer than n stand before the last one served
    before_last : asking high.place < n
    before_last = ltb-true _ _ (and_right (asks (signature_at last high.place)) _ high.one)

    in_order : ahead asks last s < n → place_of last s ≤ high.place
    in_order l =
        let is = ahead_is s in
        high.above (place_of last s) (place_small last s)
        (rw (at_place last fits s h, e) (lt-ltb (asking (place_of last s)) n (omega arith)))

    pub behind : n ≤ ahead asks last s → high.place < place_of last s
    behind l = side (ltb high.place (place_of last s)) refl
      where
        side : (b : Bool) → ltb high.place (place_of last s) ≡ b → high.place < place_of last s
        side true t = ltb-true _ _ t
        side false t =
            let below : place_of last s ≤ high.place = ltb-false _ _ t in
            let grows = count_grows (place_of last s) high.place (λ (p : ℕ). asks (signature_at last p)) below in
            let is = ahead_is s in
            let less = before_last in
            absurd (let z : ⊥ = omega arith in z)

    -- who asks is served exactly where its place is not behind that of the desk afterwards
    pub up_to : ltb (ahead asks last s) n ≡ leb (place_of last s) (place_of last (last_served asks last n 16))
    up_to = rw after_place (side (ltb (ahead asks last s) n) refl)
      where
        side : (b : Bool) → ltb (ahead asks last s) n ≡ b → b ≡ leb (place_of last s) high.place
        side true t = sym (le-leb _ _ (in_order (ltb-true _ _ t)))
        side false t = sym (lt-leb _ _ (behind (ltb-false _ _ t)))

    -- who asks and is not served stands nearer to the desk afterwards, by n places at least
    pub nearer : n ≤ ahead asks last s → place_of (last_served asks last n 16) s + n ≤ place_of last s
    nearer l =
        let less = behind l in
        let is = ahead_is s in
        let counted = served_count (place_of last s) in
        let room = place_small last s in
        let most = count_bounded (place_of last s) (suc high.place) at (λ p m t. let w = high.above p (omega arith) t in omega arith) in
        let moved = place_moved last fits high.place s h less in
        rw high.is (omega arith)

  -- ---- the desk afterwards, by signatures

  counted : count 16 (served asks last n) ≡ count 16 at
  counted = all_places last fits (served asks last n) ∙ count_same 16 _ at (λ p h. served_at p h)

  pub after_nobody : count 16 (served asks last n) ≡ 0 → last_served asks last n 16 ≡ last
  after_nobody none =
      ⊎_elim
      (λ high.
      let some = count_some 16 high.place at high.within high.one in
      let is = counted in
      absurd (let z : ⊥ = omega arith in z))
      (λ nobody. nobody.same)
      (latest 16 (omega arith))

  pub after_somebody : 0 < count 16 (served asks last n) → Highest 16 (last_served asks last n 16)
  after_somebody some =
      ⊎_elim
      (λ high. high)
      (λ nobody.
      let none = count_none 16 at nobody.none in
      let is = counted in
      absurd (let z : ⊥ = omega arith in z))
      (latest 16 (omega arith))

  pub highest_served : Highest 16 (last_served asks last n 16) → served asks last n (last_served asks last n 16) ≡ true
  highest_served high = ap (served asks last n) high.is ∙ served_at high.place high.within ∙ high.one

  pub highest_last : Highest 16 (last_served asks last n 16) → (s : ℕ) → s < 16 → served asks last n s ≡ true → place_of last s ≤ place_of last (last_served asks last n 16)
  highest_last high s h e =
      let l = high.above (place_of last s) (place_small last s) (sym (served_is s h) ∙ e) in
      let is = ap (place_of last) high.is ∙ place_at last fits high.place high.within in
      omega arith
