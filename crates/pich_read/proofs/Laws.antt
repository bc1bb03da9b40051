-- Laws of the reader: its scan of a frame, group by group and then the tail, and what is accepted at once: indicators found by halving.
-- Assumes nothing.
use mathlib.Core.Path.{◌≡◌, refl, sym, ap, ◌∙◌, subst}
use mathlib.Core.Bool.{Bool, true, false, not, ◌&&◌}
use mathlib.Core.List.{List}
use Prim.Native.Nat.{ℕ, ◌+◌, ◌-◌, ◌*◌, ◌/◌, ◌≤◌, ◌<◌}
use native.Mathlib.Nat.{add-zero}
use native.Mathlib.Omega.{arith}
use borrow.Author.Tests.{lt-ltb, le-ltb, le-leb, lt-leb, ltb-true, ltb-false, eqb-true, eqb-false, eq-eqb}
use lib.Dec.{eqb, ltb, leb}
use lib.ListN.{length, get_or, set, take, drop, replicate, length-set, get_or-replicate}
use lib.Seq.{length-take-le, get_or-take, ext_get_or, get_or-set_same, get_or-set_other}
use Rattle.run.specs.Digits.{dtx}
use Rattle.run.specs.First.{first_bad, all, Every, at_most, is_at, is_unlike, like_first, agree}
use Rattle.run.specs.Verdicts.{done}
use Rattle.run.proofs.Chain.{or_else_pass, unless_pass, each_pass, leaves_done, number_0}
use Rattle.run.proofs.Places.{above_first, unlike_first, other_first, found_below}
use Rattle.std.specs.Prelude.{Option, Some, None, is_some}
use Rattle.std.specs.Option.{unwrap_or}
use Rattle.std.specs.List.{position}
use Rattle.run.proofs.First.{no_diff, first_in_part, part_passes, first_in_last}
use Rattle.run.proofs.Passing.{all_every, front_every}
use Rattle.run.proofs.Lent.{part_length, part_at}
use Rattle.run.proofs.Bools.{and_right}
use Rattle.pich.specs.Rule.{is_np, width, frame_of}
use Rattle.pich.specs.Outcome.{map_verdict, stands, read_verdict, Read}
use Rattle.pich.specs.Exact.{Gives}
use Rattle.pich.proofs.Laws.{at_each, groups, frame_length, digit_at, tail_at, taken}
use Rattle.pich.proofs.Exact.{mapped_accepted, read_exact}

module _ (np : ℕ) (ok : is_np np ≡ true) (frame : List ℕ) (long : length frame ≡ 300) where
  in_group : (q r j : ℕ) → q < np → r ≡ width np * q → j < width np
      → like_first (take (r + width np - r) (drop r frame)) j ≡ stands np frame (r + j)
  unfolding stands
  in_group q r j h e l =
      let g = groups np ok in
      let room = g.inside q h in
      let inside : r + j < 288 = omega arith in
      let some : 0 < width np = omega arith in
      let group : width np * ((r + j) / width np) ≡ r = rw e (ap (λ (n : ℕ). width np * n) (g.group_of q j l)) in
      let first : get_or (take (r + width np - r) (drop r frame)) 0 0 ≡ get_or frame r 0 = part_at frame r (width np) 0 0 some ∙ ap (λ (n : ℕ). get_or frame n 0) (add-zero r) in
      rw (lt-ltb (r + j) 288 inside, part_at frame r (width np) j 0 l, first, group)

  -- a place that the scan of a group answers is one of the group's
  pub in_width : (q r i : ℕ) → q < np → r ≡ width np * q → {o : Option ℕ} → o ≡ position (is_unlike (get_or (take (r + width np - r) (drop r frame)) 0 0)) (take (r + width np - r) (drop r frame))
      → o ≡ Some i → i < width np
  in_width q r i h e {o} f is =
      let room = (groups np ok).inside q h in
      let l = found_below (is_unlike (get_or (take (r + width np - r) (drop r frame)) 0 0)) (take (r + width np - r) (drop r frame)) i f is in
      rw (part_length frame r (width np) (omega arith)) at l

  -- a group with a digit that may not stand there: its first is the frame's first
  pub hit : (q r i : ℕ) → q < np → r ≡ width np * q → Every (stands np frame) (width np * q)
      → {o : Option ℕ} → o ≡ position (is_unlike (get_or (take (r + width np - r) (drop r frame)) 0 0)) (take (r + width np - r) (drop r frame))
      → o ≡ Some i → r + i ≡ first_bad (stands np frame) 300
  hit q r i h e before {o} f is =
      let room = (groups np ok).inside q h in
      let n = part_length frame r (width np) (omega arith) in
      let told : i ≡ first_bad (like_first (take (r + width np - r) (drop r frame))) (width np) = rw is at (rw n at (unlike_first (take (r + width np - r) (drop r frame)) f)) in
      let l = in_width q r i h e f is in
      let here : r + width np ≤ 300 = omega arith in
      rw told
      (first_in_part (stands np frame) (like_first (take (r + width np - r) (drop r frame))) r (width np) (rw e before)
      (λ j m. in_group q r j h e m) 300 here (rw told at l))

  -- a group that may stand: all up to its end may
  pub pass : (q r : ℕ) → q < np → r ≡ width np * q → Every (stands np frame) (width np * q)
      → {o : Option ℕ} → o ≡ position (is_unlike (get_or (take (r + width np - r) (drop r frame)) 0 0)) (take (r + width np - r) (drop r frame))
      → o ≡ None → Every (stands np frame) (width np * (q + 1))
  pass q r h e before {o} f is =
      let g = groups np ok in
      let room = g.inside q h in
      let n = part_length frame r (width np) (omega arith) in
      let told : width np ≡ first_bad (like_first (take (r + width np - r) (drop r frame))) (width np) = rw is at (rw n at (unlike_first (take (r + width np - r) (drop r frame)) f)) in
      let next : r + width np ≡ width np * (q + 1) = ap (λ (n : ℕ). n + width np) e ∙ g.next q in
      subst (λ (n : ℕ). Every (stands np frame) n) next
      (part_passes (stands np frame) (like_first (take (r + width np - r) (drop r frame))) r (width np) (rw e before)
      (λ j m. in_group q r j h e m) (omega arith))

  in_tail : (j : ℕ) → j < 12 → is_at dtx (take 12 (drop 288 frame)) j ≡ stands np frame (288 + j)
  unfolding stands
  in_tail j h =
      let outside : 288 ≤ 288 + j = omega arith in
      rw (le-ltb (288 + j) 288 outside, part_at frame 288 12 j 0 h)

  -- the groups may stand, and the scan of the tail ends the search
  pub last : Every (stands np frame) 288 → {o : Option ℕ} → o ≡ position (λ d. not (eqb d dtx)) (take 12 (drop 288 frame))
      → 288 + unwrap_or o 12 ≡ first_bad (stands np frame) 300
  last before {o} f =
      let n = part_length frame 288 12 (omega arith) in
      let told : unwrap_or o 12 ≡ first_bad (is_at dtx (take 12 (drop 288 frame))) 12 = rw n at (other_first dtx (take 12 (drop 288 frame)) f) in
      rw told (first_in_last (stands np frame) (is_at dtx (take 12 (drop 288 frame))) 288 12 before in_tail)

  pub in_last : (i : ℕ) {o : Option ℕ} → o ≡ position (λ d. not (eqb d dtx)) (take 12 (drop 288 frame)) → o ≡ Some i → i < 12
  in_last i {o} f is =
      let l = found_below (λ d. not (eqb d dtx)) (take 12 (drop 288 frame)) i f is in
      rw (part_length frame 288 12 (omega arith)) at l

-- ---- pairs of digits taken as one: what the loop keeps of the half that is written
pub record Halved (s half₀ half : List ℕ) (i : ℕ) (good : Bool) : Type 0 where
  pub within : i ≤ length half₀
  pub sized : length half ≡ length half₀
  pub so_far : good ≡ true → (k : ℕ) → k < 2 * i → get_or s k 0 ≡ get_or half (k / 2) 0

pub halved_none : (s half : List ℕ) → Halved s half half 0 true
halved_none s half = record { within = omega arith; sized = refl; so_far = λ _ k h. absurd (let z : ⊥ = omega arith in z) }

-- one pair more: both are v, which is stored
module _ (s half : List ℕ) (i v : ℕ) (h : i < length half) (first : get_or s (2 * i) 0 ≡ v) (second : get_or s (2 * i + 1) 0 ≡ v) where
  of_pair : (k : ℕ) → 2 * i ≤ k → k < 2 * (i + 1) → get_or s k 0 ≡ v
  of_pair k l m = side (eqb k (2 * i)) refl
    where
      side : (b : Bool) → eqb k (2 * i) ≡ b → get_or s k 0 ≡ v
      side true t = ap (λ (n : ℕ). get_or s n 0) (eqb-true _ _ t) ∙ first
      side false t =
          let ne : k ≡ 2 * i → ⊥ = eqb-false _ _ t in
          let e : k ≡ 2 * i + 1 = omega arith in
          ap (λ (n : ℕ). get_or s n 0) e ∙ second

  one_pair : ((k : ℕ) → k < 2 * i → get_or s k 0 ≡ get_or half (k / 2) 0) → (k : ℕ) → k < 2 * (i + 1) → get_or s k 0 ≡ get_or (set half i v) (k / 2) 0
  one_pair before k l = side (ltb k (2 * i)) refl
    where
      side : (b : Bool) → ltb k (2 * i) ≡ b → get_or s k 0 ≡ get_or (set half i v) (k / 2) 0
      side true t =
          let m : k < 2 * i = ltb-true _ _ t in
          before k m ∙ sym (get_or-set_other half i (k / 2) v 0 (λ e. absurd (let z : ⊥ = omega arith in z)))
      side false t =
          let m : 2 * i ≤ k = ltb-false _ _ t in
          let e : k / 2 ≡ i = omega arith in
          of_pair k m l ∙ sym (ap (λ (n : ℕ). get_or (set half i v) n 0) e ∙ get_or-set_same half i v 0 h)

pub halved_more : {s half₀ half : List ℕ} {i v : ℕ} {good then : Bool} → Halved s half₀ half i good → i < length half
    → (then ≡ true → (good ≡ true) × (get_or s (2 * i) 0 ≡ v) × (get_or s (2 * i + 1) 0 ≡ v)) → Halved s half₀ (set half i v) (i + 1) then
halved_more {s} {half₀} {half} {i} {v} f h step =
    let n = f.sized in
    record {
      within = omega arith;
      sized = length-set half i v ∙ n;
      so_far = λ e. let p = step e in one_pair s half i v h p.1 p.2 (f.so_far p.0);
    }

-- ---- indicators that fill their digits, of which none is above 1, before a tail of DTX, give the frame
module _ (np : ℕ) (frame found : List ℕ) (ok : is_np np ≡ true) (long : length frame ≡ 300) (few : length found ≡ np) where
  given : ((k : ℕ) → k < 288 → get_or frame k 0 ≡ get_or found (k / width np) 0) → Every (at_most 1 found) (length found)
      → take 12 (drop 288 frame) ≡ replicate 12 dtx → Gives np found frame
  unfolding map_verdict
  given fills bits tail =
      record {
        taken =
            or_else_pass (unless_pass 8 0 ok)
            (or_else_pass (unless_pass 3 0 (eq-eqb _ _ few)) (or_else_pass (unless_pass 3 1 (eq-eqb 300 300 refl)) (each_pass 0 4 _ _ bits)));
        written = ext_get_or 0 (frame_of np found) frame (frame_length np found ∙ sym long) (λ k l. side k (rw (frame_length np found) at l) (ltb k 288) refl);
      }
    where
      side : (k : ℕ) → k < 300 → (b : Bool) → ltb k 288 ≡ b → get_or (frame_of np found) k 0 ≡ get_or frame k 0
      side k l true t = let m : k < 288 = ltb-true _ _ t in digit_at np found k m ∙ sym (fills k m)
      side k l false t =
          let m : 288 ≤ k = ltb-false _ _ t in
          let j : k - 288 < 12 = omega arith in
          let e : 288 + (k - 288) ≡ k = omega arith in
          tail_at np found k m l
          ∙ sym (ap (λ (n : ℕ). get_or frame n 0) (sym e) ∙ sym (part_at frame 288 12 (k - 288) 0 j) ∙ ap (λ (t : List ℕ). get_or t (k - 288) 0) tail ∙ get_or-replicate {A = ℕ} 12 (k - 288) 2 0 j)

  -- as the scans tell it
  pub found_given : {bits tail : Bool} → ((k : ℕ) → k < 288 → get_or frame k 0 ≡ get_or found (k / width np) 0)
      → bits ≡ (leb np (length found) && all np (at_most 1 found)) → bits ≡ true
      → tail ≡ (leb 12 (length (take 12 (drop 288 frame))) && (leb 12 (length (replicate 12 dtx)) && all 12 (agree (take 12 (drop 288 frame)) (replicate 12 dtx)))) → tail ≡ true → Gives np found frame
  found_given fills e h d t =
      let n = part_length frame 288 12 (omega arith) in
      let same = and_right (leb 12 (length (replicate 12 dtx))) (all 12 (agree (take 12 (drop 288 frame)) (replicate 12 dtx))) (and_right (leb 12 (length (take 12 (drop 288 frame)))) _ (rw d at t)) in
      given fills (front_every _ np (at_most 1 found) few e h)
      (no_diff (take 12 (drop 288 frame)) (replicate 12 dtx) n (rw n (all_every 12 (agree (take 12 (drop 288 frame)) (replicate 12 dtx)) same)))

-- each digit of a frame is that of its w digits, of which one is found; and each digit of a run that of a pair
abbrev pub Fills : List ℕ → ℕ → List ℕ → Type 0
Fills frame w found = (k : ℕ) → k < 288 → get_or frame k 0 ≡ get_or found (k / w) 0

abbrev pub Pairs : List ℕ → List ℕ → Type 0
Pairs s half = (k : ℕ) → k < length s → get_or s k 0 ≡ get_or half (k / 2) 0

again : (frame twice half : List ℕ) (v w : ℕ) → ((k : ℕ) → k < 288 → (k / w ≡ k / v / 2) × (k / v < length twice)) → Fills frame v twice → Pairs twice half → Fills frame w half
again frame twice half v w apart found pairs k h = let a = apart k h in rw a.0 (found k h ∙ pairs (k / v) a.1)

-- digits that were found, halved and halved again
pub by_2 : (frame found : List ℕ) → length frame ≡ 300 → Pairs (take 288 frame) found → Fills frame 2 found
by_2 frame found long pairs k h =
    let n : length (take 288 frame) ≡ 288 = length-take-le 288 frame (omega arith) in
    sym (get_or-take 288 frame k 0 h) ∙ pairs k (rw n h)

pub by_4 : (frame twice found : List ℕ) → length twice ≡ 144 → Fills frame 2 twice → Pairs twice found → Fills frame 4 found
by_4 frame twice found n = again frame twice found 2 4 (λ k h. (omega arith, omega arith))

pub by_8 : (frame twice found : List ℕ) → length twice ≡ 72 → Fills frame 4 twice → Pairs twice found → Fills frame 8 found
by_8 frame twice found n = again frame twice found 4 8 (λ k h. (omega arith, omega arith))

pub by_16 : (frame twice found : List ℕ) → length twice ≡ 36 → Fills frame 8 twice → Pairs twice found → Fills frame 16 found
by_16 frame twice found n = again frame twice found 8 16 (λ k h. (omega arith, omega arith))

-- an Np that is none of the last three
pub first_np : (np : ℕ) → is_np np ≡ true → (np ≡ 144 → ⊥) → (np ≡ 72 → ⊥) → (np ≡ 36 → ⊥) → np ≡ 18
first_np =
    at_each (λ (n : ℕ). (n ≡ 144 → ⊥) → (n ≡ 72 → ⊥) → (n ≡ 36 → ⊥) → n ≡ 18)
    (λ a b c. refl)
    (λ a b c. absurd (c refl))
    (λ a b c. absurd (b refl))
    (λ a b c. absurd (a refl))

-- a frame that is given is read at once, and its indicators are those that give it
pub given_read : {np : ℕ} {frame indicators after : List ℕ} → is_np np ≡ true → length frame ≡ 300 → length indicators ≡ np → Gives np after frame
    → Read np frame indicators done after
given_read {np} {frame} {indicators} {after} ok long few g =
    let is : read_verdict np frame np ≡ done =
    subst (λ (f : List ℕ). read_verdict np f np ≡ done) g.written (mapped_accepted np after (taken np after 300 (number_0 g.taken)))
    in
    let v : read_verdict np frame (length indicators) ≡ done = rw few is in
    record {
      verdict_is = sym v;
      indicators_is = sym ((read_exact np frame ok long).hands_back after g) ∙ sym (leaves_done _ _ _ (number_0 v));
    }

-- ---- a scan that finds no digit above 1 in a run of n
pub none_above : (n : ℕ) (s : List ℕ) {found : Option ℕ} {r : Bool} → length s ≡ n → is_some found ≡ not r → found ≡ position (ltb 1) s → r ≡ (leb n (length s) && all n (at_most 1 s))
none_above n s {found} {r} long told e =
    rw (sym long, le-leb (length s) (length s) (omega arith)) (turned r told ∙ side found (above_first 1 s e) (λ i is. found_below (ltb 1) s i e is))
  where
    turned : (b : Bool) {a : Bool} → a ≡ not b → b ≡ not a
    turned true h = rw h
    turned false h = rw h

    side : (o : Option ℕ) → unwrap_or o (length s) ≡ first_bad (at_most 1 s) (length s) → ((i : ℕ) → o ≡ Some i → i < length s) → not (is_some o) ≡ all (length s) (at_most 1 s)
    side None p below = sym (le-leb _ _ (omega (arith, p)))
    side (Some i) p below = let l = below i refl in sym (lt-leb _ _ (omega (arith, p)))
