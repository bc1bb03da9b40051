-- What stands at the front of bytes where a header or a slot does, byte by byte.
-- Assumes nothing.
use mathlib.Core.Path.{◌≡◌, refl, sym, ap, ◌∙◌}
use mathlib.Core.Bool.{Bool, true, false, cond, ◌&&◌, false≢true}
use mathlib.Core.List.{List, ◌∷◌, ◌++◌}
use Prim.Native.Nat.{ℕ, ◌+◌, ◌*◌, ◌/◌, ◌%◌, ◌≤◌, ◌<◌}
use native.Mathlib.Omega.{arith}
use borrow.Author.Tests.{leb-true, le-leb}
use lib.Dec.{leb}
use lib.ListN.{length, get_or, take, drop, length-drop, take-append-drop, length-append}
use lib.Seq.{drop-cons, length-take-le}
use Rattle.run.specs.First.{all, at_most}
use Rattle.run.proofs.Bools.{and_left, and_right}
use Rattle.bank.specs.Slots.{is_number, is_length, is_slot}
use Rattle.bank.specs.Layout.{slot_bytes, head, length_in, first_slot, four_at, total_in, begins, is_room}
use Rattle.bank.specs.Outcome.{head_total, front_length, front_size}
use Rattle.bank.proofs.Laws.{both, slot_length, head_length, length_read, begins_take, begins_is, is_begins}

-- what a length that a slot can have is below
pub length_low : (n : ℕ) → is_length n ≡ true → (10 ≤ n) × (n ≤ 1280)
unfolding is_length
length_low n e = (leb-true _ _ (and_left (leb 10 n) _ e), leb-true _ _ (and_right (leb 10 n) _ e))

-- .. and what a buffer's length is
pub room_low : (n : ℕ) → is_room n ≡ true → (8 ≤ n) × (n ≤ 65536)
unfolding is_room
room_low n e = (leb-true _ _ (and_left (leb 8 n) _ e), leb-true _ _ (and_right (leb 8 n) _ e))

-- a choice whose test is known
chosen : (a b : ℕ) {t : Bool} → t ≡ true → cond t a b ≡ a
chosen a b e = rw e

not_chosen : (a b : ℕ) (t : Bool) → (t ≡ true → ⊥) → cond t a b ≡ b
not_chosen a b true never = absurd (never refl)
not_chosen a b false never = refl

module _ (s : List ℕ) where
  four_first : 4 ≤ length s → s ≡ get_or s 0 0 ∷ get_or s 1 0 ∷ get_or s 2 0 ∷ get_or s 3 0 ∷ drop 4 s
  four_first h =
      drop-cons s 0 0 (omega arith)
      ∙ ap (λ (l : List ℕ). get_or s 0 0 ∷ l)
      (drop-cons s 1 0 (omega arith)
      ∙ ap (λ (l : List ℕ). get_or s 1 0 ∷ l)
      (drop-cons s 2 0 (omega arith) ∙ ap (λ (l : List ℕ). get_or s 2 0 ∷ l) (drop-cons s 3 0 (omega arith))))

  -- ---- a slot
  pub record Slotted : Type 0 where
    pub number : get_or s 0 0 ≤ 255
    pub blank : get_or s 1 0 ≡ 0
    pub low : get_or s 3 0 ≤ 255
    pub long : is_length (length_in s) ≡ true
    pub fits : 4 + length_in s ≤ length s
    pub digits : all (length_in s) (at_most 2 (take (length_in s) (drop 4 s))) ≡ true

  pub digits_long : 4 + length_in s ≤ length s → length (take (length_in s) (drop 4 s)) ≡ length_in s
  digits_long h = length-take-le (length_in s) (drop 4 s) (simp length-drop (omega arith))

  -- the number of digits that the front gives, where it gives one that a slot can have
  pub length_there : 4 ≤ length s → front_length s ≡ length_in s
  unfolding front_length
  length_there h = rw (le-leb 4 (length s) h)

  pub length_known : is_length (front_length s) ≡ true → front_length s ≡ length_in s
  unfolding front_length is_length
  length_known e = side (leb 4 (length s)) refl e
    where
      side : (b : Bool) → leb 4 (length s) ≡ b → is_length (cond b (length_in s) 0) ≡ true → cond b (length_in s) 0 ≡ length_in s
      side true t h = refl
      side false t h = absurd (false≢true h)

  -- the test that the definition makes, and what it comes to
  abbrev pub stands : Bool
  stands = is_slot (first_slot s) && begins (slot_bytes (first_slot s)) s

  blank_of : (rest : List ℕ) → get_or (slot_bytes (first_slot s) ++ rest) 1 0 ≡ 0
  unfolding slot_bytes
  blank_of rest = refl

  low_of : (rest : List ℕ) → get_or (slot_bytes (first_slot s) ++ rest) 3 0 ≡ length (take (length_in s) (drop 4 s)) % 256
  unfolding slot_bytes first_slot
  low_of rest = refl

  pub stands_slotted : stands ≡ true → Slotted
  unfolding is_slot first_slot
  stands_slotted e =
      let slot = and_left (is_slot (first_slot s)) _ e in
      let is : s ≡ slot_bytes (first_slot s) ++ drop (length (slot_bytes (first_slot s))) s = begins_is (slot_bytes (first_slot s)) s (and_right (is_slot (first_slot s)) _ e) in
      let more = and_right (is_number (get_or s 0 0)) _ slot in
      let n : length_in s ≡ length (take (length_in s) (drop 4 s)) = ap length_in is ∙ length_read (first_slot s) (drop (length (slot_bytes (first_slot s))) s) in
      let size : length s ≡ length (slot_bytes (first_slot s)) + length (drop (length (slot_bytes (first_slot s))) s) =
      ap length is ∙ length-append (slot_bytes (first_slot s)) (drop (length (slot_bytes (first_slot s))) s)
      in
      let own : length (slot_bytes (first_slot s)) ≡ 4 + length (take (length_in s) (drop 4 s)) = slot_length (first_slot s) in
      record {
        number = leb-true _ _ (and_left (is_number (get_or s 0 0)) _ slot);
        blank = ap (λ (l : List ℕ). get_or l 1 0) is ∙ blank_of (drop (length (slot_bytes (first_slot s))) s);
        low = let e3 : get_or s 3 0 ≡ length (take (length_in s) (drop 4 s)) % 256 = ap (λ (l : List ℕ). get_or l 3 0) is ∙ low_of (drop (length (slot_bytes (first_slot s))) s) in omega arith;
        long = ap is_length n ∙ and_left (is_length (length (take (length_in s) (drop 4 s)))) _ more;
        fits = omega arith;
        digits = ap (λ (k : ℕ). all k (at_most 2 (take (length_in s) (drop 4 s)))) n ∙ and_right (is_length (length (take (length_in s) (drop 4 s)))) _ more;
      }

  pub slotted_is : Slotted → s ≡ slot_bytes (first_slot s) ++ drop (length_in s) (drop 4 s)
  unfolding slot_bytes first_slot length_in
  slotted_is f =
      let n : length (take (256 * get_or s 2 0 + get_or s 3 0) (drop 4 s)) ≡ 256 * get_or s 2 0 + get_or s 3 0 = digits_long f.fits in
      let l = f.low in
      let fits = f.fits in
      let high : (256 * get_or s 2 0 + get_or s 3 0) / 256 ≡ get_or s 2 0 = omega arith in
      let low : (256 * get_or s 2 0 + get_or s 3 0) % 256 ≡ get_or s 3 0 = omega arith in
      four_first (omega arith) ∙ rw (n, high, low, f.blank, take-append-drop (256 * get_or s 2 0 + get_or s 3 0) (drop 4 s))

  pub slotted_stands : Slotted → stands ≡ true
  unfolding is_slot first_slot
  slotted_stands f =
      let n = digits_long f.fits in
      both
      (both (le-leb _ _ f.number) (both (ap is_length n ∙ f.long) (ap (λ (k : ℕ). all k (at_most 2 (take (length_in s) (drop 4 s)))) n ∙ f.digits)))
      (ap (begins (slot_bytes (first_slot s))) (slotted_is f) ∙ is_begins (slot_bytes (first_slot s)) (drop (length_in s) (drop 4 s)))

  pub size_there : Slotted → front_size s ≡ 4 + length_in s
  unfolding front_size
  size_there f = chosen (4 + length_in s) 0 (slotted_stands f)

  pub size_none : (Slotted → ⊥) → front_size s ≡ 0
  unfolding front_size
  size_none never = not_chosen (4 + length_in s) 0 stands (λ e. never (stands_slotted e))

  -- the size that was told is 0 exactly where none stands there
  pub size_stands : (front_size s ≡ 0 → ⊥) → stands ≡ true
  unfolding front_size
  size_stands some = side stands some
    where
      side : (b : Bool) → (cond b (4 + length_in s) 0 ≡ 0 → ⊥) → b ≡ true
      side true h = refl
      side false h = absurd (h refl)

  pub none_stands : front_size s ≡ 0 → stands ≡ false
  unfolding front_size
  none_stands e = side stands e
    where
      side : (b : Bool) → cond b (4 + length_in s) 0 ≡ 0 → b ≡ false
      side true h = absurd (let z : ⊥ = omega arith in z)
      side false h = refl

  -- ---- a header
  pub record Headed : Type 0 where
    pub room : is_room (length s) ≡ true
    pub mark : four_at s 0 ≡ 1397511234
    pub low : 8 ≤ total_in s
    pub fits : total_in s ≤ length s

  abbrev pub heads : Bool
  heads = is_room (length s) && (begins (head (total_in s)) s && (leb 8 (total_in s) && leb (total_in s) (length s)))

  mark_of : (rest : List ℕ) → four_at (head (total_in s) ++ rest) 0 ≡ 1397511234
  unfolding four_at head
  mark_of rest = refl

  pub heads_headed : heads ≡ true → Headed
  heads_headed e =
      let more = and_right (is_room (length s)) _ e in
      let last = and_right (begins (head (total_in s)) s) _ more in
      let is : s ≡ head (total_in s) ++ drop (length (head (total_in s))) s = begins_is (head (total_in s)) s (and_left (begins (head (total_in s)) s) _ more) in
      record {
        room = and_left (is_room (length s)) _ e;
        mark = ap (λ (l : List ℕ). four_at l 0) is ∙ mark_of (drop (length (head (total_in s))) s);
        low = leb-true _ _ (and_left (leb 8 (total_in s)) _ last);
        fits = leb-true _ _ (and_right (leb 8 (total_in s)) _ last);
      }

  -- all bytes are bytes
  module _ (small : (k : ℕ) → get_or s k 0 < 256) where
    headed_is : Headed → s ≡ head (total_in s) ++ drop 8 s
    unfolding head total_in four_at
    headed_is f =
        let m : 16777216 * get_or s 0 0 + 65536 * get_or s 1 0 + 256 * get_or s 2 0 + get_or s 3 0 ≡ 1397511234 = f.mark in
        let b0 = small 0 in
        let b1 = small 1 in
        let b2 = small 2 in
        let b3 = small 3 in
        let b4 = small 4 in
        let b5 = small 5 in
        let b6 = small 6 in
        let b7 = small 7 in
        let low = f.low in
        let fits = f.fits in
        let t : ℕ = 16777216 * get_or s 4 0 + 65536 * get_or s 5 0 + 256 * get_or s 6 0 + get_or s 7 0 in
        let e0 : get_or s 0 0 ≡ 83 = omega arith in
        let e1 : get_or s 1 0 ≡ 76 = omega arith in
        let e2 : get_or s 2 0 ≡ 84 = omega arith in
        let e3 : get_or s 3 0 ≡ 66 = omega arith in
        let e4 : get_or s 4 0 ≡ t / 16777216 = omega arith in
        let e5 : get_or s 5 0 ≡ t / 65536 % 256 = omega arith in
        let e6 : get_or s 6 0 ≡ t / 256 % 256 = omega arith in
        let e7 : get_or s 7 0 ≡ t % 256 = omega arith in
        four_first (omega arith)
        ∙ ap (λ (l : List ℕ). get_or s 0 0 ∷ get_or s 1 0 ∷ get_or s 2 0 ∷ get_or s 3 0 ∷ l) (four_next (omega arith))
        ∙ eight e0 e1 e2 e3 e4 e5 e6 e7
      where
        four_next : 8 ≤ length s → drop 4 s ≡ get_or s 4 0 ∷ get_or s 5 0 ∷ get_or s 6 0 ∷ get_or s 7 0 ∷ drop 8 s
        four_next h =
            drop-cons s 4 0 (omega arith)
            ∙ ap (λ (l : List ℕ). get_or s 4 0 ∷ l)
            (drop-cons s 5 0 (omega arith)
            ∙ ap (λ (l : List ℕ). get_or s 5 0 ∷ l)
            (drop-cons s 6 0 (omega arith) ∙ ap (λ (l : List ℕ). get_or s 6 0 ∷ l) (drop-cons s 7 0 (omega arith))))

        eight : {a b c d e f g h : ℕ} → get_or s 0 0 ≡ a → get_or s 1 0 ≡ b → get_or s 2 0 ≡ c → get_or s 3 0 ≡ d → get_or s 4 0 ≡ e → get_or s 5 0 ≡ f → get_or s 6 0 ≡ g → get_or s 7 0 ≡ h
            → get_or s 0 0 ∷ get_or s 1 0 ∷ get_or s 2 0 ∷ get_or s 3 0 ∷ get_or s 4 0 ∷ get_or s 5 0 ∷ get_or s 6 0 ∷ get_or s 7 0 ∷ drop 8 s
            ≡ a ∷ b ∷ c ∷ d ∷ e ∷ f ∷ g ∷ h ∷ drop 8 s
        eight a b c d e f g h = λ i. a i ∷ b i ∷ c i ∷ d i ∷ e i ∷ f i ∷ g i ∷ h i ∷ drop 8 s

    headed_heads : Headed → heads ≡ true
    headed_heads f =
        both f.room
        (both (ap (begins (head (total_in s))) (headed_is f) ∙ is_begins (head (total_in s)) (drop 8 s))
        (both (le-leb _ _ f.low) (le-leb _ _ f.fits)))

    pub total_there : Headed → head_total s ≡ total_in s
    unfolding head_total
    total_there f = chosen (total_in s) 0 (headed_heads f)

  pub total_none : (Headed → ⊥) → head_total s ≡ 0
  unfolding head_total
  total_none never = not_chosen (total_in s) 0 heads (λ e. never (heads_headed e))

  -- the same of the total
  pub heads_total : heads ≡ true → head_total s ≡ total_in s
  unfolding head_total
  heads_total e = chosen (total_in s) 0 e

  pub total_heads : (head_total s ≡ 0 → ⊥) → heads ≡ true
  unfolding head_total
  total_heads some = side heads some
    where
      side : (b : Bool) → (cond b (total_in s) 0 ≡ 0 → ⊥) → b ≡ true
      side true h = refl
      side false h = absurd (h refl)

  -- a header's bytes are those of its total
  pub heads_is : heads ≡ true → take 8 s ≡ head (total_in s)
  heads_is e =
      let more = and_right (is_room (length s)) _ e in
      ap (λ (n : ℕ). take n s) (sym (head_length (total_in s))) ∙ begins_take (head (total_in s)) s (and_left (begins (head (total_in s)) s) _ more)
