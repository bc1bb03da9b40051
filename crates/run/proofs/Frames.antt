-- Frames of fifteen slots, of which all or some are transmitted, each made of a command and of its parts of two runs: cut and joined, written and taken slot by slot,
-- and exact where the slots are.
-- Assumes nothing.
use mathlib.Core.Path.{◌≡◌, refl, sym, ap, ◌∙◌, subst}
use mathlib.Core.Bool.{Bool, true, false, cond, true≢false}
use mathlib.Core.List.{List}
use Prim.Native.Nat.{ℕ, ◌+◌, ◌-◌, ◌*◌, ◌<◌}
use native.Mathlib.Omega.{arith}
use borrow.Rule.Slice.PartMut.{put_mid, mid_of}
use lib.ListN.{length, get_or, take, drop, replicate, length-replicate}
use Rattle.run.specs.Digits.{dtx}
use Rattle.run.specs.Fields.{joined}
use Rattle.run.specs.Parts.{part}
use Rattle.run.specs.Table.{tab}
use Rattle.run.proofs.Front.{Front, front_part, front_lent}
use Rattle.run.proofs.Parts.{part_room, part_next, part_length, part_lent, joined_tab_length, part_joined, joined_part}
use Rattle.run.proofs.Table.{tab_length, tab_at, tab_same, tab_is}

-- ---- parts of a run of m parts, as they are lent

-- one part more, lent as part k and back as t has it
pub one_part : {m : ℕ} {t d₀ x y : List ℕ} (k w : ℕ) → k < m → length d₀ ≡ m * w → Front t d₀ x (k * w) → y ≡ part k w t
    → Front t d₀ (put_mid (k * w) (k * w + w - k * w) x y) ((k + 1) * w)
one_part {m} {t} {d₀} {x} {y} k w h long f e =
    let room = part_room k m w h in
    subst (λ (n : ℕ). Front t d₀ (put_mid (k * w) (k * w + w - k * w) x y) n) (part_next k w)
    (front_part (k * w + w) f (omega arith) (omega arith) (e ∙ sym (part_lent k w (k * w) (k * w + w) t refl refl)))

-- .. and has as many entries as its bounds say
pub lent_part : {m : ℕ} {t d₀ x : List ℕ} (k w : ℕ) → k < m → length d₀ ≡ m * w → Front t d₀ x (k * w) → length (mid_of (k * w) (k * w + w - k * w) x) ≡ w
lent_part {m} k w h long f =
    let room = part_room k m w h in
    front_lent (k * w) (k * w + w) f (omega arith) ∙ omega arith

-- a part that is lent to be read
pub lent_is : (k n : ℕ) (s : List ℕ) → take (k * n + n - k * n) (drop (k * n) s) ≡ part k n s
lent_is k n s = part_lent k n (k * n) (k * n + n) s refl refl

pub lent_length : {m : ℕ} (k n : ℕ) (s : List ℕ) → k < m → length s ≡ m * n → length (take (k * n + n - k * n) (drop (k * n) s)) ≡ n
lent_length {m} k n s h long = ap length (lent_is k n s) ∙ part_length k m n s h long

-- so many times a size, by the code's name for it
pub sized : (m : ℕ) {n size length : ℕ} → n ≡ size → length ≡ m * size → length ≡ m * n
sized m p e = e ∙ ap (λ (j : ℕ). m * j) (sym p)

-- ---- slots

-- a kind of slot: its digits are made of a command and two runs, for each slot's number, and carry them
pub record Shape : Type 0 where
  pub first_size : ℕ
  pub second_size : ℕ
  pub slot_size : ℕ
  pub make : ℕ → ℕ → List ℕ → List ℕ → List ℕ
  pub command : List ℕ → ℕ
  pub first : List ℕ → List ℕ
  pub second : List ℕ → List ℕ
  pub make_long : (k c : ℕ) (a b : List ℕ) → length a ≡ first_size → length b ≡ second_size → length (make k c a b) ≡ slot_size
  pub first_long : (xs : List ℕ) → length xs ≡ slot_size → length (first xs) ≡ first_size
  pub second_long : (xs : List ℕ) → length xs ≡ slot_size → length (second xs) ≡ second_size

-- which slots of a frame are transmitted, how many they are, which slot the i-th of them is, and which of them slot k is: one to one
pub record Plan : Type 0 where
  pub count : ℕ
  pub sent : ℕ → Bool
  pub number : ℕ → ℕ
  pub turn : ℕ → ℕ
  pub number_below : (i : ℕ) → i < count → number i < 15
  pub number_sent : (i : ℕ) → i < count → sent (number i) ≡ true
  pub turn_back : (i : ℕ) → i < count → turn (number i) ≡ i
  pub turn_below : (k : ℕ) → k < 15 → sent k ≡ true → turn k < count
  pub number_back : (k : ℕ) → k < 15 → sent k ≡ true → number (turn k) ≡ k

-- all fifteen, each with its own number
abbrev pub all_slots : Plan
all_slots =
    record {
      count = 15;
      sent = λ (k : ℕ). true;
      number = λ (i : ℕ). i;
      turn = λ (k : ℕ). k;
      number_below = λ i h. h;
      number_sent = λ i h. refl;
      turn_back = λ i h. refl;
      turn_below = λ k h e. h;
      number_back = λ k h e. refl;
    }

-- none of them is silent
pub none_silent : {X : Type 0} → true ≡ false → X
none_silent e = absurd (true≢false e)

module _ (s : Shape) (p : Plan) where
  -- slot k of a frame, the frame, and what the digits of a frame carry
  abbrev pub slot_at : List ℕ → List ℕ → List ℕ → ℕ → List ℕ
  slot_at a b cs k =
      cond (p.sent k) (s.make k (get_or cs (p.turn k) 0) (part (p.turn k) s.first_size a) (part (p.turn k) s.second_size b)) (replicate s.slot_size dtx)

  abbrev pub frame_of : List ℕ → List ℕ → List ℕ → List ℕ
  frame_of a b cs = joined (tab 15 (slot_at a b cs))

  abbrev pub firsts_in : List ℕ → List ℕ
  firsts_in xs = joined (tab p.count (λ (i : ℕ). s.first (part (p.number i) s.slot_size xs)))

  abbrev pub seconds_in : List ℕ → List ℕ
  seconds_in xs = joined (tab p.count (λ (i : ℕ). s.second (part (p.number i) s.slot_size xs)))

  abbrev pub commands_in : List ℕ → List ℕ
  commands_in xs = tab p.count (λ (i : ℕ). s.command (part (p.number i) s.slot_size xs))

  module _ (a b cs : List ℕ) (a_ok : length a ≡ p.count * s.first_size) (b_ok : length b ≡ p.count * s.second_size) where
    -- a transmitted slot by its turn
    pub slot_sent : (k : ℕ) → p.sent k ≡ true
        → slot_at a b cs k ≡ s.make k (get_or cs (p.turn k) 0) (part (p.turn k) s.first_size a) (part (p.turn k) s.second_size b)
    slot_sent k e = rw e

    slot_silent : (k : ℕ) → p.sent k ≡ false → slot_at a b cs k ≡ replicate s.slot_size dtx
    slot_silent k e = rw e

    pub slot_at_lem : (i : ℕ) → i < p.count → slot_at a b cs (p.number i) ≡ s.make (p.number i) (get_or cs i 0) (part i s.first_size a) (part i s.second_size b)
    slot_at_lem i h =
        slot_sent (p.number i) (p.number_sent i h)
        ∙ ap (λ (j : ℕ). s.make (p.number i) (get_or cs j 0) (part j s.first_size a) (part j s.second_size b)) (p.turn_back i h)

    slot_long : (k : ℕ) → k < 15 → length (slot_at a b cs k) ≡ s.slot_size
    slot_long k h = by_case (p.sent k) refl
      where
        by_case : (sent : Bool) → p.sent k ≡ sent → length (slot_at a b cs k) ≡ s.slot_size
        by_case true e =
            let t = p.turn_below k h e in
            ap length (slot_sent k e)
            ∙ s.make_long k _ _ _ (part_length (p.turn k) p.count s.first_size a t a_ok) (part_length (p.turn k) p.count s.second_size b t b_ok)
        by_case false e = ap length (slot_silent k e) ∙ length-replicate s.slot_size dtx

    pub frame_length : length (frame_of a b cs) ≡ 15 * s.slot_size
    frame_length = joined_tab_length 15 s.slot_size (slot_at a b cs) slot_long

    -- slot k of a frame is made of its command and parts, or silent
    pub frame_slot : (k : ℕ) → k < 15 → part k s.slot_size (frame_of a b cs) ≡ slot_at a b cs k
    frame_slot k h = part_joined 15 s.slot_size (slot_at a b cs) slot_long k h

  module _ (xs : List ℕ) (long : length xs ≡ 15 * s.slot_size) where
    part_long : (i : ℕ) → i < p.count → length (part (p.number i) s.slot_size xs) ≡ s.slot_size
    part_long i h = part_length (p.number i) 15 s.slot_size xs (p.number_below i h) long

    a_long : (i : ℕ) → i < p.count → length (s.first (part (p.number i) s.slot_size xs)) ≡ s.first_size
    a_long i h = s.first_long _ (part_long i h)

    b_long : (i : ℕ) → i < p.count → length (s.second (part (p.number i) s.slot_size xs)) ≡ s.second_size
    b_long i h = s.second_long _ (part_long i h)

    pub firsts_length : length (firsts_in xs) ≡ p.count * s.first_size
    firsts_length = joined_tab_length p.count s.first_size (λ (i : ℕ). s.first (part (p.number i) s.slot_size xs)) a_long

    pub seconds_length : length (seconds_in xs) ≡ p.count * s.second_size
    seconds_length = joined_tab_length p.count s.second_size (λ (i : ℕ). s.second (part (p.number i) s.slot_size xs)) b_long

    pub commands_length : length (commands_in xs) ≡ p.count
    commands_length = tab_length p.count _

    pub first_of : (i : ℕ) → i < p.count → part i s.first_size (firsts_in xs) ≡ s.first (part (p.number i) s.slot_size xs)
    first_of i h = part_joined p.count s.first_size (λ (j : ℕ). s.first (part (p.number j) s.slot_size xs)) a_long i h

    pub second_of_lem : (i : ℕ) → i < p.count → part i s.second_size (seconds_in xs) ≡ s.second (part (p.number i) s.slot_size xs)
    second_of_lem i h = part_joined p.count s.second_size (λ (j : ℕ). s.second (part (p.number j) s.slot_size xs)) b_long i h

    pub command_of : (i : ℕ) → i < p.count → get_or (commands_in xs) i 0 ≡ s.command (part (p.number i) s.slot_size xs)
    command_of i h = tab_at p.count (λ (j : ℕ). s.command (part (p.number j) s.slot_size xs)) i 0 h

  -- ---- slot k is lent from the runs, which have n, m and w entries a slot, and comes back written: it is the i-th transmitted one
  module _ (a b cs out x y : List ℕ) (k w : ℕ) (a_ok : length a ≡ p.count * s.first_size) (b_ok : length b ≡ p.count * s.second_size)
      (out_ok : length out ≡ 15 * s.slot_size) (h : k < 15) (r : w ≡ s.slot_size) (f : Front (frame_of a b cs) out x (k * w)) where
    pub as_slot : y ≡ slot_at a b cs k → Front (frame_of a b cs) out (put_mid (k * w) (k * w + w - k * w) x y) ((k + 1) * w)
    as_slot e = one_part k w h (sized 15 r out_ok) f (e ∙ sym (frame_slot a b cs a_ok b_ok k h) ∙ ap (λ (j : ℕ). part k j (frame_of a b cs)) (sym r))

    pub slot_written : (i n m : ℕ) → n ≡ s.first_size → m ≡ s.second_size → p.sent k ≡ true → i ≡ p.turn k
        → y ≡ s.make k (get_or cs i 0) (take (i * n + n - i * n) (drop (i * n) a)) (take (i * m + m - i * m) (drop (i * m) b))
        → Front (frame_of a b cs) out (put_mid (k * w) (k * w + w - k * w) x y) ((k + 1) * w)
    slot_written i n m q t sent turn e =
        as_slot (e ∙ rw (lent_is i n a, lent_is i m b, q, t, turn) (sym (slot_sent a b cs a_ok b_ok k sent)))

  -- .. or what it carries is taken
  module _ (xs : List ℕ) (long : length xs ≡ 15 * s.slot_size) (i k w : ℕ) (h : i < p.count) (number : k ≡ p.number i) (r : w ≡ s.slot_size) where
    lent_slot : take (k * w + w - k * w) (drop (k * w) xs) ≡ part (p.number i) s.slot_size xs
    lent_slot = lent_is k w xs ∙ rw (number, r)

    pub first_taken : (a x y : List ℕ) (n : ℕ) → length a ≡ p.count * s.first_size → n ≡ s.first_size → Front (firsts_in xs) a x (i * n)
        → y ≡ s.first (take (k * w + w - k * w) (drop (k * w) xs)) → Front (firsts_in xs) a (put_mid (i * n) (i * n + n - i * n) x y) ((i + 1) * n)
    first_taken a x y n a_ok q f e =
        one_part i n h (sized p.count q a_ok) f
        (e ∙ ap s.first lent_slot ∙ sym (first_of xs long i h) ∙ ap (λ (j : ℕ). part i j (firsts_in xs)) (sym q))

    pub second_taken : (b x y : List ℕ) (m : ℕ) → length b ≡ p.count * s.second_size → m ≡ s.second_size → Front (seconds_in xs) b x (i * m)
        → y ≡ s.second (take (k * w + w - k * w) (drop (k * w) xs)) → Front (seconds_in xs) b (put_mid (i * m) (i * m + m - i * m) x y) ((i + 1) * m)
    second_taken b x y m b_ok q f e =
        one_part i m h (sized p.count q b_ok) f
        (e ∙ ap s.second lent_slot ∙ sym (second_of_lem xs long i h) ∙ ap (λ (j : ℕ). part i j (seconds_in xs)) (sym q))

    pub command_taken : (v : ℕ) → v ≡ s.command (take (k * w + w - k * w) (drop (k * w) xs)) → v ≡ get_or (commands_in xs) i 0
    command_taken v e = e ∙ ap s.command lent_slot ∙ sym (command_of xs long i h)

-- ---- exactness

made : (f : ℕ → List ℕ → List ℕ → List ℕ) {c d : ℕ} {a a₁ b b₁ : List ℕ} → c ≡ d → a ≡ a₁ → b ≡ b₁ → f c a b ≡ f d a₁ b₁
made f p q r = rw (p, q, r)

-- slots that are read exactly: `Good` digits of slot k are made of what they carry, which is `Fit`, and what is fit makes good digits, which carry it
pub record Codec (s : Shape) : Type 1 where
  pub Good : ℕ → List ℕ → Type 0
  pub Fit : ℕ → List ℕ → List ℕ → Type 0
  pub gives : (k : ℕ) (xs : List ℕ) → k < 15 → length xs ≡ s.slot_size → Good k xs → s.make k (s.command xs) (s.first xs) (s.second xs) ≡ xs
  pub fits : (k : ℕ) (xs : List ℕ) → k < 15 → length xs ≡ s.slot_size → Good k xs → Fit (s.command xs) (s.first xs) (s.second xs)
  pub good : (k c : ℕ) (a b : List ℕ) → k < 15 → length a ≡ s.first_size → length b ≡ s.second_size → Fit c a b → Good k (s.make k c a b)
  pub command_back : (k c : ℕ) (a b : List ℕ) → k < 15 → length a ≡ s.first_size → length b ≡ s.second_size → Fit c a b → s.command (s.make k c a b) ≡ c
  pub first_back : (k c : ℕ) (a b : List ℕ) → k < 15 → length a ≡ s.first_size → length b ≡ s.second_size → Fit c a b → s.first (s.make k c a b) ≡ a
  pub second_back : (k c : ℕ) (a b : List ℕ) → k < 15 → length a ≡ s.first_size → length b ≡ s.second_size → Fit c a b → s.second (s.make k c a b) ≡ b

module _ (s : Shape) (p : Plan) (e : Codec s) where
  -- a frame whose transmitted slots are good, and the others silent, is made of what it carries, which is fit
  module _ (xs : List ℕ) (long : length xs ≡ 15 * s.slot_size) (all : (k : ℕ) → k < 15 → p.sent k ≡ true → e.Good k (part k s.slot_size xs)) where
    whole_part : (k : ℕ) → k < 15 → length (part k s.slot_size xs) ≡ s.slot_size
    whole_part k h = part_length k 15 s.slot_size xs h long

    module _ (silent : (k : ℕ) → k < 15 → p.sent k ≡ false → part k s.slot_size xs ≡ replicate s.slot_size dtx) where
      same_slot : (k : ℕ) → k < 15 → slot_at s p (firsts_in s p xs) (seconds_in s p xs) (commands_in s p xs) k ≡ part k s.slot_size xs
      same_slot k h = by_case (p.sent k) refl
        where
          of_slot : {A : Type 0} (g : List ℕ → A) → p.sent k ≡ true → g (part (p.number (p.turn k)) s.slot_size xs) ≡ g (part k s.slot_size xs)
          of_slot g sent = ap (λ (j : ℕ). g (part j s.slot_size xs)) (p.number_back k h sent)

          by_case : (sent : Bool) → p.sent k ≡ sent → slot_at s p (firsts_in s p xs) (seconds_in s p xs) (commands_in s p xs) k ≡ part k s.slot_size xs
          by_case true sent =
              let t = p.turn_below k h sent in
              slot_sent s p (firsts_in s p xs) (seconds_in s p xs) (commands_in s p xs) (firsts_length s p xs long) (seconds_length s p xs long) k sent
              ∙ made (s.make k) (command_of s p xs long (p.turn k) t ∙ of_slot s.command sent) (first_of s p xs long (p.turn k) t ∙ of_slot s.first sent)
              (second_of_lem s p xs long (p.turn k) t ∙ of_slot s.second sent)
              ∙ e.gives k (part k s.slot_size xs) h (whole_part k h) (all k h sent)
          by_case false sent =
              slot_silent s p (firsts_in s p xs) (seconds_in s p xs) (commands_in s p xs) (firsts_length s p xs long) (seconds_length s p xs long) k sent ∙ sym (silent k h sent)

      pub frame_gives : frame_of s p (firsts_in s p xs) (seconds_in s p xs) (commands_in s p xs) ≡ xs
      frame_gives = ap joined (tab_same 15 _ (λ (k : ℕ). part k s.slot_size xs) same_slot) ∙ joined_part 15 s.slot_size xs long

    pub frame_fits : (i : ℕ) → i < p.count
        → e.Fit (get_or (commands_in s p xs) i 0) (part i s.first_size (firsts_in s p xs)) (part i s.second_size (seconds_in s p xs))
    frame_fits i h =
        let k = p.number i in
        let l = p.number_below i h in
        rw (command_of s p xs long i h, first_of s p xs long i h, second_of_lem s p xs long i h)
        (e.fits k (part k s.slot_size xs) l (whole_part k l) (all k l (p.number_sent i h)))

  -- what is fit, slot by slot, makes a frame of good slots, which carries it
  module _ (a b cs : List ℕ) (a_ok : length a ≡ p.count * s.first_size) (b_ok : length b ≡ p.count * s.second_size)
      (all : (i : ℕ) → i < p.count → e.Fit (get_or cs i 0) (part i s.first_size a) (part i s.second_size b)) where
    a_part : (i : ℕ) → i < p.count → length (part i s.first_size a) ≡ s.first_size
    a_part i h = part_length i p.count s.first_size a h a_ok

    b_part : (i : ℕ) → i < p.count → length (part i s.second_size b) ≡ s.second_size
    b_part i h = part_length i p.count s.second_size b h b_ok

    -- the slot of the i-th transmitted one
    numbered : (i : ℕ) → i < p.count
        → part (p.number i) s.slot_size (frame_of s p a b cs) ≡ s.make (p.number i) (get_or cs i 0) (part i s.first_size a) (part i s.second_size b)
    numbered i h = frame_slot s p a b cs a_ok b_ok (p.number i) (p.number_below i h) ∙ slot_at_lem s p a b cs a_ok b_ok i h

    pub frame_good : (k : ℕ) → k < 15 → p.sent k ≡ true → e.Good k (part k s.slot_size (frame_of s p a b cs))
    frame_good k h sent =
        let i = p.turn k in
        let t = p.turn_below k h sent in
        subst (λ (xs : List ℕ). e.Good k xs) (sym (frame_slot s p a b cs a_ok b_ok k h ∙ slot_sent s p a b cs a_ok b_ok k sent))
        (e.good k (get_or cs i 0) _ _ h (a_part i t) (b_part i t) (all i t))

    pub firsts_back : firsts_in s p (frame_of s p a b cs) ≡ a
    firsts_back =
        ap joined
        (tab_same p.count _ (λ (i : ℕ). part i s.first_size a)
        (λ i h. ap s.first (numbered i h) ∙ e.first_back (p.number i) (get_or cs i 0) _ _ (p.number_below i h) (a_part i h) (b_part i h) (all i h)))
        ∙ joined_part p.count s.first_size a a_ok

    pub seconds_back : seconds_in s p (frame_of s p a b cs) ≡ b
    seconds_back =
        ap joined
        (tab_same p.count _ (λ (i : ℕ). part i s.second_size b)
        (λ i h. ap s.second (numbered i h) ∙ e.second_back (p.number i) (get_or cs i 0) _ _ (p.number_below i h) (a_part i h) (b_part i h) (all i h)))
        ∙ joined_part p.count s.second_size b b_ok

    pub commands_back : length cs ≡ p.count → commands_in s p (frame_of s p a b cs) ≡ cs
    commands_back long =
        tab_same p.count _ (λ (i : ℕ). get_or cs i 0)
        (λ i h. ap s.command (numbered i h) ∙ e.command_back (p.number i) (get_or cs i 0) _ _ (p.number_below i h) (a_part i h) (b_part i h) (all i h))
        ∙ sym (tab_is 0 cs p.count (λ (i : ℕ). get_or cs i 0) long (λ i h. refl))
