-- Folding in place: one level, pair by pair; and what a level leaves is two runs that can be folded again, one level less deep.
-- Assumes nothing.
use mathlib.Core.Path.{◌≡◌, refl, sym, ap, ap₂, ◌∙◌}
use mathlib.Core.List.{List, ◌++◌, append-nil}
use Prim.Native.Nat.{ℕ, zero, suc, ◌+◌, ◌*◌, ◌-◌, ◌/◌, ◌≤◌, ◌<◌, ◌^◌}
use native.Mathlib.Nat.{two-pow-succ, mul-add, add-mul, mul-le-mul_right}
use native.Mathlib.Omega.{arith}
use borrow.Author.Tests.{lt-ltb}
use borrow.Rule.Slice.PartMut.{mid_of, put_mid}
use lib.ListN.{length, set, take, drop, take-append-drop, length-append, length-drop}
use lib.Seq.{length-take-le, take-length, drop-length, take_at, drop_at, get_or-take, get_or-drop, take-set-le, take-set-lt, drop-set-add, drop-set-lt}
use lib.IntN.{ℤ, pos, ◌+ℤ◌, ◌-ℤ◌}
use mir.Syntax.{w64}
use mir.Val.{SFits, to_z, of_z}
use Rattle.run.proofs.Front.{Front, front_none, front_length, front_next, front_store, front_all}
use Rattle.whole.specs.Bound.{Bounded}
use Rattle.whole.proofs.Bound.{b_sum, b_diff}
use Rattle.whole.proofs.Bits.{Reads, r_in, fits_sum, r_sum, fits_diff, r_diff}
use Rattle.signature.specs.Folding.{sums, differences, folds}
use Rattle.signature.proofs.Folding.{entry, sums_length, differences_length, sums_at, differences_at, folds_length}
use Rattle.correlator.specs.Method.{halvings, depth, Room, Halves}

-- ---- one level

-- of both halves the first k entries are folded, and the others are as they were
pub record Level (h : ℕ) (x d : List ℤ) (k : ℕ) : Type 0 where
  pub low : Front (sums h x) (take h x) (take h d) k
  pub high : Front (differences h x) (drop h x) (drop h d) k

module _ (h : ℕ) (x : List ℤ) (p : Halves h x) where
  lower : length (take h x) ≡ h
  lower = let n = p.long in length-take-le h x (omega arith)

  upper : length (drop h x) ≡ h
  upper = let n = p.long in length-drop h x ∙ (omega arith)

  pub level_none : Level h x x 0
  level_none = record { low = front_none (sums_length h x ∙ sym lower); high = front_none (differences_length h x ∙ sym upper) }

  pub level_all : {d : List ℤ} → Level h x d h → d ≡ sums h x ++ differences h x
  level_all {d} v =
      sym (take-append-drop h d)
      ∙ ap₂ (λ (y z : List ℤ). y ++ z) (front_all v.low (omega (arith, lower))) (front_all v.high (omega (arith, upper)))

  module _ (d : List ℤ) (k : ℕ) (v : Level h x d k) (l : k < h) where
    low_left : entry d k ≡ entry x k
    low_left = sym (get_or-take h d k (pos 0) l) ∙ front_next (pos 0) v.low (rw lower l) ∙ get_or-take h x k (pos 0) l

    high_left : entry d (h + k) ≡ entry x (h + k)
    high_left = sym (get_or-drop h d k (pos 0)) ∙ front_next (pos 0) v.high (rw upper l) ∙ get_or-drop h x k (pos 0)

    first : Reads w64 (of_z w64 (entry d k)) (entry x k) p.bound
    first = rw low_left (r_in (p.small k (omega arith)) (omega (arith, p.fits)))

    second : Reads w64 (of_z w64 (entry d (h + k))) (entry x (h + k)) p.bound
    second = rw high_left (r_in (p.small (h + k) (omega arith)) (omega (arith, p.fits)))

    abbrev sum_read : ℤ
    sum_read = to_z w64 (of_z w64 (entry d k)) +ℤ to_z w64 (of_z w64 (entry d (h + k)))

    abbrev difference_read : ℤ
    difference_read = to_z w64 (of_z w64 (entry d k)) -ℤ to_z w64 (of_z w64 (entry d (h + k)))

    pub turn_sum : SFits w64 sum_read
    turn_sum = fits_sum first second p.fits

    pub turn_difference : SFits w64 difference_read
    turn_difference = fits_diff first second p.fits

    -- both are stored
    pub turn_level : Level h x (set (set d k (to_z w64 (of_z w64 sum_read))) (h + k) (to_z w64 (of_z w64 difference_read))) (k + 1)
    turn_level =
        let u = to_z w64 (of_z w64 sum_read) in
        let z = to_z w64 (of_z w64 difference_read) in
        let m : k < length (take h d) = rw (front_length v.low ∙ lower) l in
        let n : k < length (drop h d) = rw (front_length v.high ∙ upper) l in
        record {
          low =
              rw (take-set-le h (set d k u) (h + k) z (omega arith), take-set-lt h d k u l)
              (front_store (pos 0) v.low m ((r_sum first second p.fits).is ∙ sym (sums_at h x k l)));
          high =
              rw (drop-set-add h (set d k u) k z, drop-set-lt h d k u l)
              (front_store (pos 0) v.high n ((r_diff first second p.fits).is ∙ sym (differences_at h x k l)));
        }

-- ---- how deep folding goes

below_pow : (n : ℕ) → n < 2 ^ n
below_pow zero = omega arith
below_pow (suc n) = omega (arith, below_pow n, two-pow-succ n)

halvings_pow : (f n : ℕ) → n ≤ f → halvings f (2 ^ n) ≡ n
unfolding halvings
halvings_pow zero zero h = refl
halvings_pow zero (suc n) h = absurd (let z : ⊥ = omega arith in z)
halvings_pow (suc f) zero h = refl
halvings_pow (suc f) (suc n) h =
    let half : 2 ^ suc n / 2 ≡ 2 ^ n = omega (arith, two-pow-succ n) in
    rw (lt-ltb 1 (2 ^ suc n) (omega (arith, two-pow-succ n, below_pow n)), half) (ap suc (halvings_pow f n (omega arith)))

pub depth_is : (n : ℕ) (x : List ℤ) → length x ≡ 2 ^ n → depth x ≡ n
unfolding depth
depth_is n x e = rw e (halvings_pow (2 ^ n) n (omega (arith, below_pow n)))

deeper : (n : ℕ) → 1 < 2 ^ n → n ≡ suc (n - 1)
deeper zero h = absurd (let z : ⊥ = omega arith in z)
deeper (suc n) h = omega arith

-- one number is folded already
pub one_stays : (x : List ℤ) → Room x → length x ≤ 1 → x ≡ folds (depth x) x
unfolding folds
one_stays x p h =
    let none : depth x ≡ 0 = omega (arith, p.long, below_pow (depth x)) in
    ap (λ (n : ℕ). folds n x) (sym none)

-- ---- what a level leaves

module _ (x : List ℤ) (p : Room x) (big : 0 < length x / 2) where
  abbrev half : ℕ
  half = length x / 2

  abbrev below : ℕ
  below = depth x - 1

  deep : depth x ≡ suc below
  deep = deeper (depth x) (omega (arith, p.long))

  length_is : length x ≡ 2 ^ below + 2 ^ below
  length_is = p.long ∙ ap (λ (n : ℕ). 2 ^ n) deep ∙ two-pow-succ below

  half_is : half ≡ 2 ^ below
  half_is = omega (arith, length_is)

  twice : half + half ≡ length x
  twice = omega (arith, length_is)

  -- half as many numbers, twice as large
  product_stays : half * (p.bound + p.bound) ≡ length x * p.bound
  product_stays = mul-add half p.bound p.bound ∙ sym (add-mul half half p.bound) ∙ ap (λ (n : ℕ). n * p.bound) twice

  pub can_level : Halves half x
  can_level =
      record {
        bound = p.bound;
        long = sym twice;
        small = λ k l. p.small k (rw twice at l);
        fits =
            let one : 1 ≤ half = omega (arith, twice) in
            omega (arith, p.fits, product_stays, mul-le-mul_right (p.bound + p.bound) one);
      }

  -- a run of half the length whose numbers are sums or differences of two
  half_room : (y : List ℤ) → length y ≡ half → ((k : ℕ) → k < half → Bounded (p.bound + p.bound) (entry y k)) → Room y
  half_room y e small =
      record {
        bound = p.bound + p.bound;
        long = e ∙ half_is ∙ sym (ap (λ (n : ℕ). 2 ^ n) (depth_is below y (e ∙ half_is)));
        small = λ k l. small k (rw e at l);
        fits = rw (e, product_stays) p.fits;
      }

  sums_room : Room (sums half x)
  sums_room =
      half_room (sums half x) (sums_length half x)
      (λ k l. rw (sums_at half x k l) (b_sum (p.small k (omega (arith, twice))) (p.small (half + k) (omega (arith, twice)))))

  differences_room : Room (differences half x)
  differences_room =
      half_room (differences half x) (differences_length half x)
      (λ k l. rw (differences_at half x k l) (b_diff (p.small k (omega (arith, twice))) (p.small (half + k) (omega (arith, twice)))))

  sums_depth : depth (sums half x) ≡ below
  sums_depth = depth_is below (sums half x) (sums_length half x ∙ half_is)

  differences_depth : depth (differences half x) ≡ below
  differences_depth = depth_is below (differences half x) (differences_length half x ∙ half_is)

  sums_less : depth (sums half x) < depth x
  sums_less = omega (arith, sums_depth, deep)

  differences_less : depth (differences half x) < depth x
  differences_less = omega (arith, differences_depth, deep)

  -- both folded are the run folded
  folds_both : folds (depth (sums half x)) (sums half x) ++ folds (depth (differences half x)) (differences half x) ≡ folds (depth x) x
  unfolding folds
  folds_both =
      ap₂ (λ (m n : ℕ). folds m (sums half x) ++ folds n (differences half x)) sums_depth differences_depth
      ∙ ap (λ (h : ℕ). folds below (sums h x) ++ folds below (differences h x)) half_is
      ∙ ap (λ (n : ℕ). folds n x) (sym deep)

-- ---- the run after a level: l is what is left of x
pub record Levelled (x l : List ℤ) : Type 0 where
  pub room : Room x
  pub big : 0 < length x / 2
  pub is : l ≡ sums (length x / 2) x ++ differences (length x / 2) x

module _ {x l : List ℤ} (c : Levelled x l) where
  abbrev h : ℕ
  h = length x / 2

  abbrev a : List ℤ
  a = sums h x

  abbrev b : List ℤ
  b = differences h x

  pub levelled_length : length l ≡ length x
  levelled_length =
      ap length c.is ∙ length-append a b ∙ ap₂ (λ (m n : ℕ). m + n) (sums_length h x) (differences_length h x) ∙ twice x c.room c.big

  -- halves of one number each are folded already
  pub last_level : h ≤ 1 → l ≡ folds (depth x) x
  last_level short =
      c.is
      ∙ ap₂ (λ (y z : List ℤ). y ++ z)
      (one_stays a (sums_room x c.room c.big) (rw (sums_length h x) short))
      (one_stays b (differences_room x c.room c.big) (rw (differences_length h x) short))
      ∙ folds_both x c.room c.big

  -- the first half is lent, and f comes back
  first_part : take h l ≡ a
  first_part = rw c.is (take_at a b h (sums_length h x))

  behind_first : drop h l ≡ b
  behind_first = rw c.is (drop_at a b h (sums_length h x))

  pub first_can : Room (take h l)
  first_can = rw first_part (sums_room x c.room c.big)

  pub first_less : depth (take h l) < depth x
  first_less = rw first_part (sums_less x c.room c.big)

  module _ (f : List ℤ) (is : f ≡ folds (depth (take h l)) (take h l)) where
    first_is : f ≡ folds (depth a) a
    first_is = is ∙ ap (λ (y : List ℤ). folds (depth y) y) first_part

    first_length : length f ≡ h
    first_length =
        let long = (sums_room x c.room c.big).long in
        ap length first_is ∙ folds_length (depth a) a long ∙ sym long ∙ sums_length h x

    abbrev m : List ℤ
    m = f ++ drop h l

    count : h + h - h ≡ length b
    count = omega (arith, differences_length h x)

    behind_now : drop h m ≡ b
    behind_now = drop_at f (drop h l) h first_length ∙ behind_first

    -- the second half is lent, and g comes back
    second_part : mid_of h (h + h - h) m ≡ b
    second_part = ap₂ (λ (n : ℕ) (y : List ℤ). take n y) count behind_now ∙ take-length b

    pub second_can : Room (mid_of h (h + h - h) m)
    second_can = rw second_part (differences_room x c.room c.big)

    pub second_less : depth (mid_of h (h + h - h) m) < depth x
    second_less = rw second_part (differences_less x c.room c.big)

    pub both_parts : (g : List ℤ) → g ≡ folds (depth (mid_of h (h + h - h) m)) (mid_of h (h + h - h) m) → put_mid h (h + h - h) m g ≡ folds (depth x) x
    both_parts g are =
        ap₂ (λ (y z : List ℤ). y ++ (g ++ z)) (take_at f (drop h l) h first_length)
        (ap₂ (λ (n : ℕ) (y : List ℤ). drop n y) count behind_now ∙ drop-length b)
        ∙ ap₂ (λ (y z : List ℤ). y ++ z) first_is (append-nil g ∙ are ∙ ap (λ (y : List ℤ). folds (depth y) y) second_part)
        ∙ folds_both x c.room c.big
