-- Runs made of parts of one length: cutting and joining undo each other.
-- Assumes nothing.
use mathlib.Core.Path.{◌≡◌, refl, sym, ap, ap₂, ◌∙◌, fun_ext}
use mathlib.Core.List.{List, [], ◌∷◌, ◌++◌}
use Prim.Native.Nat.{ℕ, zero, suc, ◌+◌, ◌-◌, ◌*◌, ◌≤◌, ◌<◌, suc-le-suc}
use native.Mathlib.Nat.{zero-mul, suc-mul, add-mul, mul-le-mul_right, add_comm, not-suc-le-zero, le_of_suc-le-suc}
use native.Mathlib.Numerals.{add-one}
use native.Mathlib.Omega.{arith}
use lib.ListN.{length, get_or, take, drop, length-append, length-drop, take-append-drop}
use lib.Seq.{take_at, take-add, take-take, drop_at, drop-drop, take-append-le, drop-append-le, length-take-le, get_or-take, get_or-drop}
use Rattle.run.specs.Fields.{joined}
use Rattle.run.specs.Parts.{part}
use Rattle.run.specs.Table.{tab}

-- part k lies within m parts
pub part_room : (k m n : ℕ) → k < m → k * n + n ≤ m * n
part_room k m n h =
    let r : suc k * n ≤ m * n = mul-le-mul_right n h in
    let s = suc-mul k n in
    omega arith

pub part_next : (k n : ℕ) → k * n + n ≡ (k + 1) * n
part_next k n = sym (ap (λ (j : ℕ). j * n) (add-one k) ∙ suc-mul k n)

module _ {A : Type 0} where
  pub part_length : (k m n : ℕ) (s : List A) → k < m → length s ≡ m * n → length (part k n s) ≡ n
  unfolding part
  part_length k m n s h e =
      let r = part_room k m n h in
      let room : n ≤ length (drop (k * n) s) = simp length-drop (omega arith) in
      length-take-le n (drop (k * n) s) room

  -- .. as a part of the run is lent
  pub part_lent : (k n a e : ℕ) (s : List A) → a ≡ k * n → e ≡ a + n → take (e - a) (drop a s) ≡ part k n s
  unfolding part
  part_lent k n a e s p q =
      let w : e - a ≡ n = omega arith in
      rw (w, p)

  pub part_at : (k n i : ℕ) (s : List A) (d : A) → i < n → get_or (part k n s) i d ≡ get_or s (k * n + i) d
  unfolding part
  part_at k n i s d h = get_or-take n (drop (k * n) s) i d h ∙ get_or-drop (k * n) s i d

  pub joined_tab_length : (m n : ℕ) (g : ℕ → List A) → ((k : ℕ) → k < m → length (g k) ≡ n) → length (joined (tab m g)) ≡ m * n
  unfolding joined tab
  joined_tab_length zero n g h = sym (zero-mul n)
  joined_tab_length (suc m) n g h =
      let first = h 0 (omega arith) in
      let rest = joined_tab_length m n (λ (k : ℕ). g (suc k)) (λ k l. h (suc k) (suc-le-suc l)) in
      length-append (g 0) (joined (tab m (λ (k : ℕ). g (suc k)))) ∙ (let s = suc-mul m n in omega arith)

  -- part k of joined parts is the k-th of them
  pub part_joined : (m n : ℕ) (g : ℕ → List A) → ((k : ℕ) → k < m → length (g k) ≡ n) → (k : ℕ) → k < m → part k n (joined (tab m g)) ≡ g k
  unfolding part joined tab
  part_joined zero n g h k l = absurd (not-suc-le-zero l)
  part_joined (suc m) n g h zero l =
      rw (zero-mul n) (take_at (g 0) (joined (tab m (λ (k : ℕ). g (suc k)))) n (h 0 l))
  part_joined (suc m) n g h (suc k) l =
      let first = h 0 (omega arith) in
      let rest : List A = joined (tab m (λ (j : ℕ). g (suc j))) in
      let step : suc k * n ≡ n + k * n = suc-mul k n ∙ add_comm (k * n) n in
      ap (λ (x : List A). take n x)
      (ap (λ (j : ℕ). drop j (g 0 ++ rest)) step
      ∙ sym (drop-drop (k * n) n (g 0 ++ rest))
      ∙ ap (λ (x : List A). drop (k * n) x) (drop_at (g 0) rest n first))
      ∙ part_joined m n (λ (j : ℕ). g (suc j)) (λ j b. h (suc j) (suc-le-suc b)) k (le_of_suc-le-suc l)

  -- part k + 1 of a run is part k of what comes after its first
  part_rest : (n : ℕ) (s : List A) (k : ℕ) → part (suc k) n s ≡ part k n (drop n s)
  unfolding part
  part_rest n s k =
      ap (λ (x : List A). take n x)
      (ap (λ (j : ℕ). drop j s) (suc-mul k n ∙ add_comm (k * n) n) ∙ sym (drop-drop (k * n) n s))

  -- part i of the k parts from part j on is part j + i of the run
  pub part_within : (i j k n : ℕ) (s : List A) → i < k → (j + k) * n ≤ length s → part i n (take (k * n) (drop (j * n) s)) ≡ part (j + i) n s
  unfolding part
  part_within i j k n s h room =
      let r = part_room i k n h in
      let sum = add-mul j k n in
      let rest : List A = drop (j * n) s in
      let cut : i * n + (k * n - i * n) ≡ k * n = omega arith in
      ap (λ (l : List A). take n (drop (i * n) l)) (ap (λ (c : ℕ). take c rest) (sym cut) ∙ take-add (i * n) (k * n - i * n) rest)
      ∙ ap (take n) (drop_at (take (i * n) rest) (take (k * n - i * n) (drop (i * n) rest)) (i * n) (length-take-le (i * n) rest (simp length-drop (omega arith))))
      ∙ take-take n (k * n - i * n) (drop (i * n) rest) (omega arith)
      ∙ ap (take n) (drop-drop (i * n) (j * n) s ∙ ap (λ (c : ℕ). drop c s) (sym (add-mul j i n)))

  -- a run is the join of its parts
  pub joined_part : (m n : ℕ) (s : List A) → length s ≡ m * n → joined (tab m (λ (k : ℕ). part k n s)) ≡ s
  unfolding part joined tab
  joined_part zero n [] e = refl
  joined_part zero n (x ∷ s) e = absurd (let z = zero-mul n in let y : ⊥ = omega arith in y)
  joined_part (suc m) n s e =
      let z = suc-mul m n in
      let left : length (drop n s) ≡ m * n = simp length-drop (omega arith) in
      ap₂ (λ (x y : List A). x ++ y) (ap (λ (j : ℕ). take n (drop j s)) (zero-mul n))
      (ap (λ (f : ℕ → List A). joined (tab m f)) (fun_ext (part_rest n s)) ∙ joined_part m n (drop n s) left)
      ∙ take-append-drop n s

  -- parts of two runs one after the other, of which the first is made of m parts
  pub part_front : (k m n : ℕ) (s t : List A) → k < m → length s ≡ m * n → part k n (s ++ t) ≡ part k n s
  unfolding part
  part_front k m n s t h e =
      let r = part_room k m n h in
      let room : n ≤ length (drop (k * n) s) = simp length-drop (omega arith) in
      ap (λ (x : List A). take n x) (drop-append-le (k * n) s t (omega arith)) ∙ take-append-le n (drop (k * n) s) t room

  pub part_behind : (m k n : ℕ) (s t : List A) → length s ≡ m * n → part (m + k) n (s ++ t) ≡ part k n t
  unfolding part
  part_behind m k n s t e =
      ap (λ (x : List A). take n x)
      (ap (λ (j : ℕ). drop j (s ++ t)) (add-mul m k n)
      ∙ sym (drop-drop (k * n) (m * n) (s ++ t))
      ∙ ap (λ (x : List A). drop (k * n) x) (drop_at s t (m * n) e))
