-- A frame written from the front on: one indicator's stretch after the other, and then the tail.
-- Assumes nothing.
use mathlib.Core.Path.{◌≡◌, ap, ◌∙◌, subst}
use mathlib.Core.Bool.{true}
use mathlib.Core.List.{List}
use Prim.Native.Nat.{ℕ, ◌+◌, ◌-◌, ◌*◌, ◌<◌}
use native.Mathlib.Omega.{arith}
use borrow.Rule.Slice.PartMut.{put_mid, mid_of}
use lib.ListN.{length, get_or, take, drop, replicate}
use Rattle.run.specs.Digits.{dtx}
use Rattle.run.proofs.Front.{Front, front_fill, front_all}
use Rattle.run.proofs.Table.{equal_part}
use Rattle.pich.specs.Rule.{is_np, width, frame_of}
use Rattle.pich.proofs.Laws.{groups, frame_length, tail_at, filled_at}

module _ (np : ℕ) (indicators : List ℕ) where
  -- the stretch of one indicator, and the tail, as the writers fill them
  stretch : is_np np ≡ true → (q : ℕ) → q < np → replicate (width np) (get_or indicators q 0) ≡ take (width np) (drop (width np * q) (frame_of np indicators))
  stretch ok q h =
      let room = (groups np ok).inside q h in
      let long = frame_length np indicators in
      equal_part 0 (frame_of np indicators) (width np * q) (width np) (get_or indicators q 0) (omega arith)
      (λ j l. filled_at np indicators ok q j h l)

  tail_part : replicate 12 dtx ≡ take 12 (drop 288 (frame_of np indicators))
  tail_part =
      let long = frame_length np indicators in
      equal_part 0 (frame_of np indicators) 288 12 dtx (omega arith)
      (λ j l. tail_at np indicators (288 + j) (omega arith) (omega arith))

  -- the stretch of indicator q is lent from r on and comes back filled: one indicator more stands
  pub one_more : is_np np ≡ true → (q r : ℕ) → q < np → r ≡ width np * q → (d₀ d ys : List ℕ) → length d₀ ≡ 300
      → Front (frame_of np indicators) d₀ d (width np * q)
      → ys ≡ replicate (length (mid_of r (r + width np - r) d)) (get_or indicators q 0)
      → Front (frame_of np indicators) d₀ (put_mid r (r + width np - r) d ys) (width np * (q + 1))
  one_more ok q r h e d₀ d ys long f y =
      let g = groups np ok in
      let room = g.inside q h in
      let w : r + width np - r ≡ width np = omega arith in
      let filled : replicate (r + width np - r) (get_or indicators q 0) ≡ take (r + width np - r) (drop r (frame_of np indicators)) =
      rw (w, e) (stretch ok q h)
      in
      let at-r : Front (frame_of np indicators) d₀ d r = rw e f in
      let next : r + width np ≡ width np * (q + 1) = ap (λ (n : ℕ). n + width np) e ∙ g.next q in
      subst (λ (n : ℕ). Front (frame_of np indicators) d₀ (put_mid r (r + width np - r) d ys) n) next
      (front_fill (r + width np) (get_or indicators q 0) at-r (omega arith) (omega arith) y filled)

  -- the tail is lent and comes back filled: the frame stands
  pub tail_last : is_np np ≡ true → (d₀ d ys : List ℕ) → length d₀ ≡ 300
      → Front (frame_of np indicators) d₀ d 288
      → ys ≡ replicate (length (mid_of 288 12 d)) dtx
      → put_mid 288 12 d ys ≡ frame_of np indicators
  tail_last ok d₀ d ys long f y =
      front_all (front_fill 300 dtx f (omega arith) (omega arith) y tail_part) (omega arith)
