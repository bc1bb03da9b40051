-- `aich::set::none_stray` meets its contract: a pass over the signatures, which has passed so far where the strays laid over each other are 0.
use mathlib.Core.Path.{◌≡◌, refl, sym, ◌∙◌, ap}
use mathlib.Core.Bool.{Bool, true, false, cond}
use mathlib.Core.List.{List}
use Prim.Native.Nat.{ℕ, ◌+◌, ◌-◌, ◌<◌, ◌^◌}
use native.Mathlib.Omega.{arith}
use borrow.Author.Rules.{rules}
use borrow.Author.Tests.{ne_eqb, eqb-false}
use lib.Bits.{bit_or, or_zero_r, or_add_and, and_le_l}
use lib.Dec.{eqb}
use lib.ListN.{length, get_or}
use lib.IntN.{ℤ, pos}
use lib.Signed.{mag}
use mir.Syntax.{w32}
use mir.Val.{Fits, to_z, of_z, hbits}
use mir.Facts.{to_z-of_z, of_z-to_z, sfits_to_z, Fits-of_z, Fits-or}
use Rattle.whole.specs.Equal.{eq_z}
use Rattle.whole.proofs.Equal.{bits_eq_z, eq_z_true}
use Rattle.run.proofs.Passing.{Passing, pass_start, pass_good, pass_bad, pass_end}
use Rattle.aich.specs.Rule.{offers, allows}
use Rattle.aich.proofs.set.none_stray.Goals as goal

-- numbers that are laid over each other are 0 only where both are
over_zero : (a b : ℕ) → bit_or a b ≡ 0 → b ≡ 0
over_zero a b e =
    let s = or_add_and a b in
    let l = and_le_l a b in
    omega arith

-- a number is 0 where its bits are
zero_bits : (n : ℕ) → Fits w32 n → eq_z (to_z w32 n) (pos 0) ≡ eqb n 0
zero_bits n h =
    let is : of_z w32 (to_z w32 n) ≡ n = of_z-to_z h in
    sym (bits_eq_z {w = w32} {x = to_z w32 n} {y = pos 0} (sfits_to_z h) (search rules)) ∙ ap (λ (m : ℕ). eqb m 0) is

-- one turn: r is what `stray` answered
module _ (available : ℕ) (x : List ℤ) (s a : ℕ) (r : ℤ) (f : mag (get_or x s (pos 0)) < 2 ^ hbits w32)
    (e : r ≡ cond (offers available s) (pos 0) (to_z w32 (of_z w32 (get_or x s (pos 0))))) (h : s < 16)
    (inv : Passing (allows available x) 16 s (eqb a 0)) where
  seen : to_z w32 (of_z w32 (get_or x s (pos 0))) ≡ get_or x s (pos 0)
  seen = to_z-of_z {w = w32} (record { sfits = f })

  good : allows available x s ≡ true → r ≡ pos 0 → Passing (allows available x) 16 (s + 1) (eqb (bit_or a (of_z w32 r)) 0)
  good ok none = rw (none, or_zero_r a) (pass_good inv h ok)

  turn : Passing (allows available x) 16 (s + 1) (eqb (bit_or a (of_z w32 r)) 0)
  unfolding allows
  turn = side (offers available s) refl (eq_z (get_or x s (pos 0)) (pos 0)) refl
    where
      side : (o : Bool) → offers available s ≡ o → (z : Bool) → eq_z (get_or x s (pos 0)) (pos 0) ≡ z
          → Passing (allows available x) 16 (s + 1) (eqb (bit_or a (of_z w32 r)) 0)
      side true o z n = good (rw o) (e ∙ rw o)
      side false o true n = good (rw (o, n)) (e ∙ rw o (seen ∙ eq_z_true (get_or x s (pos 0)) (pos 0) n))
      side false o false n =
          let is : r ≡ get_or x s (pos 0) = e ∙ rw (o, seen) in
          let other = eqb-false _ _ (bits_eq_z {w = w32} {x = get_or x s (pos 0)} {y = pos 0} (record { sfits = f }) (search rules) ∙ n) in
          let some : bit_or a (of_z w32 r) ≡ 0 → ⊥ = λ q. other (sym (ap (of_z w32) is) ∙ over_zero a _ q) in
          rw (ne_eqb (bit_or a (of_z w32 r)) 0 some) (pass_bad inv h (rw (o, n)))

pub loop-s-init : goal.loop-s-init
loop-s-init c = pass_start

pub loop-s-preserved : goal.loop-s-preserved
loop-s-preserved c =
    let x = c.args.indicators.now in
    let a = c.loop-s.strays-bits in
    let r = c.stray-strays.result in
    let same : c.args.available + (length x - 16) ≡ c.args.available = omega (arith, c.requires) in
    let r_fits : Fits w32 (of_z w32 r) = Fits-of_z {z = r} (record { sfits = c.stray-strays.type_inv }) in
    let inv = rw (zero_bits a c.loop-s.auto.strays) at c.loop-s.invariant in
    rw (zero_bits (bit_or a (of_z w32 r)) (Fits-or c.loop-s.auto.strays r_fits))
    (turn _ x _ a r (search rules) (rw same at c.stray-strays.ensures) c.loop-s-test.true inv)

pub returns : goal.returns
returns c = rw (← zero_bits c.loop-s.strays-bits c.loop-s.auto.strays) (pass_end c.loop-s.invariant c.loop-s-test.false)
