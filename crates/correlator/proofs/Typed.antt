-- What their types say of the sizes of gains and parts: a number of 16 or 32 bits is within half the width's power.
-- Assumes nothing.
use mathlib.Core.List.{List, [], ◌∷◌}
use Prim.Native.Nat.{ℕ, zero, suc, ◌<◌, ◌^◌}
use native.Mathlib.Omega.{arith}
use denote.Array.{Array, each}
use denote.Laws.{Is}
use denote.Shadow.{shadow}
use denote.Signed.{SInt}
use lib.ListN.{length, get_or}
use lib.IntN.{ℤ, pos, negsuc}
use lib.Signed.{mag}
use mir.Syntax.{Width, w16, w32}
use mir.Val.{Val, SFits, hbits}
use Rattle.whole.specs.Bound.{Bounded}
use Rattle.correlator.specs.Complexes.{cx}
use Rattle.correlator.specs.Method.{Small, Parts}

within : {B : ℕ} (z : ℤ) → mag z < B → Bounded B z
within (pos n) l = record { size = omega arith }
within (negsuc n) l = record { size = omega arith }

pub gain_small : {re im : ℤ} → SFits w16 re → SFits w16 im → Small 32768 (cx re im)
gain_small f g = record { re_in = within _ f.sfits; im_in = within _ g.sfits }

-- each element of an array fits
each_small : (w : Width) (xs : List ℤ) (us : List Val) → shadow (each ℤ (SInt w).own_val xs us) → (k : ℕ) → k < length xs → Bounded (2 ^ hbits w) (get_or xs k (pos 0))
each_small w [] us s k l = absurd (let z : ⊥ = omega arith in z)
each_small w (x ∷ xs) [] s k l = absurd s
each_small w (x ∷ xs) (u ∷ us) s zero l = within x s.0.1
each_small w (x ∷ xs) (u ∷ us) s (suc k) l = each_small w xs us s.1 k (omega arith)

pub parts_small : {xs : List ℤ} {vs : List Val} → Is (Array (SInt w32) 32) xs vs → Parts 2147483648 xs
parts_small {xs} p =
    let n = p.1.0.1 in
    record { long = n; small = λ k l. each_small w32 xs p.0 p.1.1 k (rw n l) }
