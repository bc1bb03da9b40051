-- The theorems of specs/Exact.antt, and the laws by which the C calls cite them.
-- Assumes nothing.
use mathlib.Core.Path.{◌≡◌, ◌∙◌}
use Prim.Native.Nat.{ℕ, ◌<◌}
use native.Mathlib.Omega.{arith}
use Rattle.run.specs.Verdict.{Verdict}
use Rattle.run.specs.Verdicts.{Narrow}
use Rattle.packed.specs.Rule.{packed}
use Rattle.packed.specs.Outcome.{packed_cut}
use Rattle.packed.specs.Exact.{Tells, Unpacks, Uncut}

pub unpacks : Unpacks
unpacks v value n h =
    let a = n.number_fits in
    let b = n.place_fits in
    record { fits = omega arith; number_is = omega arith; place_is = omega arith; value_is = omega arith }

pub uncut : Uncut
uncut v value n h =
    let a = n.number_fits in
    let b = n.place_fits in
    omega arith

pub tells : {answer value : ℕ} (v : Verdict) → answer ≡ packed v value → Narrow v → value < 65536 → Tells answer v value
tells {answer} {value} v e n h = rw e (unpacks v value n h)

-- a packed answer of a call whose verdict is known to fit
pub fitted : (value : ℕ) {answer : ℕ} {v w : Verdict} → answer ≡ packed_cut v value → v ≡ w → Narrow w → value < 65536 → answer ≡ packed w value
fitted value {answer} {v} {w} e s n h = e ∙ rw s (uncut w value n h)
