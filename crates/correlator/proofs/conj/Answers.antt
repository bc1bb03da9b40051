-- `correlator::conj` meets its contract: the negation of what is small fits.
use mathlib.Core.Path.{◌≡◌, refl, ◌∙◌}
use lib.Dec.{lit<}
use lib.IntN.{ℤ, pos, neg_ℤ, ◌-ℤ◌, +ℤ_idl}
use mir.Syntax.{w64}
use mir.Val.{to_z, of_z}
use Rattle.whole.specs.Bound.{Bounded}
use Rattle.whole.proofs.Bound.{b_lit}
use Rattle.whole.proofs.Bits.{Reads, r_in, fits_diff, r_diff}
use Rattle.correlator.proofs.conj.Goals as goal

r-zero : Reads w64 0 (pos 0) 0
r-zero = record { is = refl; within = b_lit tt }

-- 0 - x, from its bits
negated : {x : ℤ} → Bounded 2147483648 x → to_z w64 (of_z w64 (pos 0 -ℤ to_z w64 (of_z w64 x))) ≡ neg_ℤ x
negated {x} b = (r_diff r-zero (r_in b (lit< tt)) (lit< tt)).is ∙ +ℤ_idl (neg_ℤ x)

pub overflow_sub-im : goal.overflow_sub-im
overflow_sub-im c = fits_diff r-zero (r_in c.requires.im_in (lit< tt)) (lit< tt)

pub returns : goal.returns
returns c =
    let z = c.requires in
    λ i. record { re = (r_in {w = w64} z.re_in (lit< tt)).is i; im = negated z.im_in i }
