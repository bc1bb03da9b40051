-- Sizes of complex numbers, and of what T makes of them.
-- Assumes nothing.
use Prim.Native.Nat.{ℕ, ◌+◌, ◌*◌}
use Rattle.whole.proofs.Bound.{b_sum, b_neg, b_diff, b_product}
use Rattle.correlator.specs.declared.Complex.{Complex}
use Rattle.correlator.specs.Complexes.{◌⊞◌, ◌⊟◌, ◌⊠◌, conj}
use Rattle.correlator.specs.Method.{Small}

pub small_conj : {B : ℕ} {z : Complex} → Small B z → Small B (conj z)
small_conj p = record { re_in = p.re_in; im_in = b_neg p.im_in }

pub small_times : {A B : ℕ} {z w : Complex} → Small A z → Small B w → Small (A * B + A * B) (z ⊠ w)
small_times p q =
    record {
      re_in = b_diff (b_product p.re_in q.re_in) (b_product p.im_in q.im_in);
      im_in = b_sum (b_product p.re_in q.im_in) (b_product p.im_in q.re_in);
    }

pub small_plus : {A B : ℕ} {z w : Complex} → Small A z → Small B w → Small (A + B) (z ⊞ w)
small_plus p q = record { re_in = b_sum p.re_in q.re_in; im_in = b_sum p.im_in q.im_in }

pub small_minus : {A B : ℕ} {z w : Complex} → Small A z → Small B w → Small (A + B) (z ⊟ w)
small_minus p q = record { re_in = b_diff p.re_in q.re_in; im_in = b_diff p.im_in q.im_in }
