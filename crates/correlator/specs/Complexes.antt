-- Complex whole numbers.
-- Assumes nothing.
use Rattle.std.specs.Prelude.{ℤ, neg_ℤ, ◌+ℤ◌, ◌-ℤ◌, ◌*ℤ◌}
use Rattle.correlator.specs.declared.Complex.{Complex}

abbrev pub cx : ℤ → ℤ → Complex
cx a b = record { re = a; im = b }

infixl 6 ◌⊞◌ ◌⊟◌
infixl 7 ◌⊠◌
abbrev pub ◌⊞◌ : Complex → Complex → Complex
x ⊞ y = cx (x.re +ℤ y.re) (x.im +ℤ y.im)

abbrev pub ◌⊟◌ : Complex → Complex → Complex
x ⊟ y = cx (x.re -ℤ y.re) (x.im -ℤ y.im)

abbrev pub ◌⊠◌ : Complex → Complex → Complex
x ⊠ y = cx (x.re *ℤ y.re -ℤ x.im *ℤ y.im) (x.re *ℤ y.im +ℤ x.im *ℤ y.re)

abbrev pub conj : Complex → Complex
conj x = cx x.re (neg_ℤ x.im)

abbrev pub opposite : Complex → Complex
opposite x = cx (neg_ℤ x.re) (neg_ℤ x.im)

-- the square of a gain's size
abbrev pub power : Complex → ℤ
power x = x.re *ℤ x.re +ℤ x.im *ℤ x.im
