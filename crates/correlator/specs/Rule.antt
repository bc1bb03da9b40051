-- docs/RULES.md, 'Combiner': what is made of the 32 parts that are received, for known gains.
-- Assumes nothing.
use Rattle.std.specs.Prelude.{ℕ, ◌+◌, ◌*◌, ◌/◌, ◌%◌, cond, List, eqb, get_or, ℤ, pos}
use Rattle.run.specs.Table.{tab}
use Rattle.aich.specs.Rule.{correlation}
use Rattle.correlator.specs.declared.Complex.{Complex}
use Rattle.correlator.specs.Complexes.{cx, ◌⊞◌, ◌⊟◌, ◌⊠◌, conj}

-- values 2k and 2k + 1 are the real and the imaginary part of symbol k
abbrev pub symbol : List ℤ → ℕ → Complex
symbol s k = cx (get_or s (2 * k) (pos 0)) (get_or s (2 * k + 1) (pos 0))

-- T1 = conj(h1)·r1 + h2·conj(r2), T2 = conj(h1)·r2 - h2·conj(r1)
abbrev pub t1 : Complex → Complex → Complex → Complex → Complex
t1 h1 h2 r1 r2 = conj h1 ⊠ r1 ⊞ h2 ⊠ conj r2

abbrev pub t2 : Complex → Complex → Complex → Complex → Complex
t2 h1 h2 r1 r2 = conj h1 ⊠ r2 ⊟ h2 ⊠ conj r1

-- the real components of two symbols in turn
unfoldable pub part_of : Complex → Complex → ℕ → ℤ
part_of x y i = cond (eqb i 0) x.re (cond (eqb i 1) x.im (cond (eqb i 2) y.re y.im))

-- real component j of T is one of pair floor(j/4), which is of symbols 2m and 2m+1
unfoldable pub combined_at : Complex → Complex → List ℤ → ℕ → ℤ
combined_at h1 h2 received j =
    part_of
    (t1 h1 h2 (symbol received (2 * (j / 4))) (symbol received (2 * (j / 4) + 1)))
    (t2 h1 h2 (symbol received (2 * (j / 4))) (symbol received (2 * (j / 4) + 1)))
    (j % 4)

unfoldable pub combined : Complex → Complex → List ℤ → List ℤ
combined h1 h2 received = tab 32 (combined_at h1 h2 received)

-- the number for signature s: the sum over the 32 real components of T, each times b(s, j)
unfoldable pub number_of : Complex → Complex → List ℤ → ℕ → ℤ
number_of h1 h2 received s = correlation (combined h1 h2 received) s

unfoldable pub numbers_of : Complex → Complex → List ℤ → List ℤ
numbers_of h1 h2 received = tab 16 (number_of h1 h2 received)
