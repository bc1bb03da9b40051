-- `correlator::second_of` meets its contract: each product is within 2 ^ 47.
use Rattle.correlator.proofs.Sizes.{small_conj, small_times}
use Rattle.correlator.proofs.second_of.Goals as goal

pub mul-requires : goal.mul-requires
mul-requires c = let p = c.requires in (rw c.conj.ensures (small_conj p.0), p.3)

pub mul-requires-2 : goal.mul-requires-2
mul-requires-2 c = let p = c.requires in (p.1, rw c.conj-2.ensures (small_conj p.2))

pub sub-t-requires : goal.sub-t-requires
sub-t-requires c =
    let p = c.requires in (
      rw (c.mul.ensures, c.conj.ensures) (small_times (small_conj p.0) p.3),
      rw (c.mul-2.ensures, c.conj-2.ensures) (small_times p.1 (small_conj p.2)),
    )

pub returns : goal.returns
returns c =
    rw (
      c.sub-t.ensures,
      c.mul-2.ensures,
      c.conj-2.ensures,
      c.mul.ensures,
      c.conj.ensures,
    )
