-- `kinds::shape_of` meets its contract.
use Rattle.std.specs.Prelude.{ℕ}
use Rattle.run.specs.Verdict.{Verdict}
use Rattle.kinds.specs.Rule.{second_verdict, size_of, shape_of}
use Rattle.kinds.proofs.ByKind.{named_kind, named_by}
use Rattle.kinds.proofs.shape_of.Goals as goal

pub returns : goal.returns
unfolding shape_of second_verdict size_of
returns c =
    let named = c.try_from-named.ensures in
    rw (
      c.is_ok.ensures.value,
      named_kind _ _ named,
      c.check_second.ensures,
      c.size_of.ensures,
      c.unwrap_or-kind.ensures,
      named_by {A = Verdict} _ _ _ _ _ named,
      named_by {A = ℕ} _ _ _ _ _ named,
    )
