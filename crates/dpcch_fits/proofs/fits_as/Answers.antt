-- `dpcch_fits::fits_as` meets its contract.
use mathlib.Core.Path.{sym, ap, ◌∙◌}
use borrow.Author.Tests.{ne_eqb}
use lib.Dec.{eqb}
use Rattle.run.specs.Verdict.{Verdict}
use Rattle.run.specs.Verdicts.{or_else, unless}
use Rattle.dpch.proofs.Exact.{dpcch_formats_lem}
use Rattle.dpcch.specs.Outcome.{part_verdict}
use Rattle.dpcch.proofs.Laws.{sound_format, part_whole}
use Rattle.dpcch_fits.proofs.fits_as.Goals as goal

pub digits_fit-requires : goal.digits_fit-requires
digits_fit-requires c =
    let e = c.format_of-f.ensures in
    rw e (record { sound = sound_format _; slot_ok = rw e at c.if-xs-f.true }, (dpcch_formats_lem _).two_tpc c.requires)

pub returns-then-xs-f : goal.returns-then-xs-f
returns-then-xs-f c =
    let e = c.format_of-f.ensures in
    c.digits_fit.ensures ∙ rw e (sym (ap (λ (v : Verdict). eqb v.number 0) (part_whole _ _ _ 0 (rw e at c.if-xs-f.true))))

pub returns-else-xs-f : goal.returns-else-xs-f
unfolding part_verdict or_else unless
returns-else-xs-f c = let e = c.format_of-f.ensures in rw (e, ne_eqb _ _ (rw e at c.if-xs-f.false))
