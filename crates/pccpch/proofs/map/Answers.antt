-- `pccpch::map` meets its contract: what fits is written, and else the checks in their order find the refusal.
use mathlib.Core.Path.{sym, ◌∙◌}
use Rattle.run.proofs.Answers.{written}
use Rattle.run.proofs.Chain.{leaves_refused, number_0}
use Rattle.pccpch.proofs.Checks.{taken, fits_taken, fits_refused}
use Rattle.pccpch.proofs.map.Goals as goal

pub write_both-requires : goal.write_both-requires
write_both-requires c =
    let t = taken _ _ _ (number_0 (fits_taken _ _ _ (sym c.fits.ensures ∙ c.if-fits.true))) in
    (t.data_ok, t.second_ok)

pub returns-then-fits : goal.returns-then-fits
returns-then-fits c =
    let v = fits_taken _ _ _ (sym c.fits.ensures ∙ c.if-fits.true) in
    record {
      verdict_is = sym v;
      antenna1_is = written _ _ (sym v) (c.write_both.ensures.0 (taken _ _ _ (number_0 v)).first_ok);
      antenna2_is = written _ _ (sym v) c.write_both.ensures.1;
    }

pub returns : goal.returns
returns c =
    let stop = fits_refused _ _ _ (sym c.fits.ensures ∙ c.if-fits.false) in
    record {
      verdict_is = c.check.ensures;
      antenna1_is = sym (leaves_refused _ _ _ stop);
      antenna2_is = sym (leaves_refused _ _ _ stop);
    }
