-- What a call tells of a refusal: docs/RULES.md, 'Numbers a call can return'. 0 and 0 where it is done, else the refusal's number and place. The code declares the record, with these two fields.
-- Assumes nothing.
use Rattle.run.specs.declared.verdict.Verdict.{Verdict as Told}

abbrev pub Verdict : Type 0
Verdict = Told
