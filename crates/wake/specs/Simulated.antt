-- What a frame, and a run over frames, answers: its verdict, and the tally that it leaves.
-- Assumes nothing.
use Rattle.run.specs.Verdict.{Verdict}
use Rattle.wake.specs.declared.Tally.{Tally}

pub record Simulated : Type 0 where
  pub verdict : Verdict
  pub tally : Tally
