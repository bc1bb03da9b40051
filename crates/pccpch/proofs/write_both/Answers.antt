-- `pccpch::write_both` meets its contract: the frame of the data, and that of the coded digits.
use mathlib.Core.Path.{ap, ◌∙◌}
use Rattle.pccpch.specs.Rule.{frame_of, second_of}
use Rattle.pccpch.proofs.write_both.Goals as goal

pub returns : goal.returns
unfolding second_of
returns c =
    (c.write_first.ensures, c.write_frame.ensures ∙ ap frame_of c.code.ensures)
