use mathlib.Core.Path.{◌≡◌}
use lib.ListN.{take}
use Rattle.lines.specs.Text.{spaced, Wrote}
use Rattle.lines.proofs.text.Text.values.Given as goal

abbrev pub invariant-loop-v : goal.invariant-loop-v
invariant-loop-v l = Wrote l.initial.self.end (spaced (take l.v-index l.values)) l.initial.self.line.now l.self.end l.self.line.now × (l.self.line.ghost_name ≡ l.initial.self.line.ghost_name)
