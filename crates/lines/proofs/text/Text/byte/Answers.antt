-- `lines::text::Text::byte` meets its contract.
use Rattle.lines.proofs.Put.{wrote_byte}
use Rattle.lines.proofs.text.Text.byte.Goals as goal

pub returns-clause-wrote : goal.returns-clause-wrote
returns-clause-wrote c = wrote_byte _ _ _ c.requires
