-- `pich_read::are_bits` meets its contract: a scan that finds none says what the look says.
use Rattle.pich_read.proofs.Laws.{none_above}
use Rattle.pich_read.proofs.are_bits.Goals as goal

pub returns-then-this-eq72 : goal.returns-then-this-eq72
returns-then-this-eq72 g c = none_above _ _ c.told-found c.is_none.ensures c.above.ensures
