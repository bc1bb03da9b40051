-- `dpcch_read::take` meets its contract: each arm takes the fields of the format that it names.
use Rattle.dpcch_read.proofs.take.Goals as goal

pub returns-in-0 : goal.returns-in-0
returns-in-0 c = rw c.in-0.is c.take_as.ensures

pub returns-in-1 : goal.returns-in-1
returns-in-1 c = rw c.in-1.is c.take_as-in-1.ensures

pub returns-in-2 : goal.returns-in-2
returns-in-2 c = rw c.in-2.is c.take_as-in-2.ensures

pub returns-in-3 : goal.returns-in-3
returns-in-3 c = rw c.in-3.is c.take_as-in-3.ensures

pub returns-in_default : goal.returns-in_default
returns-in_default c = c.take_as-in_default.ensures
