use Rattle.lease.proofs.Promise.{in_table}
use Rattle.lease.proofs.theorems.in_table.Goals as goal

pub returns : goal.returns
returns c = in_table
