use Rattle.std.proofs.Common.{rules}
use Rattle.lease.proofs.Choosing.{laws}
use Rattle.lease.proofs.table.Table.choose.Goals as goal

pub returns-clause-laws : goal.returns-clause-laws
returns-clause-laws c = laws _ _ _ _ _ (search rules)
