use Rattle.lease.proofs.Keeping.{one-lease-each}
use Rattle.lease.proofs.theorems.one_lease_each.Goals as goal

pub returns : goal.returns
returns c = one-lease-each
