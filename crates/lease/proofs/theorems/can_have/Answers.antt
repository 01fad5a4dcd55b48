use Rattle.lease.proofs.Promise.{can_have}
use Rattle.lease.proofs.theorems.can_have.Goals as goal

pub returns : goal.returns
returns c = can_have
