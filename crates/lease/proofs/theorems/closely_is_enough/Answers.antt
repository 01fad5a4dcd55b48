use Rattle.lease.proofs.History.{closely_is_enough}
use Rattle.lease.proofs.theorems.closely_is_enough.Goals as goal

pub returns : goal.returns
returns c = closely_is_enough
