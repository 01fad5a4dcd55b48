use Rattle.system.proofs.Having.{can_have}
use Rattle.system.proofs.laws.can_have.Goals as goal

pub returns : goal.returns
returns c = can_have
