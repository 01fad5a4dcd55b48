use Rattle.server.proofs.Ordering.{steps_orderly}
use Rattle.server.proofs.laws.steps_orderly.Goals as goal

pub returns : goal.returns
returns c = steps_orderly
