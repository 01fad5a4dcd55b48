use Rattle.server.proofs.Refining.{settling-stands}
use Rattle.server.proofs.laws.settling_stands.Goals as goal

pub returns : goal.returns
returns c = settling-stands
