use Rattle.journal.proofs.Cases.{switches}
use Rattle.journal.proofs.laws.switches.Goals as goal

pub returns : goal.returns
returns c = switches
