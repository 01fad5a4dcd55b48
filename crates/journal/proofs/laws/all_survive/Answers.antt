use Rattle.journal.proofs.Runs.{all_survive}
use Rattle.journal.proofs.laws.all_survive.Goals as goal

pub returns : goal.returns
returns c = all_survive
