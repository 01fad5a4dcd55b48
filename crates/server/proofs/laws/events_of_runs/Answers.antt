use Rattle.server.proofs.Refining.{events-of_runs}
use Rattle.server.proofs.laws.events_of_runs.Goals as goal

pub returns : goal.returns
returns c = events-of_runs
