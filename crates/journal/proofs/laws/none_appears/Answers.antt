use Rattle.journal.proofs.Runs.{none_appears}
use Rattle.journal.proofs.laws.none_appears.Goals as goal

pub returns : goal.returns
returns c = none_appears
