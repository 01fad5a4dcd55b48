use Rattle.journal.proofs.Runs.{answered_stays}
use Rattle.journal.proofs.laws.answered_stays.Goals as goal

pub returns : goal.returns
returns c = answered_stays
