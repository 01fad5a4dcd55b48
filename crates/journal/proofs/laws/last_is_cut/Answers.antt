use Rattle.journal.proofs.Appends.{last-is-cut}
use Rattle.journal.proofs.laws.last_is_cut.Goals as goal

pub returns : goal.returns
returns c = last-is-cut
