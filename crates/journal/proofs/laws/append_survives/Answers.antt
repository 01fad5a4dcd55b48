use Rattle.journal.proofs.Appends.{append_survives}
use Rattle.journal.proofs.laws.append_survives.Goals as goal

pub returns : goal.returns
returns c = append_survives
