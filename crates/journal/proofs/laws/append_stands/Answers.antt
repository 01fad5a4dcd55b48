use Rattle.journal.proofs.Appends.{append_stands}
use Rattle.journal.proofs.laws.append_stands.Goals as goal

pub returns : goal.returns
returns c = append_stands
