use Rattle.journal.proofs.Choosing.{choice-tells}
use Rattle.journal.proofs.laws.choice_tells.Goals as goal

pub returns : goal.returns
returns c = choice-tells
