use Rattle.journal.proofs.Numbers.{none-twice}
use Rattle.journal.proofs.laws.none_twice.Goals as goal

pub returns : goal.returns
returns c = none-twice
