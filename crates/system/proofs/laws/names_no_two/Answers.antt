use Rattle.system.proofs.Promise.{names_no_two}
use Rattle.system.proofs.laws.names_no_two.Goals as goal

pub returns : goal.returns
returns c = names_no_two
