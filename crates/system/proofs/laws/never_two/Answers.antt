use Rattle.system.proofs.Promise.{never_two}
use Rattle.system.proofs.laws.never_two.Goals as goal

pub returns : goal.returns
returns c = never_two
