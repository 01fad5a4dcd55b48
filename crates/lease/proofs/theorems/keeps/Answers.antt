use Rattle.lease.proofs.Promise.{keeps}
use Rattle.lease.proofs.theorems.keeps.Goals as goal

pub returns : goal.returns
returns c = keeps
