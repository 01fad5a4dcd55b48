use Rattle.lease.proofs.Promise.{never_two}
use Rattle.lease.proofs.theorems.never_two.Goals as goal

pub returns : goal.returns
returns c = never_two
