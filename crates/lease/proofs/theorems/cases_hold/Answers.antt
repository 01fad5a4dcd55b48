use Rattle.lease.proofs.Cases.{cases_hold}
use Rattle.lease.proofs.theorems.cases_hold.Goals as goal

pub returns : goal.returns
returns c = cases_hold
