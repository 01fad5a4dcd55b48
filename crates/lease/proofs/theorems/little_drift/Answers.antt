use Rattle.lease.proofs.Drift.{little_drift}
use Rattle.lease.proofs.theorems.little_drift.Goals as goal

pub returns : goal.returns
returns c = little_drift
