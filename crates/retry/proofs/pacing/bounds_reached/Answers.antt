-- Proved in proofs/Witness.antt.
use Rattle.retry.proofs.Witness.{reached}
use Rattle.retry.proofs.pacing.bounds_reached.Goals as goal

pub returns : goal.returns
returns c = reached
