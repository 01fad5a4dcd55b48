-- Proved in proofs/Renewal.antt.
use Rattle.retry.proofs.Renewal.{halfway}
use Rattle.retry.proofs.pacing.halfway.Goals as goal

pub returns : goal.returns
returns c = halfway
