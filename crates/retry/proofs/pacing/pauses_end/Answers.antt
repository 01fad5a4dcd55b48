-- Proved in proofs/InTime.antt.
use Rattle.retry.proofs.InTime.{pauses_end}
use Rattle.retry.proofs.pacing.pauses_end.Goals as goal

pub returns : goal.returns
returns c = pauses_end
