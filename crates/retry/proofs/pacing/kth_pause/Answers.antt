-- Proved in proofs/Pauses.antt.
use Rattle.retry.proofs.Pauses.{kth_pause}
use Rattle.retry.proofs.pacing.kth_pause.Goals as goal

pub returns : goal.returns
returns c = kth_pause
