-- Proved in proofs/Pauses.antt.
use Rattle.retry.proofs.Pauses.{due_at_once}
use Rattle.retry.proofs.pacing.due_at_once.Goals as goal

pub returns : goal.returns
returns c = due_at_once
