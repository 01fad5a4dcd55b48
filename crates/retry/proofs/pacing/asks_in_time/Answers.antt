-- Proved in proofs/InTime.antt.
use Rattle.retry.proofs.InTime.{asks_in_time}
use Rattle.retry.proofs.pacing.asks_in_time.Goals as goal

pub returns : goal.returns
returns c = asks_in_time
