-- Proved in proofs/Pacing.antt.
use Rattle.client.proofs.Pacing.{pauses_end, asks_in_time}
use Rattle.client.proofs.laws.asks_again.Goals as goal

pub returns : goal.returns
returns c = record { pauses = pauses_end; renewal = asks_in_time }
