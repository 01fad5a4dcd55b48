-- Proved in proofs/Runs.antt.
use Rattle.client.proofs.Runs.{in_order, used-once}
use Rattle.client.proofs.laws.used_once.Goals as goal

pub returns : goal.returns
returns c = record { order = in_order; once = used-once }
