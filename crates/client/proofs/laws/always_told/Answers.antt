-- Proved in proofs/Runs.antt.
use Rattle.client.proofs.Runs.{always-told}
use Rattle.client.proofs.laws.always_told.Goals as goal

pub returns : goal.returns
returns c = always-told
