-- Proved in proofs/Apart.antt.
use Rattle.retry.proofs.Apart.{four_apart}
use Rattle.retry.proofs.pacing.four_apart.Goals as goal

pub returns : goal.returns
returns c = four_apart
