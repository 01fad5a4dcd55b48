-- Proved in proofs/Apart.antt.
use Rattle.retry.proofs.Apart.{sixty_apart}
use Rattle.retry.proofs.pacing.sixty_apart.Goals as goal

pub returns : goal.returns
returns c = sixty_apart
