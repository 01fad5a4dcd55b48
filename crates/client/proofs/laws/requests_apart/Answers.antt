-- Proved in proofs/Pacing.antt.
use Rattle.client.proofs.Pacing.{four_apart, sixty_apart}
use Rattle.client.proofs.laws.requests_apart.Goals as goal

pub returns : goal.returns
returns c = record { four = four_apart; sixty = sixty_apart }
