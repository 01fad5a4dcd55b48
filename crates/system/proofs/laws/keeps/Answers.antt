use Rattle.system.proofs.Having.{keeps}
use Rattle.system.proofs.laws.keeps.Goals as goal

pub returns : goal.returns
returns c = keeps
