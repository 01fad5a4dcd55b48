use Rattle.system.proofs.Clocks.{clocks_agree}
use Rattle.system.proofs.laws.clocks_agree.Goals as goal

pub returns : goal.returns
returns c = clocks_agree
