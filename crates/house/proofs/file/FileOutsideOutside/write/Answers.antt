use Rattle.house.proofs.Doing.{untold}
use Rattle.house.proofs.file.FileOutsideOutside.write.Goals as goal

pub returns : goal.returns
returns c = untold _ _ _ _
