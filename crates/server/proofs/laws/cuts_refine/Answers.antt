use Rattle.server.proofs.Refining.{cut-refines-all}
use Rattle.server.proofs.laws.cuts_refine.Goals as goal

pub returns : goal.returns
returns c = cut-refines-all
