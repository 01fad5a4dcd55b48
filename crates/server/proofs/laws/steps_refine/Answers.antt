use Rattle.server.proofs.Refining.{step-refines}
use Rattle.server.proofs.laws.steps_refine.Goals as goal

pub returns : goal.returns
returns c = step-refines
