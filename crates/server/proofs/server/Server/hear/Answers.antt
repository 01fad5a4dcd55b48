use Rattle.server.specs.Of.{state_of}
use Rattle.server.proofs.Ordering.{steps_orderly}
use Rattle.server.proofs.Refining.{step-refines}
use Rattle.server.proofs.server.Server.hear.Goals as goal

pub returns-in_err-reserve-clause-orderly : goal.returns-in_err-reserve-clause-orderly
returns-in_err-reserve-clause-orderly c = steps_orderly (state_of c.args.self.now) c.args.bytes.now

pub returns-in_err-reserve-clause-refines : goal.returns-in_err-reserve-clause-refines
returns-in_err-reserve-clause-refines c = step-refines

pub returns-in-Err-NoMemory-clause-orderly : goal.returns-in-Err-NoMemory-clause-orderly
returns-in-Err-NoMemory-clause-orderly c = steps_orderly (state_of c.args.self.now) c.args.bytes.now

pub returns-in-Err-NoMemory-clause-refines : goal.returns-in-Err-NoMemory-clause-refines
returns-in-Err-NoMemory-clause-refines c = step-refines

pub returns-in-Ok-None-clause-refines : goal.returns-in-Ok-None-clause-refines
returns-in-Ok-None-clause-refines c = step-refines

pub returns-in-Ok-Some-clause-orderly : goal.returns-in-Ok-Some-clause-orderly
returns-in-Ok-Some-clause-orderly c = steps_orderly (state_of c.args.self.now) c.args.bytes.now

pub returns-in-Ok-Some-clause-refines : goal.returns-in-Ok-Some-clause-refines
returns-in-Ok-Some-clause-refines c = step-refines

pub returns-in-Err-Refused-clause-refines : goal.returns-in-Err-Refused-clause-refines
returns-in-Err-Refused-clause-refines c = step-refines
