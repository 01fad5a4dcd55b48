use Rattle.std.proofs.Common.{arith}
use Rattle.simulation.proofs.Parties.{message-at, message-none}
use Rattle.simulation.proofs.network.message.Goals as goal

pub returns-then-which-sent : goal.returns-then-which-sent
returns-then-which-sent c = message-none c.args.sent.now c.args.which (omega arith)

pub returns : goal.returns
returns c = message-at c.args.sent.now c.args.which _ (omega arith)
