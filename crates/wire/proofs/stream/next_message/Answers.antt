use Rattle.std.proofs.Common.{arith, rules}
use Rattle.std.proofs.lemmas.Grind.{common_steps}
use Rattle.wire.proofs.Streams.{reads}
use Rattle.wire.proofs.stream.next_message.Goals as goal

pub returns-in_default-clause-reads : goal.returns-in_default-clause-reads
returns-in_default-clause-reads c = reads c.args.stream.now _ (search rules)

pub returns-in_default-split_at_checked-clause-reads : goal.returns-in_default-split_at_checked-clause-reads
returns-in_default-split_at_checked-clause-reads c = reads c.args.stream.now _ (search rules)

pub returns-clause-reads : goal.returns-clause-reads
returns-clause-reads c = reads c.args.stream.now _ (grind (arith, common_steps))
