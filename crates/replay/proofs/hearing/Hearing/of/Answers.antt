use Rattle.std.proofs.Common.{rules}
use Rattle.wire.specs.Read.{read}
use Rattle.replay.proofs.hearing.Hearing.of.Goals as goal

pub invariant_of-result : goal.invariant_of-result
unfolding read
invariant_of-result c = record { placed = search rules; understood = c.read-heard.ensures }
