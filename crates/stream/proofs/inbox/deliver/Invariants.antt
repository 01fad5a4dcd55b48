use Rattle.std.proofs.Common.{length}
use Rattle.stream.proofs.Wholes.{Handed}
use Rattle.stream.proofs.inbox.deliver.Given as goal

abbrev pub invariant-loop-bytes : goal.invariant-loop-bytes
invariant-loop-bytes g l = Handed g.H.Hearer.went l.initial.stream l.initial.to l.rest l.to

abbrev pub decreases-loop-bytes : goal.decreases-loop-bytes
decreases-loop-bytes g l = length l.rest
