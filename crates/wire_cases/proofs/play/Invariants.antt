use Rattle.std.proofs.Common.{length}
use Rattle.wire_cases.proofs.play.Given as goal

abbrev pub decreases-loop-bytes : goal.decreases-loop-bytes
decreases-loop-bytes l = length l.stream
