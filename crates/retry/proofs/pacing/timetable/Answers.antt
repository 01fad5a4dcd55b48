-- Proved in proofs/Pauses.antt.
use Rattle.retry.proofs.Pauses.{timetable}
use Rattle.retry.proofs.pacing.timetable.Goals as goal

pub returns : goal.returns
returns c = timetable
