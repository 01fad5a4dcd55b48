use Rattle.journal.proofs.Reading.{row-is-read}
use Rattle.journal.proofs.laws.row_is_read.Goals as goal

pub returns : goal.returns
returns c = row-is-read
