-- A row switch that is cut twice and then done, by computation.
use Rattle.std.proofs.Common.{refl}
use Rattle.journal.specs.Table.{keeping}
use Rattle.journal.specs.Row.{reads, table_of, highest, blank_row}
use Rattle.journal.specs.Append.{numbered, perform}
use Rattle.journal.specs.Crash.{cut_at}
use Rattle.journal.specs.Run.{run}
use Rattle.journal.specs.Witness.{Switches}

pub switches : Switches
unfolding keeping reads table_of highest blank_row numbered perform cut_at run
switches = record { before = refl; once = refl; twice = refl; done = refl }
