use Rattle.std.proofs.Common.{vec_items}
use Rattle.journal.specs.Table.{keeping}
use Rattle.journal.specs.Image.{table_in}
use Rattle.journal.specs.Memory.{Copied, cursor_of, places_of}
use Rattle.journal.proofs.journal.Journal.copy.Given as goal

abbrev pub invariant-loop-entry : goal.invariant-loop-entry
invariant-loop-entry l =
    Copied (cursor_of l.initial.self) (vec_items l.initial.self.device) (places_of l.initial.self) (keeping l.clock (table_in l.table) l.entry-index) (vec_items l.self.device) (places_of l.self) (cursor_of l.self)
