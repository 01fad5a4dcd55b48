use Rattle.std.proofs.Common.{◌≡◌, ℕ, ◌<◌}
use Rattle.lease.specs.Table.{at_home, table_of}
use Rattle.lease.proofs.table.Table.load.Given as goal

abbrev pub invariant-loop-address : goal.invariant-loop-address
invariant-loop-address l = (k : ℕ) → k < l.address → table_of l.place-items k ≡ at_home k (table_of l.places k)
