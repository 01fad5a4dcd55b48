use Rattle.std.proofs.Common.{◌≡◌, ◌-◌, length, None}
use Rattle.lease.specs.Table.{table_of, vacant}
use Rattle.lease.specs.Choosing.{lowest}
use Rattle.lease.proofs.table.Table.vacancy.Given as goal

-- what is left to scan decides
abbrev pub invariant-addresses : goal.invariant-addresses
invariant-addresses l =
    (l.found ≡ None)
    × (lowest (λ a. vacant l.clock.ticks (table_of l.self a)) 0 (length l.self)
    ≡ lowest (λ a. vacant l.clock.ticks (table_of l.self a)) l.address (length l.self - l.address))
