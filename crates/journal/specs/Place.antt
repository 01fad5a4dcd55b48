-- What a place of the device can hold: zeros alone, other bytes that fit no sum, or a record.
-- Assumes nothing.
use Rattle.std.specs.Prelude.{ℕ}
use Rattle.journal.specs.declared.record.Record.{Record}

pub data Place : Type 0 where
  Blank : Place
  Torn : Place
  Holds : Record → Place

-- the sequence number of a place, 0 where it has no record
abbrev pub height : Place → ℕ
height Blank = 0
height Torn = 0
height (Holds r) = r.sequence

-- how many leases the row of a record was begun with, 0 where there is no record
abbrev pub base_of : Place → ℕ
base_of Blank = 0
base_of Torn = 0
base_of (Holds r) = r.base
