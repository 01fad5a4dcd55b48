-- The stamps of a set, newest first, and when it has room for one more.
-- Assumes nothing.
use Rattle.std.specs.Prelude.{◌<◌, List, reverse, vec_items, vec_len, vec_capacity}
use Rattle.std.specs.HashSet.{spare}
use Rattle.seen.specs.declared.seen.Seen.{Seen}
use Rattle.seen.specs.declared.stamp.Stamp.{Stamp}

abbrev pub stamps_of : Seen → List Stamp
stamps_of s = reverse (vec_items s.stamps)

abbrev pub Roomy : Seen → Type 0
Roomy s = (vec_len s.stamps < vec_capacity s.stamps) × (0 < spare s.members)
