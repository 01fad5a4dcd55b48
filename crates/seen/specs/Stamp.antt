-- Stamps: when two are the same, whether a list has one, and that a set has just those of a list.
-- Assumes nothing.
use Rattle.std.specs.Prelude.{◌≡◌, Bool, ◌&&◌, List, ◌==◌}
use Rattle.std.specs.List.{list_any}
use Rattle.std.specs.HashSet.{HashSet, contains}
use Rattle.seen.specs.declared.stamp.Stamp.{Stamp}

abbrev pub same : Stamp → Stamp → Bool
same x y = x.client == y.client && (x.address == y.address && x.nonce == y.nonce)

abbrev pub member : Stamp → List Stamp → Bool
member x xs = list_any (same x) xs

-- the set has a stamp exactly if the list does
abbrev pub HasMembers : {S : Type 0} → List Stamp → HashSet Stamp S → Type 0
HasMembers xs s = (x : Stamp) → contains same s x ≡ member x xs
