-- What it means that a stamp is a member of a list.
-- Assumes nothing.
use Rattle.std.specs.Prelude.{◌≡◌, true, List, ◌∷◌, ◌++◌}
use Rattle.seen.specs.declared.stamp.Stamp.{Stamp}
use Rattle.seen.specs.Stamp.{member}

-- the list has the stamp between a front and a rest
abbrev pub In : Stamp → List Stamp → Type 0
In x xs = (front : List Stamp) × ((rest : List Stamp) × (xs ≡ front ++ x ∷ rest))

pub record MembersAreIn : Type 0 where
  pub found : (x : Stamp) (xs : List Stamp) → member x xs ≡ true → In x xs
  pub there : (x : Stamp) (xs : List Stamp) → In x xs → member x xs ≡ true
