-- What the front of a script is: an entry and the bytes behind it.
-- Assumes nothing.
use Rattle.std.specs.Prelude.{◌≡◌, ℕ, List, ◌∷◌, ◌++◌, length}
use Rattle.script.specs.Script.{Part, Sound}

pub record Stands (bytes : List ℕ) (p : Part) (rest : List ℕ) : Type 0 where
  pub whole : bytes ≡ p.who ∷ (length p.message ∷ (p.message ++ rest))
  pub sound : Sound p
