-- What a client is, and what it put out, after one message and after several.
-- Assumes nothing.
use Rattle.std.specs.Prelude.{◌≡◌, ℕ, List, ◌++◌, ◌⊎◌, Ok, Err, Result}
use Rattle.std.specs.List.{FoldsTo}
use Rattle.client.specs.Client.{Client, hears}
use Rattle.stream.specs.Said.{spoken, SaidInPart}
use Rattle.stream.specs.declared.hearer.Stop.{Stop}

-- from a client and bytes put out, to a client and bytes put out
pub record Heard (m : List ℕ) (c : Client) (out : List ℕ) (d : Client) (more : List ℕ) : Type 0 where
  pub client : d ≡ (hears m c).client
  pub bytes : more ≡ out ++ spoken (hears m c).says

-- without memory nothing changed; else the client made its step, and the first of what it says alone was put out
abbrev pub Stops : List ℕ → Client → List ℕ → Client → List ℕ → Type 0
Stops m c out d more = ((d ≡ c) × (more ≡ out)) ⊎ ((d ≡ (hears m c).client) × SaidInPart (hears m c).says out more)

abbrev pub Hears : List ℕ → Client → List ℕ → Result Unit Stop → Client → List ℕ → Type 0
Hears m c out (Ok x) d more = Heard m c out d more
Hears m c out (Err e) d more = Stops m c out d more

-- one message after the other
abbrev pub Ran : List (List ℕ) → Client → List ℕ → Client → List ℕ → Type 0
Ran ms c out d more = FoldsTo {P = Client × List ℕ} (λ p m q. Heard m p.0 p.1 q.0 q.1) (c, out) ms (d, more)
