-- What a server does outside as it hears one message after the other.
-- Assumes nothing.
use Rattle.std.specs.Prelude.{◌≡◌, ℕ, ◌⊎◌, List, Ok, Err, Result}
use Rattle.std.specs.List.{FoldsTo}
use Rattle.server.specs.Of.{state_of}
use Rattle.server.specs.Server.{hears}
use Rattle.server.specs.declared.server.Server.{Server}
use Rattle.stream.specs.declared.hearer.Stop.{Stop}
use Rattle.house.specs.Acts.{Act, Grows, Partly, acts, bytes_in}

-- the server made its step, and all that it asks for was done, in order
pub record Heard {O : Type 0} (did : O → List Act → Type 0) (m : List ℕ) (s : Server) (a : O) (t : Server) (b : O) : Type 0 where
  pub state : state_of t ≡ (hears m (state_of s)).state
  pub done : Grows did a (acts (bytes_in t) (hears m (state_of s)).effects) b

-- without memory nothing changed; else the server made its step, and something that it asks for failed
pub record Unheard {O : Type 0} (s : Server) (a : O) (t : Server) (b : O) : Type 0 where
  pub state : state_of t ≡ state_of s
  pub outside : b ≡ a

pub record Stopped {O : Type 0} (did : O → List Act → Type 0) (m : List ℕ) (s : Server) (a : O) (t : Server) (b : O) : Type 0 where
  pub state : state_of t ≡ (hears m (state_of s)).state
  pub done : Partly did a (acts (bytes_in t) (hears m (state_of s)).effects) b

abbrev pub Stops : {O : Type 0} → (O → List Act → Type 0) → List ℕ → Server → O → Server → O → Type 0
Stops did m s a t b = Unheard s a t b ⊎ Stopped did m s a t b

abbrev pub Hears : {O : Type 0} → (O → List Act → Type 0) → List ℕ → Server → O → Result Unit Stop → Server → O → Type 0
Hears did m s a (Ok x) t b = Heard did m s a t b
Hears did m s a (Err e) t b = Stops did m s a t b

-- one message after the other
abbrev pub Ran : {O : Type 0} → (O → List Act → Type 0) → Server → O → List (List ℕ) → Server → O → Type 0
Ran {O} did s a ms t b = FoldsTo {P = Server × O} (λ p m q. Heard did m p.0 p.1 q.0 q.1) (s, a) ms (t, b)
