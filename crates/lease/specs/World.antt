-- The server, the clients, and all messages that were ever sent.
-- Assumes nothing.
use Rattle.std.specs.Prelude.{ℕ, zero, suc, Bool, true, false, ◌&&◌, ◌||◌, List, [], ◌∷◌, Some, None, Option, ◌==◌}
use Rattle.lease.specs.declared.message.Request.{Request}
use Rattle.lease.specs.declared.message.Grant.{Grant}
use Rattle.lease.specs.Table.{Table, empty}
use Rattle.lease.specs.Holding.{Holding, nothing}

pub data Message : Type 0 where
  Requests : Request → Message
  Grants : Grant → Message

-- silent: nothing, or the tick until which the server lends nothing, since it lost its table
pub record Server : Type 0 where
  pub clock : ℕ
  pub up : Bool
  pub silent : Option ℕ
  pub table : Table

pub record Client : Type 0 where
  pub clock : ℕ
  pub up : Bool
  pub holding : Holding

-- clients: by their numbers; messages: the newest first; drawn: the nonces of all requests, none of which is drawn twice
pub record World : Type 0 where
  pub server : Server
  pub clients : ℕ → Client
  pub messages : List Message
  pub drawn : List ℕ

-- a client that knows nothing, with its clock at `clock`
abbrev pub knowing_nothing : (clock : ℕ) → Bool → Client
knowing_nothing clock up = record { clock = clock; up = up; holding = nothing }

-- the server is up with an empty table; no client has started yet
abbrev pub start : World
start = record { server = record { clock = 0; up = true; silent = None; table = empty }; clients = λ c. knowing_nothing 0 false; messages = []; drawn = [] }

abbrev pub is_silent : Option ℕ → Bool
is_silent None = false
is_silent (Some u) = true

abbrev pub not_silent : Option ℕ → Bool
not_silent None = true
not_silent (Some u) = false

-- up and not silent
abbrev pub lending : Server → Bool
lending v = v.up && not_silent v.silent

unfoldable pub elem : ℕ → List ℕ → Bool
elem n [] = false
elem n (m ∷ ms) = n == m || elem n ms

-- the message before which so many newer ones were sent
unfoldable pub sent : ℕ → List Message → Option Message
sent i [] = None
sent zero (m ∷ ms) = Some m
sent (suc i) (m ∷ ms) = sent i ms
