-- The parties that those in memory stand for, and the event that bytes are which come to one of them.
-- Assumes nothing.
use Rattle.std.specs.Prelude.{ℕ, cond, ◌&&◌, List, [], ◌∷◌, map, is_some, Some, None, vec_items, Option, slice_index_or}
use Rattle.wire.specs.declared.message.Message.{Message}
use Rattle.server.specs.declared.effect.Effect.{Effect}
use Rattle.server.specs.declared.effect.Effect.TheVariants.{Persist, Send}
use Rattle.server.specs.Of.{state_of}
use Rattle.client.specs.declared.client.Client as code
use Rattle.client.specs.Client as client
use Rattle.client.specs.Of.{client_of}
use Rattle.system.specs.declared.line.Party.{Party}
use Rattle.system.specs.declared.line.Party.TheVariants.{Server, Client}
use Rattle.system.specs.Parties as system
use Rattle.system.specs.Parties.{Event, ToServer, ToClient}
use Rattle.replay.specs.declared.parties.Parties.{Parties}

-- past the last place a client is new
abbrev pub clients_of : List code.Client → ℕ → client.Client
clients_of xs i = slice_index_or (map client_of xs) i client.fresh

abbrev pub parties_of : Parties → system.Parties
parties_of p = record { server = state_of p.server; clients = clients_of (vec_items p.clients) }

abbrev pub event_of : Party → List ℕ → Event
event_of Server bs = ToServer bs
event_of (Client i) bs = ToClient i bs

-- a party's place; the server stands at 0, where no client is
abbrev pub place_of : Party → ℕ
place_of Server = 0
place_of (Client i) = i

-- the message that an effect sends
abbrev pub sent : Effect → List Message
sent (Persist w) = []
sent (Send m) = m ∷ []

-- the clock that a client shows: it is up and has a number
abbrev pub shown_by : client.Client → Option ℕ
shown_by c = cond (c.state.holder.up && is_some c.state.own) (Some c.state.holder.clock) None
