-- Everything that can happen, and what the world is after it.
-- Assumes nothing.
use Rattle.std.specs.Prelude.{ℕ, ◌+◌, Bool, true, false, cond, not, ◌&&◌, ◌||◌, List, [], ◌∷◌, Some, None, Ok, Err, Option, Result, nat_lt}
use Rattle.lease.specs.declared.fault.Fault.{Fault}
use Rattle.lease.specs.declared.fault.Fault.TheVariants.{NoneFree, TableLost}
use Rattle.lease.specs.declared.message.Request.{Request}
use Rattle.lease.specs.declared.message.Grant.{Grant}
use Rattle.lease.specs.Settings.{Settings, life, silence}
use Rattle.lease.specs.Table.{empty, at, leased, written, forgotten}
use Rattle.lease.specs.Choosing.{choose}
use Rattle.lease.specs.Holding.{Holding, later, asking, taking, settled}
use Rattle.lease.specs.World.{Message, Requests, Grants, Server, Client, World, start, knowing_nothing, is_silent, elem, sent}

-- Pass: time passes for all at once, for the server by `k` ticks and for each client that is up by ticks of its own.
-- Asks: with a nonce that was never drawn before; with another nobody asks.
-- The network brings any message that was ever sent, to anybody, as often as it likes, or never: `which` counts from the newest.
-- ServerHearsAndCrashes: the server crashes before it answers; `wrote` says whether the lease was written by then.
-- Forgets: leases that are over, at the addresses named, may be forgotten by a server that is up.
-- A start or restart may come without a crash before it. `lost` says whether the server can't read its table.
pub data Event : Type 0 where
  Pass : (k : ℕ) (ticks : ℕ → ℕ) → Event
  Asks : (client nonce preferred : ℕ) → Event
  ServerHears : (which : ℕ) → Event
  ServerHearsAndCrashes : (which : ℕ) (wrote : Bool) → Event
  ClientHears : (client which : ℕ) → Event
  ClientStarts : (client clock : ℕ) → Event
  ClientCrashes : (client : ℕ) → Event
  ServerCrashes : Event
  Forgets : (gone : ℕ → Bool) → Event
  ServerRestarts : (clock : ℕ) (lost : Bool) → Event

-- the silence is over: a server that is up is past it
abbrev pub over : (now : ℕ) → Bool → Option ℕ → Bool
over now up None = false
over now up (Some u) = up && nat_lt u now

-- THE SERVER'S STEPS
abbrev pub server_passes : ℕ → Server → Server
server_passes k v =
    cond (over (v.clock + k) v.up v.silent) (record { clock = v.clock + k; up = v.up; silent = None; table = empty })
    (record { clock = v.clock + k; up = v.up; silent = v.silent; table = v.table })

-- what the server makes of a request: nothing while it is down, a grant, or the fault that refuses it
abbrev pub Answer : Type 0
Answer = Result (Option Grant) Fault

abbrev pub answered : Request → Option ℕ → Answer
answered r None = Err NoneFree
answered r (Some a) = Ok (Some (record { client = r.client; nonce = r.nonce; address = a }))

-- in the silence nobody knows what is free
abbrev pub answer_up : Settings → Server → Request → Option ℕ → Answer
answer_up s v r None = answered r (choose s.addresses v.clock v.table r)
answer_up s v r (Some u) = Err TableLost

abbrev pub answer : Settings → Server → Request → Answer
answer s v r = cond v.up (answer_up s v r v.silent) (Ok None)

-- the lease that a grant stands for is written
abbrev pub lends : Settings → Grant → Server → Server
lends s g v =
    record { clock = v.clock; up = v.up; silent = v.silent; table = written (leased v.clock (life s) g.client g.address) v.table }

abbrev pub serves : Settings → Answer → Server → Server
serves s (Ok None) v = v
serves s (Ok (Some g)) v = lends s g v
serves s (Err f) v = v

abbrev pub crashes : Server → Server
crashes v = record { clock = v.clock; up = false; silent = v.silent; table = v.table }

abbrev pub forgets : (gone : ℕ → Bool) → Server → Server
forgets gone v = cond v.up (record { clock = v.clock; up = v.up; silent = v.silent; table = forgotten v.clock gone v.table }) v

-- a server that was silent can't read its table at a restart either: each restart starts the silence anew
abbrev pub restarts : Settings → (clock : ℕ) → (lost : Bool) → Server → Server
restarts s clock lost v =
    cond (lost || is_silent v.silent) (record { clock = clock; up = true; silent = Some (clock + silence s); table = empty })
    (record { clock = clock; up = true; silent = None; table = v.table })

-- A CLIENT'S STEPS
abbrev pub client_passes : ℕ → Client → Client
client_passes k x = cond x.up (record { clock = x.clock + k; up = x.up; holding = later (x.clock + k) x.holding }) x

abbrev pub with_holding : Client → Holding → Client
with_holding x h = record { clock = x.clock; up = x.up; holding = h }

abbrev pub asked : (nonce : ℕ) → Client → Client
asked n x = with_holding x (asking n x.clock x.holding)

abbrev pub held_by : Client → Result Holding Fault → Result Client Fault
held_by x (Ok h) = Ok (with_holding x h)
held_by x (Err f) = Err f

-- a client that is down hears nothing
abbrev pub hearing : (term own : ℕ) → Grant → Client → Result Client Fault
hearing term own g x = cond x.up (held_by x (taking term x.clock own g x.holding)) (Ok x)

-- THE WORLD'S
abbrev pub with_server : Server → World → World
with_server v w = record { server = v; clients = w.clients; messages = w.messages; drawn = w.drawn }

abbrev pub with_client : ℕ → Client → World → World
with_client c x w = record { server = w.server; clients = at c x w.clients; messages = w.messages; drawn = w.drawn }

abbrev pub passes : ℕ → (ℕ → ℕ) → World → World
passes k f w = record { server = server_passes k w.server; clients = λ c. client_passes (f c) (w.clients c); messages = w.messages; drawn = w.drawn }

abbrev pub requested : (client nonce preferred : ℕ) → World → World
requested c n p w =
    record {
      server = w.server;
      clients = at c (asked n (w.clients c)) w.clients;
      messages = Requests (record { client = c; nonce = n; preferred = p }) ∷ w.messages;
      drawn = n ∷ w.drawn;
    }

abbrev pub asks : (client nonce preferred : ℕ) → World → World
asks c n p w = cond ((w.clients c).up && not (elem n w.drawn)) (requested c n p w) w

-- what the server answers is sent
abbrev pub replies : Answer → List Message → List Message
replies (Ok None) ms = ms
replies (Ok (Some g)) ms = Grants g ∷ ms
replies (Err f) ms = ms

abbrev pub replied : Settings → Answer → World → World
replied s x w = record { server = serves s x w.server; clients = w.clients; messages = replies x w.messages; drawn = w.drawn }

abbrev pub server_hears : Settings → Option Message → World → World
server_hears s None w = w
server_hears s (Some (Grants g)) w = w
server_hears s (Some (Requests r)) w = replied s (answer s w.server r) w

abbrev pub client_hears : Settings → (client : ℕ) → Option Message → World → World
client_hears s c None w = w
client_hears s c (Some (Requests r)) w = w
client_hears s c (Some (Grants g)) w = with_client c (settled (w.clients c) (hearing s.term c g (w.clients c))) w

abbrev pub step : Settings → Event → World → World
step s (Pass k f) w = passes k f w
step s (Asks c n p) w = asks c n p w
step s (ServerHears i) w = server_hears s (sent i w.messages) w
step s (ServerHearsAndCrashes i wrote) w = with_server (crashes (cond wrote (server_hears s (sent i w.messages) w).server w.server)) w
step s (ClientHears c i) w = client_hears s c (sent i w.messages) w
step s (ClientStarts c clock) w = with_client c (knowing_nothing clock true) w
step s (ClientCrashes c) w = with_client c (knowing_nothing (w.clients c).clock false) w
step s ServerCrashes w = with_server (crashes w.server) w
step s (Forgets gone) w = with_server (forgets gone w.server) w
step s (ServerRestarts clock lost) w = with_server (restarts s clock lost w.server) w

-- by events, the latest first
unfoldable pub world : Settings → List Event → World
world s [] = start
world s (e ∷ es) = step s e (world s es)
