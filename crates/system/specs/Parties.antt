-- A server with its device and clients, by their own steps over the bytes that they hear, and what can happen to them.
-- Assumes nothing: any bytes may come to anybody.
use Rattle.std.specs.Prelude.{ℕ, ◌^◌, ◌<◌, cond, ◌&&◌, List, [], ◌∷◌, Some, None, Ok, Err, Option, nat_lt}
use Rattle.lease.specs.Run as lent
use Rattle.lease.specs.Settings as model
use Rattle.lease.specs.Table.{at}
use Rattle.lease.specs.Run.{answer}
use Rattle.wire.specs.declared.message.Message.{Message}
use Rattle.wire.specs.declared.message.Message.TheVariants.{Restart}
use Rattle.wire.specs.Read.{read}
use Rattle.journal.specs.Place.{Blank}
use Rattle.journal.specs.Device.{Device, chosen, cursor}
use Rattle.journal.specs.Append.{writes}
use Rattle.journal.specs.Crash.{Cut, cut_at}
use Rattle.server.specs.declared.effect.Effect.{Effect}
use Rattle.server.specs.declared.effect.Effect.TheVariants.{Persist, Send}
use Rattle.server.specs.Server as server
use Rattle.server.specs.Server.{is_lost, lease_of, planned, silently, understood}
use Rattle.server.specs.Refines.{Cause, Time, Asking, Falling, Rising, Other, cause_in, down_with}
use Rattle.client.specs.Client as client

-- clients: by their places
pub record Parties : Type 0 where
  pub server : server.State
  pub clients : ℕ → client.Client

-- ToServer, ToClient: bytes come to somebody.
-- Cuts: bytes come to the server, and it crashes in the writes that they ask for: after `whole` of them, the next cut in some way, and before anything is sent.
-- Damages: a server that restarts with this clock finds its device so damaged that no row can be read.
pub data Event : Type 0 where
  ToServer : (bytes : List ℕ) → Event
  ToClient : (place : ℕ) (bytes : List ℕ) → Event
  Cuts : (bytes : List ℕ) (whole : ℕ) (cut : Cut) → Event
  Damages : (device : Device) (clock : ℕ) → Event

-- how many places for clients there are; nothing comes to the one at 0
abbrev pub places : ℕ
places = 65

-- the event speaks of a client that there is
abbrev pub Within : Event → Type 0
Within (ToServer bs) = Unit {0}
Within (ToClient i bs) = i < places
Within (Cuts bs n c) = Unit {0}
Within (Damages d clock) = Unit {0}

unfoldable pub AllWithin : List Event → Type 0
AllWithin [] = Unit
AllWithin (e ∷ es) = Within e × AllWithin es

-- what an event makes of the parties, and the messages that are put out
pub record Outcome : Type 0 where
  pub parties : Parties
  pub said : List Message

-- the messages among effects
unfoldable pub sends : List Effect → List Message
sends [] = []
sends (Persist w ∷ es) = sends es
sends (Send m ∷ es) = m ∷ sends es

abbrev pub server_does : server.Step → Parties → Outcome
server_does p x = record { parties = record { server = p.state; clients = x.clients }; said = sends p.effects }

abbrev pub client_does : (place : ℕ) → client.Step → Parties → Outcome
client_does i p x = record { parties = record { server = x.server; clients = at i p.client x.clients }; said = p.says }

-- a crash within the writes of a lease that is granted
abbrev pub cut_answer : model.Settings → lent.Answer → (whole : ℕ) → Cut → server.State → server.State
cut_answer k (Ok None) n c s = s
cut_answer k (Ok (Some g)) n c s = down_with (cut_at n c (writes (planned k s) (lease_of k s g)) s.device) s
cut_answer k (Err f) n c s = s

abbrev pub cut_by : Option model.Settings → Cause → (whole : ℕ) → Cut → server.State → server.State
cut_by None o n c s = s
cut_by (Some k) Time n c s = s
cut_by (Some k) (Asking r) n c s = cut_answer k (answer k s.server r) n c s
cut_by (Some k) Falling n c s = s
cut_by (Some k) (Rising clock) n c s = s
cut_by (Some k) Other n c s = s

abbrev pub with_device : Device → server.State → server.State
with_device d s = record { settings = s.settings; server = s.server; device = d; cursor = s.cursor }

abbrev pub damaged_by : Option model.Settings → Device → (clock : ℕ) → server.State → server.Step
damaged_by None d clock s = silently s
damaged_by (Some k) d clock s = cond (is_lost (chosen 4096 d) && nat_lt clock (2 ^ 63)) (server.reads k clock (with_device d s)) (silently s)

abbrev pub happens : Event → Parties → Outcome
happens (ToServer bs) x = server_does (server.hears bs x.server) x
happens (ToClient i bs) x = client_does i (client.hears bs (x.clients i)) x
happens (Cuts bs n c) x = server_does (silently (cut_by x.server.settings (cause_in (understood bs x.server)) n c x.server)) x
happens (Damages d clock) x = server_does (damaged_by x.server.settings d clock x.server) x

-- the message that is heard, whoever hears it
abbrev pub heard : Event → Option Message
heard (ToServer bs) = read bs
heard (ToClient i bs) = read bs
heard (Cuts bs n c) = read bs
heard (Damages d clock) = Some (Restart clock)

-- all are new, and the device is zeros alone
abbrev pub blank : Device
blank s k = Blank

abbrev pub start : Parties
start = record { server = server.fresh blank (cursor 4096 blank); clients = λ i. client.fresh }
