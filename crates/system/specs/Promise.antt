-- What is promised of every run of server and clients over bytes, with cut writes, damage and silence.
-- Assumes nothing but the premises, which a report names where they are broken.
use Rattle.std.specs.Prelude.{◌≡◌, ℕ, ◌+◌, ◌^◌, ◌<◌, ◌≤◌, Bool, true, false, ◌||◌, List, [], ◌∷◌, Some}
use Rattle.lease.specs.declared.message.Request as asked
use Rattle.lease.specs.Settings as model
use Rattle.lease.specs.Holding.{Use}
use Rattle.lease.specs.Table.{free}
use Rattle.lease.specs.World.{lending}
use Rattle.wire.specs.declared.message.Message.TheVariants.{Request, Grant}
use Rattle.wire.specs.Laws.{Fits}
use Rattle.wire.specs.Message.{encoded}
use Rattle.journal.specs.Append.{exhausted}
use Rattle.server.specs.Server.{planned}
use Rattle.client.specs.State.{in_use}
use Rattle.system.specs.declared.line.Line.{Line}
use Rattle.system.specs.declared.line.Line.TheVariants.{Fault, Broken, Two, Tick, User}
use Rattle.system.specs.Parties.{Parties, Event, ToServer, ToClient, AllWithin, Outcome, happens, places}
use Rattle.system.specs.Report.{beginning, after, report}

abbrev pub names_premise : Line → Bool
names_premise (Fault p f) = false
names_premise (Broken p) = true
names_premise (Two a i j) = false
names_premise (Tick clock) = false
names_premise (User i a) = false

abbrev pub names_two : Line → Bool
names_two (Fault p f) = false
names_two (Broken p) = false
names_two (Two a i j) = true
names_two (Tick clock) = false
names_two (User i a) = false

unfoldable pub any : (Line → Bool) → List Line → Bool
any test [] = false
any test (l ∷ ls) = test l || any test ls

-- the report names no broken premise
abbrev pub Kept : List Event → Type 0
Kept es = any names_premise (report es) ≡ false

-- A REPORT THAT NAMES NO BROKEN PREMISE names no address that two use.
abbrev pub NamesNoTwo : Type 0
NamesNoTwo = (es : List Event) → AllWithin es → Kept es → any names_two (report es) ≡ false

-- the parties after these events
abbrev pub parties : List Event → Parties
parties es = (after es beginning).parties

-- NEVER TWO. No two clients use one address.
abbrev pub NeverTwo : Type 0
NeverTwo =
    (es : List Event) → AllWithin es → Kept es → (i j : ℕ) (u v : Use) → i < places → j < places →
    in_use ((parties es).clients i).state ≡ Some u → in_use ((parties es).clients j).state ≡ Some v → u.address ≡ v.address → i ≡ j

-- a client that is up and asked at this tick, and a server that could write a lease now, by the same settings
pub record Asked (k : model.Settings) (x : Parties) (i : ℕ) (r : asked.Request) : Type 0 where
  pub server_knows : x.server.settings ≡ Some k
  pub client_knows : (x.clients i).state.settings ≡ Some k
  pub own : (x.clients i).state.own ≡ Some r.client
  pub up : (x.clients i).state.holder.up ≡ true
  pub waits : (x.clients i).state.holder.holding.waits ≡ Some (record { nonce = r.nonce; asked = (x.clients i).state.holder.clock })
  pub fits : Fits (Request r)
  pub preferred : r.preferred ≤ k.addresses
  pub lends : lending x.server.server ≡ true
  pub room : exhausted (planned k x.server) ≡ false

-- the request comes to the server at once
abbrev pub answered_to : asked.Request → Parties → Outcome
answered_to r x = happens (ToServer (encoded (Request r))) x

-- its grant, and the client that it comes to at once: it uses the address for a term from its asking on
pub record Has (k : model.Settings) (x : Parties) (i : ℕ) (r : asked.Request) (a : ℕ) : Type 0 where
  pub within : a < k.addresses
  pub grants : (answered_to r x).said ≡ Grant (record { client = r.client; nonce = r.nonce; address = a }) ∷ []
  pub uses : in_use ((happens (ToClient i (encoded (Grant (record { client = r.client; nonce = r.nonce; address = a })))) (answered_to r x).parties).parties.clients i).state
      ≡ Some (record { address = a; until = (x.clients i).state.holder.clock + k.term })

-- CAN HAVE. Whoever asked while an address is free for it has one by two messages; no premise is needed.
abbrev pub CanHave : Type 0
CanHave =
    (x : Parties) (k : model.Settings) (i : ℕ) (r : asked.Request) → Asked k x i r → k.addresses < 2 ^ 16 →
    (b : ℕ) → b < k.addresses → free x.server.server.clock r.client (x.server.server.table b) ≡ true → (a : ℕ) × Has k x i r a

-- KEEPS. Whoever uses an address and asked again keeps it by two messages.
abbrev pub Keeps : Type 0
Keeps =
    (es : List Event) → AllWithin es → Kept es → (k : model.Settings) (i : ℕ) (r : asked.Request) (u : Use) → i < places → Asked k (parties es) i r →
    in_use ((parties es).clients i).state ≡ Some u → Has k (parties es) i r u.address
