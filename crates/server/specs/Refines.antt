-- For which server of the lending core a state stands, and that each step of it, also one that is cut by a crash, is what can happen to that one.
-- Assumes of the device what `Stands` says where the settings come: zeros, damage, or what a server left; and of a write that is cut what the journal assumes.
use Rattle.std.specs.Prelude.{◌≡◌, ℕ, ◌<◌, Bool, true, false, cond, List, [], ◌∷◌, ◌++◌, Some, None, Ok, Err}
use Rattle.lease.specs.declared.message.Grant as given
use Rattle.lease.specs.declared.message.Request as asked
use Rattle.lease.specs.Settings as model
use Rattle.lease.specs.World as world
use Rattle.lease.specs.World.{is_silent}
use Rattle.lease.specs.Run as run
use Rattle.lease.specs.Run.{answer, crashes, forgets, restarts, server_passes, serves}
use Rattle.wire.specs.Decode.{Answer}
use Rattle.wire.specs.declared.message.Message.{Message}
use Rattle.wire.specs.declared.message.Message.TheVariants.{Request, Grant, Settings, Tick, Crash, Restart, OwnNumber, Nonce, InUse, NoAddress, Fault}
use Rattle.journal.specs.Device.{Device, chosen, is_found}
use Rattle.journal.specs.Append.{writes}
use Rattle.journal.specs.Crash.{Cut, cut_at}
use Rattle.journal.specs.Laws.{Ready, Sound}
use Rattle.server.specs.declared.effect.Effect.{Effect}
use Rattle.server.specs.declared.effect.Effect.TheVariants.{Persist, Send}
use Rattle.server.specs.Server.{State, hears, lease_of, planned, pooled, settles, understood}

-- the server of the lending core: its table is what the device has of the pool, whatever of it is in memory
abbrev pub model_of : model.Settings → State → world.Server
model_of k s = record { clock = s.server.clock; up = s.server.up; silent = s.server.silent; table = pooled k.addresses s.device }

-- what holds of a server at every moment once it knows its settings
pub record Stands (k : model.Settings) (s : State) : Type 0 where
  pub settled : s.settings ≡ Some k
  pub few : k.addresses < 4096
  pub sound : Sound 4096 s.device
  -- memory has what the device gives, as far as it is live
  pub ready : s.server.up ≡ true → Ready 4096 k.addresses s.server.clock s.device s.cursor s.server.table
  -- in the silence nothing is written
  pub lost : is_silent s.server.silent ≡ true → is_found (chosen 4096 s.device) ≡ false

-- what can happen to a server of the lending core
pub data Event : Type 0 where
  Passes : (k : ℕ) → Event
  Hears : asked.Request → Event
  HearsAndCrashes : asked.Request → (wrote : Bool) → Event
  Crashes : Event
  Forgets : (gone : ℕ → Bool) → Event
  Restarts : (clock : ℕ) (lost : Bool) → Event

abbrev pub occurs : model.Settings → Event → world.Server → world.Server
occurs k (Passes n) v = server_passes n v
occurs k (Hears r) v = serves k (answer k v r) v
occurs k (HearsAndCrashes r wrote) v = crashes (cond wrote (serves k (answer k v r) v) v)
occurs k Crashes v = crashes v
occurs k (Forgets gone) v = forgets gone v
occurs k (Restarts clock lost) v = restarts k clock lost v

abbrev pub grant_by : run.Answer → List given.Grant
grant_by (Ok None) = []
grant_by (Ok (Some g)) = g ∷ []
grant_by (Err f) = []

-- what is sent then: a server that crashes before it answers sends nothing
abbrev pub sends : model.Settings → Event → world.Server → List given.Grant
sends k (Passes n) v = []
sends k (Hears r) v = grant_by (answer k v r)
sends k (HearsAndCrashes r wrote) v = []
sends k Crashes v = []
sends k (Forgets gone) v = []
sends k (Restarts clock lost) v = []

-- one after the other
abbrev pub occur : model.Settings → List Event → world.Server → world.Server
occur k [] v = v
occur k (e ∷ es) v = occur k es (occurs k e v)

abbrev pub sent : model.Settings → List Event → world.Server → List given.Grant
sent k [] v = []
sent k (e ∷ es) v = sends k e v ++ sent k es (occurs k e v)

-- these are the events of a run, in which a request is heard that was sent
pub record Embeds (k : model.Settings) (w : world.World) : Type 0 where
  pub passes : (n : ℕ) (f : ℕ → ℕ) → (run.step k (run.Pass n f) w).server ≡ occurs k (Passes n) w.server
  pub hears : (i : ℕ) (r : asked.Request) → world.sent i w.messages ≡ Some (world.Requests r) →
      ((run.step k (run.ServerHears i) w).server ≡ occurs k (Hears r) w.server) × ((run.step k (run.ServerHears i) w).messages ≡ run.replies (answer k w.server r) w.messages)
  pub hears_and_crashes : (i : ℕ) (r : asked.Request) (wrote : Bool) → world.sent i w.messages ≡ Some (world.Requests r) →
      (run.step k (run.ServerHearsAndCrashes i wrote) w).server ≡ occurs k (HearsAndCrashes r wrote) w.server
  pub crashes : (run.step k run.ServerCrashes w).server ≡ occurs k Crashes w.server
  pub forgets : (gone : ℕ → Bool) → (run.step k (run.Forgets gone) w).server ≡ occurs k (Forgets gone) w.server
  pub restarts : (clock : ℕ) (lost : Bool) → (run.step k (run.ServerRestarts clock lost) w).server ≡ occurs k (Restarts clock lost) w.server

abbrev pub EventsOfRuns : Type 0
EventsOfRuns = (k : model.Settings) (w : world.World) → Embeds k w

abbrev pub grant_of : Message → List given.Grant
grant_of (Request r) = []
grant_of (Grant g) = g ∷ []
grant_of (Settings n t e) = []
grant_of Tick = []
grant_of Crash = []
grant_of (Restart clock) = []
grant_of (OwnNumber n) = []
grant_of (Nonce n) = []
grant_of (InUse a u) = []
grant_of NoAddress = []
grant_of (Fault f) = []

-- the grants among a step's effects
abbrev pub grants_in : List Effect → List given.Grant
grants_in [] = []
grants_in (Persist w ∷ es) = grants_in es
grants_in (Send m ∷ es) = grant_of m ++ grants_in es

-- what a message can make happen: a tick, a request, a crash, a restart with a clock, or nothing
pub data Cause : Type 0 where
  Time : Cause
  Asking : asked.Request → Cause
  Falling : Cause
  Rising : (clock : ℕ) → Cause
  Other : Cause

abbrev pub cause_in : Answer → Cause
cause_in (Ok (Request r)) = Asking r
cause_in (Ok (Grant g)) = Other
cause_in (Ok (Settings n t e)) = Other
cause_in (Ok Tick) = Time
cause_in (Ok Crash) = Falling
cause_in (Ok (Restart clock)) = Rising clock
cause_in (Ok (OwnNumber n)) = Other
cause_in (Ok (Nonce n)) = Other
cause_in (Ok (InUse a u)) = Other
cause_in (Ok NoAddress) = Other
cause_in (Ok (Fault f)) = Other
cause_in (Err f) = Other

abbrev pub From : Cause → Event → Type 0
From o (Passes n) = (o ≡ Time) × (n ≡ 1)
From o (Hears r) = o ≡ Asking r
From o (HearsAndCrashes r wrote) = o ≡ Asking r
From o Crashes = o ≡ Falling
From o (Forgets gone) = Unit {0}
From o (Restarts clock lost) = o ≡ Rising clock

-- each event has that cause; what is over may be forgotten at any time
abbrev pub AllFrom : Cause → List Event → Type 0
AllFrom o [] = Unit {0}
AllFrom o (e ∷ es) = From o e × AllFrom o es

-- a state goes on to another as that of the lending core does, with these grants sent
pub record Refines (k : model.Settings) (s t : State) (gs : List given.Grant) (o : Cause) : Type 0 where
  pub events : List Event
  pub heard : AllFrom o events
  pub state : model_of k t ≡ occur k events (model_of k s)
  pub sends : gs ≡ sent k events (model_of k s)
  pub stands : Stands k t

-- EVERY STEP, whatever the bytes
abbrev pub StepRefines : Type 0
StepRefines = (k : model.Settings) (s : State) (bs : List ℕ) → Stands k s → Refines k s (hears bs s).state (grants_in (hears bs s).effects) (cause_in (understood bs s))

-- a server down, with this left on its device
abbrev pub down_with : Device → State → State
down_with d s = record { settings = s.settings; server = crashes s.server; device = d; cursor = s.cursor }

-- A CRASH WITHIN AN APPEND: after `i` whole writes, the next cut in any way, and before the grant is sent
abbrev pub CutRefines : Type 0
CutRefines =
    (k : model.Settings) (s : State) (r : asked.Request) (g : given.Grant) (i : ℕ) (c : Cut) → Stands k s → answer k s.server r ≡ Ok (Some g) →
    Refines k s (down_with (cut_at i c (writes (planned k s) (lease_of k s g)) s.device) s) [] (Asking r)

-- THE SETTINGS COME, and a device that is sound
abbrev pub SettlingStands : Type 0
SettlingStands =
    (k : model.Settings) (s : State) → k.addresses < 4096 → Sound 4096 s.device → s.server.silent ≡ None →
    Refines k s (settles k s).state (grants_in (settles k s).effects) (Rising s.server.clock)
