-- What a simulation stands for, what its events are in the model, and what a play of them leaves.
-- Assumes nothing.
use Rattle.std.specs.Prelude.{◌≡◌, ℕ, ◌+◌, ◌^◌, ◌<◌, ◌≤◌, Bool, true, false, ◌⊎◌, List, [], ◌∷◌, ◌++◌, map, reverse, length, get_or, take, Some, codes, Ok, Err, vec_items, vec_len, Result, ◌==◌, slice_index, slice_index_or}
use Rattle.lease.specs.declared.holder.Holder.{Holder}
use Rattle.lease.specs.Settings.{Settings}
use Rattle.lease.specs.Holding as held
use Rattle.lease.specs.World as world
use Rattle.lease.specs.Run as run
use Rattle.lease.specs.Of.{settings_of, holding_of}
use Rattle.lease.specs.Stands.{server_of, client_of, is_lost}
use Rattle.lease.specs.Premise.{Agree}
use Rattle.simulation.specs.declared.event.Sent.{Sent}
use Rattle.simulation.specs.declared.event.Sent.TheVariants.{Request, Grant}
use Rattle.simulation.specs.declared.event.Interrupted.{Interrupted}
use Rattle.simulation.specs.declared.event.Interrupted.TheVariants.{BeforeTheLease, AfterTheLease}
use Rattle.simulation.specs.declared.event.Event.{Event}
use Rattle.simulation.specs.declared.event.Event.TheVariants.{Pass, Ask, ServerHears, ServerHearsAndCrashes, ClientHears, ClientStarts, ClientCrashes, ServerCrashes, ServerRestarts}
use Rattle.simulation.specs.declared.event.Stop.{Stop}
use Rattle.simulation.specs.declared.event.Stop.TheVariants.{CountExhausted, NoSuchClient, NoMemory}
use Rattle.simulation.specs.declared.simulation.Simulation.{Simulation}

-- a client that hasn't started
abbrev pub off : world.Client
off = world.knowing_nothing 0 false

abbrev pub clients_of : List Holder → ℕ → world.Client
clients_of xs c = slice_index_or (map client_of xs) c off

abbrev pub message_of : Sent → world.Message
message_of (Request r) = world.Requests r
message_of (Grant g) = world.Grants g

-- the newest first
abbrev pub messages_of : List Sent → List world.Message
messages_of ms = reverse (map message_of ms)

-- the nonces of the requests
unfoldable pub nonces : List world.Message → List ℕ
nonces [] = []
nonces (world.Requests r ∷ ms) = r.nonce ∷ nonces ms
nonces (world.Grants g ∷ ms) = nonces ms

-- a request with this nonce
abbrev pub draws_it : ℕ → world.Message → Bool
draws_it n (world.Requests r) = n == r.nonce
draws_it n (world.Grants g) = false

abbrev pub settings_in : Simulation → Settings
settings_in x = settings_of x.keeper.settings

abbrev pub world_of : Simulation → world.World
world_of x =
    record {
      server = server_of x.keeper;
      clients = clients_of (vec_items x.clients);
      messages = messages_of (vec_items x.sent);
      drawn = nonces (messages_of (vec_items x.sent));
    }

abbrev pub wrote : Interrupted → Bool
wrote BeforeTheLease = false
wrote AfterTheLease = true

abbrev pub event_of : Event → run.Event
event_of (Pass k ts) = run.Pass k (λ c. slice_index ts.now c)
event_of (Ask c n p) = run.Asks c n p
event_of (ServerHears i) = run.ServerHears i
event_of (ServerHearsAndCrashes i x) = run.ServerHearsAndCrashes i (wrote x)
event_of (ClientHears c i) = run.ClientHears c i
event_of (ClientStarts c clock) = run.ClientStarts c clock
event_of (ClientCrashes c) = run.ClientCrashes c
event_of ServerCrashes = run.ServerCrashes
event_of (ServerRestarts clock found) = run.ServerRestarts clock (is_lost found)

-- a list of events as the model has it, the latest first
abbrev pub history : List Event → List run.Event
history es = reverse (map event_of es)

-- what a cause is called
abbrev pub stop_text : Stop → List ℕ
stop_text CountExhausted = codes "a clock would reach 2^63"
stop_text NoSuchClient = codes "no such client"
stop_text NoMemory = codes "out of memory"

-- what each cause says, where it can come
abbrev pub ByStop : Stop → (exhausted nobody memory : Type 0) → Type 0
ByStop CountExhausted p q r = p
ByStop NoSuchClient p q r = q
ByStop NoMemory p q r = r

-- some clock can't go on
abbrev pub NoTime : ℕ → (ℕ → ℕ) → world.World → Type 0
NoTime k f w = (2 ^ 63 ≤ w.server.clock + k) ⊎ ((c : ℕ) × ((w.clients c).up ≡ true) × (2 ^ 63 ≤ (w.clients c).clock + f c))

-- why an event may be refused, where there are `n` clients
abbrev pub Refused : Stop → (n : ℕ) → run.Event → world.World → Type 0
Refused x n (run.Pass k f) w = ByStop x (NoTime k f w) ⊥ ⊥
Refused x n (run.Asks c m p) w = ByStop x ⊥ (n ≤ c) Unit
Refused x n (run.ServerHears i) w = ByStop x ⊥ ⊥ Unit
Refused x n (run.ServerHearsAndCrashes i wrote) w = ⊥
Refused x n (run.ClientHears c i) w = ByStop x ⊥ (n ≤ c) ⊥
Refused x n (run.ClientStarts c clock) w = ByStop x (2 ^ 63 ≤ clock) (n ≤ c) ⊥
Refused x n (run.ClientCrashes c) w = ByStop x ⊥ (n ≤ c) ⊥
Refused x n run.ServerCrashes w = ⊥
Refused x n (run.Forgets gone) w = ⊥
Refused x n (run.ServerRestarts clock lost) w = ByStop x (2 ^ 63 ≤ clock) ⊥ ⊥

-- the event happened, or was refused and nothing happened
abbrev pub Happened : Result Unit Stop → (n : ℕ) → Settings → run.Event → world.World → world.World → Type 0
Happened (Ok u) n s e w v = v ≡ run.step s e w
Happened (Err x) n s e w v = (v ≡ w) × Refused x n e w

-- what a step leaves: what happened, with settings and clients as they were
pub record Stepped (r : Result Unit Stop) (e : run.Event) (x y : Simulation) : Type 0 where
  pub step : Happened r (vec_len x.clients) (settings_in x) e (world_of x) (world_of y)
  pub settings : settings_in y ≡ settings_in x
  pub clients : vec_len y.clients ≡ vec_len x.clients

-- no two of the clients use one address
abbrev pub Alone : List Holder → Type 0
Alone xs =
    (d : Holder) (i j : ℕ) (u v : held.Use) → i < length xs → j < length xs →
    (holding_of (get_or xs i d).holding).uses ≡ Some u → (holding_of (get_or xs j d).holding).uses ≡ Some v → u.address ≡ v.address → i ≡ j

-- a play ends at the first event that is refused: it happened up to there
abbrev pub PlayedTo : Stop → List Event → (past : List run.Event) → Simulation → Simulation → Type 0
PlayedTo stop es past x y =
    (i : ℕ) × (e : Event) × (i < length es) × (e ≡ slice_index_or es i e) × (world_of y ≡ run.world (settings_in x) (history (take i es) ++ past)) × Refused stop (vec_len x.clients) (event_of e) (world_of y)

-- THE PLAY, from any moment of any run: it goes on as the model does, and within the premise no two clients use one address
abbrev pub Played : Result Unit Stop → List Event → (past : List run.Event) → Simulation → Simulation → Type 0
Played (Ok u) es past x y =
    (world_of y ≡ run.world (settings_in x) (history es ++ past)) × (Agree (settings_in x) (history es ++ past) → Alone (vec_items y.clients))
Played (Err stop) es past x y = PlayedTo stop es past x y
