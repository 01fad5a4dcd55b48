-- For which server and which client of the model a value of the code stands, and the contract of each step by it.
-- Assumes nothing.
use Rattle.std.specs.Prelude.{◌≡◌, ℕ, ◌+◌, ◌^◌, ◌≤◌, Bool, true, false, cond, List, Some, None, Ok, Err, Option, Result, nat_lt}
use Rattle.lease.specs.declared.found.Found.{Found}
use Rattle.lease.specs.declared.found.Found.TheVariants.{Table, Nothing}
use Rattle.lease.specs.declared.fault.Fault.{Fault}
use Rattle.lease.specs.declared.fault.Fault.TheVariants.{CountExhausted}
use Rattle.lease.specs.declared.lease.Lease.{Lease}
use Rattle.lease.specs.declared.message.Request.{Request}
use Rattle.lease.specs.declared.message.Grant.{Grant}
use Rattle.lease.specs.declared.keeper.Keeper.{Keeper}
use Rattle.lease.specs.declared.holder.Holder.{Holder}
use Rattle.lease.specs.Settings.{Settings}
use Rattle.lease.specs.Table as lent
use Rattle.lease.specs.Table.{table_of}
use Rattle.lease.specs.World.{Server, Client, start, knowing_nothing}
use Rattle.lease.specs.Run.{Answer, server_passes, answer, serves, crashes, restarts, client_passes, asked, hearing}
use Rattle.lease.specs.Of.{settings_of, holding_of, map_ok}

abbrev pub server_of : Keeper → Server
server_of k = record { clock = k.clock.ticks; up = k.up; silent = k.silent; table = table_of k.table }

abbrev pub client_of : Holder → Client
client_of h = record { clock = h.clock.ticks; up = h.up; holding = holding_of h.holding }

-- a keeper stands for a server that runs by these settings
abbrev pub Stands : Settings → Keeper → Server → Type 0
Stands s k v = (settings_of k.settings ≡ s) × (server_of k ≡ v)

abbrev pub StandsFor : Holder → Client → Type 0
StandsFor h x = client_of h ≡ x

-- THE KEEPER'S STEPS, from `k` to `l`
abbrev pub KeeperMade : Settings → Keeper → Type 0
KeeperMade s k = (settings_of k.settings ≡ s) × (server_of k ≡ start.server)

-- time passed, or its clock would reach 2^63 and nothing changed
abbrev pub KeeperPassed : Result Unit Fault → (ticks : ℕ) → Keeper → Keeper → Type 0
KeeperPassed (Ok u) n k l = (l.settings ≡ k.settings) × (server_of l ≡ server_passes n (server_of k))
KeeperPassed (Err f) n k l = (l.settings ≡ k.settings) × (server_of l ≡ server_of k) × (f ≡ CountExhausted) × (2 ^ 63 ≤ k.clock.ticks + n)

abbrev pub KeeperAnswered : Request → Answer → Keeper → Keeper → Type 0
KeeperAnswered r x k l = (x ≡ answer (settings_of k.settings) (server_of k) r) × (l.settings ≡ k.settings) × (server_of l ≡ serves (settings_of k.settings) x (server_of k))

abbrev pub with_table : Server → lent.Table → Server
with_table v t = record { clock = v.clock; up = v.up; silent = v.silent; table = t }

-- a lease of the pool is written; another is passed over
abbrev pub KeeperWrote : Lease → Keeper → Keeper → Type 0
KeeperWrote x k l =
    (l.settings ≡ k.settings) × (server_of l ≡ with_table (server_of k) (cond (nat_lt x.address k.settings.addresses) (lent.written x (server_of k).table) (server_of k).table))

abbrev pub KeeperLoaded : List (Option Lease) → Keeper → Keeper → Type 0
KeeperLoaded xs k l = (l.settings ≡ k.settings) × (server_of l ≡ with_table (server_of k) (lent.loaded k.settings.addresses xs))

abbrev pub KeeperCrashed : Keeper → Keeper → Type 0
KeeperCrashed k l = (l.settings ≡ k.settings) × (server_of l ≡ crashes (server_of k))

abbrev pub is_lost : Found → Bool
is_lost Table = false
is_lost Nothing = true

abbrev pub KeeperRestarted : (clock : ℕ) → (lost : Bool) → Keeper → Keeper → Type 0
KeeperRestarted clock lost k l = (l.settings ≡ k.settings) × (server_of l ≡ restarts (settings_of k.settings) clock lost (server_of k))

-- THE HOLDER'S, from `h`
abbrev pub HolderStarted : (clock : ℕ) → Holder → Type 0
HolderStarted clock l = client_of l ≡ knowing_nothing clock true

abbrev pub HolderCrashed : Holder → Holder → Type 0
HolderCrashed h l = client_of l ≡ knowing_nothing h.clock.ticks false

abbrev pub HolderPassed : Result Holder Fault → (ticks : ℕ) → Holder → Type 0
HolderPassed (Ok l) n h = client_of l ≡ client_passes n (client_of h)
HolderPassed (Err f) n h = (h.up ≡ true) × (f ≡ CountExhausted) × (2 ^ 63 ≤ h.clock.ticks + n)

-- it asks, and what it sends; one that is down does neither
abbrev pub HolderAsked : (own nonce preferred : ℕ) → Holder → Holder → Option Request → Type 0
HolderAsked own n p h l o =
    (client_of l ≡ cond h.up (asked n (client_of h)) (client_of h)) × (o ≡ cond h.up (Some (record { client = own; nonce = n; preferred = p })) None)

abbrev pub HolderHeard : (term own : ℕ) → Grant → Result Holder Fault → Holder → Type 0
HolderHeard term own g r h = map_ok client_of r ≡ hearing term own g (client_of h)
