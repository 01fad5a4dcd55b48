-- A server's state, and what it makes of each message that it hears.
-- Assumes nothing: every byte string has its step.
use Rattle.std.specs.Prelude.{ℕ, ◌+◌, ◌^◌, Bool, true, false, cond, List, [], ◌∷◌, length, Some, None, Ok, Err, Option, nat_le, nat_lt}
use Rattle.std.specs.Option.{option_map}
use Rattle.lease.specs.declared.fault.Fault as lease
use Rattle.lease.specs.declared.fault.Fault.TheVariants.{Malformed, BadSettings, TableLost, CountExhausted}
use Rattle.lease.specs.declared.lease.Lease.{Lease}
use Rattle.lease.specs.declared.message.Grant as given
use Rattle.lease.specs.declared.message.Request as asked
use Rattle.lease.specs.Settings as model
use Rattle.lease.specs.Settings.{life, valid}
use Rattle.lease.specs.Table.{Table, empty, leased}
use Rattle.lease.specs.World as world
use Rattle.lease.specs.Run as run
use Rattle.lease.specs.Run.{answer, crashes, lends, restarts, server_passes}
use Rattle.lease.specs.Stands.{with_table}
use Rattle.wire.specs.declared.message.Message.{Message}
use Rattle.wire.specs.declared.message.Message.TheVariants.{Request, Grant, Settings, Tick, Crash, Restart, OwnNumber, Nonce, InUse, NoAddress, Fault}
use Rattle.wire.specs.declared.reader.Reader.TheVariants as reader
use Rattle.wire.specs.Decode.{Answer, decoded}
use Rattle.journal.specs.Device.{Device, Choice, New, Lost, Found, chosen, Cursor, cursor, leases}
use Rattle.journal.specs.Append.{Plan, plan, exhausted, writes, after, perform}
use Rattle.journal.specs.Image.{index}
use Rattle.server.specs.declared.effect.Effect.{Effect}
use Rattle.server.specs.declared.effect.Effect.TheVariants.{Persist, Send}

-- settings: as far as they are known; server: its clock, whether it is up, its silence, and the table in memory;
-- device: what its places hold; cursor: where the next record goes
pub record State : Type 0 where
  pub settings : Option model.Settings
  pub server : world.Server
  pub device : Device
  pub cursor : Cursor

-- what a message makes of it, and what is to be done outside then, in order
pub record Step : Type 0 where
  pub state : State
  pub effects : List Effect

abbrev pub with_server : world.Server → State → State
with_server v s = record { settings = s.settings; server = v; device = s.device; cursor = s.cursor }

abbrev pub silently : State → Step
silently s = record { state = s; effects = [] }

-- a refusal changes nothing
abbrev pub refuses : lease.Fault → State → Step
refuses f s = record { state = s; effects = Send (Fault f) ∷ [] }

-- READING THE DEVICE
abbrev pub is_lost : Choice → Bool
is_lost New = false
is_lost Lost = true
is_lost (Found s) = false

-- the leases on a device that are of the pool
abbrev pub pooled : (pool : ℕ) → Device → Table
pooled n d a = cond (nat_lt a n) (leases 4096 d a) None

-- what a server that reads this device then is
abbrev pub rereads : model.Settings → (clock : ℕ) → Device → world.Server → world.Server
rereads k clock d v = restarts k clock (is_lost (chosen 4096 d)) (with_table v (pooled k.addresses d))

-- the silence is told when it begins
abbrev pub tells : Option ℕ → List Effect
tells None = []
tells (Some u) = Send (Fault TableLost) ∷ []

abbrev pub reads : model.Settings → (clock : ℕ) → State → Step
reads k clock s =
    record {
      state = record { settings = Some k; server = rereads k clock s.device s.server; device = s.device; cursor = cursor 4096 s.device };
      effects = tells (rereads k clock s.device s.server).silent;
    }

-- A REQUEST
-- what the lease that is granted now writes to the device
abbrev pub planned : model.Settings → State → Plan
planned k s = plan 4096 k.addresses s.server.clock s.cursor s.server.table

abbrev pub lease_of : model.Settings → State → given.Grant → Lease
lease_of k s g = leased s.server.clock (life k) g.client g.address

abbrev pub appends : model.Settings → given.Grant → Plan → Lease → State → Step
appends k g p x s =
    record {
      state = record { settings = s.settings; server = lends k g s.server; device = perform (writes p x) s.device; cursor = after s.cursor p };
      effects = Persist (record { first = index p.side p.place; count = length (writes p x) }) ∷ (Send (Grant g) ∷ []);
    }

-- where sequence numbers would reach 2^63 nothing is written
abbrev pub grants : model.Settings → given.Grant → State → Step
grants k g s = cond (exhausted (planned k s)) (refuses CountExhausted s) (appends k g (planned k s) (lease_of k s g) s)

abbrev pub replies : model.Settings → run.Answer → State → Step
replies k (Ok None) s = silently s
replies k (Ok (Some g)) s = grants k g s
replies k (Err f) s = refuses f s

abbrev pub requested : Option model.Settings → asked.Request → State → Step
requested None r s = refuses BadSettings s
requested (Some k) r s = replies k (answer k s.server r) s

-- TIME, CRASHES AND SETTINGS
-- the clock goes on, also while the server is down
abbrev pub ticks : State → Step
ticks s = cond (nat_le (2 ^ 63) (s.server.clock + 1)) (refuses CountExhausted s) (silently (with_server (server_passes 1 s.server) s))

-- up, with the device not read yet
abbrev pub rises : (clock : ℕ) → world.Server → world.Server
rises clock v = record { clock = clock; up = true; silent = v.silent; table = v.table }

abbrev pub comes_back : Option model.Settings → (clock : ℕ) → State → Step
comes_back None clock s = silently (with_server (rises clock s.server) s)
comes_back (Some k) clock s = reads k clock s

abbrev pub restarted : (clock : ℕ) → State → Step
restarted clock s = cond (nat_le (2 ^ 63) clock) (refuses CountExhausted s) (comes_back s.settings clock s)

-- with settings the device can be read, by a server that is up
abbrev pub settles : model.Settings → State → Step
settles k s =
    cond s.server.up (reads k s.server.clock s)
    (silently (record { settings = Some k; server = s.server; device = s.device; cursor = s.cursor }))

-- settings are given once
abbrev pub learns : Option model.Settings → (addresses term skew : ℕ) → State → Step
learns None n t e s = cond (valid n t e) (settles (record { addresses = n; term = t; skew = e }) s) (refuses BadSettings s)
learns (Some k) n t e s = refuses BadSettings s

-- what a message makes of it; the other kinds are none of a server's
abbrev pub does : Message → State → Step
does (Request r) s = requested s.settings r s
does (Grant g) s = refuses Malformed s
does (Settings n t e) s = learns s.settings n t e s
does Tick s = ticks s
does Crash s = silently (with_server (crashes s.server) s)
does (Restart clock) s = restarted clock s
does (OwnNumber n) s = refuses Malformed s
does (Nonce n) s = refuses Malformed s
does (InUse a u) s = refuses Malformed s
does NoAddress s = refuses Malformed s
does (Fault f) s = refuses Malformed s

abbrev pub answers : Answer → State → Step
answers (Ok m) s = does m s
answers (Err f) s = refuses f s

abbrev pub size : model.Settings → ℕ
size k = k.addresses

-- what these bytes say to a server with the settings known so far
abbrev pub understood : List ℕ → State → Answer
understood bs s = decoded reader.Server (option_map size s.settings) bs

-- WHAT A SERVER MAKES OF WHAT IT HEARS
unfoldable pub hears : List ℕ → State → Step
hears bs s = answers (understood bs s) s

-- settings alone want memory: that of the table
abbrev pub settling : Message → Bool
settling (Request r) = false
settling (Grant g) = false
settling (Settings n t e) = true
settling Tick = false
settling Crash = false
settling (Restart clock) = false
settling (OwnNumber n) = false
settling (Nonce n) = false
settling (InUse a u) = false
settling NoAddress = false
settling (Fault f) = false

abbrev pub settling_by : Answer → Bool
settling_by (Ok m) = settling m
settling_by (Err f) = false

-- a new server with this device, which it has not read yet
abbrev pub fresh : Device → Cursor → State
fresh d c = record { settings = None; server = record { clock = 0; up = true; silent = None; table = empty }; device = d; cursor = c }
