-- A client with its nonces: when it asks, and what it makes of any byte string that it hears.
-- Assumes nothing.
use Rattle.std.specs.Prelude.{ℕ, Bool, cond, ◌&&◌, List, [], ◌∷◌, ◌++◌, Some, None, Ok, Err, Option, Result}
use Rattle.std.specs.Option.{option_map}
use Rattle.lease.specs.declared.fault.Fault as lease
use Rattle.lease.specs.Settings as model
use Rattle.lease.specs.Run.{asked}
use Rattle.retry.specs.Schedule.{requested, is_due}
use Rattle.wire.specs.declared.message.Message.{Message}
use Rattle.wire.specs.declared.message.Message.TheVariants.{Request, Grant, Settings, Tick, Crash, Restart, OwnNumber, Nonce, InUse, NoAddress, Fault}
use Rattle.wire.specs.declared.reader.Reader.TheVariants as reader
use Rattle.wire.specs.Decode.{Answer, decoded}
use Rattle.wire.specs.Read.{read}
use Rattle.client.specs.State.{State, Turn, started, in_use, until, does}

-- nonces: lent to it and not yet used, the oldest first
pub record Client : Type 0 where
  pub state : State
  pub nonces : List ℕ

pub record Step : Type 0 where
  pub client : Client
  pub says : List Message

-- a new client: its clock is at 0
abbrev pub fresh : Client
fresh = record { state = started 0; nonces = [] }

-- the address that it had last, or none
abbrev pub preferred : model.Settings → Option ℕ → ℕ
preferred k None = k.addresses
preferred k (Some a) = a

-- it asks with this nonce: the request takes the place of one that waits, and the schedule goes on
abbrev pub requests : (nonce : ℕ) → State → State
requests n s =
    record {
      settings = s.settings;
      own = s.own;
      holder = asked n s.holder;
      schedule = requested s.schedule s.holder.clock (option_map until (in_use s));
      last = s.last;
    }

abbrev pub keeps : Turn → List ℕ → Step
keeps t ns = record { client = record { state = t.state; nonces = ns }; says = t.says }

abbrev pub sends : (k : model.Settings) (own nonce : ℕ) → Turn → List ℕ → Step
sends k own n t ns =
    record {
      client = record { state = requests n t.state; nonces = ns };
      says = t.says ++ (Request (record { client = own; nonce = n; preferred = preferred k t.state.last }) ∷ []);
    }

abbrev pub ready : State → Bool
ready s = s.holder.up && is_due s.schedule s.holder.clock

-- with settings and a number of its own, up, due and with a nonce at hand it asks, with the oldest
abbrev pub asks_by : Option model.Settings → (own : Option ℕ) → Turn → List ℕ → Step
asks_by None own t ns = keeps t ns
asks_by (Some k) None t ns = keeps t ns
asks_by (Some k) (Some own) t [] = keeps t []
asks_by (Some k) (Some own) t (n ∷ ns) = cond (ready t.state) (sends k own n t ns) (keeps t (n ∷ ns))

abbrev pub asks : Turn → List ℕ → Step
asks t ns = asks_by t.state.settings t.state.own t ns

-- the nonce that a message lends
abbrev pub lends : Message → List ℕ
lends (Request r) = []
lends (Grant g) = []
lends (Settings n t k) = []
lends Tick = []
lends Crash = []
lends (Restart clock) = []
lends (OwnNumber n) = []
lends (Nonce n) = n ∷ []
lends (InUse a u) = []
lends NoAddress = []
lends (Fault f) = []

abbrev pub lent_by : Option Message → List ℕ
lent_by None = []
lent_by (Some m) = lends m

-- the nonce that these bytes lend
abbrev pub lent : List ℕ → List ℕ
lent bs = lent_by (read bs)

-- it is put behind the others
abbrev pub queued : Message → List ℕ → List ℕ
queued m ns = ns ++ lends m

-- a refusal changes nothing
abbrev pub refuses : lease.Fault → Client → Step
refuses f c = record { client = c; says = Fault f ∷ [] }

abbrev pub goes_on : Client → List ℕ → Result Turn lease.Fault → Step
goes_on c ns (Ok t) = asks t ns
goes_on c ns (Err f) = refuses f c

abbrev pub answers : Client → Answer → Step
answers c (Ok m) = goes_on c (queued m c.nonces) (does m c.state)
answers c (Err f) = refuses f c

abbrev pub size : model.Settings → ℕ
size k = k.addresses

-- what these bytes say to the client
abbrev pub understood : List ℕ → Client → Answer
understood bs c = decoded reader.Client (option_map size c.state.settings) bs

-- what it makes of them
unfoldable pub hears : List ℕ → Client → Step
hears bs c = answers c (understood bs c)
