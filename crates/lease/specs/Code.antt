-- What an implementation of server and of client must be: its states, what it does at each event, what it answers and sends, and that nothing else of it changes.
-- Assumes nothing.
use Rattle.std.specs.Prelude.{◌≡◌, ℕ, ◌+◌, ◌^◌, ◌≤◌, Bool, true, false, cond, Some, None, Ok, Err, Option, Result}
use Rattle.lease.specs.declared.fault.Fault.{Fault}
use Rattle.lease.specs.declared.fault.Fault.TheVariants.{CountExhausted}
use Rattle.lease.specs.declared.message.Request.{Request}
use Rattle.lease.specs.declared.message.Grant.{Grant}
use Rattle.lease.specs.declared.keeper.Keeper.{Keeper}
use Rattle.lease.specs.declared.holder.Holder.{Holder}
use Rattle.lease.specs.Settings.{Settings}
use Rattle.lease.specs.Holding.{settled}
use Rattle.lease.specs.World.{Server, Client, start, knowing_nothing}
use Rattle.lease.specs.Run.{Answer, server_passes, answer, serves, crashes, restarts, client_passes, asked, hearing}
use Rattle.lease.specs.Stands.{Stands, StandsFor, KeeperMade, KeeperPassed, KeeperAnswered, KeeperCrashed, KeeperRestarted, HolderStarted, HolderCrashed, HolderPassed, HolderAsked, HolderHeard}

-- a server: each relation is what a step ensures, of the state before, what came of it, and the state after
pub record ServerCode (State : Type 0) (stands : Settings → State → Server → Type 0) (made : Settings → State → Type 0) (passed : Result Unit Fault → ℕ → State → State → Type 0)
    (answered : Request → Answer → State → State → Type 0) (crashed : State → State → Type 0) (restarted : ℕ → Bool → State → State → Type 0) : Type 0 where
  pub one : (s t : Settings) (k : State) (v w : Server) → stands s k v → stands t k w → (s ≡ t) × (v ≡ w)
  pub made_so : (s : Settings) (k : State) → made s k → stands s k start.server
  pub passed_so : (s : Settings) (k l : State) (v : Server) (n : ℕ) (u : Unit) → stands s k v → passed (Ok u) n k l → stands s l (server_passes n v)
  pub passed_not : (s : Settings) (k l : State) (v : Server) (n : ℕ) (f : Fault) → stands s k v → passed (Err f) n k l → stands s l v × (f ≡ CountExhausted) × (2 ^ 63 ≤ v.clock + n)
  pub answered_so : (s : Settings) (k l : State) (v : Server) (r : Request) (x : Answer) → stands s k v → answered r x k l → (x ≡ answer s v r) × stands s l (serves s x v)
  pub crashed_so : (s : Settings) (k l : State) (v : Server) → stands s k v → crashed k l → stands s l (crashes v)
  pub restarted_so : (s : Settings) (k l : State) (v : Server) (clock : ℕ) (lost : Bool) → stands s k v → restarted clock lost k l → stands s l (restarts s clock lost v)

-- a client
pub record ClientCode (State : Type 0) (stands : State → Client → Type 0) (started : ℕ → State → Type 0) (crashed : State → State → Type 0) (passed : Result State Fault → ℕ → State → Type 0)
    (asks : (own nonce preferred : ℕ) → State → State → Option Request → Type 0) (heard : (term own : ℕ) → Grant → Result State Fault → State → Type 0) : Type 0 where
  pub one : (h : State) (x y : Client) → stands h x → stands h y → x ≡ y
  pub started_so : (clock : ℕ) (l : State) → started clock l → stands l (knowing_nothing clock true)
  pub crashed_so : (h l : State) (x : Client) → stands h x → crashed h l → stands l (knowing_nothing x.clock false)
  pub passed_so : (h l : State) (x : Client) (n : ℕ) → stands h x → passed (Ok l) n h → stands l (client_passes n x)
  pub passed_not : (h : State) (x : Client) (n : ℕ) (f : Fault) → stands h x → passed (Err f) n h → (x.up ≡ true) × (f ≡ CountExhausted) × (2 ^ 63 ≤ x.clock + n)
  pub asks_so : (own n p : ℕ) (h l : State) (x : Client) (o : Option Request) → stands h x → asks own n p h l o →
      stands l (cond x.up (asked n x) x) × (o ≡ cond x.up (Some (record { client = own; nonce = n; preferred = p })) None)
  pub heard_so : (term own : ℕ) (g : Grant) (h l : State) (x : Client) → stands h x → heard term own g (Ok l) h → stands l (settled x (hearing term own g x))
  pub heard_not : (term own : ℕ) (g : Grant) (h : State) (x : Client) (f : Fault) → stands h x → heard term own g (Err f) h → hearing term own g x ≡ Err f

-- the code is such
abbrev pub ServerImplements : Type 0
ServerImplements = ServerCode Keeper Stands KeeperMade KeeperPassed KeeperAnswered KeeperCrashed KeeperRestarted

abbrev pub ClientImplements : Type 0
ClientImplements = ClientCode Holder StandsFor HolderStarted HolderCrashed HolderPassed HolderAsked HolderHeard
