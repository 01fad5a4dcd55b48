-- A run of the lending core whose server is this one: each step of the server, and each crash within one, goes on with that run, so that its promise holds of it.
-- Assumes that a request which the server hears was sent; and the premise on clocks where it speaks of who uses what.
use Rattle.std.specs.Prelude.{◌≡◌, ℕ, ◌+◌, ◌^◌, ◌<◌, List, [], ◌∷◌, ◌++◌, Some, Ok, ◌≢◌}
use Rattle.lease.specs.declared.message.Grant as given
use Rattle.lease.specs.declared.message.Request as asked
use Rattle.lease.specs.Settings as model
use Rattle.lease.specs.World as world
use Rattle.lease.specs.Run as run
use Rattle.lease.specs.Run.{answer}
use Rattle.lease.specs.Premise.{Agree}
use Rattle.lease.specs.Promise.{Uses}
use Rattle.wire.specs.declared.message.Message.TheVariants.{Tick}
use Rattle.journal.specs.Place.{Blank}
use Rattle.journal.specs.declared.state.Side.{Side}
use Rattle.journal.specs.Device.{Cursor, Device}
use Rattle.journal.specs.Append.{writes}
use Rattle.journal.specs.Crash.{Cut, cut_at}
use Rattle.server.specs.Server.{State, fresh, hears, lease_of, planned, settles, understood}
use Rattle.server.specs.Refines.{Asking, Stands, Time, cause_in, down_with, grants_in, model_of}

-- events the latest first
pub record Follows (k : model.Settings) (es : List run.Event) (s : State) : Type 0 where
  pub stands : Stands k s
  pub same : (run.world k es).server ≡ model_of k s

-- A NEW SERVER with a device of zeros begins one
abbrev pub Begins : Type 0
Begins =
    (k : model.Settings) (d : Device) (c : Cursor) → k.addresses < 4096 → ((q : Side) (i : ℕ) → i < 4096 → d q i ≡ Blank) →
    Follows k [] (settles k (fresh d c)).state

-- the request was sent in this run
abbrev pub Sent : model.Settings → List run.Event → asked.Request → Type 0
Sent k es r = (i : ℕ) × (world.sent i (run.world k es).messages ≡ Some (world.Requests r))

abbrev pub sent_on : List given.Grant → List world.Message → List world.Message
sent_on [] ms = ms
sent_on (g ∷ gs) ms = sent_on gs (world.Grants g ∷ ms)

-- no two clients use one address
abbrev pub NoTwo : model.Settings → List run.Event → Type 0
NoTwo k es = Agree k es → (a c d : ℕ) → Uses (run.world k es) c a → Uses (run.world k es) d a → c ≡ d

-- the run goes on, with the clients as they were and these grants sent
pub record GoesOn (k : model.Settings) (es : List run.Event) (t : State) (gs : List given.Grant) : Type 0 where
  pub whole : List run.Event
  pub more : List run.Event
  pub split : whole ≡ more ++ es
  pub follows : Follows k whole t
  pub clients : (run.world k whole).clients ≡ (run.world k es).clients
  pub messages : (run.world k whole).messages ≡ sent_on gs (run.world k es).messages
  pub never_two : NoTwo k whole

-- ANY MESSAGE BUT A TICK
abbrev pub RunGoesOn : Type 0
RunGoesOn =
    (k : model.Settings) (es : List run.Event) (s : State) (bs : List ℕ) → Follows k es s →
    (cause_in (understood bs s) ≢ Time) → ((r : asked.Request) → cause_in (understood bs s) ≡ Asking r → Sent k es r) →
    GoesOn k es (hears bs s).state (grants_in (hears bs s).effects)

-- A TICK, while each client's clock goes on by ticks of its own
abbrev pub RunTicks : Type 0
RunTicks =
    (k : model.Settings) (es : List run.Event) (s : State) (bs : List ℕ) (f : ℕ → ℕ) → Follows k es s → understood bs s ≡ Ok Tick → s.server.clock + 1 < 2 ^ 63 →
    Follows k (run.Pass 1 f ∷ es) (hears bs s).state × NoTwo k (run.Pass 1 f ∷ es)

-- A CRASH WITHIN AN APPEND
abbrev pub RunIsCut : Type 0
RunIsCut =
    (k : model.Settings) (es : List run.Event) (s : State) (r : asked.Request) (g : given.Grant) (i : ℕ) (c : Cut) → Follows k es s → Sent k es r → answer k s.server r ≡ Ok (Some g) →
    GoesOn k es (down_with (cut_at i c (writes (planned k s) (lease_of k s g)) s.device) s) []
