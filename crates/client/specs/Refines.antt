-- A client's steps are steps of a client of the lending model, made of the very definitions of that model.
-- Assumes nothing.
use Rattle.std.specs.Prelude.{◌≡◌, ℕ, true, false, List, [], ◌∷◌, ◌++◌, Some, Ok, Err}
use Rattle.lease.specs.declared.message.Request.{Request}
use Rattle.lease.specs.declared.message.Grant.{Grant}
use Rattle.lease.specs.Settings.{Settings}
use Rattle.lease.specs.Holding.{settled}
use Rattle.lease.specs.World as world
use Rattle.lease.specs.World.{knowing_nothing}
use Rattle.lease.specs.Run.{client_passes, asked, hearing}
use Rattle.wire.specs.declared.message.Message.{Message}
use Rattle.wire.specs.declared.message.Message.TheVariants as message
use Rattle.wire.specs.Decode.{Answer}
use Rattle.client.specs.State.{State}
use Rattle.client.specs.Client.{Client, Step}
use Rattle.client.specs.Nonces.{requests}

-- what a client of the model does
pub data Act : Type 0 where
  Passes : Act
  Asks : Request → Act
  Hears : (own : ℕ) → Settings → Grant → Act
  Crashes : Act
  Starts : (clock : ℕ) → Act

abbrev pub act : Act → world.Client → world.Client
act Passes x = client_passes 1 x
act (Asks r) x = asked r.nonce x
act (Hears own k g) x = settled x (hearing k.term own g x)
act Crashes x = knowing_nothing x.clock false
act (Starts clock) x = knowing_nothing clock true

-- one after the other, the oldest first
unfoldable pub acts : List Act → world.Client → world.Client
acts [] x = x
acts (a ∷ more) x = acts more (act a x)

-- it asks while it is up, and under its own number; it hears by its settings
abbrev pub Fits : State → Act → world.Client → Type 0
Fits s Passes x = Unit
Fits s (Asks r) x = (s.own ≡ Some r.client) × (x.up ≡ true)
Fits s (Hears own k g) x = (s.own ≡ Some own) × (s.settings ≡ Some k)
Fits s Crashes x = Unit
Fits s (Starts clock) x = Unit

unfoldable pub Fit : State → List Act → world.Client → Type 0
Fit s [] x = Unit
Fit s (a ∷ more) x = Fits s a x × Fit s more (act a x)

abbrev pub sends : Act → List Request
sends Passes = []
sends (Asks r) = r ∷ []
sends (Hears own k g) = []
sends Crashes = []
sends (Starts clock) = []

unfoldable pub sent : List Act → List Request
sent [] = []
sent (a ∷ more) = sends a ++ sent more

-- a step is some of these, and the requests put out are exactly theirs
pub record Refines (c : Client) (p : Step) : Type 0 where
  pub does : List Act
  pub fit : Fit p.client.state does c.state.holder
  pub holder : p.client.state.holder ≡ acts does c.state.holder
  pub requested : requests p.says ≡ sent does

-- what each comes from, in the message heard; it may ask at any
abbrev pub From : Message → Act → Type 0
From m Passes = m ≡ message.Tick
From m (Asks r) = Unit {0}
From m (Hears own k g) = m ≡ message.Grant g
From m Crashes = m ≡ message.Crash
From m (Starts clock) = m ≡ message.Restart clock

unfoldable pub AllFrom : Message → List Act → Type 0
AllFrom m [] = Unit
AllFrom m (a ∷ more) = From m a × AllFrom m more

-- bytes that say nothing make it do nothing
abbrev pub HeardIn : Answer → List Act → Type 0
HeardIn (Ok m) ds = AllFrom m ds
HeardIn (Err f) ds = ds ≡ []

-- and each of them comes from what was heard
pub record RefinesHeard (a : Answer) (c : Client) (p : Step) : Type 0 where
  pub refines : Refines c p
  pub heard : HeardIn a refines.does
