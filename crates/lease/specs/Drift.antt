-- Runs in which the server's clock gains on the clients' by a bounded number of ticks in all: how the premise is met.
-- Assumes nothing.
use Rattle.std.specs.Prelude.{ℕ, ◌+◌, ◌-◌, ◌≤◌, List, [], ◌∷◌}
use Rattle.lease.specs.Settings.{Settings}
use Rattle.lease.specs.World.{World}
use Rattle.lease.specs.Run.{Event, Pass, Asks, ServerHears, ServerHearsAndCrashes, ClientHears, ClientStarts, ClientCrashes, ServerCrashes, Forgets, ServerRestarts, world}
use Rattle.lease.specs.Premise.{AgreeClosely}

-- at this event the server's clock gains at most `x` ticks on any client's, and loses none
abbrev pub Gains : ℕ → Event → World → Type 0
Gains x (Pass k f) w = (c : ℕ) → (f c ≤ k) × (k ≤ f c + x)
Gains x (Asks d n p) w = Unit
Gains x (ServerHears i) w = Unit
Gains x (ServerHearsAndCrashes i wrote) w = Unit
Gains x (ClientHears d i) w = Unit
Gains x (ClientStarts d clock) w = Unit
Gains x (ClientCrashes d) w = Unit
Gains x ServerCrashes w = Unit
Gains x (Forgets gone) w = Unit
Gains x (ServerRestarts clock lost) w = (w.server.clock ≤ clock) × (clock ≤ w.server.clock + x)

-- and at most `n` in the whole run
unfoldable pub GainsAtMost : Settings → ℕ → List Event → Type 0
GainsAtMost s n [] = Unit
GainsAtMost s n (e ∷ es) = (x : ℕ) × (x ≤ n) × Gains x e (world s es) × GainsAtMost s (n - x) es

abbrev pub LittleDrift : Type 0
LittleDrift = (s : Settings) (es : List Event) → GainsAtMost s s.skew es → AgreeClosely s es
