-- Runs that show that the promise isn't empty: each is within the premises.
-- Assumes nothing.
use Rattle.std.specs.Prelude.{◌≡◌, ℕ, zero, suc, true, false, List, [], ◌∷◌, Some}
use Rattle.lease.specs.Settings.{Settings}
use Rattle.lease.specs.Holding.{taken}
use Rattle.lease.specs.World.{lending}
use Rattle.lease.specs.Run.{Event, Pass, ClientStarts, ServerCrashes, ServerRestarts, world}
use Rattle.lease.specs.Premise.{AgreeClosely}
use Rattle.lease.specs.Promise.{Uses, asked_and_heard}
use Rattle.lease.specs.Cases.{ticks, single}

-- one address, and clocks that may not differ at all
abbrev pub exact : Settings
exact = record { addresses = 1; term = 60; skew = 0 }

-- two clients start, and the first has the address
abbrev pub lent : List Event
lent = asked_and_heard 1 70 1 (ClientStarts 2 0 ∷ (ClientStarts 1 0 ∷ []))

-- with no skew at all the lease expires, and its address is lent on
abbrev pub lent_on : List Event
lent_on = asked_and_heard 2 80 1 (ticks 61 ∷ lent)

pub record LentOn : Type 0 where
  pub premise : AgreeClosely exact lent_on
  pub before : Uses (world exact lent) 1 0
  pub after : Uses (world exact lent_on) 2 0

-- with a skew of 5 the client uses its address at its very last tick, when the server's clock shows the lease's end
abbrev pub last_tick : List Event
last_tick = Pass 105 (λ c. 100) ∷ lent

pub record LastTick : Type 0 where
  pub premise : AgreeClosely single last_tick
  pub holding : ((world single last_tick).clients 1).holding ≡ taken 100 0 0
  pub clock : ((world single last_tick).clients 1).clock ≡ 100
  pub lease : (world single last_tick).server.table 0 ≡ Some (record { address = 0; client = 1; expires = (world single last_tick).server.clock })

-- the table is lost while its address is in use; in the silence nothing is lent; after it the address is
abbrev pub lost : List Event
lost = ServerRestarts 30 true ∷ (ServerCrashes ∷ (ticks 30 ∷ lent))

abbrev pub quiet : List Event
quiet = ticks 110 ∷ lost

abbrev pub lent_anew : List Event
lent_anew = asked_and_heard 2 80 1 (ticks 1 ∷ quiet)

pub record LentAnew : Type 0 where
  pub premise : AgreeClosely single lent_anew
  pub before : Uses (world single lost) 1 0
  pub silent : lending (world single quiet).server ≡ false
  pub after : Uses (world single lent_anew) 2 0

-- a client asks again every 60 ticks
unfoldable pub renewed : ℕ → List Event
renewed zero = lent
renewed (suc n) = asked_and_heard 1 n 1 (ticks 60 ∷ renewed n)

-- and keeps its address, long after the first lease would have ended
pub record Renewed : Type 0 where
  pub premise : AgreeClosely single (renewed 10)
  pub holding : ((world single (renewed 10)).clients 1).holding ≡ taken 100 0 600
