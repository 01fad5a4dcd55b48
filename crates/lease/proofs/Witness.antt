-- The runs that show that the promise isn't empty.
-- Assumes nothing.
use Rattle.std.proofs.Common.{◌≡◌, ℕ, zero, suc, ◌-◌, List, [], ◌∷◌, refl, arith}
use Rattle.lease.specs.Settings.{Settings}
use Rattle.lease.specs.Choosing.{lowest}
use Rattle.lease.specs.World.{elem, sent}
use Rattle.lease.specs.Run.{Event, world}
use Rattle.lease.specs.Promise.{asked_and_heard}
use Rattle.lease.specs.Drift.{Gains, GainsAtMost}
use Rattle.lease.specs.Cases.{ticks, single}
use Rattle.lease.specs.Witness.{exact, lent, lent_on, LentOn, last_tick, LastTick, lost, lent_anew, LentAnew, renewed, Renewed}
use Rattle.lease.proofs.Drift.{little_drift}

-- events at which no clock gains
by : (s : Settings) (n : ℕ) (e : Event) (es : List Event) → Gains 0 e (world s es) → GainsAtMost s n es → GainsAtMost s n (e ∷ es)
unfolding GainsAtMost
by s n e es g rest = let z : n ≡ n - 0 = omega arith in (0, omega arith, g, rw (← z) rest)

by_ticks : (s : Settings) (n k : ℕ) (es : List Event) → GainsAtMost s n es → GainsAtMost s n (ticks k ∷ es)
by_ticks s n k es rest = by s n (ticks k) es (λ c. (omega arith, omega arith)) rest

by_asking : (s : Settings) (n c m p : ℕ) (es : List Event) → GainsAtMost s n es → GainsAtMost s n (asked_and_heard c m p es)
by_asking s n c m p es rest = by s n _ _ tt (by s n _ _ tt (by s n _ _ tt rest))

by_none : (s : Settings) (n : ℕ) → GainsAtMost s n []
unfolding GainsAtMost
by_none s n = tt

by_lending : (s : Settings) (n : ℕ) → GainsAtMost s n lent
by_lending s n = by_asking s n 1 70 1 _ (by s n _ _ tt (by s n _ _ tt (by_none s n)))

by_losing : GainsAtMost single 5 lost
unfolding world elem sent lowest
by_losing = by single 5 _ _ (omega arith, omega arith) (by single 5 _ _ tt (by_ticks single 5 30 _ (by_lending single 5)))

by_renewing : (n : ℕ) → GainsAtMost single 5 (renewed n)
unfolding renewed
by_renewing zero = by_lending single 5
by_renewing (suc n) = by_asking single 5 1 n 1 _ (by_ticks single 5 60 _ (by_renewing n))

pub lent-on : LentOn
unfolding world elem sent lowest
lent-on = record { premise = little_drift exact lent_on (by_asking exact 0 2 80 1 _ (by_ticks exact 0 61 _ (by_lending exact 0))); before = (60, refl); after = (121, refl) }

pub last_tick_lem : LastTick
unfolding world elem sent lowest GainsAtMost
last_tick_lem = record { premise = little_drift single last_tick (5, omega arith, λ c. (omega arith, omega arith), by_lending single 0); holding = refl; clock = refl; lease = refl }

pub lent-anew : LentAnew
unfolding world elem sent lowest
lent-anew =
    record {
      premise = little_drift single lent_anew (by_asking single 5 2 80 1 _ (by_ticks single 5 1 _ (by_ticks single 5 110 _ by_losing)));
      before = (100, refl);
      silent = refl;
      after = (241, refl);
    }

pub keeps-renewing : Renewed
unfolding world elem sent lowest renewed
keeps-renewing = record { premise = little_drift single (renewed 10) (by_renewing 10); holding = refl }
