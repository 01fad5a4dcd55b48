-- A device's life: appends, crashes and restarts, clocks that are set, and damage, in any order and number.
-- Assumes that the pool's size stays, and of damage that it leaves neither row whole.
use Rattle.std.specs.Prelude.{ℕ, max, Bool, true, false, cond, ◌||◌, ◌⊎◌, List, [], ◌∷◌, length}
use Rattle.lease.specs.declared.lease.Lease.{Lease}
use Rattle.journal.specs.Place.{Blank}
use Rattle.journal.specs.Table.{Table, empty, set}
use Rattle.journal.specs.Device.{Device, Cursor, fresh, cursor, leases}
use Rattle.journal.specs.Append.{Plan, plan, writes, after, Write, perform}
use Rattle.journal.specs.Crash.{Cut, cut_at, lands, Damaged}

pub data Operation : Type 0 where
  -- a lease is written and answered
  Append : Lease → Operation
  -- a crash within an append, and a restart
  Crash : Lease → ℕ → Cut → Operation
  -- a crash between two appends, and a restart
  Restart : Operation
  -- the clock shows so much from here on
  Clock : ℕ → Operation
  Damage : Device → Operation

-- the device and what the server has in memory; then, for the laws alone, the highest clock so far, whether a table was begun, and the leases that were written to their end
pub record State : Type 0 where
  pub device : Device
  pub cursor : Cursor
  pub memory : Table
  pub clock : ℕ
  pub latest : ℕ
  pub begun : Bool
  pub told : Table

abbrev pub start : ℕ → State
start R = record { device = λ s k. Blank; cursor = fresh R 0; memory = empty; clock = 0; latest = 0; begun = false; told = empty }

abbrev pub planned : (R addresses : ℕ) → State → Plan
planned R n s = plan R n s.clock s.cursor s.memory

abbrev pub appended : (R addresses : ℕ) → Lease → State → State
appended R n x s =
    record {
      device = perform (writes (planned R n s) x) s.device;
      cursor = after s.cursor (planned R n s);
      memory = set x s.memory;
      clock = s.clock;
      latest = s.latest;
      begun = true;
      told = set x s.told;
    }

abbrev pub restarted : ℕ → Device → (begun : Bool) → Table → State → State
restarted R d b t s =
    record { device = d; cursor = cursor R d; memory = leases R d; clock = s.clock; latest = s.latest; begun = b; told = t }

abbrev pub crashed : ℕ → List Write → Lease → ℕ → Cut → State → State
crashed R ws x i c s =
    restarted R (cut_at i c ws s.device) (s.begun || lands i c (length ws)) (cond (lands i c (length ws)) (set x s.told) s.told) s

abbrev pub step : (R addresses : ℕ) → Operation → State → State
step R n (Append x) s = appended R n x s
step R n (Crash x i c) s = crashed R (writes (planned R n s) x) x i c s
step R n Restart s = restarted R s.device s.begun s.told s
step R n (Clock t) s =
    record { device = s.device; cursor = s.cursor; memory = s.memory; clock = t; latest = max s.latest t; begun = s.begun; told = s.told }
step R n (Damage d) s = restarted R d false empty s

unfoldable pub run : (R addresses : ℕ) → List Operation → State → State
run R n [] s = s
run R n (o ∷ os) s = run R n os (step R n o s)

-- what may happen
abbrev pub Allowed : ℕ → Operation → Type 0
Allowed R (Append x) = Unit {0}
Allowed R (Crash x i c) = Unit {0}
Allowed R Restart = Unit {0}
Allowed R (Clock t) = Unit {0}
Allowed R (Damage d) = Damaged R d

abbrev pub Each : (Operation → Type 0) → List Operation → Type 0
Each P [] = Unit {0}
Each P (o ∷ os) = P o × Each P os

abbrev pub Any : (Operation → Type 0) → List Operation → Type 0
Any P [] = ⊥
Any P (o ∷ os) = P o ⊎ Any P os
