-- Whole runs of a client's own side: what can happen to it, and what it is after all that.
-- Assumes nothing. Lists of events begin with the newest.
use Rattle.std.specs.Prelude.{◌≡◌, ℕ, ◌+◌, ◌≤◌, Bool, true, false, cond, List, [], ◌∷◌, Some, None, Option, nat_lt}
use Rattle.retry.specs.declared.schedule.Schedule.{Schedule}
use Rattle.retry.specs.Schedule.{starting, requested, renewing, is_due}

-- uses: the last tick of the address in use; waits: the tick of the request that waits for its grant
pub record Client : Type 0 where
  pub clock : ℕ
  pub uses : Option ℕ
  pub waits : Option ℕ
  pub schedule : Schedule

-- Starts: a start or a restart, at any clock. Takes: a grant for the request sent at `asked` is taken.
pub data Event : Type 0 where
  Starts : (clock : ℕ) → Event
  Ticks : Event
  Asks : Event
  Takes : (asked term : ℕ) → Event

-- the use is over at this clock
abbrev pub over : (clock : ℕ) → Option ℕ → Bool
over clock None = false
over clock (Some until) = nat_lt until clock

abbrev pub started : (clock : ℕ) → Client
started clock = record { clock = clock; uses = None; waits = None; schedule = starting clock }

-- the client loses its address as its clock passes the last tick of the use; what waits goes on waiting
abbrev pub ticked : Client → Client
ticked c =
    cond (over (c.clock + 1) c.uses) (record { clock = c.clock + 1; uses = None; waits = c.waits; schedule = starting (c.clock + 1) })
    (record { clock = c.clock + 1; uses = c.uses; waits = c.waits; schedule = c.schedule })

abbrev pub sends : Client → Client
sends c = record { clock = c.clock; uses = c.uses; waits = Some c.clock; schedule = requested c.schedule c.clock c.uses }

abbrev pub granted : (asked term : ℕ) → Client → Client
granted asked term c = record { clock = c.clock; uses = Some (asked + term); waits = None; schedule = renewing c.schedule asked term }

abbrev pub step : Event → Client → Client
step (Starts clock) c = started clock
step Ticks c = ticked c
step Asks c = sends c
step (Takes asked term) c = granted asked term c

-- the client after these events
unfoldable pub client : List Event → Client
client [] = started 0
client (e ∷ es) = step e (client es)

-- a request is sent only when it is due; a grant is taken only for the request that waits, and at most `term` ticks after that was sent
abbrev pub Fits : Event → Client → Type 0
Fits (Starts clock) c = Unit
Fits Ticks c = Unit
Fits Asks c = is_due c.schedule c.clock ≡ true
Fits (Takes asked term) c = (c.waits ≡ Some asked) × (c.clock ≤ asked + term)

-- THE PREMISE of a run
unfoldable pub Lawful : List Event → Type 0
Lawful [] = Unit
Lawful (e ∷ es) = Fits e (client es) × Lawful es
