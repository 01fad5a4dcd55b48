-- When a client asks: what its schedule is after it started, sent a request, took a grant or lost its address.
-- Assumes nothing.
use Rattle.std.specs.Prelude.{ℕ, ◌+◌, ◌-◌, ◌/◌, max, Bool, Some, None, Option, nat_le}
use Rattle.retry.specs.declared.schedule.Pause.{Pause}
use Rattle.retry.specs.declared.schedule.Pause.TheVariants.{Four, Eight, Sixteen, ThirtyTwo, SixtyFour}
use Rattle.retry.specs.declared.schedule.Schedule.{Schedule}

-- how many ticks a pause lasts
abbrev pub lasts : Pause → ℕ
lasts Four = 4
lasts Eight = 8
lasts Sixteen = 16
lasts ThirtyTwo = 32
lasts SixtyFour = 64

-- the pause after it
abbrev pub longer : Pause → Pause
longer Four = Eight
longer Eight = Sixteen
longer Sixteen = ThirtyTwo
longer ThirtyTwo = SixtyFour
longer SixtyFour = SixtyFour

-- how long after a request with `left` ticks of use ahead the renewal follows: half of them, rounded up, and never less than 60
abbrev pub renewal : (left : ℕ) → ℕ
renewal left = max ((left + 1) / 2) 60

-- at a start and when an address expired: a request at once, and the pauses from the first on
abbrev pub starting : (clock : ℕ) → Schedule
starting clock = record { next = clock; pause = Four }

-- after a request; `until` is the last tick of the address in use, if there is one
abbrev pub requested : Schedule → (clock : ℕ) (until : Option ℕ) → Schedule
requested s clock None = record { next = clock + lasts s.pause; pause = longer s.pause }
requested s clock (Some until) = record { next = clock + renewal (until - clock); pause = s.pause }

-- after the grant for the request sent at `asked` was taken, for `term` ticks from then on
abbrev pub renewing : Schedule → (asked term : ℕ) → Schedule
renewing s asked term = record { next = asked + renewal term; pause = s.pause }

abbrev pub is_due : Schedule → (clock : ℕ) → Bool
is_due s clock = nat_le s.next clock
