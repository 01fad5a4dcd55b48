-- What a client knows but its nonces, and what each message makes of it before it asks.
-- Assumes nothing: what can't be decoded is no message.
use Rattle.std.specs.Prelude.{ℕ, ◌+◌, ◌^◌, true, false, cond, List, [], ◌∷◌, ◌++◌, Some, None, Ok, Err, Option, Result, ◌==◌, nat_le}
use Rattle.std.specs.Option.{option_map}
use Rattle.lease.specs.declared.fault.Fault as lease
use Rattle.lease.specs.declared.fault.Fault.TheVariants.{Malformed, OtherClient, BadSettings, CountExhausted}
use Rattle.lease.specs.declared.message.Grant as lent
use Rattle.lease.specs.Settings as model
use Rattle.lease.specs.Settings.{valid}
use Rattle.lease.specs.Holding.{Use, Wait}
use Rattle.lease.specs.World as world
use Rattle.lease.specs.World.{knowing_nothing}
use Rattle.lease.specs.Run.{client_passes, hearing}
use Rattle.retry.specs.declared.schedule.Schedule.{Schedule}
use Rattle.retry.specs.Schedule.{starting, renewing}
use Rattle.retry.specs.Run.{over}
use Rattle.wire.specs.declared.message.Message.{Message}
use Rattle.wire.specs.declared.message.Message.TheVariants.{Request, Grant, Settings, Tick, Crash, Restart, OwnNumber, Nonce, InUse, NoAddress, Fault}

-- own: its number; last: the address that it had last since its start
pub record State : Type 0 where
  pub settings : Option model.Settings
  pub own : Option ℕ
  pub holder : world.Client
  pub schedule : Schedule
  pub last : Option ℕ

-- what a step makes of it, and what it puts out
pub record Turn : Type 0 where
  pub state : State
  pub says : List Message

abbrev pub silently : State → Turn
silently s = record { state = s; says = [] }

-- up with this clock, knowing nothing
abbrev pub started : (clock : ℕ) → State
started clock = record { settings = None; own = None; holder = knowing_nothing clock true; schedule = starting clock; last = None }

abbrev pub in_use : State → Option Use
in_use s = s.holder.holding.uses

abbrev pub until : Use → ℕ
until u = u.until

-- it uses no address any more, if it used one
abbrev pub stops : Option Use → List Message
stops None = []
stops (Some u) = NoAddress ∷ []

-- it goes on as `h`: nothing but settings and own number is left, and it uses no address any more
abbrev pub forgets : (h : world.Client) → State → Turn
forgets h s = record { state = record { settings = s.settings; own = s.own; holder = h; schedule = starting h.clock; last = None }; says = stops (in_use s) }

abbrev pub crashes : State → Turn
crashes s = cond s.holder.up (forgets (knowing_nothing s.holder.clock false) s) (silently s)

-- a restart without a crash before it is a crash that nobody announced
abbrev pub restarts : (clock : ℕ) → State → Result Turn lease.Fault
restarts clock s = cond (nat_le (2 ^ 63) clock) (Err CountExhausted) (Ok (forgets (knowing_nothing clock true) s))

-- its clock goes on by one, and with it an address may be over: then the schedule begins anew
abbrev pub passes : State → Turn
passes s =
    cond (over (s.holder.clock + 1) (option_map until (in_use s)))
    (record { state = record { settings = s.settings; own = s.own; holder = client_passes 1 s.holder; schedule = starting (s.holder.clock + 1); last = s.last }; says = NoAddress ∷ [] })
    (record { state = record { settings = s.settings; own = s.own; holder = client_passes 1 s.holder; schedule = s.schedule; last = s.last }; says = [] })

-- while it is down its clock stands
abbrev pub ticks : State → Result Turn lease.Fault
ticks s = cond s.holder.up (cond (nat_le (2 ^ 63) (s.holder.clock + 1)) (Err CountExhausted) (Ok (passes s))) (Ok (silently s))

abbrev pub learns : (addresses term skew : ℕ) → State → Result Turn lease.Fault
learns n t k s =
    cond (valid n t k)
    (Ok (silently (record { settings = Some (record { addresses = n; term = t; skew = k }); own = s.own; holder = s.holder; schedule = s.schedule; last = s.last })))
    (Err BadSettings)

-- it has one number for ever
abbrev pub named : (own : Option ℕ) (client : ℕ) → State → Result Turn lease.Fault
named None n s = Ok (silently (record { settings = s.settings; own = Some n; holder = s.holder; schedule = s.schedule; last = s.last }))
named (Some m) n s = Err BadSettings

-- another address than this one isn't used any more
abbrev pub leaves : (address : ℕ) → Option Use → List Message
leaves a None = []
leaves a (Some u) = cond (u.address == a) [] (NoAddress ∷ [])

-- the tick of the request that waits
abbrev pub asked_at : Option Wait → ℕ
asked_at None = 0
asked_at (Some w) = w.asked

-- a grant is taken, and the holder is `h` now
abbrev pub takes : (term address : ℕ) → State → world.Client → Turn
takes term a s h =
    record {
      state = record { settings = s.settings; own = s.own; holder = h; schedule = renewing s.schedule (asked_at s.holder.holding.waits) term; last = Some a };
      says = leaves a (in_use s) ++ (InUse a (asked_at s.holder.holding.waits + term) ∷ []);
    }

abbrev pub held_by : (term address : ℕ) → State → Result world.Client lease.Fault → Result Turn lease.Fault
held_by term a s (Ok h) = Ok (takes term a s h)
held_by term a s (Err f) = Err f

-- a grant comes to a client that is up: without a number of its own it is another's
abbrev pub granted : (own : Option ℕ) → Option model.Settings → lent.Grant → State → Result Turn lease.Fault
granted None k g s = Err OtherClient
granted (Some own) None g s = Err BadSettings
granted (Some own) (Some k) g s = held_by k.term g.address s (hearing k.term own g s.holder)

abbrev pub grants : lent.Grant → State → Result Turn lease.Fault
grants g s = cond s.holder.up (granted s.own s.settings g s) (Ok (silently s))

-- what a message makes of it; the other kinds are none of a client's
abbrev pub does : Message → State → Result Turn lease.Fault
does (Request r) s = Err Malformed
does (Grant g) s = grants g s
does (Settings n t k) s = learns n t k s
does Tick s = ticks s
does Crash s = Ok (crashes s)
does (Restart clock) s = restarts clock s
does (OwnNumber n) s = named s.own n s
does (Nonce n) s = Ok (silently s)
does (InUse a u) s = Err Malformed
does NoAddress s = Err Malformed
does (Fault f) s = Err Malformed
