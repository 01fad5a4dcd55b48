-- How a client's requests lie in time, over whole runs: what is promised of its schedule.
-- Assumes nothing. A stretch of a run is `between`, the events after `before`.
use Rattle.std.specs.Prelude.{◌≡◌, ℕ, zero, suc, ◌+◌, ◌-◌, ◌*◌, ◌^◌, ◌≤◌, min, Bool, true, false, ◌&&◌, ◌||◌, ◌⊎◌, List, [], ◌∷◌, ◌++◌, Some, None, nat_le}
use Rattle.retry.specs.Schedule.{is_due}
use Rattle.retry.specs.Run.{Client, Event, Starts, Ticks, Asks, Takes, over, client, Lawful}

-- what an event is to a client

abbrev pub starts : Client → Event → Bool
starts c (Starts clock) = true
starts c Ticks = false
starts c Asks = false
starts c (Takes asked term) = false

abbrev pub asks : Client → Event → Bool
asks c (Starts clock) = false
asks c Ticks = false
asks c Asks = true
asks c (Takes asked term) = false

abbrev pub takes : Client → Event → Bool
takes c (Starts clock) = false
takes c Ticks = false
takes c Asks = false
takes c (Takes asked term) = true

-- its address expires
abbrev pub loses : Client → Event → Bool
loses c (Starts clock) = false
loses c Ticks = over (c.clock + 1) c.uses
loses c Asks = false
loses c (Takes asked term) = false

-- time goes on although a request is due, as it does where no nonce is at hand
abbrev pub tarries : Client → Event → Bool
tarries c (Starts clock) = false
tarries c Ticks = is_due c.schedule c.clock
tarries c Asks = false
tarries c (Takes asked term) = false

-- so it is at no event of the stretch
unfoldable pub Never : (Client → Event → Bool) → (before between : List Event) → Type 0
Never test before [] = Unit
Never test before (e ∷ es) = (test (client (es ++ before)) e ≡ false) × Never test before es

-- Without a start or an expiry in between, two requests lie at least 4 ticks apart.
abbrev pub FourApart : Type 0
FourApart =
    (before between : List Event) → Lawful (Asks ∷ (between ++ (Asks ∷ before))) → Never starts (Asks ∷ before) between → Never loses (Asks ∷ before) between →
    (client before).clock + 4 ≤ (client (between ++ (Asks ∷ before))).clock

-- A request of a client that uses an address comes at least 60 ticks after each earlier one since its last start.
abbrev pub SixtyApart : Type 0
SixtyApart =
    (before between : List Event) → Lawful (Asks ∷ (between ++ (Asks ∷ before))) → Never starts (Asks ∷ before) between →
    (until : ℕ) → (client (between ++ (Asks ∷ before))).uses ≡ Some until →
    (client before).clock + 60 ≤ (client (between ++ (Asks ∷ before))).clock

-- A client that uses an address is due again exactly from then on when, since its last request, 60 ticks have passed and at least half of the use that was left then.
abbrev pub Halfway : Type 0
Halfway =
    (before between : List Event) (until : ℕ) → Lawful (between ++ (Asks ∷ before)) → Never starts (Asks ∷ before) between → Never asks (Asks ∷ before) between →
    (client (between ++ (Asks ∷ before))).uses ≡ Some until →
    let q : ℕ = (client before).clock in
    let c : Client = client (between ++ (Asks ∷ before)) in
    is_due c.schedule c.clock ≡ (nat_le 60 (c.clock - q) && nat_le (until - q) (2 * (c.clock - q)))

-- A client that has no address, and asks whenever it is due, lets at most 64 ticks pass without a request.
abbrev pub PausesEnd : Type 0
PausesEnd =
    (before between : List Event) → (client before).uses ≡ None → Never starts before between → Never takes before between → Never tarries before between →
    Never asks before between → (client (between ++ before)).clock ≤ (client before).clock + 64

-- a request was sent in the stretch, when the clock showed at most `limit`
unfoldable pub AsksBy : (limit : ℕ) (before between : List Event) → Type 0
AsksBy limit before [] = ⊥
AsksBy limit before (Starts clock ∷ es) = AsksBy limit before es
AsksBy limit before (Ticks ∷ es) = AsksBy limit before es
AsksBy limit before (Asks ∷ es) = ((client (es ++ before)).clock ≤ limit) ⊎ AsksBy limit before es
AsksBy limit before (Takes asked term ∷ es) = AsksBy limit before es

-- the client uses an address until then, and its clock isn't past it
pub record StillUses (until : ℕ) (c : Client) : Type 0 where
  pub uses : c.uses ≡ Some until
  pub within : c.clock ≤ until

-- A client that takes a grant for 60 ticks or more, and asks whenever it is due, asks again before that use is over.
abbrev pub AsksInTime : Type 0
AsksInTime =
    (before between : List Event) (asked term : ℕ) → Lawful (between ++ (Takes asked term ∷ before)) → 60 ≤ term →
    Never starts (Takes asked term ∷ before) between → Never tarries (Takes asked term ∷ before) between →
    StillUses (asked + term) (client (between ++ (Takes asked term ∷ before))) ⊎ AsksBy (asked + term) (Takes asked term ∷ before) between

-- the newest event left the client without an address: it started, or its address expired
abbrev pub Begins : List Event → Type 0
Begins [] = Unit
Begins (e ∷ es) = (starts (client es) e || loses (client es) e) ≡ true

-- A client that has just started, or lost its address, is due at once, and stays so until it asks.
abbrev pub DueAtOnce : Type 0
DueAtOnce =
    (begin between : List Event) → Begins begin → Never starts begin between → Never takes begin between → Never asks begin between →
    is_due (client (between ++ begin)).schedule (client (between ++ begin)).clock ≡ true

-- how many requests were sent
unfoldable pub requests : List Event → ℕ
requests [] = 0
requests (Starts clock ∷ es) = requests es
requests (Ticks ∷ es) = requests es
requests (Asks ∷ es) = suc (requests es)
requests (Takes asked term ∷ es) = requests es

-- the pauses, counted from 0: 4, 8, 16, 32, 64, 64, ..
abbrev pub pause_at : ℕ → ℕ
pause_at k = min (4 * 2 ^ k) 64

-- the first `k` pauses together
unfoldable pub elapsed : ℕ → ℕ
elapsed zero = 0
elapsed (suc k) = elapsed k + pause_at k

-- After the request that `k` others preceded since the client has no address, the next is due exactly `pause_at k` ticks later.
abbrev pub KthPause : Type 0
KthPause =
    (begin during between : List Event) → Begins begin → Never starts begin during → Never takes begin during →
    Never starts (Asks ∷ (during ++ begin)) between → Never takes (Asks ∷ (during ++ begin)) between → Never asks (Asks ∷ (during ++ begin)) between →
    let c : Client = client (between ++ (Asks ∷ (during ++ begin))) in
    is_due c.schedule c.clock ≡ nat_le ((client (during ++ begin)).clock + pause_at (requests during)) c.clock

-- If it asks whenever it is due, each of its requests comes exactly when the pauses before it are over; the first at once.
abbrev pub Timetable : Type 0
Timetable =
    (begin during : List Event) → Begins begin → Lawful (Asks ∷ (during ++ begin)) → Never starts begin during → Never takes begin during → Never tarries begin during →
    (client (during ++ begin)).clock ≡ (client begin).clock + elapsed (requests during)
