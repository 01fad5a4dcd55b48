-- How a client's requests lie in time, over whole runs of the client alone, by its own clock.
-- Assumes nothing. A stretch of a run is `between`, what was heard after `before`, the newest first.
use Rattle.std.specs.Prelude.{◌≡◌, ℕ, ◌+◌, ◌^◌, ◌≤◌, Bool, true, false, ◌&&◌, ◌||◌, ◌⊎◌, List, [], ◌∷◌, ◌++◌, is_some, Some, None, Ok, Err, nat_lt}
use Rattle.lease.specs.Holding.{Use}
use Rattle.wire.specs.declared.message.Message.{Message}
use Rattle.wire.specs.declared.message.Message.TheVariants.{Request, Grant, Settings, Tick, Crash, Restart, OwnNumber, Nonce, InUse, NoAddress, Fault}
use Rattle.wire.specs.Decode.{Answer}
use Rattle.client.specs.State.{in_use}
use Rattle.client.specs.Client.{Client, understood, hears}
use Rattle.client.specs.Nonces.{requests}
use Rattle.client.specs.Run.{Run, client}

abbrev pub clock : Client → ℕ
clock c = c.state.holder.clock

abbrev pub some : {A : Type 0} → List A → Bool
some [] = false
some (x ∷ xs) = true

-- what a step is to a client

-- it asks
abbrev pub asks : List ℕ → Client → Bool
asks b c = some (requests (hears b c).says)

abbrev pub uses : Message → Bool
uses (Request r) = false
uses (Grant g) = false
uses (Settings n t k) = false
uses Tick = false
uses Crash = false
uses (Restart clock) = false
uses (OwnNumber n) = false
uses (Nonce n) = false
uses (InUse a u) = true
uses NoAddress = false
uses (Fault f) = false

abbrev pub uses_none : Message → Bool
uses_none (Request r) = false
uses_none (Grant g) = false
uses_none (Settings n t k) = false
uses_none Tick = false
uses_none Crash = false
uses_none (Restart clock) = false
uses_none (OwnNumber n) = false
uses_none (Nonce n) = false
uses_none (InUse a u) = false
uses_none NoAddress = true
uses_none (Fault f) = false

unfoldable pub any : (Message → Bool) → List Message → Bool
any test [] = false
any test (m ∷ ms) = test m || any test ms

-- it takes a grant
abbrev pub takes : List ℕ → Client → Bool
takes b c = any uses (hears b c).says

abbrev pub is_tick : Answer → Bool
is_tick (Ok (Request r)) = false
is_tick (Ok (Grant g)) = false
is_tick (Ok (Settings n t k)) = false
is_tick (Ok Tick) = true
is_tick (Ok Crash) = false
is_tick (Ok (Restart clock)) = false
is_tick (Ok (OwnNumber n)) = false
is_tick (Ok (Nonce n)) = false
is_tick (Ok (InUse a u)) = false
is_tick (Ok NoAddress) = false
is_tick (Ok (Fault f)) = false
is_tick (Err f) = false

-- its address is over: it loses it at a tick
abbrev pub loses : List ℕ → Client → Bool
loses b c = is_tick (understood b c) && any uses_none (hears b c).says

abbrev pub is_start : Answer → Bool
is_start (Ok (Request r)) = false
is_start (Ok (Grant g)) = false
is_start (Ok (Settings n t k)) = false
is_start (Ok Tick) = false
is_start (Ok Crash) = false
is_start (Ok (Restart clock)) = nat_lt clock (2 ^ 63)
is_start (Ok (OwnNumber n)) = false
is_start (Ok (Nonce n)) = false
is_start (Ok (InUse a u)) = false
is_start (Ok NoAddress) = false
is_start (Ok (Fault f)) = false
is_start (Err f) = false

-- it restarts
abbrev pub starts : List ℕ → Client → Bool
starts b c = is_start (understood b c)

-- so it is at no step of the stretch
unfoldable pub Never : (List ℕ → Client → Bool) → (before between : Run) → Type 0
Never test before [] = Unit
Never test before (b ∷ bs) = (test b (client (bs ++ before)) ≡ false) × Never test before bs

-- it is up and has all that a request needs: settings, a number of its own, a nonce
abbrev pub equipped : Client → Bool
equipped c = c.state.holder.up && (is_some c.state.settings && (is_some c.state.own && some c.nonces))

-- so it is at each moment of the stretch, from its beginning on
unfoldable pub Always : (Client → Bool) → (before between : Run) → Type 0
Always test before [] = test (client before) ≡ true
Always test before (b ∷ bs) = (test (client (b ∷ (bs ++ before))) ≡ true) × Always test before bs

-- Since its last start, two requests lie at least 4 ticks apart, unless an address was over in between.
abbrev pub FourApart : Type 0
FourApart =
    (before between : Run) (first second : List ℕ) → asks first (client before) ≡ true → asks second (client (between ++ (first ∷ before))) ≡ true →
    Never starts (first ∷ before) (second ∷ between) → Never loses (first ∷ before) (second ∷ between) →
    clock (client (first ∷ before)) + 4 ≤ clock (client (second ∷ (between ++ (first ∷ before))))

-- A client that uses an address asks at least 60 ticks after each earlier request since its last start.
abbrev pub SixtyApart : Type 0
SixtyApart =
    (before between : Run) (first second : List ℕ) (u : Use) → asks first (client before) ≡ true → asks second (client (between ++ (first ∷ before))) ≡ true →
    Never starts (first ∷ before) (second ∷ between) → in_use (client (second ∷ (between ++ (first ∷ before)))).state ≡ Some u →
    clock (client (first ∷ before)) + 60 ≤ clock (client (second ∷ (between ++ (first ∷ before))))

-- A client without an address that has all it needs lets at most 64 ticks pass without a request.
abbrev pub PausesEnd : Type 0
PausesEnd =
    (before between : Run) → in_use (client before).state ≡ None → Always equipped before between → Never starts before between → Never takes before between →
    Never asks before between → clock (client (between ++ before)) ≤ clock (client before) + 64

-- a request was sent in the stretch, when the clock showed at most `limit`
unfoldable pub AsksBy : (limit : ℕ) (before between : Run) → Type 0
AsksBy limit before [] = ⊥
AsksBy limit before (b ∷ bs) = ((asks b (client (bs ++ before)) ≡ true) × (clock (client (b ∷ (bs ++ before))) ≤ limit)) ⊎ AsksBy limit before bs

-- the client uses an address until then, and its clock isn't past it
pub record StillUses (until : ℕ) (c : Client) : Type 0 where
  pub address : ℕ
  pub uses : in_use c.state ≡ Some (record { address = address; until = until })
  pub within : clock c ≤ until

-- A client that took a grant, and has all it needs from then on, asks again before that use is over: at once or later.
abbrev pub AsksInTime : Type 0
AsksInTime =
    (before between : Run) (grant : List ℕ) (u : Use) → takes grant (client before) ≡ true → in_use (client (grant ∷ before)).state ≡ Some u →
    Always equipped (grant ∷ before) between → Never starts (grant ∷ before) between →
    StillUses u.until (client (between ++ (grant ∷ before))) ⊎ ((asks grant (client before) ≡ true) ⊎ AsksBy u.until (grant ∷ before) between)
