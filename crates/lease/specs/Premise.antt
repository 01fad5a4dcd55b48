-- What is asked of the clocks: as little as the promise needs, and the usual stronger form.
-- Assumes nothing.
use Rattle.std.specs.Prelude.{◌≡◌, ℕ, ◌+◌, ◌≤◌, Bool, true, not, ◌&&◌, List, [], ◌∷◌, ◌++◌, ◌==◌}
use Rattle.lease.specs.Settings.{Settings, outlasts}
use Rattle.lease.specs.World.{World}
use Rattle.lease.specs.Run.{Event, Pass, Asks, ServerHears, ServerHearsAndCrashes, ClientHears, ClientStarts, ClientCrashes, ServerCrashes, Forgets, ServerRestarts, world}

-- the client neither crashes nor starts at this event
abbrev pub spares : ℕ → Event → Bool
spares c (Pass k f) = true
spares c (Asks d n p) = true
spares c (ServerHears i) = true
spares c (ServerHearsAndCrashes i wrote) = true
spares c (ClientHears d i) = true
spares c (ClientStarts d clock) = not (d == c)
spares c (ClientCrashes d) = not (d == c)
spares c ServerCrashes = true
spares c (Forgets gone) = true
spares c (ServerRestarts clock lost) = true

unfoldable pub spares_all : ℕ → List Event → Bool
spares_all c [] = true
spares_all c (e ∷ es) = spares c e && spares_all c es

-- a stretch of a run, from the moment after `before` to the one after `es`, in which the client is up throughout
pub record Stretch (s : Settings) (c : ℕ) (before es : List Event) : Type 0 where
  pub between : List Event
  pub split : es ≡ between ++ before
  pub spared : spares_all c between ≡ true
  pub client_up : ((world s before).clients c).up ≡ true

-- between two moments at which the server is up, while the client's clock goes on by at most a term, the server's goes on by little more
abbrev pub Near : Settings → List Event → Type 0
Near s es =
    (c : ℕ) (before : List Event) → Stretch s c before es → (world s before).server.up ≡ true → (world s es).server.up ≡ true →
    (d : ℕ) → ((world s es).clients c).clock ≡ ((world s before).clients c).clock + d → d ≤ s.term → (world s es).server.clock ≤ (world s before).server.clock + outlasts s d

-- over any stretch the two clocks go on by amounts that differ by at most the skew
abbrev pub Close : Settings → List Event → Type 0
Close s es =
    (c : ℕ) (before : List Event) → Stretch s c before es →
    (((world s es).clients c).clock + (world s before).server.clock ≤ ((world s before).clients c).clock + outlasts s (world s es).server.clock)
    × ((world s es).server.clock + ((world s before).clients c).clock ≤ (world s before).server.clock + outlasts s ((world s es).clients c).clock)

-- so it is at every moment of a run
unfoldable pub AllAlong : (List Event → Type 0) → List Event → Type 0
AllAlong P [] = Unit
AllAlong P (e ∷ es) = P (e ∷ es) × AllAlong P es

-- THE PREMISE
abbrev pub Agree : Settings → List Event → Type 0
Agree s es = AllAlong (Near s) es

-- a restart doesn't set the server's clock back
abbrev pub Onward : Event → World → Type 0
Onward (Pass k f) w = Unit
Onward (Asks d n p) w = Unit
Onward (ServerHears i) w = Unit
Onward (ServerHearsAndCrashes i wrote) w = Unit
Onward (ClientHears d i) w = Unit
Onward (ClientStarts d clock) w = Unit
Onward (ClientCrashes d) w = Unit
Onward ServerCrashes w = Unit
Onward (Forgets gone) w = Unit
Onward (ServerRestarts clock lost) w = w.server.clock ≤ clock

-- THE PREMISE OF KEEPING ONE'S ADDRESS, beside the other
unfoldable pub Forward : Settings → List Event → Type 0
Forward s [] = Unit
Forward s (e ∷ es) = Onward e (world s es) × Forward s es

-- THE USUAL PREMISE: clocks never go back, and differ by at most the skew over any stretch in which a client doesn't crash
abbrev pub AgreeClosely : Settings → List Event → Type 0
AgreeClosely s es = AllAlong (Close s) es × Forward s es

-- it is the stronger one
abbrev pub CloselyIsEnough : Type 0
CloselyIsEnough = (s : Settings) (es : List Event) → AgreeClosely s es → Agree s es × Forward s es
