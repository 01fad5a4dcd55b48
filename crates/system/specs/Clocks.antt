-- What it means of the clocks that a report names no broken premise, in the words of the premise.
-- Assumes nothing.
use Rattle.std.specs.Prelude.{◌≡◌, ℕ, ◌+◌, ◌<◌, ◌≤◌, Bool, true, false, ◌&&◌, ◌⊎◌, List, [], ◌∷◌, ◌++◌, is_some, Some, ◌≢◌}
use Rattle.lease.specs.Settings as model
use Rattle.lease.specs.Settings.{outlasts}
use Rattle.system.specs.Parties.{Parties, Event, ToServer, ToClient, Cuts, Damages, AllWithin, happens, heard, places}
use Rattle.system.specs.Watch.{is_tick, start_in}
use Rattle.system.specs.Report.{Play, beginning, judged, next, ticks_next}
use Rattle.system.specs.Promise.{Kept}

-- what a run has come to after its first events, when others follow
unfoldable pub reached : (first then : List Event) → Play → Play
reached [] ys h = h
reached (e ∷ xs) ys h = reached xs ys (next (judged e (xs ++ ys)) e h)

-- the last of these events is a tick; `none` where there are none
unfoldable pub ticks_last : (none : Bool) → List Event → Bool
ticks_last none [] = none
ticks_last none (e ∷ es) = ticks_last (is_tick e) es

-- the moment between these events and those is within a run of ticks
abbrev pub within_ticks : (first then : List Event) → Bool
within_ticks xs ys = ticks_last false xs && ticks_next ys

-- the client at this place is up after the event, and doesn't start at it
abbrev pub spares : (place : ℕ) → Event → Parties → Type 0
spares i (ToServer bs) x = Unit {0}
spares i (ToClient l bs) x = ((is_some (start_in (heard (ToClient l bs))) ≡ false) × (((happens (ToClient l bs) x).parties.clients l).state.holder.up ≡ true)) ⊎ (i ≢ l)
spares i (Cuts bs n c) x = Unit {0}
spares i (Damages d clock) x = Unit {0}

-- so it is at each of the events
unfoldable pub Spared : (place : ℕ) → (between : List Event) → Parties → Type 0
Spared i [] x = Unit
Spared i (e ∷ es) x = spares i e x × Spared i es (happens e x).parties

-- server and client are up, and the client has this number
pub record Both (x : Parties) (i : ℕ) : Type 0 where
  pub number : ℕ
  pub own : (x.clients i).state.own ≡ Some number
  pub client_up : (x.clients i).state.holder.up ≡ true
  pub server_up : x.server.server.up ≡ true

-- THE PREMISE ON CLOCKS. Between any two moments that are judged, at which server and client are up, and between which the client is up throughout,
-- their clocks go on by amounts that differ by at most the skew.
abbrev pub ClocksAgree : Type 0
ClocksAgree =
    (before between rest : List Event) → AllWithin (before ++ (between ++ rest)) → Kept (before ++ (between ++ rest)) →
    within_ticks before (between ++ rest) ≡ false → within_ticks (before ++ between) rest ≡ false →
    (i : ℕ) → i < places → Both (reached before (between ++ rest) beginning).parties i → Both (reached (before ++ between) rest beginning).parties i →
    Spared i between (reached before (between ++ rest) beginning).parties → (k : model.Settings) → (reached (before ++ between) rest beginning).watch.settings ≡ Some k →
    (((reached (before ++ between) rest beginning).parties.clients i).state.holder.clock + (reached before (between ++ rest) beginning).parties.server.server.clock
    ≤ ((reached before (between ++ rest) beginning).parties.clients i).state.holder.clock + outlasts k (reached (before ++ between) rest beginning).parties.server.server.clock)
    × ((reached (before ++ between) rest beginning).parties.server.server.clock + ((reached before (between ++ rest) beginning).parties.clients i).state.holder.clock
    ≤ (reached before (between ++ rest) beginning).parties.server.server.clock + outlasts k ((reached (before ++ between) rest beginning).parties.clients i).state.holder.clock)
