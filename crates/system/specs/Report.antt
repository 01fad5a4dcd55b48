-- What is reported of a run, line by line.
-- Assumes nothing.
use Rattle.std.specs.Prelude.{ℕ, zero, suc, min, max, Bool, true, false, cond, not, ◌&&◌, ◌||◌, List, [], ◌∷◌, ◌++◌, is_some, Some, None, Option, ◌==◌}
use Rattle.lease.specs.declared.fault.Fault as lease
use Rattle.lease.specs.Choosing.{lowest}
use Rattle.lease.specs.Holding.{Use}
use Rattle.wire.specs.declared.message.Message as message
use Rattle.client.specs.State.{in_use}
use Rattle.system.specs.declared.line.Party.{Party}
use Rattle.system.specs.declared.line.Party.TheVariants as party
use Rattle.system.specs.declared.line.Premise as line
use Rattle.system.specs.declared.line.Line.{Line}
use Rattle.system.specs.declared.line.Line.TheVariants.{Fault, Broken, Two, Tick, User}
use Rattle.system.specs.Parties.{Parties, Event, ToServer, ToClient, Cuts, Damages, Outcome, happens, places, start}
use Rattle.system.specs.Watch.{Watch, unwatched, watched, breaks, fault_in, is_tick}

-- named: a premise is broken already; shared: an address was used by two already
pub record Play : Type 0 where
  pub parties : Parties
  pub watch : Watch
  pub named : Bool
  pub shared : Bool

abbrev pub beginning : Play
beginning = record { parties = start; watch = unwatched; named = false; shared = false }

-- FAULTS that were put out
abbrev pub listener : Event → Party
listener (ToServer bs) = party.Server
listener (ToClient i bs) = party.Client i
listener (Cuts bs n c) = party.Server
listener (Damages d clock) = party.Server

abbrev pub fault_line : Party → Option lease.Fault → List Line
fault_line p None = []
fault_line p (Some f) = Fault p f ∷ []

unfoldable pub fault_lines : Party → List message.Message → List Line
fault_lines p [] = []
fault_lines p (m ∷ ms) = fault_line p (fault_in m) ++ fault_lines p ms

-- THE FIRST PREMISE BROKEN
abbrev pub premise_line : (named : Bool) → Option line.Premise → List Line
premise_line true o = []
premise_line false None = []
premise_line false (Some p) = Broken p ∷ []

-- THE FIRST ADDRESS THAT TWO USE
abbrev pub uses_it : (address : ℕ) → Option Use → Bool
uses_it a None = false
uses_it a (Some u) = u.address == a

abbrev pub rival : Parties → (i address j : ℕ) → Bool
rival x i a j = not (j == i) && uses_it a (in_use (x.clients j).state)

abbrev pub pair : (i address : ℕ) → Option ℕ → List Line
pair i a None = []
pair i a (Some j) = Two a (min i j) (max i j) ∷ []

abbrev pub pair_of : Parties → (i : ℕ) → Option Use → List Line
pair_of x i None = []
pair_of x i (Some u) = pair i u.address (lowest (rival x i u.address) 0 places)

-- an event changes only what its listener uses
abbrev pub sharing : Event → Parties → List Line
sharing (ToServer bs) x = []
sharing (ToClient i bs) x = pair_of x i (in_use (x.clients i).state)
sharing (Cuts bs n c) x = []
sharing (Damages d clock) x = []

abbrev pub two_line : (shared : Bool) → List Line → List Line
two_line true ls = []
two_line false ls = ls

-- WHO USES WHAT, at each tick of the server
abbrev pub user_line : (client : ℕ) → Option Use → List Line
user_line i None = []
user_line i (Some u) = User i u.address ∷ []

unfoldable pub user_lines : Parties → (from count : ℕ) → List Line
user_lines x i zero = []
user_lines x i (suc n) = user_line i (in_use (x.clients i).state) ++ user_lines x (suc i) n

abbrev pub nothing : List message.Message → Bool
nothing [] = true
nothing (m ∷ ms) = false

abbrev pub tick_lines : Event → Outcome → List Line
tick_lines (ToServer bs) y = cond (is_tick (ToServer bs) && nothing y.said) (Tick y.parties.server.server.clock ∷ user_lines y.parties 0 places) []
tick_lines (ToClient i bs) y = []
tick_lines (Cuts bs n c) y = []
tick_lines (Damages d clock) y = []

abbrev pub some : List Line → Bool
some [] = false
some (l ∷ ls) = true

-- ONE EVENT, judged or within a run of ticks, with what it came to
abbrev pub broken : (judged : Bool) → Event → Outcome → Play → Option line.Premise
broken judged e y h = breaks e h.parties y h.watch (watched judged e y h.watch)

abbrev pub lines_of : (judged : Bool) → Event → Outcome → Play → List Line
lines_of judged e y h =
    fault_lines (listener e) y.said ++ (premise_line h.named (broken judged e y h) ++ (two_line h.shared (sharing e y.parties) ++ tick_lines e y))

abbrev pub next_of : (judged : Bool) → Event → Outcome → Play → Play
next_of judged e y h =
    record {
      parties = y.parties;
      watch = watched judged e y h.watch;
      named = h.named || is_some (broken judged e y h);
      shared = h.shared || some (sharing e y.parties);
    }

abbrev pub lines : (judged : Bool) → Event → Play → List Line
lines judged e h = lines_of judged e (happens e h.parties) h

abbrev pub next : (judged : Bool) → Event → Play → Play
next judged e h = next_of judged e (happens e h.parties) h

-- a tick that is followed by a tick is no moment to be judged: nothing is heard between them
abbrev pub ticks_next : List Event → Bool
ticks_next [] = false
ticks_next (e ∷ es) = is_tick e

abbrev pub judged : Event → List Event → Bool
judged e es = not (is_tick e && ticks_next es)

-- A RUN from some moment on
unfoldable pub played : List Event → Play → List Line
played [] h = []
played (e ∷ es) h = lines (judged e es) e h ++ played es (next (judged e es) e h)

unfoldable pub after : List Event → Play → Play
after [] h = h
after (e ∷ es) h = after es (next (judged e es) e h)

abbrev pub report : List Event → List Line
report es = played es beginning
