-- What playing a script comes to: the report of its events, with the promise on it, or why there is none.
-- Assumes nothing: any bytes may be a script.
use Rattle.std.specs.Prelude.{◌≡◌, ℕ, false, ◌⊎◌, List, ◌++◌, map, Ok, Err, Result}
use Rattle.script.specs.declared.entry.Entry.{Entry}
use Rattle.script.specs.declared.entry.Unread.{Unread}
use Rattle.script.specs.declared.entry.Unread.TheVariants as unread
use Rattle.script.specs.Script.{Part, Reads, Stuck, part_of}
use Rattle.system.specs.declared.line.Line.{Line}
use Rattle.system.specs.Parties.{Event}
use Rattle.system.specs.Promise.{any, names_premise, names_two}
use Rattle.system.specs.Report.{report}
use Rattle.replay.specs.declared.player.Stopped.{Stopped}
use Rattle.replay.specs.declared.player.Stopped.TheVariants.{Script, NoMemory}
use Rattle.replay.specs.Heard.{called_by}

abbrev pub event_of_part : Part → Event
event_of_part p = called_by p.who p.message

-- the events of a script
abbrev pub events_of : List Part → List Event
events_of ps = map event_of_part ps

abbrev pub events_in : List Entry → List Event
events_in es = events_of (map part_of es)

abbrev pub stopped_by : Unread → Stopped
stopped_by (unread.Fault n) = Script n
stopped_by unread.NoMemory = NoMemory

-- the bytes are these parts, and what is appended is the report of their events: if it names no broken premise, it names no address that two use
pub record Played (bytes : List ℕ) (old new : List Line) : Type 0 where
  pub parts : List Part
  pub reads : Reads bytes parts
  pub appends : new ≡ old ++ report (events_of parts)
  pub promise : any names_premise (report (events_of parts)) ≡ false → any names_two (report (events_of parts)) ≡ false

-- what is appended is a beginning of this
pub record Begun (whole old new : List Line) : Type 0 where
  pub rest : List Line
  pub joins : new ++ rest ≡ old ++ whole

-- the bytes are these parts, and what is appended is a beginning of the report of their events
pub record Cut (bytes : List ℕ) (old new : List Line) : Type 0 where
  pub parts : List Part
  pub reads : Reads bytes parts
  pub begins : Begun (report (events_of parts)) old new

-- a script that can't be read is not played; without memory the report breaks off
abbrev pub Unplayed : List ℕ → (old new : List Line) → Stopped → Type 0
Unplayed bytes old new (Script n) = Stuck bytes n × (new ≡ old)
Unplayed bytes old new NoMemory = (new ≡ old) ⊎ Cut bytes old new

abbrev pub Ended : List ℕ → (old new : List Line) → Result Unit Stopped → Type 0
Ended bytes old new (Ok u) = Played bytes old new
Ended bytes old new (Err s) = Unplayed bytes old new s
