-- What an event that is heard makes of a play and of the lines that are out.
-- Assumes nothing.
use Rattle.std.specs.Prelude.{◌≡◌, ℕ, Bool, cond, List, ◌++◌, ◌==◌}
use Rattle.system.specs.declared.line.Line.{Line}
use Rattle.system.specs.Parties.{Event, ToServer, ToClient}
use Rattle.system.specs.Report.{Play, lines, next}

pub record Heard (judged : Bool) (e : Event) (before after : Play) (old new : List Line) : Type 0 where
  pub play : after ≡ next judged e before
  pub report : new ≡ old ++ lines judged e before

-- bytes that come to the server, 0, or to a client
abbrev pub called_by : (who : ℕ) → List ℕ → Event
called_by who bs = cond (who == 0) (ToServer bs) (ToClient who bs)
