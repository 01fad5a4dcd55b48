-- The premises that an event breaks, as they are tested before it is heard and after.
-- Assumes nothing.
use Rattle.std.specs.Prelude.{◌≡◌, ◌||◌, List, None, Option}
use Rattle.wire.specs.declared.message.Message.{Message}
use Rattle.system.specs.declared.line.Premise.{Premise}
use Rattle.system.specs.declared.line.Premise.TheVariants as premise
use Rattle.system.specs.Parties.{Event, Parties}
use Rattle.system.specs.Watch.{Watch, any_in, apart, differ, drawn, exhausts, knows, or_else, sets_back, shares_number, unsent}
use Rattle.replay.specs.declared.run.Foreseen.{Foreseen}

-- what an event breaks by itself, from the parties `x` and the watch `w` on
pub record Foresees (e : Event) (x : Parties) (w : Watch) (c : Foreseen) : Type 0 where
  pub clocks : c.clocks ≡ sets_back e x
  pub message : c.message ≡ unsent e w
  pub nonce : c.nonce ≡ any_in (drawn e) w.nonces

-- the first that it has broken then, where it left the parties `y` and the watch `v`, and its listener said this
abbrev pub first_broken : Event → Parties → List Message → Watch → Foreseen → Option Premise
first_broken e y said v c =
    or_else (c.clocks || apart v.settings v.leads) premise.Clocks
    (or_else c.message premise.Message
    (or_else c.nonce premise.Nonce
    (or_else (shares_number e y) premise.Number
    (or_else (differ v.settings (knows e y)) premise.Settings
    (or_else (exhausts said) premise.Count None)))))
