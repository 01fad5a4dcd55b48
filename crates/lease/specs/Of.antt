-- What each value of the code stands for in the model.
-- Assumes nothing.
use Rattle.std.specs.Prelude.{Ok, Err, Result}
use Rattle.std.specs.Option.{option_map}
use Rattle.lease.specs.declared.holding.Use.{Use}
use Rattle.lease.specs.declared.holding.Wait.{Wait}
use Rattle.lease.specs.declared.holding.Holding.{Holding}
use Rattle.lease.specs.declared.settings.Settings.{Settings}
use Rattle.lease.specs.Settings as model
use Rattle.lease.specs.Holding as held

abbrev pub settings_of : Settings → model.Settings
settings_of s = record { addresses = s.addresses; term = s.term; skew = s.skew }

abbrev pub use_of : Use → held.Use
use_of u = record { address = u.address; until = u.until }

abbrev pub wait_of : Wait → held.Wait
wait_of w = record { nonce = w.nonce; asked = w.asked.ticks }

abbrev pub holding_of : Holding → held.Holding
holding_of h = record { uses = option_map use_of h.using; waits = option_map wait_of h.waiting }

-- what comes of a step, or the fault with which it is refused
abbrev pub map_ok : {A B E : Type 0} → (A → B) → Result A E → Result B E
map_ok f (Ok x) = Ok (f x)
map_ok f (Err e) = Err e
