-- What the user of a client knows from what it puts out: the address told last, unless told since that there is none.
-- Assumes nothing.
use Rattle.std.specs.Prelude.{◌≡◌, List, [], ◌∷◌, Some, None, Option}
use Rattle.lease.specs.Holding.{Use}
use Rattle.wire.specs.declared.message.Message.{Message}
use Rattle.wire.specs.declared.message.Message.TheVariants.{Request, Grant, Settings, Tick, Crash, Restart, OwnNumber, Nonce, InUse, NoAddress, Fault}
use Rattle.client.specs.State.{in_use}
use Rattle.client.specs.Run.{Run, client, said}

abbrev pub tells : Message → Option Use → Option Use
tells (Request r) known = known
tells (Grant g) known = known
tells (Settings n t k) known = known
tells Tick known = known
tells Crash known = known
tells (Restart clock) known = known
tells (OwnNumber n) known = known
tells (Nonce n) known = known
tells (InUse a u) known = Some (record { address = a; until = u })
tells NoAddress known = None
tells (Fault f) known = known

unfoldable pub told : List Message → Option Use → Option Use
told [] known = known
told (m ∷ ms) known = told ms (tells m known)

-- At every moment this is exactly what the client uses.
abbrev pub Told : Type 0
Told = (bs : Run) → told (said bs) None ≡ in_use (client bs).state
