-- The state that a server in memory stands for.
-- Assumes nothing.
use Rattle.std.specs.Prelude.{Some, None, Option}
use Rattle.lease.specs.Settings as model
use Rattle.lease.specs.Table.{empty}
use Rattle.lease.specs.World as world
use Rattle.lease.specs.Of.{settings_of}
use Rattle.lease.specs.Stands.{server_of}
use Rattle.journal.specs.declared.journal.Journal.{Journal}
use Rattle.journal.specs.Memory.{cursor_of, places_of}
use Rattle.server.specs.declared.lender.Lender.{Lender}
use Rattle.server.specs.declared.server.Phase.{Phase}
use Rattle.server.specs.declared.server.Phase.TheVariants.{Unsettled, Settled}
use Rattle.server.specs.declared.server.Server.{Server}
use Rattle.server.specs.Server.{State}

abbrev pub settings_in : Phase → Option model.Settings
settings_in (Unsettled c up) = None
settings_in (Settled l) = Some (settings_of l.keeper.settings)

abbrev pub server_in : Phase → world.Server
server_in (Unsettled c up) = record { clock = c.ticks; up = up; silent = None; table = empty }
server_in (Settled l) = server_of l.keeper

abbrev pub state_with : Phase → Journal → State
state_with p j = record { settings = settings_in p; server = server_in p; device = places_of j; cursor = cursor_of j }

-- of a server that knows its settings
abbrev pub lender_of : Lender → Journal → State
lender_of l j = state_with (Settled l) j

abbrev pub state_of : Server → State
state_of s = state_with s.phase s.journal
