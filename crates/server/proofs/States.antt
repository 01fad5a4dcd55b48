-- States whose parts are equal.
-- Assumes nothing.
use Rattle.std.proofs.Common.{◌≡◌, Some, Option}
use Rattle.lease.specs.declared.keeper.Keeper.{Keeper}
use Rattle.lease.specs.Settings as model
use Rattle.lease.specs.World as world
use Rattle.lease.specs.Of.{settings_of}
use Rattle.lease.specs.Stands.{server_of}
use Rattle.journal.specs.declared.journal.Journal.{Journal}
use Rattle.journal.specs.Device.{Cursor, Device}
use Rattle.journal.specs.Memory.{cursor_of, places_of}
use Rattle.server.specs.Server.{State}

pub same-state : (a b : Option model.Settings) (v w : world.Server) (d e : Device) (c f : Cursor) → a ≡ b → v ≡ w → d ≡ e → c ≡ f →
    ◌≡◌ {A = State} (record { settings = a; server = v; device = d; cursor = c }) (record { settings = b; server = w; device = e; cursor = f })
same-state a b v w d e c f p q r s = cc

-- of a keeper and a journal
abbrev pub state_by : Keeper → Journal → State
state_by k j = record { settings = Some (settings_of k.settings); server = server_of k; device = places_of j; cursor = cursor_of j }
