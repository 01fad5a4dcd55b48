-- Each message's bytes: its kind's number, then its fields in this order.
-- Assumes nothing.
use Rattle.std.specs.Prelude.{ℕ, List, [], ◌∷◌, ◌++◌}
use Rattle.lease.specs.Fault as fault
use Rattle.wire.specs.declared.kind.Kind.{Kind}
use Rattle.wire.specs.declared.kind.Kind.TheVariants as k
use Rattle.wire.specs.declared.message.Message.{Message}
use Rattle.wire.specs.declared.message.Message.TheVariants.{Request, Grant, Settings, Tick, Crash, Restart, OwnNumber, Nonce, InUse, NoAddress, Fault}
use Rattle.wire.specs.Kind.{table}
use Rattle.wire.specs.Numbers.{bytes2, bytes4, bytes8}

abbrev pub kind : Message → Kind
kind (Request r) = k.Request
kind (Grant g) = k.Grant
kind (Settings addresses term skew) = k.Settings
kind Tick = k.Tick
kind Crash = k.Crash
kind (Restart clock) = k.Restart
kind (OwnNumber client) = k.OwnNumber
kind (Nonce nonce) = k.Nonce
kind (InUse address until) = k.InUse
kind NoAddress = k.NoAddress
kind (Fault f) = k.Fault

abbrev pub fields : Message → List ℕ
fields (Request r) = bytes4 r.client ++ (bytes8 r.nonce ++ bytes2 r.preferred)
fields (Grant g) = bytes4 g.client ++ (bytes8 g.nonce ++ bytes2 g.address)
fields (Settings addresses term skew) = bytes2 addresses ++ (bytes4 term ++ bytes2 skew)
fields Tick = []
fields Crash = []
fields (Restart clock) = bytes8 clock
fields (OwnNumber client) = bytes4 client
fields (Nonce nonce) = bytes8 nonce
fields (InUse address until) = bytes2 address ++ bytes8 until
fields NoAddress = []
fields (Fault f) = fault.number f ∷ []

abbrev pub encoded : Message → List ℕ
encoded m = (table (kind m)).number ∷ fields m
