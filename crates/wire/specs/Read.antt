-- The message that a byte string is, whoever reads it: the first byte says the kind, the kind says the length, and each field begins at its place.
-- Assumes nothing: a byte string of another kind or length, or with a fault that no number stands for, is no message.
use Rattle.std.specs.Prelude.{cond, List, ℕ, length, Some, None, Option, ◌==◌, slice_index}
use Rattle.std.specs.Option.{option_map}
use Rattle.lease.specs.Fault.{fault_of}
use Rattle.wire.specs.declared.kind.Kind.{Kind}
use Rattle.wire.specs.declared.kind.Kind.TheVariants.{Request, Grant, Settings, Tick, Crash, Restart, OwnNumber, Nonce, InUse, NoAddress, Fault}
use Rattle.wire.specs.declared.message.Message.{Message}
use Rattle.wire.specs.declared.message.Message.TheVariants as m
use Rattle.wire.specs.Kind.{table, kind_of}
use Rattle.wire.specs.Numbers.{be2, be4, be8}

abbrev pub fields_at : Kind → List ℕ → Option Message
fields_at Request bs = Some (m.Request (record { client = be4 bs 1; nonce = be8 bs 5; preferred = be2 bs 13 }))
fields_at Grant bs = Some (m.Grant (record { client = be4 bs 1; nonce = be8 bs 5; address = be2 bs 13 }))
fields_at Settings bs = Some (m.Settings (be2 bs 1) (be4 bs 3) (be2 bs 7))
fields_at Tick bs = Some m.Tick
fields_at Crash bs = Some m.Crash
fields_at Restart bs = Some (m.Restart (be8 bs 1))
fields_at OwnNumber bs = Some (m.OwnNumber (be4 bs 1))
fields_at Nonce bs = Some (m.Nonce (be8 bs 1))
fields_at InUse bs = Some (m.InUse (be2 bs 1) (be8 bs 3))
fields_at NoAddress bs = Some m.NoAddress
fields_at Fault bs = option_map m.Fault (fault_of (slice_index bs 1))

abbrev pub read_as : Option Kind → List ℕ → Option Message
read_as None bs = None
read_as (Some k) bs = cond (length bs == (table k).size) (fields_at k bs) None

-- an empty byte string has no kind: 0 is the number of none
unfoldable pub read : List ℕ → Option Message
read bs = read_as (kind_of (slice_index bs 0)) bs
