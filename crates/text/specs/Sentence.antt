-- A message as its kind and numbers, and back.
-- Assumes nothing: bytes that are no message are said as they are.
use Rattle.std.specs.Prelude.{ℕ, ◌+◌, ◌≤◌, List, [], ◌∷◌, Some, None, Option, slice_index}
use Rattle.std.specs.Option.{option_map}
use Rattle.lease.specs.Fault.{fault_of, number}
use Rattle.wire.specs.declared.message.Message.{Message}
use Rattle.wire.specs.declared.message.Message.TheVariants as m
use Rattle.wire.specs.Read.{read}
use Rattle.text.specs.declared.field.Field.{Field}
use Rattle.text.specs.declared.kind.Kind.{Kind}
use Rattle.text.specs.declared.kind.Kind.TheVariants.{Settings, Number, Nonce, Request, Grant, Crash, Restart, InUse, NoAddress, Fault}
use Rattle.text.specs.declared.sentence.Spoken.{Spoken}
use Rattle.text.specs.declared.sentence.Spoken.TheVariants.{Tick, Raw, Say}
use Rattle.text.specs.Field.{range}

abbrev pub figures : ℕ → ℕ → ℕ → List ℕ
figures a b c = a ∷ b ∷ c ∷ []

abbrev pub say : Kind → List ℕ → Spoken
say k ns = Say (record { kind = k; figures = ns })

abbrev pub said : Message → Spoken
said (m.Request r) = say Request (figures r.client r.nonce r.preferred)
said (m.Grant g) = say Grant (figures g.client g.nonce g.address)
said (m.Settings addresses term skew) = say Settings (figures addresses term skew)
said m.Tick = Tick
said m.Crash = say Crash (figures 0 0 0)
said (m.Restart clock) = say Restart (figures clock 0 0)
said (m.OwnNumber client) = say Number (figures client 0 0)
said (m.Nonce nonce) = say Nonce (figures nonce 0 0)
said (m.InUse address until) = say InUse (figures address until 0)
said m.NoAddress = say NoAddress (figures 0 0 0)
said (m.Fault f) = say Fault (figures (number f) 0 0)

abbrev pub said_if : Option Message → Spoken
said_if None = Raw
said_if (Some m) = said m

abbrev pub spoken_of : List ℕ → Spoken
spoken_of bs = said_if (read bs)

abbrev first : List ℕ → ℕ
first ns = slice_index ns 0

abbrev second : List ℕ → ℕ
second ns = slice_index ns 1

abbrev third : List ℕ → ℕ
third ns = slice_index ns 2

-- only a number that no fault has makes no message
abbrev pub message_of : Kind → List ℕ → Option Message
message_of Settings ns = Some (m.Settings (first ns) (second ns) (third ns))
message_of Number ns = Some (m.OwnNumber (first ns))
message_of Nonce ns = Some (m.Nonce (first ns))
message_of Request ns = Some (m.Request (record { client = first ns; nonce = second ns; preferred = third ns }))
message_of Grant ns = Some (m.Grant (record { client = first ns; nonce = second ns; address = third ns }))
message_of Crash ns = Some m.Crash
message_of Restart ns = Some (m.Restart (first ns))
message_of InUse ns = Some (m.InUse (first ns) (second ns))
message_of NoAddress ns = Some m.NoAddress
message_of Fault ns = option_map m.Fault (fault_of (first ns))

-- the numbers from this place on are at most what their fields can hold
abbrev pub FittingFrom : ℕ → List Field → List ℕ → Type 0
FittingFrom i [] ns = Unit {0}
FittingFrom i (f ∷ fs) ns = (slice_index ns i ≤ (range f).most) × FittingFrom (i + 1) fs ns

-- each number that the kind has is at most what its field can hold
abbrev pub Fitting : List Field → List ℕ → Type 0
Fitting fs ns = FittingFrom 0 fs ns
