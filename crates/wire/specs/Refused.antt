-- What each fault says of a byte string that is refused: the first that stands in the way, since the later ones are of a message that the reader takes.
-- Assumes nothing: other faults than these are not met in reading.
use Rattle.std.specs.Prelude.{◌≡◌, ℕ, ◌<◌, ◌≤◌, true, false, List, None, Option}
use Rattle.lease.specs.declared.fault.Fault as lease
use Rattle.lease.specs.declared.fault.Fault.TheVariants.{Malformed, BadAddress, OtherClient, NotWaiting, TooLate, NoneFree, BadSettings, TableLost, CountExhausted}
use Rattle.lease.specs.Settings.{valid}
use Rattle.wire.specs.declared.message.Message.{Message}
use Rattle.wire.specs.declared.message.Message.TheVariants.{Request, Grant, Settings, Tick, Crash, Restart, OwnNumber, Nonce, InUse, NoAddress, Fault}
use Rattle.wire.specs.declared.reader.Reader.{Reader}
use Rattle.wire.specs.declared.reader.Reader.TheVariants.{Server, Client, Tool}
use Rattle.wire.specs.Laws.{Fits}
use Rattle.wire.specs.Meant.{Known}
use Rattle.wire.specs.Message.{kind, encoded}
use Rattle.wire.specs.Reader.{takes}

-- it names an address outside the pool
abbrev pub Outside : Option ℕ → Message → Type 0
Outside n (Request r) = Known n (λ size. size < r.preferred)
Outside n (Grant g) = Known n (λ size. size ≤ g.address)
Outside n (Settings addresses term skew) = ⊥
Outside n Tick = ⊥
Outside n Crash = ⊥
Outside n (Restart clock) = ⊥
Outside n (OwnNumber client) = ⊥
Outside n (Nonce nonce) = ⊥
Outside n (InUse address until) = ⊥
Outside n NoAddress = ⊥
Outside n (Fault f) = ⊥

-- it wants settings that are not known yet, or gives some that are out of range or not wanted any more
abbrev pub Unsettled : Option ℕ → Message → Type 0
Unsettled n (Request r) = n ≡ None
Unsettled n (Grant g) = n ≡ None
Unsettled n (Settings addresses term skew) = n ≡ None → valid addresses term skew ≡ false
Unsettled n Tick = ⊥
Unsettled n Crash = ⊥
Unsettled n (Restart clock) = ⊥
Unsettled n (OwnNumber client) = ⊥
Unsettled n (Nonce nonce) = ⊥
Unsettled n (InUse address until) = ⊥
Unsettled n NoAddress = ⊥
Unsettled n (Fault f) = ⊥

-- a tool knows no settings, and refuses nothing for their sake
abbrev pub Party : Reader → Type 0
Party Server = Unit {0}
Party Client = Unit {0}
Party Tool = ⊥

-- the bytes are those of a message that the reader takes
pub record Own (reader : Reader) (bs : List ℕ) (m : Message) : Type 0 where
  pub is : bs ≡ encoded m
  pub own : takes reader (kind m) ≡ true

pub record Faulty (reader : Reader) (bs : List ℕ) (P : Message → Type 0) : Type 0 where
  pub message : Message
  pub read : Own reader bs message
  pub party : Party reader
  pub why : P message

abbrev pub Refused : Reader → Option ℕ → List ℕ → lease.Fault → Type 0
Refused reader n bs Malformed = (m : Message) → Fits m → Own reader bs m → ⊥
Refused reader n bs BadAddress = Faulty reader bs (Outside n)
Refused reader n bs BadSettings = Faulty reader bs (Unsettled n)
Refused reader n bs OtherClient = ⊥
Refused reader n bs NotWaiting = ⊥
Refused reader n bs TooLate = ⊥
Refused reader n bs NoneFree = ⊥
Refused reader n bs TableLost = ⊥
Refused reader n bs CountExhausted = ⊥
