-- Which messages are meant for a reader that knows a pool of so many addresses, or none yet.
-- Assumes nothing.
use Rattle.std.specs.Prelude.{◌≡◌, ℕ, ◌<◌, ◌≤◌, true, Some, None, Option}
use Rattle.lease.specs.Settings.{valid}
use Rattle.wire.specs.declared.message.Message.{Message}
use Rattle.wire.specs.declared.message.Message.TheVariants.{Request, Grant, Settings, Tick, Crash, Restart, OwnNumber, Nonce, InUse, NoAddress, Fault}
use Rattle.wire.specs.declared.reader.Reader.{Reader}
use Rattle.wire.specs.declared.reader.Reader.TheVariants.{Server, Client, Tool}
use Rattle.wire.specs.Message.{kind}
use Rattle.wire.specs.Reader.{takes}

abbrev pub Known : Option ℕ → (ℕ → Type 0) → Type 0
Known None P = ⊥
Known (Some n) P = P n

-- addresses are within the pool, and settings within their ranges and new
abbrev pub Sound : Option ℕ → Message → Type 0
Sound n (Request r) = Known n (λ size. r.preferred ≤ size)
Sound n (Grant g) = Known n (λ size. g.address < size)
Sound n (Settings addresses term skew) = (n ≡ None) × (valid addresses term skew ≡ true)
Sound n Tick = Unit {0}
Sound n Crash = Unit {0}
Sound n (Restart clock) = Unit {0}
Sound n (OwnNumber client) = Unit {0}
Sound n (Nonce nonce) = Unit {0}
Sound n (InUse address until) = Unit {0}
Sound n NoAddress = Unit {0}
Sound n (Fault f) = Unit {0}

abbrev pub Suits : Reader → Option ℕ → Message → Type 0
Suits Server n m = Sound n m
Suits Client n m = Sound n m
Suits Tool n m = Unit {0}

pub record Meant (reader : Reader) (n : Option ℕ) (m : Message) : Type 0 where
  pub own : takes reader (kind m) ≡ true
  pub suits : Suits reader n m
