-- What is promised of every run.
-- Assumes nothing.
use Rattle.std.specs.Prelude.{◌≡◌, ℕ, ◌<◌, ◌≤◌, true, false, List, ◌∷◌, Some, None}
use Rattle.lease.specs.declared.lease.Lease.{Lease}
use Rattle.lease.specs.Settings.{Settings}
use Rattle.lease.specs.Table.{free, OneEach}
use Rattle.lease.specs.Holding.{taken}
use Rattle.lease.specs.World.{World, lending, elem}
use Rattle.lease.specs.Run.{Event, Asks, ServerHears, ClientHears, world}
use Rattle.lease.specs.Premise.{Agree, Forward}

-- the client uses the address
abbrev pub Uses : World → (client address : ℕ) → Type 0
Uses w c a = (until : ℕ) × ((w.clients c).holding.uses ≡ Some (record { address = a; until = until }))

-- a request that is heard at once, and whose grant is heard at once: two messages
abbrev pub asked_and_heard : (client nonce preferred : ℕ) → List Event → List Event
asked_and_heard c n p es = ClientHears c 0 ∷ (ServerHears 0 ∷ (Asks c n p ∷ es))

-- NEVER TWO. No two clients ever use one address.
abbrev pub NeverTwo : Type 0
NeverTwo = (s : Settings) (es : List Event) → Agree s es → (a c d : ℕ) → Uses (world s es) c a → Uses (world s es) d a → c ≡ d

-- CAN HAVE. Whoever is heard while an address is free for it has one.
abbrev pub CanHave : Type 0
CanHave =
    (s : Settings) (es : List Event) (c n p : ℕ) → lending (world s es).server ≡ true → ((world s es).clients c).up ≡ true → elem n (world s es).drawn ≡ false →
    (b : ℕ) → b < s.addresses → free (world s es).server.clock c ((world s es).server.table b) ≡ true →
    (a : ℕ) × (a < s.addresses) × (((world s (asked_and_heard c n p es)).clients c).holding ≡ taken s.term a ((world s es).clients c).clock)

-- KEEPS. Whoever uses an address, asks again and is heard, keeps it, for a term from its asking on.
abbrev pub Keeps : Type 0
Keeps =
    (s : Settings) (es : List Event) → Agree s es → Forward s es → (c a n p : ℕ) → lending (world s es).server ≡ true → elem n (world s es).drawn ≡ false → Uses (world s es) c a →
    ((world s (asked_and_heard c n p es)).clients c).holding ≡ taken s.term a ((world s es).clients c).clock

-- THE PIVOT. Whatever a client uses, the table has as its lease, which is live whenever the server is up; unless the table is lost and the silence isn't over.
abbrev pub InTable : Type 0
InTable =
    (s : Settings) (es : List Event) → Agree s es → (c a : ℕ) → Uses (world s es) c a → (world s es).server.silent ≡ None →
    (l : Lease) × ((world s es).server.table a ≡ Some l) × (l.client ≡ c) × ((world s es).server.up ≡ true → (world s es).server.clock ≤ l.expires)

-- No client ever has two live leases.
abbrev pub OneLeaseEach : Type 0
OneLeaseEach = (s : Settings) (es : List Event) → Forward s es → OneEach (world s es).server.clock (world s es).server.table
