-- The lease table: at each address nothing or a lease, which counts while it is live.
-- Assumes nothing.
use Rattle.std.specs.Prelude.{◌≡◌, ℕ, ◌+◌, ◌<◌, Bool, true, false, cond, not, ◌&&◌, ◌||◌, List, Some, None, Option, ◌==◌, nat_le, nat_lt, slice_index_or}
use Rattle.lease.specs.declared.lease.Lease.{Lease}

abbrev pub Table : Type 0
Table = ℕ → Option Lease

-- the table that a list of places stands for, one place an address
abbrev pub table_of : List (Option Lease) → Table
table_of xs a = slice_index_or xs a None

abbrev pub empty : Table
empty a = None

-- a function changed at one place
abbrev pub at : {A : Type 0} → ℕ → A → (ℕ → A) → ℕ → A
at i x f j = cond (j == i) x (f j)

-- the server's clock has not passed its end
abbrev pub live : ℕ → Lease → Bool
live now l = nat_le now l.expires

-- a live lease of this client
abbrev pub owned : (now client : ℕ) → Option Lease → Bool
owned now c None = false
owned now c (Some l) = l.client == c && live now l

-- no live lease
abbrev pub vacant : (now : ℕ) → Option Lease → Bool
vacant now None = true
vacant now (Some l) = not (live now l)

-- no live lease of another client
abbrev pub free : (now client : ℕ) → Option Lease → Bool
free now c None = true
free now c (Some l) = l.client == c || not (live now l)

-- the lease of an address for a client, that lives for `life` ticks from now on
abbrev pub leased : (now life client address : ℕ) → Lease
leased now life c a = record { address = a; client = c; expires = now + life }

-- a lease is written in the place of its address's lease, and nothing else changes
abbrev pub written : Lease → Table → Table
written l t = at l.address (Some l) t

-- leases that are over, at the addresses named, are forgotten
abbrev pub forgotten : (now : ℕ) → (gone : ℕ → Bool) → Table → Table
forgotten now gone t a = cond (gone a && vacant now (t a)) None (t a)

-- a lease that stands at its own address
abbrev pub at_home : (a : ℕ) → Option Lease → Option Lease
at_home a None = None
at_home a (Some l) = cond (l.address == a) (Some l) None

-- the table that is loaded from a list of places, of which those beyond the pool, and leases in others' places, are passed over
abbrev pub loaded : (pool : ℕ) → List (Option Lease) → Table
loaded pool xs a = cond (nat_lt a pool) (at_home a (slice_index_or xs a None)) None

-- no client has two live leases
abbrev pub OneEach : (now : ℕ) → Table → Type 0
OneEach now t = (c a b : ℕ) → owned now c (t a) ≡ true → owned now c (t b) ≡ true → a ≡ b

-- each lease stands at its own address
abbrev pub Placed : Table → Type 0
Placed t = (a : ℕ) (l : Lease) → t a ≡ Some l → l.address ≡ a

-- and there is none outside the pool
abbrev pub Pooled : (pool : ℕ) → Table → Type 0
Pooled pool t = (a : ℕ) (l : Lease) → t a ≡ Some l → a < pool
