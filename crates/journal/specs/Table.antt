-- Lease tables, which leases of one are kept, and when two tables say the same.
-- Assumes nothing.
use Rattle.std.specs.Prelude.{◌≡◌, ℕ, zero, suc, ◌<◌, Bool, cond, List, [], ◌∷◌, ◌++◌, Some, None, Option, ◌==◌, nat_le}
use Rattle.lease.specs.declared.lease.Lease.{Lease}

-- the lease of each address
abbrev pub Table : Type 0
Table = ℕ → Option Lease

abbrev pub empty : Table
empty a = None

abbrev pub set : Lease → Table → Table
set x t a = cond (a == x.address) (Some x) (t a)

-- whether a lease is worth keeping when the clock shows `now`
abbrev pub kept : ℕ → Lease → Bool
kept now l = nat_le now l.expires

abbrev pub kept_of : ℕ → Option Lease → Option Lease
kept_of now None = None
kept_of now (Some l) = cond (kept now l) (Some l) None

-- two tables with the same leases that are kept, at the addresses of the pool
abbrev pub Agree : (addresses now : ℕ) → Table → Table → Type 0
Agree n now t u = (a : ℕ) → a < n → kept_of now (t a) ≡ kept_of now (u a)

-- each lease stands at its own address
abbrev pub Filed : Table → Type 0
Filed t = (a : ℕ) (l : Lease) → t a ≡ Some l → l.address ≡ a

abbrev pub added : List Lease → Option Lease → List Lease
added xs None = xs
added xs (Some l) = xs ++ (l ∷ [])

-- the leases kept of the addresses below `n`, by rising address
unfoldable pub keeping : ℕ → Table → ℕ → List Lease
keeping now t zero = []
keeping now t (suc n) = added (keeping now t n) (kept_of now (t n))
