-- Which address a request is granted, and the laws of the choice.
-- Assumes nothing.
use Rattle.std.specs.Prelude.{◌≡◌, ℕ, zero, suc, ◌+◌, ◌<◌, Bool, true, false, cond, ◌&&◌, Some, None, Ok, Err, Option, Result, nat_lt}
use Rattle.lease.specs.declared.fault.Fault.{Fault}
use Rattle.lease.specs.declared.fault.Fault.TheVariants.{NoneFree}
use Rattle.lease.specs.declared.lease.Lease.{Lease}
use Rattle.lease.specs.declared.message.Request.{Request}
use Rattle.lease.specs.Table.{Table, owned, vacant, free, leased, written}

-- the lowest of the `k` addresses from `a` on that passes the test
unfoldable pub lowest : (ℕ → Bool) → (a k : ℕ) → Option ℕ
lowest test a zero = None
lowest test a (suc k) = cond (test a) (Some a) (lowest test (a + 1) k)

abbrev pub or_else : Option ℕ → Option ℕ → Option ℕ
or_else (Some a) o = Some a
or_else None o = o

-- the address of an own live lease; else the preferred one, if the pool has it and no other client has it; else the lowest that nobody has; else none
abbrev pub choose : (pool now : ℕ) → Table → Request → Option ℕ
choose pool now t r =
    or_else (lowest (λ a. owned now r.client (t a)) 0 pool)
    (or_else (cond (nat_lt r.preferred pool && free now r.client (t r.preferred)) (Some r.preferred) None) (lowest (λ a. vacant now (t a)) 0 pool))

-- the client has no live lease
abbrev pub OwnsNothing : (pool now : ℕ) → Table → (client : ℕ) → Type 0
OwnsNothing pool now t c = (a : ℕ) → a < pool → owned now c (t a) ≡ false

-- THE LAWS OF CHOOSING
pub record Chosen (pool now : ℕ) (t : Table) (r : Request) (o : Option ℕ) : Type 0 where
  -- what is chosen is an address of the pool
  pub below : (q : ℕ) → o ≡ Some q → q < pool
  -- an own live lease is chosen
  pub own : (a : ℕ) → a < pool → owned now r.client (t a) ≡ true → (q : ℕ) × (o ≡ Some q) × (owned now r.client (t q) ≡ true)
  -- an address with another's live lease never is
  pub others : (q : ℕ) → o ≡ Some q → free now r.client (t q) ≡ true
  -- the preferred one is, if it is free and nothing is owned
  pub preferred : r.preferred < pool → free now r.client (t r.preferred) ≡ true → OwnsNothing pool now t r.client → o ≡ Some r.preferred
  -- otherwise the lowest free one
  pub lowest_free : (r.preferred < pool → free now r.client (t r.preferred) ≡ false) → OwnsNothing pool now t r.client →
      (q : ℕ) → o ≡ Some q → (vacant now (t q) ≡ true) × ((a : ℕ) → a < q → vacant now (t a) ≡ false)
  -- if any is free for this client, one is chosen
  pub exists : (a : ℕ) → a < pool → free now r.client (t a) ≡ true → (q : ℕ) × (o ≡ Some q)

abbrev pub Choosing : Type 0
Choosing = (pool now : ℕ) (t : Table) (r : Request) → Chosen pool now t r (choose pool now t r)

-- the lease that a request is granted, or that none is free
abbrev pub leasing : (now life : ℕ) → Request → Option ℕ → Result Lease Fault
leasing now life r None = Err NoneFree
leasing now life r (Some a) = Ok (leased now life r.client a)

-- the table after it: a refusal changes nothing
abbrev pub entered : Result Lease Fault → Table → Table
entered (Ok l) t = written l t
entered (Err f) t = t
