-- The settings that all parties share, their ranges, and the one rule on how far two clocks may differ.
-- Assumes nothing.
use Rattle.std.specs.Prelude.{ℕ, ◌+◌, ◌*◌, Bool, ◌&&◌, nat_le, nat_lt}

-- addresses: the pool's size; term: for so many ticks of its own clock a client uses an address from its request on; skew: see `outlasts`
pub record Settings : Type 0 where
  pub addresses : ℕ
  pub term : ℕ
  pub skew : ℕ

-- the ranges that a server or a client takes
abbrev pub valid : (addresses term skew : ℕ) → Bool
valid n t k = nat_le 1 n && nat_le n 1024 && nat_le 60 t && nat_le t 86400 && nat_le k 600 && nat_lt (2 * k) t

-- what one clock may count while another counts `x`
abbrev pub outlasts : Settings → ℕ → ℕ
outlasts s x = x + s.skew

-- how long a lease lives, by the server's clock, that is to outlast a use of `term` ticks by a client's
abbrev pub life : Settings → ℕ
life s = outlasts s s.term

-- how long a server that lost its table lends nothing
abbrev pub silence : Settings → ℕ
silence s = outlasts s (life s)
