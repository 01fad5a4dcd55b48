-- What appending a lease writes, in which order, and where the next record goes then.
-- Assumes nothing.
use Rattle.std.specs.Prelude.{ℕ, suc, ◌+◌, ◌^◌, max, Bool, cond, List, [], ◌∷◌, ◌++◌, length, ◌==◌, nat_le, nat_lt}
use Rattle.lease.specs.declared.lease.Lease.{Lease}
use Rattle.journal.specs.declared.record.Record.{Record}
use Rattle.journal.specs.Place.{Place, Holds}
use Rattle.journal.specs.Table.{Table, keeping}
use Rattle.journal.specs.Row.{Row}
use Rattle.journal.specs.Device.{Side, Row0, Row1, other, Device, Cursor}

-- from which place on an append writes, and the leases that it copies before the new one
pub record Plan : Type 0 where
  pub side : Side
  pub place : ℕ
  pub first : ℕ
  pub base : ℕ
  pub copied : List Lease

-- behind the last record of the row
abbrev pub in_row : Cursor → Plan
in_row c = record { side = c.side; place = c.count; first = c.first; base = c.base; copied = [] }

-- into the other row, begun with the leases kept and numbered above all that fits
abbrev pub in_other : (addresses now : ℕ) → Cursor → Table → Plan
in_other n now c u = record { side = other c.side; place = 0; first = suc c.highest; base = length (keeping now u n); copied = keeping now u n }

-- when the row is full, the other is begun
abbrev pub plan : (R addresses now : ℕ) → Cursor → Table → Plan
plan R n now c u = cond (nat_lt c.count R) (in_row c) (in_other n now c u)

-- the last sequence number that an append takes
abbrev pub last : Plan → ℕ
last p = p.first + (p.place + length p.copied)

-- sequence numbers stay below 2^63
abbrev pub exhausted : Plan → Bool
exhausted p = nat_le (2 ^ 63) (last p)

pub record Write : Type 0 where
  pub side : Side
  pub place : ℕ
  pub what : Record

-- leases from a place on, with the sequence numbers from `q` on
unfoldable pub numbered : Side → (place sequence base : ℕ) → List Lease → List Write
numbered s k q b [] = []
numbered s k q b (x ∷ xs) = record { side = s; place = k; what = record { sequence = q; base = b; lease = x } } ∷ numbered s (suc k) (suc q) b xs

abbrev pub writes : Plan → Lease → List Write
writes p x = numbered p.side p.place (p.first + p.place) p.base (p.copied ++ (x ∷ []))

abbrev pub after : Cursor → Plan → Cursor
after c p = record { side = p.side; first = p.first; count = suc (p.place + length p.copied); base = p.base; highest = max c.highest (last p) }

abbrev pub at : ℕ → Place → Row → Row
at k p row j = cond (j == k) p (row j)

abbrev pub put : Side → ℕ → Place → Device → Device
put Row0 k p d Row0 = at k p (d Row0)
put Row0 k p d Row1 = d Row1
put Row1 k p d Row0 = d Row0
put Row1 k p d Row1 = at k p (d Row1)

unfoldable pub perform : List Write → Device → Device
perform [] d = d
perform (w ∷ ws) d = perform ws (put w.side w.place (Holds w.what) d)
