-- A device's life in which a row switch is cut, begun anew and cut again, and then done: the laws speak of something.
-- Assumes nothing.
use Rattle.std.specs.Prelude.{◌≡◌, ℕ, List, [], ◌∷◌, ◌++◌, Some, None, Option}
use Rattle.lease.specs.declared.lease.Lease.{Lease}
use Rattle.journal.specs.Device.{Side, Row0, Row1, cursor, leases}
use Rattle.journal.specs.Crash.{Whole, Tears}
use Rattle.journal.specs.Run.{Operation, Append, Crash, Clock, start, run}

-- until tick 10
abbrev pub lent : (address client : ℕ) → Lease
lent a c = record { address = a; client = c; expires = 10 }

abbrev pub filled : List Operation
filled = Append (lent 0 7) ∷ Append (lent 1 8) ∷ Append (lent 0 9) ∷ Clock 5 ∷ []

abbrev pub torn : List Operation
torn = filled ++ (Crash (lent 1 6) 1 Tears ∷ [])

abbrev pub copied : List Operation
copied = torn ++ (Crash (lent 1 6) 1 Whole ∷ [])

abbrev pub switched : List Operation
switched = copied ++ (Append (lent 1 6) ∷ [])

abbrev who : Option Lease → ℕ
who None = 0
who (Some l) = l.client

-- the row in use, how many records it has, its first sequence number and its base, and the clients that have the two addresses
abbrev pub seen : List Operation → Side × ℕ × ℕ × ℕ × ℕ × ℕ
seen os =
    let d = (run 3 2 os (start 3)).device in
    ((cursor 3 d).side, (cursor 3 d).count, (cursor 3 d).first, (cursor 3 d).base, who (leases 3 d 0), who (leases 3 d 1))

pub record Switches : Type 0 where
  pub before : seen filled ≡ (Row0, 3, 1, 0, 9, 8)
  pub once : seen torn ≡ (Row0, 3, 1, 0, 9, 8)
  pub twice : seen copied ≡ (Row1, 2, 5, 2, 9, 8)
  pub done : seen switched ≡ (Row1, 3, 5, 2, 9, 6)
