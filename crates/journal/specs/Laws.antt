-- What the journal promises through crashes.
-- Assumes what Crash and Run assume, and fewer addresses than a row has places.
use Rattle.std.specs.Prelude.{◌≡◌, ℕ, suc, ◌+◌, ◌<◌, ◌≤◌, Bool, true, false, cond, ◌||◌, ◌⊎◌, List, ◌∷◌, ◌++◌, length, Some, None, ◌≢◌}
use Rattle.lease.specs.declared.lease.Lease.{Lease}
use Rattle.journal.specs.declared.record.Record.{Record}
use Rattle.journal.specs.Place.{Blank, Holds, height, base_of}
use Rattle.journal.specs.Table.{Table, set, Agree, Filed}
use Rattle.journal.specs.Row.{Row, numbers, first, reads, whole}
use Rattle.journal.specs.Device.{Side, other, Device, New, Cursor, chosen, is_found, cursor, leases}
use Rattle.journal.specs.Append.{plan, writes, after, perform}
use Rattle.journal.specs.Crash.{Cut, Whole, cut_at, lands, Damaged}
use Rattle.journal.specs.Run.{Operation, Append, Crash, Restart, Clock, Damage, State, start, run, Allowed, Each, Any}

-- what is read of a row is its longest front whose places have the sequence numbers from its first on
pub record Front (row : Row) (R n : ℕ) : Type 0 where
  pub few : n ≤ R
  pub each : (k : ℕ) → k < n → numbers (first row + k) (row k) ≡ true
  pub stops : n < R → numbers (first row + n) (row n) ≡ false

abbrev pub RowIsRead : Type 0
RowIsRead = (row : Row) (R : ℕ) → Front row R (reads row R)

-- zeros alone are new, and nothing else is taken for new; with no table neither row is whole
pub record Tells (R : ℕ) (d : Device) : Type 0 where
  pub new : chosen R d ≡ New → (s : Side) (k : ℕ) → k < R → d s k ≡ Blank
  pub zeros : ((s : Side) (k : ℕ) → k < R → d s k ≡ Blank) → chosen R d ≡ New
  pub none : is_found (chosen R d) ≡ false → Damaged R d

abbrev pub ChoiceTells : Type 0
ChoiceTells = (R : ℕ) (d : Device) → Tells R d

-- a row whose first `n` places have the sequence numbers from `f` on, and everything behind them is older
pub record Begun (R : ℕ) (row : Row) (n f b : ℕ) : Type 0 where
  pub here : (k : ℕ) → k < n → numbers (f + k) (row k) ≡ true
  pub past : (k : ℕ) → n ≤ k → k < R → height (row k) < f
  pub base : 0 < n → base_of (row 0) ≡ b
  pub positive : 0 < f

-- a side has the table, in `n` records: the other is older or not whole, and has no number that is still to come in this row
pub record Settled (R : ℕ) (d : Device) (s : Side) (n f b : ℕ) : Type 0 where
  pub row : Begun R (d s) n f b
  pub some : 0 < n
  pub fits : n ≤ R
  pub based : b ≤ n
  pub newest : whole R (d (other s)) ≡ true → first (d (other s)) < f
  pub ahead : n < R → (k : ℕ) → k < R → height (d (other s) k) < f + n

-- there is no table, or one side has it
abbrev pub Sound : ℕ → Device → Type 0
Sound R d = Damaged R d ⊎ ((s : Side) × (n : ℕ) × (f : ℕ) × (b : ℕ) × Settled R d s n f b)

-- what an append starts from: the server has what the device gives, as far as it is kept at the clock `then`, and nothing where there is no table
pub record Ready (R n then : ℕ) (d : Device) (c : Cursor) (u : Table) : Type 0 where
  pub sound : Sound R d
  pub same : c ≡ cursor R d
  pub agrees : Agree n then (leases R d) u
  pub filed : Filed u
  pub none : is_found (chosen R d) ≡ false → (a : ℕ) → u a ≡ None

-- after a whole append the device has the table with the lease, and goes on where the server does
abbrev pub AppendStands : Type 0
AppendStands = (R n now then : ℕ) (d : Device) (c : Cursor) (u : Table) (x : Lease) → n < R → now ≤ then → Ready R n then d c u →
    Ready R n then (perform (writes (plan R n now c u) x) d) (after c (plan R n now c u)) (set x u)
    × (is_found (chosen R (perform (writes (plan R n now c u) x) d)) ≡ true)

-- after a cut append the device has the table as it was, or with the lease where the last write left its record; and it has one if it had one before, or then
pub record Survives (R n then : ℕ) (before after : Device) (u v : Table) (landed : Bool) : Type 0 where
  pub sound : Sound R after
  pub table : Agree n then (leases R after) (cond landed v u)
  pub found : is_found (chosen R after) ≡ (is_found (chosen R before) || landed)

abbrev pub AppendSurvives : Type 0
AppendSurvives = (R n now then : ℕ) (d : Device) (c : Cursor) (u : Table) (x : Lease) (i : ℕ) (k : Cut) → n < R → now ≤ then → Ready R n then d c u →
    Survives R n then d (cut_at i k (writes (plan R n now c u) x) d) u (set x u) (lands i k (length (writes (plan R n now c u) x)))

-- the worked case: the last record is cut and didn't come to stand, so the table is as it was
abbrev pub LastIsCut : Type 0
LastIsCut = (R n now then : ℕ) (d : Device) (c : Cursor) (u : Table) (x : Lease) (i : ℕ) (k : Cut) → n < R → now ≤ then → Ready R n then d c u →
    suc i ≡ length (writes (plan R n now c u) x) → (k ≢ Whole) → Agree n then (leases R (cut_at i k (writes (plan R n now c u) x) d)) u

-- over a device's life: recovery gives the leases written to their end, as far as they are kept at the highest clock so far,
-- finds a table just if one was begun, and goes on where the server does
pub record Kept (R n : ℕ) (s : State) : Type 0 where
  pub table : Agree n s.latest (leases R s.device) s.told
  pub memory : Agree n s.latest s.memory s.told
  pub found : is_found (chosen R s.device) ≡ s.begun
  pub cursor : s.cursor ≡ cursor R s.device

abbrev pub AllSurvive : Type 0
AllSurvive = (R n : ℕ) (os : List Operation) → n < R → Each (Allowed R) os → Kept R n (run R n os (start R))

-- operations that write nothing at the address of `x`
abbrev pub Spares : Lease → Operation → Type 0
Spares x (Append y) = y.address ≡ x.address → ⊥
Spares x (Crash y i c) = y.address ≡ x.address → ⊥
Spares x Restart = Unit {0}
Spares x (Clock t) = Unit {0}
Spares x (Damage d) = ⊥

-- a lease that was answered is there while it is kept, unless another took its place or the device was damaged
abbrev pub AnsweredStays : Type 0
AnsweredStays = (R n : ℕ) (os ps : List Operation) (x : Lease) → n < R → Each (Allowed R) (os ++ (Append x ∷ ps)) → Each (Spares x) ps →
    x.address < n → (run R n (os ++ (Append x ∷ ps)) (start R)).latest ≤ x.expires →
    leases R (run R n (os ++ (Append x ∷ ps)) (start R)).device x.address ≡ Some x

abbrev pub Writes : Lease → Operation → Type 0
Writes x (Append y) = y ≡ x
Writes x (Crash y i c) = y ≡ x
Writes x Restart = ⊥
Writes x (Clock t) = ⊥
Writes x (Damage d) = ⊥

-- a lease that is there and kept was appended, at that address
abbrev pub NoneAppears : Type 0
NoneAppears = (R n : ℕ) (os : List Operation) (a : ℕ) (x : Lease) → n < R → Each (Allowed R) os → a < n →
    leases R (run R n os (start R)).device a ≡ Some x → (run R n os (start R)).latest ≤ x.expires → Any (Writes x) os × (x.address ≡ a)

abbrev pub Undamaged : Operation → Type 0
Undamaged (Append x) = Unit {0}
Undamaged (Crash x i c) = Unit {0}
Undamaged Restart = Unit {0}
Undamaged (Clock t) = Unit {0}
Undamaged (Damage d) = ⊥

-- no two places have records with one sequence number
abbrev pub Distinct : ℕ → Device → Type 0
Distinct R d = (s t : Side) (j k : ℕ) (p q : Record) → j < R → k < R → d s j ≡ Holds p → d t k ≡ Holds q → p.sequence ≡ q.sequence → (s ≡ t) × (j ≡ k)

abbrev pub NoneTwice : Type 0
NoneTwice = (R n : ℕ) (os : List Operation) → n < R → Each Undamaged os → Distinct R (run R n os (start R)).device
