-- The device as bytes: 8,192 places of 28 bytes, the first 4,096 of them row 0; and the journal in memory as a cursor.
-- Assumes nothing.
use Rattle.std.specs.Prelude.{◌≡◌, ℕ, zero, suc, ◌+◌, ◌*◌, ◌<◌, max, true, false, cond, ◌&&◌, List, [], ◌∷◌, length, None, Option, ◌==◌, nat_le, nat_lt, slice_index_or, slice_set}
use Rattle.std.specs.List.{between}
use Rattle.lease.specs.declared.lease.Lease.{Lease}
use Rattle.journal.specs.declared.record.Record.{Record}
use Rattle.journal.specs.declared.state.RowState.{RowState}
use Rattle.journal.specs.declared.state.Reading.{Reading}
use Rattle.journal.specs.declared.state.Found.{Found}
use Rattle.journal.specs.declared.state.Found.TheVariants as found
use Rattle.journal.specs.declared.state.OpenError.{OpenError}
use Rattle.journal.specs.declared.state.OpenError.TheVariants.{WrongLength, NoRoom}
use Rattle.journal.specs.declared.scan.RowScan.{RowScan}
use Rattle.journal.specs.Place.{Place, Blank, Torn, Holds, base_of}
use Rattle.journal.specs.Bytes.{encoded, place_of}
use Rattle.journal.specs.Table.{Table}
use Rattle.journal.specs.Row.{Row, first, reads, whole, highest, blank_row}
use Rattle.journal.specs.Device.{Side, Row0, Row1, Device, Choice, New, Lost, chosen, Cursor, cursor, cursor_at}
use Rattle.journal.specs.Append.{Write}

-- the place of the device that is a row's place `k`
abbrev pub index : Side → ℕ → ℕ
index Row0 k = k
index Row1 k = 4096 + k

abbrev pub device_of : List (List ℕ) → Device
device_of bs s k = cond (nat_lt k 4096) (place_of (slice_index_or bs (index s k) [])) Blank

-- writes, in bytes
unfoldable pub stored : List Write → List (List ℕ) → List (List ℕ)
stored [] bs = bs
stored (w ∷ ws) bs = stored ws (slice_set bs (index w.side w.place) (encoded w.what))

abbrev pub table_in : List (Option Lease) → Table
table_in xs a = slice_index_or xs a None

abbrev pub unread : RowState
unread = record { first = 0; base = 0; count = 0 }

abbrev pub cursor_from : Reading → Cursor
cursor_from r = record { side = r.side; first = r.row.first; count = r.row.count; base = r.row.base; highest = r.highest }

abbrev pub choice_from : Found → Side → Choice
choice_from found.New s = New
choice_from found.Lost s = Lost
choice_from found.Table s = Choice.Found s

-- what a reading found, as it is told
abbrev pub found_in : Choice → Found
found_in New = found.New
found_in Lost = found.Lost
found_in (Choice.Found s) = found.Table

-- one place more of a row that is read
abbrev pub row_noted : RowState → ℕ → Record → RowState
row_noted w k r =
    cond (k == 0)
    (record { first = r.sequence; base = r.base; count = 1 })
    (cond (w.count == k && r.sequence == w.first + k) (record { first = w.first; base = w.base; count = k + 1 }) w)

abbrev pub noted : RowScan → ℕ → Place → RowScan
noted s k Blank = s
noted s k Torn = record { row = s.row; highest = s.highest; blank = false }
noted s k (Holds r) = record { row = row_noted s.row k r; highest = max s.highest r.sequence; blank = false }

unfoldable pub scanned : Row → ℕ → RowScan
scanned row zero = record { row = unread; highest = 0; blank = true }
scanned row (suc k) = noted (scanned row k) k (row k)

-- what a pass knows of the first `n` places
pub record Knows (row : Row) (n : ℕ) (s : RowScan) : Type 0 where
  pub start : n ≡ 0 → s.row ≡ unread
  pub first : 0 < n → s.row.first ≡ first row
  pub base : 0 < n → s.row.base ≡ base_of (row 0)
  pub count : s.row.count ≡ reads row n
  pub highest : s.highest ≡ highest row n
  pub blank : s.blank ≡ blank_row row n

-- what a reading of the device gives
pub record Recovered (d : Device) (r : Reading) : Type 0 where
  pub choice : choice_from r.found r.side ≡ chosen 4096 d
  pub cursor : cursor_from r ≡ cursor 4096 d

-- the reading of one row, as where it has the table
pub record Takes (d : Device) (s : Side) (r : Reading) : Type 0 where
  pub side : r.side ≡ s
  pub whole : (nat_le 1 r.row.count && nat_le r.row.base r.row.count) ≡ whole 4096 (d s)
  pub cursor : cursor_from r ≡ cursor_at 4096 d (Choice.Found s)
  pub found : r.found ≡ found.Table

-- bytes, divided into places
pub record Divided (bytes : List ℕ) (places : List (List ℕ)) : Type 0 where
  pub all : length places ≡ 8192
  pub each : (k : ℕ) → k < 8192 → slice_index_or places k [] ≡ between (k * 28) (k * 28 + 28) bytes

-- why a device of so many bytes is not opened into room for so many places
abbrev pub OpenRefused : OpenError → (bytes room : ℕ) → Type 0
OpenRefused WrongLength n m = n ≡ 229376 → ⊥
OpenRefused NoRoom n m = (n ≡ 229376) × (m < 8192)

-- why a device of so many bytes is not read where room for its places is asked for
abbrev pub ReadRefused : OpenError → (bytes : ℕ) → Type 0
ReadRefused WrongLength n = n ≡ 229376 → ⊥
ReadRefused NoRoom n = n ≡ 229376

-- how many records make the table
abbrev pub count_of : Found → ℕ → ℕ
count_of found.New n = 0
count_of found.Lost n = 0
count_of found.Table n = n
