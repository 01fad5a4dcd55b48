-- The device of two rows, and what is recovered from it: which row has the table, the table, and where the next record goes.
-- Assumes nothing.
pub use Rattle.journal.specs.declared.state.Side.{Side}
pub use Rattle.journal.specs.declared.state.Side.TheVariants.{Row0, Row1}
use Rattle.std.specs.Prelude.{ℕ, max, Bool, true, false, cond, ◌&&◌, nat_le, nat_lt}
use Rattle.journal.specs.Place.{Blank, base_of}
use Rattle.journal.specs.Table.{Table, empty}
use Rattle.journal.specs.Row.{Row, first, reads, whole, table_of, highest, blank_row}

abbrev pub other : Side → Side
other Row0 = Row1
other Row1 = Row0

abbrev pub Device : Type 0
Device = Side → Row

-- a device of zeros alone
abbrev pub blank_device : Device
blank_device s k = Blank

-- the highest sequence number that fits, in either row and at any place
abbrev pub high : ℕ → Device → ℕ
high R d = max (highest (d Row0) R) (highest (d Row1) R)

abbrev pub blank : ℕ → Device → Bool
blank R d = blank_row (d Row0) R && blank_row (d Row1) R

-- of the rows that have a record the newer is the one with the higher first sequence number
abbrev pub newer_of : (some0 some1 higher1 : Bool) → Side
newer_of true true true = Row1
newer_of true true false = Row0
newer_of true false h = Row0
newer_of false s h = Row1

abbrev pub newer : ℕ → Device → Side
newer R d = newer_of (nat_le 1 (reads (d Row0) R)) (nat_le 1 (reads (d Row1) R)) (nat_lt (first (d Row0)) (first (d Row1)))

pub data Choice : Type 0 where
  New : Choice
  Lost : Choice
  Found : Side → Choice

-- the newer row if it is whole, else the older if it is whole; neither: zeros alone are new, anything else is lost
abbrev pub choose : ℕ → Device → Side → Choice
choose R d s = cond (whole R (d s)) (Found s) (cond (whole R (d (other s))) (Found (other s)) (cond (blank R d) New Lost))

abbrev pub chosen : ℕ → Device → Choice
chosen R d = choose R d (newer R d)

abbrev pub is_found : Choice → Bool
is_found New = false
is_found Lost = false
is_found (Found s) = true

-- where the next record goes: behind the `count` records of a row
pub record Cursor : Type 0 where
  pub side : Side
  pub first : ℕ
  pub count : ℕ
  pub base : ℕ
  pub highest : ℕ

-- with no table: as behind a full row 1, so that the next lease begins row 0
abbrev pub fresh : (R highest : ℕ) → Cursor
fresh R h = record { side = Row1; first = 0; count = R; base = 0; highest = h }

abbrev pub cursor_at : ℕ → Device → Choice → Cursor
cursor_at R d New = fresh R (high R d)
cursor_at R d Lost = fresh R (high R d)
cursor_at R d (Found s) = record { side = s; first = first (d s); count = reads (d s) R; base = base_of (d s 0); highest = high R d }

abbrev pub cursor : ℕ → Device → Cursor
cursor R d = cursor_at R d (chosen R d)

abbrev pub leases_at : ℕ → Device → Choice → Table
leases_at R d New = empty
leases_at R d Lost = empty
leases_at R d (Found s) = table_of (d s) (reads (d s) R)

abbrev pub leases : ℕ → Device → Table
leases R d = leases_at R d (chosen R d)
