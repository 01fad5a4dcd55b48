-- How a row is read: a row is a function from its places, of which the first `R` count.
-- Assumes nothing.
use Rattle.std.specs.Prelude.{ℕ, zero, suc, ◌+◌, max, Bool, true, false, cond, ◌&&◌, ◌==◌, nat_le}
use Rattle.journal.specs.Place.{Place, Blank, Torn, Holds, height, base_of}
use Rattle.journal.specs.Table.{Table, empty, set}

abbrev pub Row : Type 0
Row = ℕ → Place

-- whether a place has the record with this sequence number
abbrev pub numbers : ℕ → Place → Bool
numbers q Blank = false
numbers q Torn = false
numbers q (Holds r) = r.sequence == q

abbrev pub first : Row → ℕ
first row = height (row 0)

-- how many records are read of the first `n` places: from the first one on, while each has the next sequence number
unfoldable pub reads : Row → ℕ → ℕ
reads row zero = zero
reads row (suc k) = cond (reads row k == k && numbers (first row + k) (row k)) (suc k) (reads row k)

-- at least one record, and as many as its first says
abbrev pub whole : ℕ → Row → Bool
whole R row = nat_le 1 (reads row R) && nat_le (base_of (row 0)) (reads row R)

abbrev pub put_in : Place → Table → Table
put_in Blank t = t
put_in Torn t = t
put_in (Holds r) t = set r.lease t

-- the table that the first `n` records make: of two of an address the later one stands
unfoldable pub table_of : Row → ℕ → Table
table_of row zero = empty
table_of row (suc k) = put_in (row k) (table_of row k)

-- the highest sequence number in the first `n` places, read or not; 0 if there is none
unfoldable pub highest : Row → ℕ → ℕ
highest row zero = zero
highest row (suc k) = max (highest row k) (height (row k))

abbrev pub is_blank : Place → Bool
is_blank Blank = true
is_blank Torn = false
is_blank (Holds r) = false

unfoldable pub blank_row : Row → ℕ → Bool
blank_row row zero = true
blank_row row (suc k) = blank_row row k && is_blank (row k)
