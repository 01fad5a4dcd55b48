-- A journal in memory: its cursor, what the next record is, and what an append leaves.
-- Assumes nothing.
use Rattle.std.specs.Prelude.{◌≡◌, ℕ, suc, ◌+◌, ◌^◌, ◌<◌, ◌≤◌, max, true, false, List, length, Some, vec_items, Result, MatchResult, slice_set}
use Rattle.lease.specs.declared.lease.Lease.{Lease}
use Rattle.journal.specs.declared.journal.Journal.{Journal}
use Rattle.journal.specs.declared.record.Record.{Record}
use Rattle.journal.specs.declared.state.Found.{Found as Finding}
use Rattle.journal.specs.declared.state.Found.TheVariants as found
use Rattle.std.specs.List.{AllByRecursion}
use Rattle.journal.specs.Place.{Holds}
use Rattle.journal.specs.Bytes.{encoded, decoded}
use Rattle.journal.specs.Append.{put, perform, Write, numbered, Plan, exhausted, writes, after as behind}
use Rattle.journal.specs.declared.state.Written.{Written}
use Rattle.lease.specs.declared.fault.Fault.{Fault}
use Rattle.lease.specs.declared.fault.Fault.TheVariants.{Malformed, BadAddress, OtherClient, NotWaiting, TooLate, NoneFree, BadSettings, TableLost, CountExhausted}
use Rattle.journal.specs.Device.{Device, Choice, Found, Cursor, chosen, cursor, other}
use Rattle.journal.specs.Image.{choice_from, cursor_from, device_of, index, stored}

abbrev pub cursor_of : Journal → Cursor
cursor_of j = cursor_from j.reading

abbrev pub choice_of : Journal → Choice
choice_of j = choice_from j.reading.found j.reading.side

abbrev pub found_of : Journal → Finding
found_of j = j.reading.found

abbrev pub places_of : Journal → Device
places_of j = device_of (vec_items j.device)

-- a journal in memory that has read its device
pub record HasRead (j : Journal) : Type 0 where
  pub choice : choice_of j ≡ chosen 4096 (places_of j)
  pub cursor : cursor_of j ≡ cursor 4096 (places_of j)

-- the record that a lease becomes behind a cursor, and the cursor behind that
abbrev pub next_record : Cursor → Lease → Record
next_record c x = record { sequence = c.first + c.count; base = c.base; lease = x }

abbrev pub went : Cursor → Cursor
went c = record { side = c.side; first = c.first; count = suc c.count; base = c.base; highest = max c.highest (c.first + c.count) }

-- room for one more record in the row in use, with a number below 2^63
pub record Room (j : Journal) : Type 0 where
  pub room : (cursor_of j).count < 4096
  pub early : (cursor_of j).first + (cursor_of j).count < 2 ^ 63

-- a lease was written into the next place
pub record Wrote (before after : Journal) (x : Lease) : Type 0 where
  pub bytes : vec_items after.device ≡ slice_set (vec_items before.device) (index (cursor_of before).side (cursor_of before).count) (encoded (next_record (cursor_of before) x))
  pub device : places_of after ≡ put (cursor_of before).side (cursor_of before).count (Holds (next_record (cursor_of before) x)) (places_of before)
  pub legible : decoded (encoded (next_record (cursor_of before) x)) ≡ Some (next_record (cursor_of before) x)
  pub cursor : cursor_of after ≡ went (cursor_of before)
  pub found : found_of after ≡ found.Table

-- the other row is in use, numbered above all that fits, and has no record yet
abbrev pub turned_to : Cursor → (base : ℕ) → Cursor
turned_to c b = record { side = other c.side; first = suc c.highest; count = 0; base = b; highest = c.highest }

-- a cursor behind `n` records of a row that was begun, numbered from one above the highest on
abbrev pub copied_to : Cursor → ℕ → Cursor
copied_to c n = record { side = c.side; first = c.first; count = n; base = c.base; highest = c.highest + n }

-- a write that can be read back
abbrev pub Legible : Write → Type 0
Legible w = decoded (encoded w.what) ≡ Some w.what

-- the leases `xs` stand in the row that was begun at `c`: as bytes, as records, and for the cursor
pub record Copied (c : Cursor) (bs₀ : List (List ℕ)) (d₀ : Device) (xs : List Lease) (bs : List (List ℕ)) (d : Device) (e : Cursor) : Type 0 where
  pub bytes : bs ≡ stored (numbered c.side 0 c.first c.base xs) bs₀
  pub device : d ≡ perform (numbered c.side 0 c.first c.base xs) d₀
  pub cursor : e ≡ copied_to c (length xs)
  pub legible : AllByRecursion Legible (numbered c.side 0 c.first c.base xs)

-- what an append left, and which places it wrote: so many from the first on, in the order of the writes
pub record Appended (before after : Journal) (p : Plan) (x : Lease) (w : Written) : Type 0 where
  pub bytes : vec_items after.device ≡ stored (writes p x) (vec_items before.device)
  pub device : places_of after ≡ perform (writes p x) (places_of before)
  pub cursor : cursor_of after ≡ behind (cursor_of before) p
  pub choice : choice_of after ≡ Found p.side
  pub first : w.first ≡ index p.side p.place
  pub count : w.count ≡ length (writes p x)
  pub legible : AllByRecursion Legible (writes p x)
  pub inside : p.place + length p.copied < 4096
  pub early : exhausted p ≡ false

-- an append by a plan, or the refusal of one that would take too high a number
abbrev pub Tried : (before after : Journal) → Plan → Lease → Result Written Fault → Type 0
Tried j k p x r = MatchResult r (λ w. Appended j k p x w) (λ f. (f ≡ CountExhausted) × (exhausted p ≡ true) × (k ≡ j))

-- why an append is refused
abbrev pub AppendRefused : Fault → (addresses : ℕ) → Plan → Type 0
AppendRefused BadSettings n p = 4096 ≤ n
AppendRefused CountExhausted n p = (n < 4096) × (exhausted p ≡ true)
AppendRefused Malformed n p = ⊥
AppendRefused BadAddress n p = ⊥
AppendRefused OtherClient n p = ⊥
AppendRefused NotWaiting n p = ⊥
AppendRefused TooLate n p = ⊥
AppendRefused NoneFree n p = ⊥
AppendRefused TableLost n p = ⊥
