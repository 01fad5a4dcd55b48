-- A record in 28 bytes, and what the bytes of a place say: numbers with the high byte first, and last the sum of the 24 bytes before it.
-- Assumes nothing.
use Rattle.std.specs.Prelude.{◌≡◌, ℕ, zero, suc, ◌+◌, ◌*◌, ◌/◌, ◌%◌, ◌^◌, ◌<◌, Bool, true, cond, ◌&&◌, List, [], ◌∷◌, ◌++◌, length, take, replicate, Some, None, Option, ◌==◌, slice_index}
use Rattle.std.specs.List.{between}
use Rattle.lease.specs.declared.lease.Lease.{Lease}
use Rattle.checksum.specs.Crc.{crc}
use Rattle.journal.specs.declared.record.Record.{Record}
use Rattle.journal.specs.Place.{Place, Blank, Torn, Holds}

abbrev pub digits : (width n : ℕ) → List ℕ
digits zero n = []
digits (suc w) n = (n / 256 ^ w % 256) ∷ digits w n

abbrev pub number_from : (place width : ℕ) → List ℕ → ℕ
number_from k zero bs = 0
number_from k (suc w) bs = slice_index bs k * 256 ^ w + number_from (suc k) w bs

abbrev pub number : (width : ℕ) → List ℕ → ℕ
number w bs = number_from 0 w bs

-- what the sum is of; a field to come goes behind `expires`
unfoldable pub summed : Record → List ℕ
summed r = digits 8 r.sequence ++ (digits 2 r.base ++ (digits 2 r.lease.address ++ (digits 4 r.lease.client ++ digits 8 r.lease.expires)))

abbrev pub encoded : Record → List ℕ
encoded r = summed r ++ digits 4 (crc (summed r))

abbrev pub lease_in : List ℕ → Lease
lease_in bs = record { address = number 2 (between 10 12 bs); client = number 4 (between 12 16 bs); expires = number 8 (between 16 24 bs) }

abbrev pub fields_of : List ℕ → Record
fields_of bs = record { sequence = number 8 (between 0 8 bs); base = number 2 (between 8 10 bs); lease = lease_in bs }

abbrev pub fits : List ℕ → Bool
fits bs = length bs == 28 && crc (take 24 bs) == number 4 (between 24 28 bs)

-- the record in a place's bytes, if its sum fits
unfoldable pub decoded : List ℕ → Option Record
decoded bs = cond (fits bs) (Some (fields_of bs)) None

unfoldable pub zeros : List ℕ → Bool
zeros [] = true
zeros (b ∷ bs) = b == 0 && zeros bs

abbrev pub place_from : Option Record → (zeros : Bool) → Place
place_from (Some r) z = Holds r
place_from None z = cond z Blank Torn

abbrev pub place_of : List ℕ → Place
place_of bs = place_from (decoded bs) (zeros bs)

-- a record that the widths of its fields hold
pub record Fits (r : Record) : Type 0 where
  pub sequence : r.sequence < 2 ^ 64
  pub base : r.base < 2 ^ 16
  pub address : r.lease.address < 2 ^ 16
  pub client : r.lease.client < 2 ^ 32
  pub expires : r.lease.expires < 2 ^ 64

-- what is written is read back, and zeros alone are no record
abbrev pub RoundTrip : Type 0
RoundTrip = (r : Record) → Fits r → decoded (encoded r) ≡ Some r

abbrev pub ZerosAreBlank : Type 0
ZerosAreBlank = place_of (replicate 28 0) ≡ Blank
