-- Numbers of two, four and eight bytes, high byte first.
-- Assumes nothing: past a list's end a byte is 0, and what does not fit the width is cut off.
use Rattle.std.specs.Prelude.{ℕ, List, take, drop}
use Rattle.std.specs.Int.{Width, w16, w32, w64, byte_len, from_be_bytes, to_be_bytes}

-- the number of a width that stands at a place
abbrev pub number_at : Width → List ℕ → ℕ → ℕ
number_at w bs i = from_be_bytes w (take (byte_len w) (drop i bs))

abbrev pub be2 : List ℕ → ℕ → ℕ
be2 bs i = number_at w16 bs i

abbrev pub be4 : List ℕ → ℕ → ℕ
be4 bs i = number_at w32 bs i

abbrev pub be8 : List ℕ → ℕ → ℕ
be8 bs i = number_at w64 bs i

-- a number's bytes
unfoldable pub bytes2 : ℕ → List ℕ
bytes2 n = to_be_bytes w16 n

unfoldable pub bytes4 : ℕ → List ℕ
bytes4 n = to_be_bytes w32 n

unfoldable pub bytes8 : ℕ → List ℕ
bytes8 n = to_be_bytes w64 n
