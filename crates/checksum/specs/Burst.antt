-- Which damage the sum detects: every error burst of at most 32 bits, so every change of one byte.
-- Assumes nothing. Laws stay shut, so that a caller's proof does not look into them.
use Rattle.std.specs.Prelude.{◌≡◌, ℕ, ◌+◌, ◌*◌, ◌^◌, ◌<◌, List, [], ◌∷◌, length, ◌≢◌, bit_xor, slice_index, slice_set}
use Rattle.std.specs.List.{AllByRecursion}
use Rattle.checksum.specs.Crc.{crc}

abbrev pub Bytes : List ℕ → Type 0
Bytes bs = AllByRecursion (λ b. b < 256) bs

-- a message's bits as one number, the first to be fed lowest
unfoldable pub number : List ℕ → ℕ
number [] = 0
number (b ∷ bs) = number bs * 256 + b

-- two messages of one length that differ in 32 bits in a row at most: `error` says which of these, `from` how many stand before
pub record Burst (xs ys : List ℕ) : Type 0 where
  pub long : length xs ≡ length ys
  pub from : ℕ
  pub error : ℕ
  pub some : 0 < error
  pub short : error < 2 ^ 32
  pub where_they_differ : bit_xor (number xs) (number ys) ≡ error * 2 ^ from

unfoldable pub DetectsBursts : Type 0
DetectsBursts = (xs ys : List ℕ) → Bytes xs → Bytes ys → Burst xs ys → crc xs ≢ crc ys

unfoldable pub DetectsChangedBytes : Type 0
DetectsChangedBytes = (bs : List ℕ) (i b : ℕ) → Bytes bs → b < 256 → i < length bs → (slice_index bs i ≢ b) → crc bs ≢ crc (slice_set bs i b)

unfoldable pub Has32Bits : Type 0
Has32Bits = (bs : List ℕ) → Bytes bs → crc bs < 2 ^ 32
