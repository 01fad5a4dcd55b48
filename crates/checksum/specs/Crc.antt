-- CRC-32C of a list of bytes, one bit at a time: reflected polynomial, all ones in, all ones out.
-- Assumes nothing.
use Rattle.std.specs.Prelude.{◌≡◌, ℕ, zero, suc, ◌/◌, ◌%◌, cond, List, [], ◌∷◌, replicate, codes, ◌==◌, bit_xor}

abbrev pub polynomial : ℕ
polynomial = 0x82F63B78

abbrev pub all_ones : ℕ
all_ones = 0xFFFFFFFF

-- shifted right, and the polynomial added where the bit that fell out was set
unfoldable pub bit : ℕ → ℕ
bit s = cond (s % 2 == 1) (bit_xor (s / 2) polynomial) (s / 2)

unfoldable pub bits : ℕ → ℕ → ℕ
bits zero s = s
bits (suc k) s = bits k (bit s)

-- a byte is added at the low end, then falls out bit by bit
unfoldable pub step : ℕ → ℕ → ℕ
step s b = bits 8 (bit_xor s b)

unfoldable pub run : ℕ → List ℕ → ℕ
run s [] = s
run s (b ∷ bs) = run (step s b) bs

unfoldable pub crc : List ℕ → ℕ
crc bs = bit_xor (run all_ones bs) all_ones

-- the sum of a message that goes on with these bytes, from the sum of what came before
unfoldable pub continued : ℕ → List ℕ → ℕ
continued sum bs = bit_xor (run (bit_xor sum all_ones) bs) all_ones

-- the published check value
abbrev pub CheckValue : Type 0
CheckValue = crc (codes "123456789") ≡ 0xE3069283

-- so a record of zeros, with 0 where its sum stands, does not fit
abbrev pub ZerosDoNotFit : Type 0
ZerosDoNotFit = crc (replicate 24 0) ≡ 0 → ⊥
