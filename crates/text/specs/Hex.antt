-- Bytes in two hexadecimal digits each, and the bytes that such digits say.
-- Assumes nothing: what is no digit counts for 0, and half a byte at the end for nothing.
use Rattle.std.specs.Prelude.{ℕ, ◌+◌, ◌-◌, ◌*◌, ◌/◌, ◌%◌, Bool, true, false, cond, ◌&&◌, ◌||◌, List, [], ◌∷◌, nat_le, nat_lt}

abbrev pub digit : ℕ → ℕ
digit n = cond (nat_lt n 10) (48 + n) (87 + n)

abbrev pub ten : ℕ → Bool
ten b = nat_le 48 b && nat_le b 57

abbrev pub six : ℕ → Bool
six b = nat_le 97 b && nat_le b 102

abbrev pub nibble : ℕ → ℕ
nibble b = cond (ten b) (b - 48) (cond (six b) (b - 87) 0)

abbrev pub pair : ℕ → ℕ → Bool
pair h l = (ten h || six h) && (ten l || six l)

-- each byte a digit, and two to a byte
abbrev pub pairs : List ℕ → Bool
pairs [] = true
pairs (h ∷ []) = false
pairs (h ∷ l ∷ bs) = cond (pair h l) (pairs bs) false

abbrev pub written : List ℕ → List ℕ
written [] = []
written (b ∷ bs) = digit (b / 16) ∷ digit (b % 16) ∷ written bs

abbrev pub meant : List ℕ → List ℕ
meant [] = []
meant (h ∷ []) = []
meant (h ∷ l ∷ bs) = (nibble h * 16 + nibble l) ∷ meant bs
