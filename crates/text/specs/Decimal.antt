-- The number that decimal digits say, up to a limit.
-- Assumes nothing: what is no digit, or brings the number past the limit, is refused.
use Rattle.std.specs.Prelude.{ℕ, ◌+◌, ◌-◌, ◌*◌, Bool, cond, ◌||◌, List, [], ◌∷◌, Some, None, Option, nat_lt}

-- no digit
abbrev pub other : ℕ → Bool
other b = nat_lt b 48 || nat_lt 57 b

-- the number with one more digit behind it
abbrev pub longer : ℕ → ℕ → ℕ → Option ℕ
longer most n b = cond (other b) None (cond (nat_lt most (n * 10 + (b - 48))) None (Some (n * 10 + (b - 48))))

-- the number so far, and the digits still to come
abbrev pub digits_on : ℕ → Option ℕ → List ℕ → Option ℕ
digits_on most None bs = None
digits_on most (Some n) [] = Some n
digits_on most (Some n) (b ∷ bs) = digits_on most (longer most n b) bs

-- an empty word is no number
abbrev pub number_of : ℕ → List ℕ → Option ℕ
number_of most [] = None
number_of most (b ∷ bs) = digits_on most (Some 0) (b ∷ bs)
