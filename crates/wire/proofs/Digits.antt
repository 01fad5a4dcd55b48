-- A number's bytes say the number, and the bytes that say a number are its own.
use Rattle.std.proofs.Common.{◌≡◌, ℕ, zero, suc, ◌+◌, ◌^◌, ◌<◌, ◌≤◌, List, [], ◌∷◌, length, get_or, take, drop, refl, arith, length-drop}
use Rattle.std.proofs.lemmas.List.{get_or-drop, length-take-le}
use Rattle.std.proofs.lemmas.Nat.{be_bytes_2, be_bytes_4, be_bytes_8, from_be_bytes-to_be_bytes_2, from_be_bytes-to_be_bytes_4, from_be_bytes-to_be_bytes_8}
use Rattle.wire.specs.Numbers.{be2, be4, be8, bytes2, bytes4, bytes8}

pub back2 : (n : ℕ) → n < 2 ^ 16 → be2 (bytes2 n) 0 ≡ n
unfolding bytes2
back2 n h = from_be_bytes-to_be_bytes_2 n h

pub back4 : (n : ℕ) → n < 2 ^ 32 → be4 (bytes4 n) 0 ≡ n
unfolding bytes4
back4 n h = from_be_bytes-to_be_bytes_4 n h

pub back8 : (n : ℕ) → n < 2 ^ 64 → be8 (bytes8 n) 0 ≡ n
unfolding bytes8
back8 n h = from_be_bytes-to_be_bytes_8 n h

-- a list of bytes
abbrev pub Bytes : List ℕ → Type 0
Bytes bs = (i : ℕ) → get_or bs i 0 < 256

front : (n : ℕ) (bs : List ℕ) → Bytes bs → Bytes (take n bs)
front zero bs b i = omega arith
front (suc n) [] b i = b i
front (suc n) (x ∷ bs) b zero = b 0
front (suc n) (x ∷ bs) b (suc i) = front n bs (λ j. b (suc j)) i

part : (n i : ℕ) (bs : List ℕ) → Bytes bs → Bytes (take n (drop i bs))
part n i bs b = front n (drop i bs) (λ j. let e = get_or-drop i bs j 0 in let h = b (i + j) in omega arith)

long : (n i : ℕ) (bs : List ℕ) → i + n ≤ length bs → length (take n (drop i bs)) ≡ n
long n i bs h = length-take-le n (drop i bs) (omega (arith, length-drop i bs))

-- what stands at a place is the bytes of the number there
pub own2 : (bs : List ℕ) (i : ℕ) → Bytes bs → i + 2 ≤ length bs → bytes2 (be2 bs i) ≡ take 2 (drop i bs)
unfolding bytes2
own2 bs i b h = be_bytes_2 (take 2 (drop i bs)) (be2 bs i) (long 2 i bs h) (part 2 i bs b) refl

pub own4 : (bs : List ℕ) (i : ℕ) → Bytes bs → i + 4 ≤ length bs → bytes4 (be4 bs i) ≡ take 4 (drop i bs)
unfolding bytes4
own4 bs i b h = be_bytes_4 (take 4 (drop i bs)) (be4 bs i) (long 4 i bs h) (part 4 i bs b) refl

pub own8 : (bs : List ℕ) (i : ℕ) → Bytes bs → i + 8 ≤ length bs → bytes8 (be8 bs i) ≡ take 8 (drop i bs)
unfolding bytes8
own8 bs i b h = be_bytes_8 (take 8 (drop i bs)) (be8 bs i) (long 8 i bs h) (part 8 i bs b) refl

-- the number there fits its width
pub below2 : (bs : List ℕ) (i : ℕ) → Bytes bs → be2 bs i < 2 ^ 16
below2 bs i h = let b = part 2 i bs h in omega (arith, b 0, b 1)

pub below4 : (bs : List ℕ) (i : ℕ) → Bytes bs → be4 bs i < 2 ^ 32
below4 bs i h = let b = part 4 i bs h in omega (arith, b 0, b 1, b 2, b 3)

pub below8 : (bs : List ℕ) (i : ℕ) → Bytes bs → be8 bs i < 2 ^ 64
below8 bs i h = let b = part 8 i bs h in omega (arith, b 0, b 1, b 2, b 3, b 4, b 5, b 6, b 7)
