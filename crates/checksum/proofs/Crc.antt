-- Laws of the bitwise rule: eight bits are one look-up of the low byte and a shift; parts of a message add up.
-- Assumes nothing.
use Rattle.std.proofs.Common.{◌≡◌, ℕ, zero, suc, ◌*◌, ◌/◌, ◌%◌, ◌^◌, ◌<◌, cond, eqb, List, [], ◌∷◌, ◌++◌, sym, refl, ap, ◌∙◌, ap₂, mul-one, arith}
use native.Mathlib.Nat.{div-eq_of_lt}
use lib.Bits.{bit_xor, shifted_half, shifted_even, xor_shr, xor_mod, xor_assoc, xor_shifted, xor_zero_r, xor_comm, xor_self}
use Rattle.std.proofs.lemmas.Nat.{div-add-mod', mod_below}
use Rattle.std.proofs.lemmas.Bool.{cond_both, cond-true, cond-false}
use Rattle.checksum.specs.Crc.{polynomial, all_ones, bit, bits, step, run, crc, continued, CheckValue, ZerosDoNotFit}

-- the polynomial, where a bit of this value fell out
fallen : ℕ → ℕ
fallen b = cond (eqb b 1) polynomial 0

bit_is : (s : ℕ) → bit s ≡ bit_xor (s / 2) (fallen (s % 2))
unfolding bit fallen
bit_is s =
    cond_both (eqb (s % 2) 1) polynomial 0 (λ q. bit s ≡ bit_xor (s / 2) q)
    (λ e. cond-true (eqb (s % 2) 1) (bit_xor (s / 2) polynomial) (s / 2) e)
    (λ e. cond-false (eqb (s % 2) 1) (bit_xor (s / 2) polynomial) (s / 2) e ∙ sym (xor_zero_r (s / 2)))

fallen_xor : (p q : ℕ) → p < 2 → q < 2 → fallen (bit_xor p q) ≡ bit_xor (fallen p) (fallen q)
unfolding fallen
fallen_xor zero q hp hq = refl
fallen_xor (suc zero) zero hp hq = refl
fallen_xor (suc zero) (suc zero) hp hq = refl
fallen_xor (suc zero) (suc (suc q)) hp hq = absurd (omega arith)
fallen_xor (suc (suc p)) q hp hq = absurd (omega arith)

pub xor_pairs : (a b c d : ℕ) → bit_xor (bit_xor a b) (bit_xor c d) ≡ bit_xor (bit_xor a c) (bit_xor b d)
xor_pairs a b c d =
    xor_assoc a b (bit_xor c d)
    ∙ ap (bit_xor a) (sym (xor_assoc b c d) ∙ ap (λ (n : ℕ). bit_xor n d) (xor_comm b c) ∙ xor_assoc c b d)
    ∙ sym (xor_assoc a c (bit_xor b d))

bit_xor_lem : (a b : ℕ) → bit (bit_xor a b) ≡ bit_xor (bit a) (bit b)
bit_xor_lem a b =
    bit_is (bit_xor a b)
    ∙ ap₂ bit_xor (xor_shr a b 1) (ap fallen (xor_mod a b 1) ∙ fallen_xor (a % 2) (b % 2) (mod_below a 2 (omega arith)) (mod_below b 2 (omega arith)))
    ∙ xor_pairs (a / 2) (b / 2) (fallen (a % 2)) (fallen (b % 2))
    ∙ sym (ap₂ bit_xor (bit_is a) (bit_is b))

pub bits_xor : (k a b : ℕ) → bits k (bit_xor a b) ≡ bit_xor (bits k a) (bits k b)
unfolding bits
bits_xor zero a b = refl
bits_xor (suc k) a b = ap (bits k) (bit_xor_lem a b) ∙ bits_xor k (bit a) (bit b)

bit_shifted : (y k : ℕ) → bit (y * 2 ^ suc k) ≡ y * 2 ^ k
unfolding fallen
bit_shifted y k = bit_is (y * 2 ^ suc k) ∙ ap₂ (λ (p q : ℕ). bit_xor p (fallen q)) (shifted_half y k) (shifted_even y k) ∙ xor_zero_r (y * 2 ^ k)

pub bits_shifted : (k y : ℕ) → bits k (y * 2 ^ k) ≡ y
unfolding bits
bits_shifted zero y = mul-one y
bits_shifted (suc k) y = ap (bits k) (bit_shifted y k) ∙ bits_shifted k y

pub bits_above : (k y z : ℕ) → bits k (bit_xor (y * 2 ^ k) z) ≡ bit_xor y (bits k z)
bits_above k y z = bits_xor k (y * 2 ^ k) z ∙ ap (λ (n : ℕ). bit_xor n (bits k z)) (bits_shifted k y)

split : (x : ℕ) → bit_xor (x / 256 * 2 ^ 8) (x % 256) ≡ x
split x = xor_shifted (x / 256) 8 (x % 256) (mod_below x 256 (omega arith)) ∙ div-add-mod' x 256

pub step_by_table : (s b : ℕ) → b < 256 → step s b ≡ bit_xor (bits 8 (bit_xor s b % 256)) (s / 256)
unfolding step
step_by_table s b h =
    let high : bit_xor s b / 256 ≡ s / 256 = xor_shr s b 8 ∙ ap (bit_xor (s / 256)) (div-eq_of_lt h) ∙ xor_zero_r (s / 256) in
    ap (bits 8) (sym (split (bit_xor s b)))
    ∙ bits_above 8 (bit_xor s b / 256) (bit_xor s b % 256)
    ∙ ap (λ (n : ℕ). bit_xor n (bits 8 (bit_xor s b % 256))) high
    ∙ xor_comm (s / 256) (bits 8 (bit_xor s b % 256))

pub run_append : (s : ℕ) (xs ys : List ℕ) → run s (xs ++ ys) ≡ run (run s xs) ys
unfolding run
run_append s [] ys = refl
run_append s (x ∷ xs) ys = run_append (step s x) xs ys

-- a byte more
pub run-more : (start : ℕ) (bs : List ℕ) (b s t : ℕ) → s ≡ run start bs → t ≡ step s b → t ≡ run start (bs ++ (b ∷ []))
unfolding run
run-more start bs b s t e f = f ∙ ap (λ (n : ℕ). step n b) e ∙ sym (run_append start bs (b ∷ []))

pub xor_back : (x y : ℕ) → bit_xor (bit_xor x y) y ≡ x
xor_back x y = xor_assoc x y y ∙ ap (bit_xor x) (xor_self y) ∙ xor_zero_r x

pub crc_append : (xs ys : List ℕ) → continued (crc xs) ys ≡ crc (xs ++ ys)
unfolding continued crc
crc_append xs ys =
    ap (λ (n : ℕ). bit_xor (run n ys) all_ones) (xor_back (run all_ones xs) all_ones)
    ∙ ap (λ (n : ℕ). bit_xor n all_ones) (sym (run_append all_ones xs ys))

pub check_value : CheckValue
unfolding bit bits step run crc
check_value = refl

pub zeros_do_not_fit : ZerosDoNotFit
unfolding bit bits step run crc
zeros_do_not_fit e = let clash : ◌≡◌ {A = ℕ} 0x84FBECEE 0 = e in omega arith
