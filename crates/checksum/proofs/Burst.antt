-- A burst survives every bit that follows it: what 32 bits differ in never becomes nothing.
-- Assumes nothing.
use Rattle.std.proofs.Common.{◌≡◌, ℕ, zero, suc, ◌+◌, ◌-◌, ◌*◌, ◌/◌, ◌%◌, ◌^◌, ◌<◌, ◌≤◌, eqb, List, [], ◌∷◌, length, get_or, set, sym, ap, ◌∙◌, subst, ap₂, ⊎_elim, le_of_suc-le-suc, add-zero, le_of_lt, mul-le-mul_right, mul_assoc, add-sub_of_le, add_comm, suc-add, zero-add, mul-one, arith, length-set, pow_pos, pow_mono, pow-add}
use lib.Bits.{bit_xor, xor_assoc, xor_comm, xor_self, xor_zero_r, xor_lt, xor_shifted, xor_block}
use Rattle.std.proofs.ByRecursion.{All-get_or, All-set}
use Rattle.std.proofs.lemmas.Bool.{cond_both, cases_lt, eqb-false}
use Rattle.checksum.specs.Crc.{polynomial, all_ones, bit, bits, step, run, crc}
use Rattle.checksum.specs.Burst.{Bytes, number, Burst, DetectsBursts, DetectsChangedBytes, Has32Bits}
use Rattle.checksum.proofs.Crc.{bits_xor, bits_shifted, bits_above, xor_pairs, xor_back}

-- ---- 32 bits stay 32 bits

bit_below : (s : ℕ) → s < 2 ^ 32 → bit s < 2 ^ 32
unfolding bit
bit_below s h =
    let half : s / 2 < 2 ^ 32 = omega arith in
    cond_both (eqb (s % 2) 1) (bit_xor (s / 2) polynomial) (s / 2) (λ q. q < 2 ^ 32) (λ e. xor_lt 32 (s / 2) polynomial half (omega arith)) (λ e. half)

bits_below : (k s : ℕ) → s < 2 ^ 32 → bits k s < 2 ^ 32
unfolding bits
bits_below zero s h = h
bits_below (suc k) s h = bits_below k (bit s) (bit_below s h)

run-below : (s : ℕ) (bs : List ℕ) → s < 2 ^ 32 → Bytes bs → run s bs < 2 ^ 32
unfolding run step
run-below s [] h t = h
run-below s (b ∷ bs) h t =
    let byte : b < 256 = t.0 in
    run-below (bits 8 (bit_xor s b)) bs (bits_below 8 (bit_xor s b) (xor_lt 32 s b h (omega arith))) t.1

pub has_32_bits : Has32Bits
unfolding Has32Bits crc
has_32_bits bs t = xor_lt 32 (run all_ones bs) all_ones (run-below all_ones bs (omega arith) t) (omega arith)

-- ---- what differs goes on to differ

xor_nothing : (x y : ℕ) → bit_xor x y ≡ 0 → x ≡ y
xor_nothing x y e = sym (xor_back x y) ∙ ap (λ (n : ℕ). bit_xor n y) e

bit-nothing : (s : ℕ) → s < 2 ^ 32 → bit s ≡ 0 → s ≡ 0
unfolding bit
bit-nothing s h =
    cond_both (eqb (s % 2) 1) (bit_xor (s / 2) polynomial) (s / 2) (λ q. q ≡ 0 → s ≡ 0)
    (λ odd e. let half : s / 2 ≡ polynomial = xor_nothing (s / 2) polynomial e in absurd (omega arith))
    (λ even e. let not-odd : s % 2 ≡ 1 → ⊥ = eqb-false (s % 2) 1 even in omega arith)

bits-nothing : (k s : ℕ) → s < 2 ^ 32 → bits k s ≡ 0 → s ≡ 0
unfolding bits
bits-nothing zero s h e = e
bits-nothing (suc k) s h e = bit-nothing s h (bits-nothing k (bit s) (bit_below s h) e)

bits_add : (j k s : ℕ) → bits (j + k) s ≡ bits k (bits j s)
unfolding bits
bits_add zero k s = ap (λ (n : ℕ). bits n s) (zero-add k)
bits_add (suc j) k s = ap (λ (n : ℕ). bits n s) (suc-add j k) ∙ bits_add j k (bit s)

-- ---- a message is fed as one number

number_is : (b : ℕ) (bs : List ℕ) → b < 256 → number (b ∷ bs) ≡ bit_xor (number bs * 2 ^ 8) b
unfolding number
number_is b bs h = sym (xor_shifted (number bs) 8 b h)

more_bytes : (n : ℕ) → n * 8 + 8 ≡ suc n * 8
more_bytes n = omega arith

run_is : (s : ℕ) (bs : List ℕ) → Bytes bs → run s bs ≡ bits (length bs * 8) (bit_xor s (number bs))
unfolding run step number bits
run_is s [] t = sym (xor_zero_r s)
run_is s (b ∷ bs) t =
    let n : ℕ = length bs * 8 in
    let rest : ℕ = number bs in
    let swap : bit_xor (rest * 2 ^ 8) (bit_xor s b) ≡ bit_xor s (number (b ∷ bs)) =
    sym (xor_assoc (rest * 2 ^ 8) s b) ∙ ap (λ (v : ℕ). bit_xor v b) (xor_comm (rest * 2 ^ 8) s) ∙ xor_assoc s (rest * 2 ^ 8) b ∙ ap (bit_xor s) (sym (number_is b bs t.0)) in
    run_is (step s b) bs t.1
    ∙ ap (bits n) (xor_comm (step s b) rest ∙ sym (bits_above 8 rest (bit_xor s b)) ∙ ap (bits 8) swap)
    ∙ sym (bits_add 8 n (bit_xor s (number (b ∷ bs))))
    ∙ ap (λ (v : ℕ). bits v (bit_xor s (number (b ∷ bs)))) (add_comm 8 n ∙ more_bytes (length bs))

number-below : (bs : List ℕ) → Bytes bs → number bs < 2 ^ (length bs * 8)
unfolding number
number-below [] t = omega arith
number-below (b ∷ bs) t =
    let byte : b < 256 = t.0 in
    let rest : number bs < 2 ^ (length bs * 8) = number-below bs t.1 in
    let wider : 2 ^ (suc (length bs) * 8) ≡ 2 ^ (length bs * 8) * 256 = ap (λ (n : ℕ). 2 ^ n) (sym (more_bytes (length bs))) ∙ pow-add 2 (length bs * 8) 8 in
    omega arith

-- ---- so a burst shows

errors_fed : (xs ys : List ℕ) → Bytes xs → Bytes ys → length xs ≡ length ys → crc xs ≡ crc ys → bits (length xs * 8) (bit_xor (number xs) (number ys)) ≡ 0
unfolding crc
errors_fed xs ys tx ty long e =
    let n : ℕ = length xs * 8 in
    let x : ℕ = bit_xor all_ones (number xs) in
    let y : ℕ = bit_xor all_ones (number ys) in
    let same : run all_ones xs ≡ run all_ones ys =
    sym (xor_back (run all_ones xs) all_ones) ∙ ap (λ (v : ℕ). bit_xor v all_ones) e ∙ xor_back (run all_ones ys) all_ones in
    let fed : bits n x ≡ bits n y =
    sym (run_is all_ones xs tx) ∙ same ∙ run_is all_ones ys ty ∙ ap (λ (v : ℕ). bits (v * 8) y) (sym long) in
    ap (bits n) (sym (xor_pairs all_ones (number xs) all_ones (number ys)))
    ∙ bits_xor n x y
    ∙ ap (λ (v : ℕ). bit_xor v (bits n y)) fed
    ∙ xor_self (bits n y)

burst_within : (xs ys : List ℕ) → Bytes xs → Bytes ys → (d : Burst xs ys) → d.from ≤ length xs * 8
burst_within xs ys tx ty d =
    let n : ℕ = length xs * 8 in
    let y-below : number ys < 2 ^ n = subst (λ (v : ℕ). number ys < 2 ^ (v * 8)) (sym d.long) (number-below ys ty) in
    let below : d.error * 2 ^ d.from < 2 ^ n = subst (λ (v : ℕ). v < 2 ^ n) d.where_they_differ (xor_lt n (number xs) (number ys) (number-below xs tx) y-below) in
    let least : 1 * 2 ^ d.from ≤ d.error * 2 ^ d.from = mul-le-mul_right (2 ^ d.from) d.some in
    ⊎_elim (λ (inside : d.from < n). le_of_lt inside)
    (λ (outside : n ≤ d.from). let more : 2 ^ n ≤ 2 ^ d.from = pow_mono outside in absurd (omega arith)) (cases_lt d.from n)

pub detects_bursts : DetectsBursts
unfolding DetectsBursts
detects_bursts xs ys tx ty d e =
    let n : ℕ = length xs * 8 in
    let f : ℕ = d.from in
    let rest : f + (n - f) ≡ n = add-sub_of_le (burst_within xs ys tx ty d) in
    let gone : bits (n - f) d.error ≡ 0 =
    ap (bits (n - f)) (sym (bits_shifted f d.error))
    ∙ sym (bits_add f (n - f) (d.error * 2 ^ f))
    ∙ ap₂ bits rest (sym d.where_they_differ)
    ∙ errors_fed xs ys tx ty d.long e in
    let none : d.error ≡ 0 = bits-nothing (n - f) d.error d.short gone in
    omega (arith, d.some)

xor_shl : (x y k : ℕ) → bit_xor (x * 2 ^ k) (y * 2 ^ k) ≡ bit_xor x y * 2 ^ k
xor_shl x y k =
    ap₂ bit_xor (sym (add-zero (x * 2 ^ k))) (sym (add-zero (y * 2 ^ k)))
    ∙ xor_block k x y 0 0 (pow_pos k) (pow_pos k)
    ∙ add-zero (bit_xor x y * 2 ^ k)

number-set : (bs : List ℕ) (i b : ℕ) → Bytes bs → b < 256 → i < length bs → bit_xor (number bs) (number (set bs i b)) ≡ bit_xor (get_or bs i 0) b * 2 ^ (i * 8)
number-set [] i b t hb hi = absurd (omega arith)
number-set (x ∷ bs) zero b t hb hi =
    let rest : ℕ = number bs * 2 ^ 8 in
    ap₂ bit_xor (number_is x bs t.0) (number_is b bs hb)
    ∙ xor_pairs rest x rest b
    ∙ ap (λ (v : ℕ). bit_xor v (bit_xor x b)) (xor_self rest)
    ∙ sym (mul-one (bit_xor x b))
number-set (x ∷ bs) (suc i) b t hb hi =
    let old : ℕ = number bs in
    let new : ℕ = number (set bs i b) in
    let error : ℕ = bit_xor (get_or bs i 0) b in
    ap₂ bit_xor (number_is x bs t.0) (number_is x (set bs i b) t.0)
    ∙ xor_pairs (old * 2 ^ 8) x (new * 2 ^ 8) x
    ∙ ap (bit_xor (bit_xor (old * 2 ^ 8) (new * 2 ^ 8))) (xor_self x)
    ∙ xor_zero_r (bit_xor (old * 2 ^ 8) (new * 2 ^ 8))
    ∙ xor_shl old new 8
    ∙ ap (λ (v : ℕ). v * 2 ^ 8) (number-set bs i b t.1 hb (le_of_suc-le-suc hi))
    ∙ mul_assoc error (2 ^ (i * 8)) (2 ^ 8)
    ∙ ap (λ (v : ℕ). error * v) (sym (pow-add 2 (i * 8) 8) ∙ ap (λ (v : ℕ). 2 ^ v) (more_bytes i))

above_nothing : (x y : ℕ) → (x ≡ y → ⊥) → 0 < bit_xor x y
above_nothing x y ne =
    ⊎_elim (λ (some : 0 < bit_xor x y). some) (λ (none : bit_xor x y ≤ 0). absurd (ne (xor_nothing x y (omega arith)))) (cases_lt 0 (bit_xor x y))

pub detects_changed_bytes : DetectsChangedBytes
unfolding DetectsChangedBytes DetectsBursts
detects_changed_bytes bs i b t hb hi ne e =
    let was : get_or bs i 0 < 256 = All-get_or (λ x. x < 256) bs i 0 hi t in
    let small : bit_xor (get_or bs i 0) b < 256 = xor_lt 8 (get_or bs i 0) b was hb in
    let burst : Burst bs (set bs i b) = record { long = sym (length-set bs i b); from = i * 8; error = bit_xor (get_or bs i 0) b; some = above_nothing (get_or bs i 0) b ne; short = omega arith; where_they_differ = number-set bs i b t hb hi } in
    detects_bursts bs (set bs i b) t (All-set (λ x. x < 256) bs i b hb t) burst e
