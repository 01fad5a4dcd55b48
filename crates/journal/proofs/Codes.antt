-- Numbers in digits and back, and records in bytes and back.
use Rattle.std.proofs.Common.{◌≡◌, ℕ, zero, suc, ◌+◌, ◌*◌, ◌/◌, ◌%◌, ◌^◌, ◌<◌, eqb, List, [], ◌∷◌, ◌++◌, length, take, drop, replicate, Some, None, Option, sym, refl, ap, ◌∙◌, ap₂, mod-lt, mod-eq_of_lt, div-one, arith, length-append, w16, w32, w64}
use Rattle.std.specs.Int.{from_be_bytes}
use native.Mathlib.Nat.{mod-one, pow-succ', one-le-pow}
use lib.Arith.{mod-mul}
use lib.Seq.{paste}
use Rattle.std.proofs.ByRecursion.{All-append}
use Rattle.std.proofs.lemmas.List.{take_at, take_all, drop_at}
use Rattle.std.proofs.lemmas.Slice.{drop-append-drop, put_mid-paste}
use borrow.Rule.Slice.PartMut.{put_mid}
use Rattle.std.specs.List.{AllByRecursion, between}
use Rattle.std.proofs.lemmas.Bool.{cond-true, cond-false, and_from, and_left, and_right, eq-eqb, ne_eqb}
use Rattle.checksum.specs.Crc.{crc}
use Rattle.checksum.specs.Burst.{Bytes, Has32Bits}
use Rattle.checksum.proofs.Burst.{has_32_bits}
use Rattle.checksum.proofs.Crc.{zeros_do_not_fit}
use Rattle.journal.specs.declared.record.Record.{Record}
use Rattle.journal.specs.Bytes.{digits, number, summed, encoded, fields_of, fits, decoded, zeros, place_from, Fits, RoundTrip, ZerosAreBlank}

-- what decoding gives, by the length and the sum
pub decoded-short : (bs : List ℕ) → (length bs ≡ 28 → ⊥) → decoded bs ≡ None
unfolding decoded
decoded-short bs h = cond-false (fits bs) (Some (fields_of bs)) None (and_left (eqb (length bs) 28) (eqb (crc (take 24 bs)) (number 4 (between 24 28 bs))) (ne_eqb (length bs) 28 h))

pub decoded_unfit : (bs : List ℕ) → (crc (take 24 bs) ≡ number 4 (between 24 28 bs) → ⊥) → decoded bs ≡ None
unfolding decoded
decoded_unfit bs h = cond-false (fits bs) (Some (fields_of bs)) None (and_right (eqb (length bs) 28) (eqb (crc (take 24 bs)) (number 4 (between 24 28 bs))) (ne_eqb (crc (take 24 bs)) (number 4 (between 24 28 bs)) h))

pub decoded-fit : (bs : List ℕ) → length bs ≡ 28 → crc (take 24 bs) ≡ number 4 (between 24 28 bs) → decoded bs ≡ Some (fields_of bs)
unfolding decoded
decoded-fit bs l h = cond-true (fits bs) (Some (fields_of bs)) None (and_from (eqb (length bs) 28) (eqb (crc (take 24 bs)) (number 4 (between 24 28 bs))) (eq-eqb (length bs) 28 l) (eq-eqb (crc (take 24 bs)) (number 4 (between 24 28 bs)) h))

-- digits
abbrev valued : List ℕ → ℕ
valued [] = 0
valued (b ∷ bs) = b * 256 ^ length bs + valued bs

length_digits : (w n : ℕ) → length (digits w n) ≡ w
length_digits zero n = refl
length_digits (suc w) n = ap suc (length_digits w n)

valued_digits : (w n : ℕ) → valued (digits w n) ≡ n % 256 ^ w
valued_digits zero n = sym (mod-one n)
valued_digits (suc w) n =
    ap₂ (λ (k v : ℕ). (n / 256 ^ w % 256) * 256 ^ k + v) (length_digits w n) (valued_digits w n)
    ∙ sym (ap (λ (m : ℕ). n % m) (pow-succ' 256 w) ∙ mod-mul n {m = 256} {c = 256 ^ w} (omega arith) (one-le-pow w 256 (omega arith)))

digits-bytes : (w n : ℕ) → AllByRecursion (λ b. b < 256) (digits w n)
digits-bytes zero n = tt
digits-bytes (suc w) n = (mod-lt (n / 256 ^ w) (omega arith), digits-bytes w n)

back2 : (n : ℕ) → n < 2 ^ 16 → number 2 (digits 2 n) ≡ n
back2 n l = valued_digits 2 n ∙ mod-eq_of_lt l

back4 : (n : ℕ) → n < 2 ^ 32 → number 4 (digits 4 n) ≡ n
back4 n l = valued_digits 4 n ∙ mod-eq_of_lt l

back8 : (n : ℕ) → n < 2 ^ 64 → number 8 (digits 8 n) ≡ n
back8 n l = valued_digits 8 n ∙ mod-eq_of_lt l

low : (n : ℕ) → n % 256 ≡ n / 256 ^ 0 % 256
low n = ap (λ (m : ℕ). m % 256) (sym (div-one n))

-- the bytes that the numbers' own methods give
pub two : (n : ℕ) → (n / 256 % 256) ∷ (n % 256) ∷ [] ≡ digits 2 n
two n = ap (λ (b : ℕ). (n / 256 % 256) ∷ b ∷ []) (low n)

pub four : (n : ℕ) → (n / 16777216 % 256) ∷ (n / 65536 % 256) ∷ (n / 256 % 256) ∷ (n % 256) ∷ [] ≡ digits 4 n
four n = ap (λ (b : ℕ). (n / 16777216 % 256) ∷ (n / 65536 % 256) ∷ (n / 256 % 256) ∷ b ∷ []) (low n)

pub eight : (n : ℕ) → (n / 72057594037927936 % 256) ∷ (n / 281474976710656 % 256) ∷ (n / 1099511627776 % 256) ∷ (n / 4294967296 % 256) ∷ (n / 16777216 % 256) ∷ (n / 65536 % 256) ∷ (n / 256 % 256) ∷ (n % 256) ∷ [] ≡ digits 8 n
eight n = ap (λ (b : ℕ). (n / 72057594037927936 % 256) ∷ (n / 281474976710656 % 256) ∷ (n / 1099511627776 % 256) ∷ (n / 4294967296 % 256) ∷ (n / 16777216 % 256) ∷ (n / 65536 % 256) ∷ (n / 256 % 256) ∷ b ∷ []) (low n)

-- and the numbers that they read
pub number_2 : (bs : List ℕ) → from_be_bytes w16 bs ≡ number 2 bs
number_2 bs = omega arith

pub number_4 : (bs : List ℕ) → from_be_bytes w32 bs ≡ number 4 bs
number_4 bs = omega arith

pub number_8 : (bs : List ℕ) → from_be_bytes w64 bs ≡ number 8 bs
number_8 bs = omega arith

-- a list of which the first `at` elements were written, in order
pub record Front (d : List ℕ) (at : ℕ) (front s : List ℕ) : Type 0 where
  pub is : s ≡ front ++ drop at d
  pub long : length front ≡ at

further : (d front s t bs cs : List ℕ) (at : ℕ) → Front d at front s → t ≡ paste s at bs (length bs) → bs ≡ cs → Front d (at + length cs) (front ++ cs) t
further d front s t bs cs at w e same =
    let head : take at s ≡ front = ap (take at) w.is ∙ take_at front (drop at d) at w.long in
    let part : take (length bs) bs ≡ cs = take_all (length bs) bs (omega arith) ∙ same in
    let size : length bs ≡ length cs = ap length same in
    let rest : drop (at + length bs) s ≡ drop (at + length cs) d =
    ap (drop (at + length bs)) w.is ∙ drop-append-drop at d front (at + length bs) (omega arith) w.long ∙ ap (λ (k : ℕ). drop (at + k) d) size in
    record {
      is = e ∙ ap₂ (λ (x y : List ℕ). x ++ y) (ap₂ (λ (x y : List ℕ). x ++ y) head part) rest;
      long = length-append front cs ∙ ap (λ (k : ℕ). k + length cs) w.long;
    }

-- the next part, written in its place
pub written : (d front s part bs cs : List ℕ) (at n : ℕ) → Front d at front s → part ≡ bs → bs ≡ cs → n ≡ length cs → Front d (at + length cs) (front ++ cs) (put_mid at n s part)
written d front s part bs cs at n w p q l = further d front s (put_mid at n s part) bs cs at w (put_mid-paste at n s part bs (length bs) p (ap length q ∙ sym l) refl) q

-- records
pub length_summed : (r : Record) → length (summed r) ≡ 24
unfolding summed
length_summed r = refl

summed-bytes : (r : Record) → Bytes (summed r)
unfolding summed
summed-bytes r =
    let e : List ℕ = digits 8 r.lease.expires in
    let d : List ℕ = digits 4 r.lease.client ++ e in
    let c : List ℕ = digits 2 r.lease.address ++ d in
    let b : List ℕ = digits 2 r.base ++ c in
    let P : ℕ → Type 0 = λ x. x < 256 in
    All-append P (digits 8 r.sequence) b (digits-bytes 8 r.sequence)
    (All-append P (digits 2 r.base) c (digits-bytes 2 r.base)
    (All-append P (digits 2 r.lease.address) d (digits-bytes 2 r.lease.address)
    (All-append P (digits 4 r.lease.client) e (digits-bytes 4 r.lease.client) (digits-bytes 8 r.lease.expires))))

sum_fits : (r : Record) → crc (summed r) < 2 ^ 32
unfolding Has32Bits
sum_fits r = has_32_bits (summed r) (summed-bytes r)

fields_back : (r : Record) (sum : List ℕ) → Fits r → fields_of (summed r ++ sum) ≡ r
unfolding summed
fields_back r sum f =
    let a : number 8 (digits 8 r.sequence) ≡ r.sequence = back8 r.sequence f.sequence in
    let b : number 2 (digits 2 r.base) ≡ r.base = back2 r.base f.base in
    let c : number 2 (digits 2 r.lease.address) ≡ r.lease.address = back2 r.lease.address f.address in
    let d : number 4 (digits 4 r.lease.client) ≡ r.lease.client = back4 r.lease.client f.client in
    let e : number 8 (digits 8 r.lease.expires) ≡ r.lease.expires = back8 r.lease.expires f.expires in
    ap (λ (x : ℕ). made x (number 2 (digits 2 r.base)) (number 2 (digits 2 r.lease.address)) (number 4 (digits 4 r.lease.client)) (number 8 (digits 8 r.lease.expires))) a
    ∙ ap (λ (x : ℕ). made r.sequence x (number 2 (digits 2 r.lease.address)) (number 4 (digits 4 r.lease.client)) (number 8 (digits 8 r.lease.expires))) b
    ∙ ap (λ (x : ℕ). made r.sequence r.base x (number 4 (digits 4 r.lease.client)) (number 8 (digits 8 r.lease.expires))) c
    ∙ ap (λ (x : ℕ). made r.sequence r.base r.lease.address x (number 8 (digits 8 r.lease.expires))) d
    ∙ ap (λ (x : ℕ). made r.sequence r.base r.lease.address r.lease.client x) e
  where
    made : (q b a c e : ℕ) → Record
    made q b a c e = record { sequence = q; base = b; lease = record { address = a; client = c; expires = e } }

sum_part : (bs : List ℕ) (n : ℕ) → length bs ≡ 24 → between 24 28 (bs ++ digits 4 n) ≡ digits 4 n
sum_part bs n l = ap (take 4) (drop_at bs (digits 4 n) 24 l)

pub round_trip : RoundTrip
round_trip r f =
    decoded-fit (encoded r) (length-append (summed r) (digits 4 (crc (summed r))) ∙ ap (λ (k : ℕ). k + 4) (length_summed r))
    (ap crc (take_at (summed r) (digits 4 (crc (summed r))) 24 (length_summed r)) ∙ sym (ap (number 4) (sum_part (summed r) (crc (summed r)) (length_summed r)) ∙ back4 (crc (summed r)) (sum_fits r)))
    ∙ ap Some (fields_back r (digits 4 (crc (summed r))) f)

-- zeros do not fit their sum
pub zeros_are_blank : ZerosAreBlank
unfolding zeros
zeros_are_blank = ap (λ (o : Option Record). place_from o (zeros (replicate 28 0))) (decoded_unfit (replicate 28 0) zeros_do_not_fit)
