-- A number is read back from its digits.
use Rattle.std.proofs.Common.{◌≡◌, ℕ, ◌+◌, ◌-◌, ◌*◌, ◌/◌, ◌%◌, ◌^◌, ◌<◌, ◌≤◌, true, ltb, List, [], ◌∷◌, ◌++◌, length, Some, None, decimal, Option, refl, ap, ◌∙◌, arith}
use Rattle.std.proofs.lemmas.Fmt.{decimal_by_steps}
use Rattle.std.proofs.lemmas.List.{length_push}
use Rattle.std.proofs.lemmas.Bool.{cond-false, or_from, le-ltb}
use Rattle.text.specs.Decimal.{other, longer, digits_on, number_of}
use Rattle.text.proofs.Digits.{whole}
use Rattle.text.proofs.Spelling.{plainly, Fair, plain_push}

longer_by : (most n d : ℕ) → d < 10 → n * 10 + d ≤ most → longer most n (48 + d) ≡ Some (n * 10 + d)
longer_by most n d h k =
    let e : 48 + d - 48 ≡ d = omega arith in
    cond-false (other (48 + d)) None _ (or_from (ltb (48 + d) 48) (ltb 57 (48 + d)) (le-ltb (48 + d) 48 (omega arith)) (le-ltb 57 (48 + d) (omega arith)))
    ∙ (cond-false (ltb most (n * 10 + (48 + d - 48))) None (Some (n * 10 + (48 + d - 48))) (le-ltb most (n * 10 + (48 + d - 48)) (omega arith))
    ∙ ap (λ (x : ℕ). Some (n * 10 + x)) e)

digits_push : (most : ℕ) (o : Option ℕ) (ds : List ℕ) (b : ℕ) → digits_on most o (ds ++ b ∷ []) ≡ digits_on most (digits_on most o ds) (b ∷ [])
digits_push most None ds b = refl
digits_push most (Some n) [] b = refl
digits_push most (Some n) (c ∷ ds) b = digits_push most (longer most n c) ds b

one : (most n : ℕ) → n < 10 → n ≤ most → digits_on most (Some 0) ((48 + n) ∷ []) ≡ Some n
one most n h k =
    let e : 0 * 10 + n ≡ n = omega arith in
    ap (λ (o : Option ℕ). digits_on most o []) (longer_by most 0 n h (omega arith)) ∙ ap (λ (x : ℕ). Some x) e

more : (most n : ℕ) (ds : List ℕ) → 10 ≤ n → (n / 10 ≤ most → digits_on most (Some 0) ds ≡ Some (n / 10)) → n ≤ most → digits_on most (Some 0) (ds ++ (48 + n % 10) ∷ []) ≡ Some n
more most n ds h ih k =
    let e : n / 10 * 10 + n % 10 ≡ n = omega arith in
    digits_push most (Some 0) ds (48 + n % 10)
    ∙ (ap (λ (o : Option ℕ). digits_on most o ((48 + n % 10) ∷ [])) (ih (omega arith))
    ∙ (ap (λ (o : Option ℕ). digits_on most o []) (longer_by most (n / 10) (n % 10) (omega arith) (omega arith)) ∙ ap (λ (x : ℕ). Some x) e))

pub fair_decimal : (n : ℕ) → n < 2 ^ 64 → Fair (decimal n)
fair_decimal n h =
    let p : (plainly (decimal n) ≡ true) × (0 < length (decimal n)) =
    decimal_by_steps (λ k ds. (plainly ds ≡ true) × (0 < length ds)) (λ k l. (plain_push [] (48 + k) refl (omega arith), omega arith)) (λ k ds l ih. (plain_push ds (48 + k % 10) ih.0 (omega arith), omega (arith, length_push ds (48 + k % 10)))) n h
    in
    record { plain = p.0; some = p.1 }

pub number_back : (most n : ℕ) → n ≤ most → n < 2 ^ 64 → number_of most (decimal n) ≡ Some n
number_back most n h k =
    whole most (decimal n) (fair_decimal n k).some
    ∙ decimal_by_steps (λ x ds. x ≤ most → digits_on most (Some 0) ds ≡ Some x) (λ x l. one most x l) (λ x ds l ih. more most x ds l ih) n k h
