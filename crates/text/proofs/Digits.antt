-- Numbers in decimal digits: what is written of them, and what is read.
use Rattle.std.proofs.Common.{◌≡◌, ℕ, ◌<◌, false, eqb, List, [], ◌∷◌, length, Some, sym, refl, arith}
use Rattle.std.proofs.lemmas.Bool.{eqb-false}
use Rattle.text.specs.Decimal.{digits_on, number_of}

pub whole : (most : ℕ) (w : List ℕ) → 0 < length w → number_of most w ≡ digits_on most (Some 0) w
whole most [] h = absurd (omega arith)
whole most (b ∷ bs) h = refl

pub positive : (n : ℕ) → false ≡ eqb n 0 → 0 < n
positive n e = let d : n ≡ 0 → ⊥ = eqb-false n 0 (sym e) in omega arith
