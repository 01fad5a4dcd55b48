-- Bytes in hexadecimal digits, from the front.
use Rattle.std.proofs.Common.{◌≡◌, ℕ, suc, ◌+◌, ◌*◌, ◌/◌, ◌%◌, Bool, true, false, cond, ◌&&◌, ◌||◌, List, [], ◌∷◌, length, get_or, map, sym, refl, ap, ◌∙◌, arith}
use Rattle.std.specs.List.{list_all}
use Rattle.std.specs.Simd.{first_chunks}
use Rattle.text.specs.Hex.{ten, six, nibble, pair, pairs, meant}

abbrev pub hexadecimal : ℕ → Bool
hexadecimal b = ten b || six b

joined : (a b r s : Bool) → r ≡ s → cond (a && b) r false ≡ (a && (b && s))
joined true true r s e = e
joined true false r s e = refl
joined false b r s e = refl

-- an even number of bytes are pairs where each is a digit
pub even_pairs : (bs : List ℕ) → length bs % 2 ≡ 0 → pairs bs ≡ list_all hexadecimal bs
even_pairs [] e = refl
even_pairs (h ∷ []) e = absurd (omega arith)
even_pairs (h ∷ l ∷ bs) e =
    joined (hexadecimal h) (hexadecimal l) (pairs bs) (list_all hexadecimal bs) (even_pairs bs (omega arith))

either : (b r : Bool) → r ≡ false → cond b r false ≡ false
either true r e = e
either false r e = refl

pub odd_pairs : (bs : List ℕ) → (length bs % 2 ≡ 0 → ⊥) → pairs bs ≡ false
odd_pairs [] e = absurd (e refl)
odd_pairs (h ∷ []) e = refl
odd_pairs (h ∷ l ∷ bs) e = either (pair h l) (pairs bs) (odd_pairs bs (λ z. e (omega arith)))

-- the byte that two digits say
abbrev pub both : List ℕ → ℕ
both p = nibble (get_or p 0 0) * 16 + nibble (get_or p 1 0)

pub meant_chunks : (bs : List ℕ) → meant bs ≡ map both (first_chunks 2 (length bs / 2) bs)
meant_chunks [] = refl
meant_chunks (h ∷ []) = refl
meant_chunks (h ∷ l ∷ bs) =
    let half : length (h ∷ l ∷ bs) / 2 ≡ suc (length bs / 2) = omega arith in
    ap (λ (m : List ℕ). (nibble h * 16 + nibble l) ∷ m) (meant_chunks bs)
    ∙ ap (λ (k : ℕ). map both (first_chunks 2 k (h ∷ l ∷ bs))) (sym half)
