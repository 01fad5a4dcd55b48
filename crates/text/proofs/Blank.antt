-- A line whose first byte that is no space begins a comment, or that has none, has no word.
-- Assumes nothing.
use Rattle.std.proofs.Common.{◌≡◌, ℕ, Bool, true, false, cond, not, eqb, List, [], ◌∷◌, Some, None, refl, ap, ◌∙◌, arith}
use Rattle.std.specs.List.{find}
use Rattle.std.proofs.lemmas.Bool.{eqb-true}
use Rattle.text.specs.Pieces.{comment, space, words}

abbrev pub said : ℕ → Bool
said b = not (eqb b space)

-- a space before a line says nothing
spaced : (bs : List ℕ) → words (space ∷ bs) ≡ words bs
spaced bs = refl

first : (b : ℕ) (bs : List ℕ) (t : Bool) → eqb b space ≡ t → (find said bs ≡ None → words bs ≡ []) → cond (not t) (Some b) (find said bs) ≡ None → words (b ∷ bs) ≡ []
first b bs true e k n = ap (λ (x : ℕ). words (x ∷ bs)) (eqb-true b space e) ∙ (spaced bs ∙ k n)
first b bs false e k n = absurd (let z : ◌≡◌ {A = ℕ} 0 1 = cc in omega arith)

pub none_said : (bs : List ℕ) → find said bs ≡ None → words bs ≡ []
none_said [] e = refl
none_said (b ∷ bs) e = first b bs (eqb b space) refl (none_said bs) e

begun : (bs : List ℕ) → words (comment ∷ bs) ≡ []
begun bs = refl

second : (b : ℕ) (bs : List ℕ) (t : Bool) → eqb b space ≡ t → (find said bs ≡ Some comment → words bs ≡ []) → cond (not t) (Some b) (find said bs) ≡ Some comment → words (b ∷ bs) ≡ []
second b bs true e k n = ap (λ (x : ℕ). words (x ∷ bs)) (eqb-true b space e) ∙ (spaced bs ∙ k n)
second b bs false e k n = let s : b ≡ comment = cc in ap (λ (x : ℕ). words (x ∷ bs)) s ∙ begun bs

pub comment_said : (bs : List ℕ) → find said bs ≡ Some comment → words bs ≡ []
comment_said [] e = refl
comment_said (b ∷ bs) e = second b bs (eqb b space) refl (comment_said bs) e
