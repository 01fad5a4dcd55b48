-- One part after the other.
use Rattle.std.proofs.Common.{◌≡◌, ℕ, List, [], ◌∷◌, ◌++◌, ap, ◌∙◌, sym}
use Rattle.std.proofs.lemmas.List.{append_assoc}

-- two parts are appended
pub joined : (new mid old a b : List ℕ) → mid ≡ old ++ a → new ≡ mid ++ b → new ≡ old ++ (a ++ b)
joined new mid old a b e f = f ∙ (ap (λ (l : List ℕ). l ++ b) e ∙ append_assoc old a b)

-- a part is appended, and what was left began with it
pub moved : (new old part left rest : List ℕ) → new ≡ old ++ part → left ≡ part ++ rest → new ++ rest ≡ old ++ left
moved new old part left rest e f =
    ap (λ (l : List ℕ). l ++ rest) e ∙ (append_assoc old part rest ∙ ap (λ (l : List ℕ). old ++ l) (sym f))

-- two bytes are appended, and what was left began with them
pub moved_two : (new mid old left rest : List ℕ) (h l : ℕ) → mid ≡ old ++ h ∷ [] → new ≡ mid ++ l ∷ [] → left ≡ h ∷ l ∷ rest → new ++ rest ≡ old ++ left
moved_two new mid old left rest h l e f g = moved new old ((h ∷ []) ++ (l ∷ [])) left rest (joined new mid old (h ∷ []) (l ∷ []) e f) g

-- a part, a byte and another part are appended
pub byte-between : (new next mid old a b : List ℕ) (n : ℕ) → mid ≡ old ++ a → next ≡ mid ++ n ∷ [] → new ≡ next ++ b → new ≡ old ++ (a ++ n ∷ b)
byte-between new next mid old a b n e f g = joined new mid old a (n ∷ b) e (joined new next mid (n ∷ []) b f g)
