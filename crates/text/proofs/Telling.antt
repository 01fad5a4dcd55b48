-- The words of a line, each behind a space.
use Rattle.std.proofs.Common.{◌≡◌, ℕ, List, [], ◌∷◌, ◌++◌, sym, refl, ap, ◌∙◌}
use Rattle.std.proofs.lemmas.List.{append_assoc}
use Rattle.text.specs.Pieces.{space}
use Rattle.text.specs.Speech.{Words}
use Rattle.text.specs.Told.{trailed}

pub trailed_append : (vs ws : Words) → trailed (vs ++ ws) ≡ trailed vs ++ trailed ws
trailed_append [] ws = refl
trailed_append (v ∷ vs) ws =
    ap (λ (l : List ℕ). space ∷ v ++ l) (trailed_append vs ws) ∙ ap (λ (l : List ℕ). space ∷ l) (sym (append_assoc v (trailed vs) (trailed ws)))
