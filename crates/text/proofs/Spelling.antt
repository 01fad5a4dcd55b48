-- Words without spaces, comments or newlines are kept by a line, and lines by a text.
use Rattle.std.proofs.Common.{◌≡◌, ℕ, ◌<◌, ◌≤◌, Bool, true, ◌&&◌, eqb, ltb, List, [], ◌∷◌, ◌++◌, length, sym, refl, ap, ◌∙◌, arith}
use Rattle.std.proofs.lemmas.List.{append-nil}
use Rattle.std.proofs.lemmas.Bool.{cond-true, cond-false, eq-eqb, ne_eqb, and_parts, and_from, ltb-true, lt-ltb}
use Rattle.text.specs.Pieces.{onto, pieces, before, filled, words, lines, space, comment, newline}
use Rattle.text.specs.Speech.{Words}
use Rattle.text.specs.Told.{trailed, spaced}
use Rattle.text.proofs.Cutting.{filled-some}

-- no byte up to the one that begins a comment
abbrev pub plainly : List ℕ → Bool
plainly [] = true
plainly (b ∷ bs) = ltb 35 b && plainly bs

pub record Fair (w : List ℕ) : Type 0 where
  pub plain : plainly w ≡ true
  pub some : 0 < length w

abbrev pub Fairs : Words → Type 0
Fairs [] = Unit {0}
Fairs (w ∷ ws) = Fair w × Fairs ws

abbrev pub Free : ℕ → List ℕ → Type 0
Free end [] = Unit {0}
Free end (b ∷ bs) = (b ≡ end → ⊥) × Free end bs

pub plain_push : (w : List ℕ) (b : ℕ) → plainly w ≡ true → 35 < b → plainly (w ++ b ∷ []) ≡ true
plain_push [] b h k = and_from (ltb 35 b) true (lt-ltb 35 b k) refl
plain_push (c ∷ w) b h k =
    let p = and_parts (ltb 35 c) (plainly w) h in
    and_from (ltb 35 c) (plainly (w ++ b ∷ [])) p.0 (plain_push w b p.1 k)

plain_free : (end : ℕ) (w : List ℕ) → end ≤ 35 → plainly w ≡ true → Free end w
plain_free end [] h p = tt
plain_free end (b ∷ w) h p =
    let q = and_parts (ltb 35 b) (plainly w) p in
    let l : 35 < b = ltb-true 35 b q.0 in
    (λ e. omega arith, plain_free end w h q.1)

free_append : (end : ℕ) (xs ys : List ℕ) → Free end xs → Free end ys → Free end (xs ++ ys)
free_append end [] ys p q = q
free_append end (x ∷ xs) ys p q = (p.0, free_append end xs ys p.1 q)

free-trailed : (end : ℕ) (ws : Words) → end ≤ 35 → (end ≡ space → ⊥) → Fairs ws → Free end (trailed ws)
free-trailed end [] h n f = tt
free-trailed end (w ∷ ws) h n f =
    (λ e. n (sym e), free_append end w (trailed ws) (plain_free end w h f.0.plain) (free-trailed end ws h n f.1))

free-spaced : (end : ℕ) (ws : Words) → end ≤ 35 → (end ≡ space → ⊥) → Fairs ws → Free end (spaced ws)
free-spaced end [] h n f = tt
free-spaced end (w ∷ ws) h n f = free_append end w (trailed ws) (plain_free end w h f.0.plain) (free-trailed end ws h n f.1)

pieces-word : (end : ℕ) (w rest : List ℕ) → Free end w → pieces end (w ++ end ∷ rest) ≡ w ∷ pieces end rest
pieces-word end [] rest p = cond-true (eqb end end) ([] ∷ pieces end rest) (onto end (pieces end rest)) (eq-eqb end end refl)
pieces-word end (b ∷ w) rest p =
    cond-false (eqb b end) ([] ∷ pieces end (w ++ end ∷ rest)) (onto b (pieces end (w ++ end ∷ rest))) (ne_eqb b end p.0) ∙ ap (onto b) (pieces-word end w rest p.1)

pieces-last : (end : ℕ) (w : List ℕ) → Free end w → 0 < length w → pieces end w ≡ w ∷ []
pieces-last end [] p h = absurd (omega arith)
pieces-last end (b ∷ []) p h = cond-false (eqb b end) ([] ∷ []) (onto b []) (ne_eqb b end p.0)
pieces-last end (b ∷ c ∷ w) p h =
    cond-false (eqb b end) ([] ∷ pieces end (c ∷ w)) (onto b (pieces end (c ∷ w))) (ne_eqb b end p.0) ∙ ap (onto b) (pieces-last end (c ∷ w) p.1 (omega arith))

before-free : (end : ℕ) (w : List ℕ) → Free end w → before end w ≡ w
before-free end [] p = refl
before-free end (b ∷ w) p =
    cond-false (eqb b end) [] (b ∷ before end w) (ne_eqb b end p.0) ∙ ap (λ (l : List ℕ). b ∷ l) (before-free end w p.1)

pieces-spaced : (ws : Words) → Fairs ws → pieces space (spaced ws) ≡ ws
pieces-spaced [] f = refl
pieces-spaced (w ∷ []) f =
    ap (λ (l : List ℕ). pieces space l) (append-nil w) ∙ pieces-last space w (plain_free space w (omega arith) f.0.plain) f.0.some
pieces-spaced (w ∷ v ∷ ws) f =
    pieces-word space w (spaced (v ∷ ws)) (plain_free space w (omega arith) f.0.plain) ∙ ap (λ (l : Words). w ∷ l) (pieces-spaced (v ∷ ws) f.1)

filled_fair : (ws : Words) → Fairs ws → filled ws ≡ ws
filled_fair [] f = refl
filled_fair (w ∷ ws) f = filled-some w ws f.0.some ∙ ap (λ (l : Words). w ∷ l) (filled_fair ws f.1)

pub words-spaced : (ws : Words) → Fairs ws → words (spaced ws) ≡ ws
words-spaced ws f =
    ap (λ (l : List ℕ). filled (pieces space l)) (before-free comment (spaced ws) (free-spaced comment ws (omega arith) (λ e. omega arith) f))
    ∙ (ap filled (pieces-spaced ws f) ∙ filled_fair ws f)

pub line_cut : (ws : Words) (rest : List ℕ) → Fairs ws → lines (spaced ws ++ newline ∷ rest) ≡ spaced ws ∷ lines rest
line_cut ws rest f = pieces-word newline (spaced ws) rest (free-spaced newline ws (omega arith) (λ e. omega arith) f)
