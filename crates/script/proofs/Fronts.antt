-- The front of a script that is read so far, one entry more, and its end at the script's end or at a bad entry.
-- Assumes nothing.
use Rattle.std.proofs.Common.{◌≡◌, ℕ, ◌+◌, ◌*◌, ◌≤◌, List, [], ◌∷◌, ◌++◌, map, length, sym, refl, ap, ◌∙◌, subst, append_assoc, arith, length-append}
use Rattle.std.proofs.lemmas.List.{append-nil, map_push, length_push}
use Rattle.script.specs.declared.entry.Entry.{Entry}
use Rattle.script.specs.Script.{Known, Part, Sound, part_of, written}
use Rattle.script.specs.Place.{Stands}

pub record Front (bytes rest : List ℕ) (entries : List Entry) : Type 0 where
  pub whole : bytes ≡ written (map part_of entries) ++ rest
  pub known : Known (map part_of entries)
  pub few : 2 * length entries + length rest ≤ length bytes

pub front_none : (bytes : List ℕ) (entries : List Entry) → entries ≡ [] → Front bytes bytes entries
unfolding written
front_none bytes entries e =
    let P : List Entry → Type 0 = λ es. Front bytes bytes es in
    subst P (sym e) (record { whole = refl; known = tt; few = omega arith })

written-push : (ps : List Part) (p : Part) → written (ps ++ p ∷ []) ≡ written ps ++ (p.who ∷ (length p.message ∷ p.message))
unfolding written
written-push [] p = ap (λ (xs : List ℕ). p.who ∷ (length p.message ∷ xs)) (append-nil p.message)
written-push (q ∷ qs) p =
    ap (λ (xs : List ℕ). q.who ∷ (length q.message ∷ (q.message ++ xs))) (written-push qs p)
    ∙ ap (λ (xs : List ℕ). q.who ∷ (length q.message ∷ xs)) (sym (append_assoc q.message (written qs) (p.who ∷ (length p.message ∷ p.message))))

known-push : (ps : List Part) (p : Part) → Known ps → Sound p → Known (ps ++ p ∷ [])
known-push [] p k s = (s, tt)
known-push (q ∷ qs) p k s = (k.0, known-push qs p k.1 s)

pub front_more : (bytes rest after : List ℕ) (es fs : List Entry) (e : Entry) → fs ≡ es ++ e ∷ [] → Front bytes rest es → Stands rest (part_of e) after → Front bytes after fs
front_more bytes rest after es fs e same f s =
    let P : List Entry → Type 0 = λ gs. Front bytes after gs in
    let p : Part = part_of e in
    let pushed : map part_of (es ++ e ∷ []) ≡ map part_of es ++ p ∷ [] = map_push part_of es e in
    let size : length rest ≡ 2 + length p.message + length after = ap (λ (xs : List ℕ). length xs) s.whole ∙ omega (arith, length-append p.message after) in
    subst P (sym same) (record {
      whole = f.whole ∙ ap (λ (xs : List ℕ). written (map part_of es) ++ xs) s.whole
          ∙ sym (append_assoc (written (map part_of es)) (p.who ∷ (length p.message ∷ p.message)) after)
          ∙ ap (λ (xs : List ℕ). xs ++ after) (sym (ap written pushed ∙ written-push (map part_of es) p));
      known = subst (λ (ps : List Part). Known ps) (sym pushed) (known-push (map part_of es) p f.known s.sound);
      few = omega (arith, length_push es e, f.few, size);
    })
