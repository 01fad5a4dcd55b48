-- A line's words, with its party before them, say the entry's bytes.
use Rattle.std.proofs.Common.{◌≡◌, ℕ, ◌+◌, ◌≤◌, Bool, true, false, cond, eqb, List, [], ◌∷◌, ◌++◌, Some, None, Ok, codes, decimal, Option, Result, refl, ap, ◌∙◌, subst, arith}
use Rattle.std.proofs.lemmas.List.{append_assoc}
use Rattle.std.proofs.lemmas.Bool.{cond-false, eqb-true, eqb-false}
use Rattle.text.specs.declared.fault.Mistake.{Mistake}
use Rattle.text.specs.declared.field.Field.TheVariants as field
use Rattle.text.specs.declared.form.Form.{Form}
use Rattle.text.specs.declared.form.Form.TheVariants.{Script, Stream}
use Rattle.text.specs.declared.kind.Verb.{Verb}
use Rattle.text.specs.declared.line.Lead.{Lead}
use Rattle.text.specs.declared.line.Line.{Line}
use Rattle.text.specs.declared.speech.Speech.{Speech}
use Rattle.text.specs.Entry.{addressee}
use Rattle.text.specs.Laws.{Party}
use Rattle.text.specs.Line.{lead, lead_of, boxed, spoke, verbed, led, begins, something, bytes_of, line_bytes, speech_bytes}
use Rattle.text.specs.Pieces.{space}
use Rattle.text.specs.Speech.{Words, word, absent, speech_of}
use Rattle.text.specs.Told.{spaced, lead_text}
use Rattle.text.specs.Verb.{verb_of}
use Rattle.text.proofs.Numerals.{fair_decimal}
use Rattle.text.proofs.Saying.{Says, In, figure_back, absent-some}
use Rattle.text.proofs.Spelling.{Fair, Fairs}

abbrev pub lead-words : Form → ℕ → Words
lead-words Stream who = []
lead-words Script who = cond (eqb who 0) (codes "house" ∷ []) (codes "box" ∷ decimal who ∷ [])

begun : (f : Form) (ws : Words) (who p : ℕ) (v : Verb) (s : Speech) (bs : List ℕ) → absent 0 ws ≡ false → lead_of f ws ≡ Ok (lead who p) → verb_of (word p ws) ≡ Some v → speech_of v (p + 1) ws ≡ Ok s → speech_bytes f who ws s ≡ bs → line_bytes f ws ≡ Ok bs
begun f ws who p v s bs a l e g h =
    ap (λ (r : Result (Option Line) Mistake). bytes_of ws r) (cond-false (absent 0 ws) (Ok None) (something (begins f ws)) a)
    ∙ (ap (λ (r : Result Lead Mistake). bytes_of ws (something (led f ws r))) l
    ∙ (ap (λ (o : Option Verb). bytes_of ws (something (verbed f (lead who p) ws o))) e
    ∙ (ap (λ (r : Result Speech Mistake). bytes_of ws (something (spoke (addressee f who) r))) g ∙ ap (λ (x : List ℕ). Ok x) h)))

by_name : (who : ℕ) (v : List ℕ) (args : Words) (verb : Verb) (bs : List ℕ) (b : Bool) → eqb who 0 ≡ b → who ≤ 64 → Fair v → verb_of v ≡ Some verb → Says Script who verb args bs → line_bytes Script (cond b (codes "house" ∷ []) (codes "box" ∷ decimal who ∷ []) ++ v ∷ args) ≡ Ok bs
by_name who v args verb bs true z p fair e says =
    let ws : Words = codes "house" ∷ v ∷ args in
    let (s, g, h) = subst (λ (w : ℕ). Says Script w verb args bs) (eqb-true who 0 z) says 2 ws refl in
    begun Script ws 0 1 verb s bs refl refl e g h
by_name who v args verb bs false z p fair e says =
    let ws : Words = codes "box" ∷ decimal who ∷ v ∷ args in
    let some : who ≡ 0 → ⊥ = eqb-false who 0 z in
    let i : In field.Party who = record { least = omega arith; most = p; fits = omega arith } in
    let (s, g, h) = says 3 ws refl in
    begun Script ws who 2 verb s bs refl (ap boxed (figure_back field.Party 1 who ws refl i)) e g h

pub line_back : (f : Form) (who : ℕ) (v : List ℕ) (args : Words) (verb : Verb) (bs : List ℕ) → Party f who → Fair v → verb_of v ≡ Some verb → Says f who verb args bs → line_bytes f (lead-words f who ++ v ∷ args) ≡ Ok bs
line_back Stream who v args verb bs p fair e says =
    let ws : Words = v ∷ args in
    let (s, g, h) = subst (λ (w : ℕ). Says Stream w verb args bs) p says 1 ws refl in
    begun Stream ws 0 0 verb s bs (absent-some 0 ws v refl fair.some) refl e g h
line_back Script who v args verb bs p fair e says = by_name who v args verb bs (eqb who 0) refl p fair e says

spaced_by : (who : ℕ) (v : List ℕ) (args : Words) (b : Bool) → cond b (codes "house ") (codes "box " ++ (decimal who ++ space ∷ [])) ++ spaced (v ∷ args) ≡ spaced (cond b (codes "house" ∷ []) (codes "box" ∷ decimal who ∷ []) ++ v ∷ args)
spaced_by who v args true = refl
spaced_by who v args false = ap (λ (l : List ℕ). codes "box " ++ l) (append_assoc (decimal who) (space ∷ []) (spaced (v ∷ args)))

pub line_spaced : (f : Form) (who : ℕ) (v : List ℕ) (args : Words) → lead_text f who ++ spaced (v ∷ args) ≡ spaced (lead-words f who ++ v ∷ args)
line_spaced Stream who v args = refl
line_spaced Script who v args = spaced_by who v args (eqb who 0)

fairs_by : (who : ℕ) (ws : Words) (b : Bool) → who ≤ 64 → Fairs ws → Fairs (cond b (codes "house" ∷ []) (codes "box" ∷ decimal who ∷ []) ++ ws)
fairs_by who ws true p f = (record { plain = refl; some = omega arith }, f)
fairs_by who ws false p f = (record { plain = refl; some = omega arith }, (fair_decimal who (omega arith), f))

pub line_fair : (f : Form) (who : ℕ) (ws : Words) → Party f who → Fairs ws → Fairs (lead-words f who ++ ws)
line_fair Stream who ws p f = f
line_fair Script who ws p f = fairs_by who ws (eqb who 0) p f
