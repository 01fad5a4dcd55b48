-- A line that was written is read back, and the reading goes on behind it.
use Rattle.std.proofs.Common.{◌≡◌, ℕ, ◌+◌, ◌≤◌, Bool, true, false, cond, eqb, List, [], ◌∷◌, ◌++◌, Some, None, Ok, codes, decimal, sym, refl, ap, ◌∙◌, subst, arith}
use Rattle.std.proofs.lemmas.List.{append-nil, append_assoc}
use Rattle.wire.specs.declared.message.Message.TheVariants as m
use Rattle.wire.specs.Message.{encoded}
use Rattle.text.specs.declared.form.Form.{Form}
use Rattle.text.specs.declared.kind.Verb.{Verb}
use Rattle.text.specs.declared.kind.Verb.TheVariants as verb
use Rattle.text.specs.Entry.{entry_bytes, copies}
use Rattle.text.specs.Laws.{Party}
use Rattle.text.specs.Line.{line_bytes}
use Rattle.text.specs.Pieces.{lines, words, newline}
use Rattle.text.specs.Read.{reading}
use Rattle.text.specs.Speech.{Words}
use Rattle.text.specs.Told.{spaced, lead_text, line_text, tick_words}
use Rattle.text.specs.Verb.{verb_of}
use Rattle.text.specs.Write.{Waiting, run_text}
use Rattle.text.proofs.Leading.{lead-words, line_back, line_spaced, line_fair}
use Rattle.text.proofs.Numerals.{fair_decimal}
use Rattle.text.proofs.Readings.{line_read}
use Rattle.text.proofs.Saying.{Says, tick_says}
use Rattle.text.proofs.Spelling.{Fair, Fairs, words-spaced, line_cut}

-- behind these bytes the text brings all of those, wherever it stands
abbrev pub Reads : Form → List ℕ → List ℕ → List ℕ → Type 0
Reads f out text whole = (k : ℕ) → reading f k out (Ok []) (lines text) ≡ Ok whole

laid : (f : Form) (who : ℕ) (v : List ℕ) (args : Words) (rest : List ℕ) → line_text f who (v ∷ args) ++ rest ≡ spaced (lead-words f who ++ v ∷ args) ++ newline ∷ rest
laid f who v args rest =
    append_assoc (lead_text f who) (spaced (v ∷ args) ++ newline ∷ []) rest
    ∙ (ap (λ (l : List ℕ). lead_text f who ++ l) (append_assoc (spaced (v ∷ args)) (newline ∷ []) rest)
    ∙ (sym (append_assoc (lead_text f who) (spaced (v ∷ args)) (newline ∷ rest)) ∙ ap (λ (l : List ℕ). l ++ newline ∷ rest) (line_spaced f who v args)))

pub line_reads : (f : Form) (who : ℕ) (v : List ℕ) (args : Words) (verb : Verb) (bs out rest whole : List ℕ) → Party f who → Fair v → Fairs args → verb_of v ≡ Some verb → Says f who verb args bs → Reads f (out ++ bs) rest whole → Reads f out (line_text f who (v ∷ args) ++ rest) whole
line_reads f who v args verb bs out rest whole p fair fairs e says go k =
    let ws : Words = lead-words f who ++ v ∷ args in
    let all : Fairs (lead-words f who ++ v ∷ args) = line_fair f who (v ∷ args) p (fair, fairs) in
    let cut : lines (line_text f who (v ∷ args) ++ rest) ≡ spaced (lead-words f who ++ v ∷ args) ∷ lines rest = ap lines (laid f who v args rest) ∙ line_cut (lead-words f who ++ v ∷ args) rest all in
    let read : line_bytes f (words (spaced (lead-words f who ++ v ∷ args))) ≡ Ok bs = ap (λ (l : Words). line_bytes f l) (words-spaced (lead-words f who ++ v ∷ args) all) ∙ line_back f who v args verb bs p fair e says in
    line_read f k out (out ++ bs) (spaced (lead-words f who ++ v ∷ args)) bs (lines (line_text f who (v ∷ args) ++ rest)) (lines rest) cut read refl ∙ go (k + 1)

abbrev pub tick_bytes : Form → ℕ → List ℕ
tick_bytes f who = entry_bytes f who (encoded m.Tick)

fair_count : (n : ℕ) (b : Bool) → n ≤ 1000000 → Fairs (cond b [] (decimal n ∷ []))
fair_count n true h = tt
fair_count n false h = (fair_decimal n (omega arith), tt)

-- what waits is ticks of a party, at most what a line can say
abbrev pub Sayable : Form → Waiting → Type 0
Sayable f None = Unit {0}
Sayable f (Some r) = (r.party.form ≡ f) × Party f r.party.who × (1 ≤ r.times) × (r.times ≤ 1000000)

abbrev pub waiting_bytes : Form → Waiting → List ℕ
waiting_bytes f None = []
waiting_bytes f (Some r) = copies r.times (tick_bytes f r.party.who)

pub run-reads : (f : Form) (r : Waiting) (out rest whole : List ℕ) → Sayable f r → Reads f (out ++ waiting_bytes f r) rest whole → Reads f out (run_text r ++ rest) whole
run-reads f None out rest whole p go = subst (λ (o : List ℕ). Reads f o rest whole) (append-nil out) go
run-reads f (Some r) out rest whole p go =
    subst (λ (g : Form). Reads f out (line_text g r.party.who (tick_words r.times) ++ rest) whole) (sym p.0)
    (line_reads f r.party.who (codes "tick") (cond (eqb r.times 1) [] (decimal r.times ∷ [])) verb.Tick (copies r.times (tick_bytes f r.party.who)) out rest whole p.1 (record { plain = refl; some = omega arith }) (fair_count r.times (eqb r.times 1) p.3) refl (tick_says f r.party.who r.times p.2 p.3) go)
