-- What words say is what they were written of.
use Rattle.std.proofs.Common.{◌≡◌, ℕ, ◌+◌, ◌/◌, ◌^◌, ◌<◌, ◌≤◌, Bool, true, false, cond, eqb, ltb, List, [], ◌∷◌, ◌++◌, length, get_or, drop, Some, Ok, Err, decimal, Option, Result, sym, refl, ap, ◌∙◌, ap₂, add-zero, arith}
use Rattle.std.proofs.lemmas.List.{get_or-drop, nil_from_length}
use Rattle.std.proofs.lemmas.Bool.{cond-true, cond-false, eqb-true, ne_eqb, le-ltb}
use Rattle.std.specs.List.{AllByRecursion}
use Rattle.wire.specs.declared.message.Message.{Message}
use Rattle.wire.specs.declared.message.Message.TheVariants as m
use Rattle.wire.specs.Message.{encoded}
use Rattle.text.specs.declared.fault.Mistake.{Mistake}
use Rattle.text.specs.declared.fault.Expected.TheVariants.{Nothing}
use Rattle.text.specs.declared.field.Field.{Field}
use Rattle.text.specs.declared.field.Field.TheVariants.{Times}
use Rattle.text.specs.declared.form.Form.{Form}
use Rattle.text.specs.declared.kind.Kind.{Kind}
use Rattle.text.specs.declared.kind.Verb.{Verb}
use Rattle.text.specs.declared.kind.Verb.TheVariants as verb
use Rattle.text.specs.declared.speech.Speech.{Speech}
use Rattle.text.specs.declared.speech.Speech.TheVariants.{Say, Ticks, Raw}
use Rattle.text.specs.Decimal.{number_of}
use Rattle.text.specs.Entry.{head, entry_bytes, copies}
use Rattle.text.specs.Field.{range}
use Rattle.text.specs.Hex.{pairs, written, meant}
use Rattle.text.specs.Kind.{fields}
use Rattle.text.specs.Line.{speech_bytes}
use Rattle.text.specs.Sentence.{message_of}
use Rattle.text.specs.Speech.{Words, word, absent, mistake, ranged, figure_at, figures_at, ended, told, concluded, repeating, speech_of}
use Rattle.text.proofs.Nibbles.{Hexed, hexed}
use Rattle.text.proofs.Numerals.{number_back, fair_decimal}

-- behind a verb, wherever these words stand, they say these bytes
abbrev pub Says : Form → ℕ → Verb → Words → List ℕ → Type 0
Says f who v args bs =
    (q : ℕ) (ws : Words) → drop q ws ≡ args → (s : Speech) × (speech_of v q ws ≡ Ok s) × (speech_bytes f who ws s ≡ bs)

pub word_at : (q i : ℕ) (ws args : Words) → drop q ws ≡ args → word (q + i) ws ≡ get_or args i []
word_at q i ws args e = sym (get_or-drop q ws i []) ∙ ap (λ (l : Words). get_or l i []) e

pub word_first : (q : ℕ) (ws args : Words) → drop q ws ≡ args → word q ws ≡ get_or args 0 []
word_first q ws args e = ap (λ (n : ℕ). get_or ws n []) (sym (add-zero q)) ∙ word_at q 0 ws args e

pub absent_none : (place : ℕ) (ws : Words) → word place ws ≡ [] → absent place ws ≡ true
absent_none place ws e = ap (λ (w : List ℕ). eqb (length w) 0) e

pub absent-some : (place : ℕ) (ws : Words) (w : List ℕ) → word place ws ≡ w → 0 < length w → absent place ws ≡ false
absent-some place ws w e h = ap (λ (x : List ℕ). eqb (length x) 0) e ∙ ne_eqb (length w) 0 (λ z. omega arith)

pub record In (x : Field) (n : ℕ) : Type 0 where
  pub least : (range x).least ≤ n
  pub most : n ≤ (range x).most
  pub fits : n < 2 ^ 64

pub figure_back : (x : Field) (place n : ℕ) (ws : Words) → word place ws ≡ decimal n → In x n → figure_at x place ws ≡ Ok n
figure_back x place n ws e i =
    ap (λ (w : List ℕ). ranged x place (number_of (range x).most w)) e
    ∙ (ap (λ (o : Option ℕ). ranged x place o) (number_back (range x).most n i.most i.fits) ∙ cond-false (ltb n (range x).least) _ (Ok n) (le-ltb n (range x).least i.least))

ended_back : (place : ℕ) (ws : Words) (r : Result Speech Mistake) → word place ws ≡ [] → ended place ws r ≡ r
ended_back place ws r e = cond-true (absent place ws) r (Err (mistake Nothing place)) (absent_none place ws e)

tick_by : (f : Form) (who n : ℕ) (b : Bool) → eqb n 1 ≡ b → 1 ≤ n → n ≤ 1000000 → Says f who verb.Tick (cond b [] (decimal n ∷ [])) (copies n (entry_bytes f who (encoded m.Tick)))
tick_by f who n true h l k q ws e =
    (Ticks 1, cond-true (absent q ws) (Ok (Ticks 1)) (repeating q ws (figure_at Times q ws)) (absent_none q ws (word_first q ws [] e)), ap (λ (x : ℕ). copies x (entry_bytes f who (encoded m.Tick))) (sym (eqb-true n 1 h)))
tick_by f who n false h l k q ws e =
    let i : In Times n = record { least = l; most = k; fits = omega arith } in
    let first : word q ws ≡ decimal n = word_first q ws (decimal n ∷ []) e in (
      Ticks n,
      cond-false (absent q ws) (Ok (Ticks 1)) (repeating q ws (figure_at Times q ws)) (absent-some q ws (decimal n) first (fair_decimal n i.fits).some)
          ∙ (ap (λ (r : Result ℕ Mistake). repeating q ws r) (figure_back Times q n ws first i) ∙ ended_back (q + 1) ws (Ok (Ticks n)) (word_at q 1 ws (decimal n ∷ []) e)),
      refl,
    )

pub tick_says : (f : Form) (who n : ℕ) → 1 ≤ n → n ≤ 1000000 → Says f who verb.Tick (cond (eqb n 1) [] (decimal n ∷ [])) (copies n (entry_bytes f who (encoded m.Tick)))
tick_says f who n l k = tick_by f who n (eqb n 1) refl l k

raw_at-place : (f : Form) (who : ℕ) (mes : List ℕ) (q : ℕ) (ws : Words) → Hexed mes → length mes ≤ 255 → word q ws ≡ written mes → word (q + 1) ws ≡ [] → (s : Speech) × (speech_of verb.Bytes q ws ≡ Ok s) × (speech_bytes f who ws s ≡ entry_bytes f who mes)
raw_at-place f who mes q ws x l e z =
    let t = x.twice in
    let half : length (written mes) / 2 ≡ length mes = omega arith in
    let small : length (written mes) ≤ 510 = omega arith in (
      Raw q (length (word q ws) / 2),
      cond-false (ltb 510 (length (word q ws))) _ _ (ap (λ (w : List ℕ). ltb 510 (length w)) e ∙ le-ltb 510 (length (written mes)) small)
          ∙ (cond-true (pairs (word q ws)) _ _ (ap pairs e ∙ x.pairs) ∙ ended_back (q + 1) ws (Ok (Raw q (length (word q ws) / 2))) z),
      ap₂ (λ (n : ℕ) (bs : List ℕ). head f who ++ n ∷ bs) (ap (λ (w : List ℕ). length w / 2) e ∙ half) (ap meant e ∙ x.meant),
    )

raw_by : (f : Form) (who : ℕ) (mes : List ℕ) (b : Bool) → eqb (length mes) 0 ≡ b → AllByRecursion (λ x. x < 256) mes → length mes ≤ 255 → Says f who verb.Bytes (cond b [] (written mes ∷ [])) (entry_bytes f who mes)
raw_by f who mes true h a l q ws e =
    let nil : mes ≡ [] = nil_from_length mes (eqb-true (length mes) 0 h) in
    raw_at-place f who mes q ws (hexed mes a) l (word_first q ws [] e ∙ ap written (sym nil)) (word_at q 1 ws [] e)
raw_by f who mes false h a l q ws e =
    raw_at-place f who mes q ws (hexed mes a) l (word_first q ws (written mes ∷ []) e) (word_at q 1 ws (written mes ∷ []) e)

pub raw_says : (f : Form) (who : ℕ) (mes : List ℕ) → AllByRecursion (λ x. x < 256) mes → length mes ≤ 255 → Says f who verb.Bytes (cond (eqb (length mes) 0) [] (written mes ∷ [])) (entry_bytes f who mes)
raw_says f who mes a l = raw_by f who mes (eqb (length mes) 0) refl a l

-- the numbers stand where the kind has them, and nothing behind them
pub record Stand (k : Kind) (ns : List ℕ) (q : ℕ) (ws : Words) : Type 0 where
  pub numbers : figures_at k q ws ≡ Ok ns
  pub last : word (q + length (fields k)) ws ≡ []

pub said_by : (k : Kind) (ns : List ℕ) (mes : Message) (f : Form) (who : ℕ) (args : Words) → ((q : ℕ) (ws : Words) → drop q ws ≡ args → Stand k ns q ws) → message_of k ns ≡ Some mes → Says f who (verb.Say k) args (entry_bytes f who (encoded mes))
said_by k ns mes f who args h e q ws d =
    let s = h q ws d in (
      Say mes,
      ap (λ (x : Result (List ℕ) Mistake). concluded k q ws x) s.numbers
          ∙ (ended_back (q + length (fields k)) ws (told q (message_of k ns)) s.last ∙ ap (told q) e),
      refl,
    )
