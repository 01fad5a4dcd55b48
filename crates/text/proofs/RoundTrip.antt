-- What is written of a script or a stream is read as the same bytes.
use Rattle.std.proofs.Common.{◌≡◌, ℕ, zero, suc, ◌+◌, ◌<◌, Bool, true, false, cond, eqb, ltb, List, [], ◌∷◌, ◌++◌, length, Some, None, Ok, Err, codes, Option, sym, refl, ap, ◌∙◌, subst, arith}
use Rattle.std.proofs.ByRecursion.{All-from_get_or}
use Rattle.std.proofs.lemmas.List.{append-nil, append_assoc}
use Rattle.std.proofs.lemmas.Bool.{and_parts, eqb-true, eqb-false, ltb-true}
use Rattle.std.specs.List.{AllByRecursion}
use Rattle.std.specs.Option.{is_some, option_or}
use Rattle.wire.specs.declared.message.Message.{Message}
use Rattle.wire.specs.declared.message.Message.TheVariants as m
use Rattle.wire.specs.Message.{encoded}
use Rattle.wire.specs.Read.{read}
use Rattle.wire.proofs.Exactness.{own_bytes}
use Rattle.text.specs.declared.form.Form.{Form}
use Rattle.text.specs.declared.kind.Verb.TheVariants as verb
use Rattle.text.specs.declared.sentence.Sentence.{Sentence}
use Rattle.text.specs.declared.sentence.Spoken.{Spoken}
use Rattle.text.specs.declared.sentence.Spoken.TheVariants.{Tick, Raw, Say}
use Rattle.text.specs.declared.writing.Run.{Run}
use Rattle.text.specs.Entries.{Entry, Found, entries, bytes_of}
use Rattle.text.specs.Entry.{addressee, entry_bytes, copies}
use Rattle.text.specs.Hex.{written}
use Rattle.text.specs.Kind.{name}
use Rattle.text.specs.Laws.{Bytes, Party, Good, RoundTrip, Written}
use Rattle.text.specs.Read.{read_text}
use Rattle.text.specs.Sentence.{said, said_if, spoken_of}
use Rattle.text.specs.Speech.{Words}
use Rattle.text.specs.Told.{line_text}
use Rattle.text.specs.Write.{Waiting, run, run_text, same_form, same, joins, put_text, put_run, told, Answer, writing, write_text}
use Rattle.text.proofs.Copies.{copies-more}
use Rattle.text.proofs.Fields.{read_fits}
use Rattle.text.proofs.Inverse.{Octets, back}
use Rattle.text.proofs.Lines.{Reads, tick_bytes, Sayable, waiting_bytes, line_reads, run-reads}
use Rattle.text.proofs.Naming.{verb_back, fair_name}
use Rattle.text.proofs.Nibbles.{hexed}
use Rattle.text.proofs.Saying.{Says, raw_says}
use Rattle.text.proofs.Sentences.{said_args, sentence_back}
use Rattle.text.proofs.Spelling.{Fairs}
use Rattle.text.proofs.Whole.{entries-of}

octets-at : (bs : List ℕ) → Octets bs → Bytes bs
octets-at [] o i = omega arith
octets-at (b ∷ bs) o zero = o.0
octets-at (b ∷ bs) o (suc i) = octets-at bs o.1 i

-- bytes that are said as a tick are a tick's
ticking : (mes : List ℕ) (t : Message) → Octets mes → read mes ≡ Some t → said t ≡ Tick → mes ≡ encoded m.Tick
ticking mes (m.Request r) o e h = absurd (let z : ◌≡◌ {A = ℕ} 0 1 = cc in omega arith)
ticking mes (m.Grant g) o e h = absurd (let z : ◌≡◌ {A = ℕ} 0 1 = cc in omega arith)
ticking mes (m.Settings a b c) o e h = absurd (let z : ◌≡◌ {A = ℕ} 0 1 = cc in omega arith)
ticking mes m.Tick o e h = own_bytes mes (octets-at mes o) m.Tick e
ticking mes m.Crash o e h = absurd (let z : ◌≡◌ {A = ℕ} 0 1 = cc in omega arith)
ticking mes (m.Restart a) o e h = absurd (let z : ◌≡◌ {A = ℕ} 0 1 = cc in omega arith)
ticking mes (m.OwnNumber a) o e h = absurd (let z : ◌≡◌ {A = ℕ} 0 1 = cc in omega arith)
ticking mes (m.Nonce a) o e h = absurd (let z : ◌≡◌ {A = ℕ} 0 1 = cc in omega arith)
ticking mes (m.InUse a b) o e h = absurd (let z : ◌≡◌ {A = ℕ} 0 1 = cc in omega arith)
ticking mes m.NoAddress o e h = absurd (let z : ◌≡◌ {A = ℕ} 0 1 = cc in omega arith)
ticking mes (m.Fault f) o e h = absurd (let z : ◌≡◌ {A = ℕ} 0 1 = cc in omega arith)

tick_if : (mes : List ℕ) (r : Option Message) → Octets mes → read mes ≡ r → said_if r ≡ Tick → mes ≡ encoded m.Tick
tick_if mes None o e h = absurd (let z : ◌≡◌ {A = ℕ} 0 1 = cc in omega arith)
tick_if mes (Some t) o e h = ticking mes t o e h

-- bytes that are said as a sentence are said back by it
record Sentenced (mes : List ℕ) (t : Sentence) : Type 0 where
  says : (f : Form) (who : ℕ) → Says f who (verb.Say t.kind) (said_args t) (entry_bytes f who mes)
  fairs : Fairs (said_args t)

sentence_if : (mes : List ℕ) (r : Option Message) (t : Sentence) → Octets mes → read mes ≡ r → said_if r ≡ Say t → Sentenced mes t
sentence_if mes None t o e h = absurd (let z : ◌≡◌ {A = ℕ} 0 1 = cc in omega arith)
sentence_if mes (Some x) t o e h =
    let b = sentence_back x (read_fits mes (octets-at mes o) x e) t h in
    subst (λ (l : List ℕ). Sentenced l t) (sym (own_bytes mes (octets-at mes o) x e)) record { says = b.says; fairs = b.fairs }

-- what is left is read, whatever was before it
abbrev Rest : Form → (Waiting → List ℕ) → List ℕ → Type 0
Rest f text tail = (out : List ℕ) (r : Waiting) → Sayable f r → Reads f out (text r) (out ++ (waiting_bytes f r ++ tail))

three : (a b c d : List ℕ) → ((a ++ b) ++ c) ++ d ≡ a ++ (b ++ (c ++ d))
three a b c d = append_assoc (a ++ b) c d ∙ append_assoc a b (c ++ d)

tick_joins : (f : Form) (out : List ℕ) (r : Run) (who : ℕ) (text : Waiting → List ℕ) (tail : List ℕ) → joins r (addressee f who) ≡ true → Party f who → Rest f text tail → Reads f out (text (run (addressee f who) (r.times + 1))) (out ++ (copies r.times (tick_bytes f r.party.who) ++ (tick_bytes f who ++ tail)))
tick_joins f out r who text tail j p go =
    let b = and_parts (ltb r.times 1000000) (same r.party (addressee f who)) j in
    let d = and_parts (same_form r.party.form f) (eqb r.party.who who) b.1 in
    let low : r.times < 1000000 = ltb-true r.times 1000000 b.0 in
    let own : r.party.who ≡ who = eqb-true r.party.who who d.1 in
    let e : copies (r.times + 1) (tick_bytes f who) ++ tail ≡ copies r.times (tick_bytes f r.party.who) ++ (tick_bytes f who ++ tail) =
    ap (λ (l : List ℕ). l ++ tail) (sym (copies-more r.times (tick_bytes f who)))
    ∙ (append_assoc (copies r.times (tick_bytes f who)) (tick_bytes f who) tail ∙ ap (λ (w : ℕ). copies r.times (tick_bytes f w) ++ (tick_bytes f who ++ tail)) (sym own))
    in
    subst (λ (w : List ℕ). Reads f out (text (run (addressee f who) (r.times + 1))) w) (ap (λ (l : List ℕ). out ++ l) e) (go out (run (addressee f who) (r.times + 1)) (refl, p, omega arith, omega arith))

tick_begins : (f : Form) (out : List ℕ) (r : Waiting) (who : ℕ) (text : Waiting → List ℕ) (tail : List ℕ) → Sayable f r → Party f who → Rest f text tail → Reads f out (run_text r ++ text (run (addressee f who) 1)) (out ++ (waiting_bytes f r ++ (tick_bytes f who ++ tail)))
unfolding copies
tick_begins f out r who text tail q p go =
    let c : List ℕ = waiting_bytes f r in
    let e : (out ++ waiting_bytes f r) ++ (copies 1 (tick_bytes f who) ++ tail) ≡ out ++ (waiting_bytes f r ++ (tick_bytes f who ++ tail)) =
    ap (λ (l : List ℕ). (out ++ waiting_bytes f r) ++ (l ++ tail)) (append-nil (tick_bytes f who)) ∙ append_assoc out (waiting_bytes f r) (tick_bytes f who ++ tail)
    in
    run-reads f r out (text (run (addressee f who) 1)) _ q (subst (λ (w : List ℕ). Reads f (out ++ c) (text (run (addressee f who) 1)) w) e (go (out ++ c) (run (addressee f who) 1) (refl, p, omega arith, omega arith)))

tick_by : (f : Form) (out : List ℕ) (r : Run) (who : ℕ) (text : Waiting → List ℕ) (tail : List ℕ) (b : Bool) → joins r (addressee f who) ≡ b → Sayable f (Some r) → Party f who → Rest f text tail → Reads f out (cond (is_some (cond b (run (addressee f who) (r.times + 1)) None)) [] (run_text (Some r)) ++ text (option_or (cond b (run (addressee f who) (r.times + 1)) None) (run (addressee f who) 1))) (out ++ (waiting_bytes f (Some r) ++ (tick_bytes f who ++ tail)))
tick_by f out r who text tail true j q p go = tick_joins f out r who text tail j p go
tick_by f out r who text tail false j q p go = tick_begins f out (Some r) who text tail q p go

tick_put : (f : Form) (out : List ℕ) (r : Waiting) (who : ℕ) (m : List ℕ) (text : Waiting → List ℕ) (tail : List ℕ) → Sayable f r → Party f who → Rest f text tail → Reads f out (put_text r (addressee f who) m Tick ++ text (put_run r (addressee f who) Tick)) (out ++ (waiting_bytes f r ++ (tick_bytes f who ++ tail)))
tick_put f out None who m text tail q p go = tick_begins f out None who text tail q p go
tick_put f out (Some r) who m text tail q p go = tick_by f out r who text tail (joins r (addressee f who)) refl q p go

-- a line of its own, behind the ticks before it
line_put : (f : Form) (out : List ℕ) (r : Waiting) (who : ℕ) (mes : List ℕ) (text : Waiting → List ℕ) (tail v : List ℕ) (args : Words) → Sayable f r → ((o rest whole : List ℕ) → Reads f (o ++ entry_bytes f who mes) rest whole → Reads f o (line_text f who (v ∷ args) ++ rest) whole) → Rest f text tail → Reads f out ((run_text r ++ line_text f who (v ∷ args)) ++ text None) (out ++ (waiting_bytes f r ++ (entry_bytes f who mes ++ tail)))
line_put f out r who mes text tail v args q line go =
    let c : List ℕ = waiting_bytes f r in
    let last : Reads f ((out ++ c) ++ entry_bytes f who mes) (text None) (out ++ (c ++ (entry_bytes f who mes ++ tail))) =
    subst (λ (w : List ℕ). Reads f ((out ++ c) ++ entry_bytes f who mes) (text None) w) (three out c (entry_bytes f who mes) tail) (go ((out ++ c) ++ entry_bytes f who mes) None tt)
    in
    subst (λ (l : List ℕ). Reads f out l (out ++ (c ++ (entry_bytes f who mes ++ tail)))) (sym (append_assoc (run_text r) (line_text f who (v ∷ args)) (text None)))
    (run-reads f r out (line_text f who (v ∷ args) ++ text None) _ q (line (out ++ c) (text None) _ last))

fair_raw : (mes : List ℕ) (b : Bool) → eqb (length mes) 0 ≡ b → Octets mes → Fairs (cond b [] (written mes ∷ []))
fair_raw mes true e o = tt
fair_raw mes false e o =
    let x = hexed mes o in
    let t = x.twice in
    let n : length mes ≡ 0 → ⊥ = eqb-false (length mes) 0 e in
    (record { plain = x.plain; some = omega arith }, tt)

entry-put : (f : Form) (out : List ℕ) (r : Waiting) (e : Entry) (s : Spoken) (text : Waiting → List ℕ) (tail : List ℕ) → spoken_of e.message ≡ s → Sayable f r → Good f e → Rest f text tail → Reads f out (put_text r (addressee f e.who) e.message s ++ text (put_run r (addressee f e.who) s)) (out ++ (waiting_bytes f r ++ (entry_bytes f e.who e.message ++ tail)))
entry-put f out r e Tick text tail h q g go =
    let is : e.message ≡ encoded m.Tick = tick_if e.message (read e.message) g.octets refl h in
    subst (λ (x : List ℕ). Reads f out (put_text r (addressee f e.who) e.message Tick ++ text (put_run r (addressee f e.who) Tick)) (out ++ (waiting_bytes f r ++ (entry_bytes f e.who x ++ tail)))) (sym is) (tick_put f out r e.who e.message text tail q g.party go)
entry-put f out r e Raw text tail h q g go =
    line_put f out r e.who e.message text tail (codes "bytes") (cond (eqb (length e.message) 0) [] (written e.message ∷ [])) q
    (λ o rest whole d. line_reads f e.who (codes "bytes") (cond (eqb (length e.message) 0) [] (written e.message ∷ [])) verb.Bytes (entry_bytes f e.who e.message) o rest whole g.party (record { plain = refl; some = omega arith }) (fair_raw e.message (eqb (length e.message) 0) refl g.octets) refl (raw_says f e.who e.message g.octets g.few) d)
    go
entry-put f out r e (Say t) text tail h q g go =
    let s = sentence_if e.message (read e.message) t g.octets refl h in
    line_put f out r e.who e.message text tail (name t.kind) (said_args t) q
    (λ o rest whole d. line_reads f e.who (name t.kind) (said_args t) (verb.Say t.kind) (entry_bytes f e.who e.message) o rest whole g.party (fair_name t.kind) s.fairs (verb_back t.kind) (s.says f e.who) d)
    go

told_back : (f : Form) (es : List Entry) → AllByRecursion (λ e. Good f e) es → Rest f (λ r. told f r es) (bytes_of f es)
told_back f [] g out r q =
    let c : List ℕ = waiting_bytes f r in
    subst (λ (l : List ℕ). Reads f out l (out ++ (c ++ []))) (append-nil (run_text r)) (run-reads f r out [] (out ++ (c ++ [])) q (λ k. ap (λ (l : List ℕ). Ok l) (append_assoc out c [])))
told_back f (e ∷ es) g out r q =
    entry-put f out r e (spoken_of e.message) (λ x. told f x es) (bytes_of f es) refl q g.0 (told_back f es g.1)

same_text : (s t : List ℕ) → ◌≡◌ {A = Answer} (Ok s) (Ok t) → s ≡ t
same_text s t e = cc

by_entries : (f : Form) (bs text : List ℕ) (found : Found) → Octets bs → entries f bs ≡ found → writing f (length bs) [] None found ≡ Ok text → read_text f text ≡ Ok bs
unfolding read_text
by_entries f bs text (Err x) o e h = absurd (let z : ◌≡◌ {A = ℕ} 0 1 = cc in omega arith)
by_entries f bs text (Ok es) o e h =
    let b = back f bs es o e in
    ap (λ (t : List ℕ). read_text f t) (sym (same_text (told f None es) text h))
    ∙ (told_back f es b.good [] None tt 0 ∙ ap (λ (l : List ℕ). Ok l) b.same)

pub round_trip : RoundTrip
unfolding write_text
round_trip f bs text b h = by_entries f bs text (entries f bs) (All-from_get_or (λ x. x < 256) bs 0 (λ i l. b i)) refl h

pub every_written : Written
unfolding write_text read_text
every_written f es g = (
  told f None es,
  ap (λ (x : Found). writing f (length (bytes_of f es)) [] None x) (entries-of f es g),
  told_back f es g [] None tt 0,
)
