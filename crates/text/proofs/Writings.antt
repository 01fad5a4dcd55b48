-- A text is written entry by entry.
use Rattle.std.proofs.Common.{◌≡◌, ℕ, ◌-◌, ◌<◌, List, [], ◌∷◌, ◌++◌, length, Ok, Err, sym, refl, ap, ◌∙◌, ap₂}
use Rattle.std.proofs.lemmas.List.{append_assoc}
use Rattle.text.specs.declared.fault.Breach.{Breach}
use Rattle.text.specs.declared.fault.WriteFault.TheVariants.{Entry}
use Rattle.text.specs.declared.form.Form.{Form}
use Rattle.text.specs.Entries as entries
use Rattle.text.specs.Entries.{First, Found, entries, first_entry, from_first, behind, whole}
use Rattle.text.specs.Entry.{addressee}
use Rattle.text.specs.Sentence.{spoken_of}
use Rattle.text.specs.Write.{Waiting, run_text, put_text, put_run, told, writing}
use Rattle.text.proofs.Splitting.{by_first, entries_none}

-- the entry is put, and the others are as before
put : (f : Form) (total : ℕ) (out new : List ℕ) (r next : Waiting) (e : entries.Entry) (found : Found) → new ≡ out ++ put_text r (addressee f e.who) e.message (spoken_of e.message) → next ≡ put_run r (addressee f e.who) (spoken_of e.message) → writing f total out r (behind e found) ≡ writing f total new next found
put f total out new r next e (Err b) g h = refl
put f total out new r next e (Ok es) g h =
    let t : out ++ told f r (e ∷ es) ≡ new ++ told f next es =
    sym (append_assoc out (put_text r (addressee f e.who) e.message (spoken_of e.message)) (told f (put_run r (addressee f e.who) (spoken_of e.message)) es))
    ∙ ap₂ (λ (o : List ℕ) (x : Waiting). o ++ told f x es) (sym g) (sym h)
    in
    ap (λ (o : List ℕ). Ok o) t

pub entry-written : (f : Form) (total : ℕ) (out new bs rest : List ℕ) (r next : Waiting) (e : entries.Entry) → 0 < length bs → whole e rest ≡ first_entry f bs → new ≡ out ++ put_text r (addressee f e.who) e.message (spoken_of e.message) → next ≡ put_run r (addressee f e.who) (spoken_of e.message) → writing f total out r (entries f bs) ≡ writing f total new next (entries f rest)
entry-written f total out new bs rest r next e l w g h =
    ap (λ (x : Found). writing f total out r x) (by_first f bs (whole e rest) l w) ∙ put f total out new r next e (entries f rest) g h

pub entry_refused : (f : Form) (total : ℕ) (out bs : List ℕ) (r : Waiting) (b : Breach) → 0 < length bs → Err b ≡ first_entry f bs → writing f total out r (entries f bs) ≡ Err (Entry (total - length bs) b)
entry_refused f total out bs r b l w = ap (λ (x : Found). writing f total out r x) (by_first f bs (Err b) l w)

pub all-written : (f : Form) (total : ℕ) (out bs : List ℕ) (r : Waiting) → bs ≡ [] → writing f total out r (entries f bs) ≡ Ok (out ++ run_text r)
all-written f total out bs r e =
    ap (λ (l : List ℕ). writing f total out r (entries f l)) e ∙ ap (λ (x : Found). writing f total out r x) (entries_none f)
