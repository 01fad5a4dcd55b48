-- The entries of the bytes of entries are these.
use Rattle.std.proofs.Common.{◌≡◌, ℕ, ◌<◌, ltb, List, [], ◌∷◌, ◌++◌, length, Ok, sym, refl, ap, ◌∙◌, arith, Err}
use Rattle.std.proofs.lemmas.Bool.{cond-false, le-ltb}
use Rattle.std.specs.List.{AllByRecursion}
use Rattle.wire.specs.Stream.{framed}
use Rattle.text.specs.declared.fault.Breach.TheVariants as breach
use Rattle.text.specs.declared.form.Form.{Form}
use Rattle.text.specs.declared.form.Form.TheVariants.{Script, Stream}
use Rattle.text.specs.Entries.{Entry, entry, Found, framed_first, first_entry, behind, entries, bytes_of, whole}
use Rattle.text.specs.Entry.{entry_bytes}
use Rattle.text.specs.Laws.{Good}
use Rattle.text.proofs.Firsts.{framed-whole}
use Rattle.text.proofs.Splitting.{entries_none, by_first}

first_of : (f : Form) (e : Entry) (rest : List ℕ) → Good f e → whole e rest ≡ first_entry f (entry_bytes f e.who e.message ++ rest)
first_of Stream e rest g =
    sym (framed-whole 0 (framed e.message ++ rest) e.message rest refl ∙ ap (λ (w : ℕ). whole (entry w e.message) rest) (sym g.party))
first_of Script e rest g =
    sym (cond-false (ltb 64 e.who) (Err (breach.Party e.who)) (framed_first e.who (framed e.message ++ rest)) (le-ltb 64 e.who g.party) ∙ framed-whole e.who (framed e.message ++ rest) e.message rest refl)

some : (f : Form) (who : ℕ) (m rest : List ℕ) → 0 < length (entry_bytes f who m ++ rest)
some Stream who m rest = omega arith
some Script who m rest = omega arith

pub entries-of : (f : Form) (es : List Entry) → AllByRecursion (λ e. Good f e) es → entries f (bytes_of f es) ≡ Ok es
entries-of f [] g = entries_none f
entries-of f (e ∷ es) g =
    by_first f (bytes_of f (e ∷ es)) (whole e (bytes_of f es)) (some f e.who e.message (bytes_of f es)) (first_of f e (bytes_of f es) g.0) ∙ ap (λ (x : Found). behind e x) (entries-of f es g.1)
