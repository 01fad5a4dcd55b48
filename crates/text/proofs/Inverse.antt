-- The entries of some bytes have these bytes again.
use Rattle.std.proofs.Common.{◌≡◌, ℕ, zero, suc, ◌<◌, ◌≤◌, ltb, List, [], ◌∷◌, ◌++◌, length, take, drop, Ok, Err, sym, refl, ap, ◌∙◌, subst, ap₂, arith}
use Rattle.std.proofs.ByRecursion.{All-take, All-drop}
use Rattle.std.proofs.lemmas.List.{take-append-drop, length-take-le}
use Rattle.std.proofs.lemmas.Bool.{cond_both, ltb-false}
use Rattle.std.specs.List.{AllByRecursion}
use Rattle.wire.specs.Stream.{framed}
use Rattle.text.specs.declared.fault.Breach.TheVariants as breach
use Rattle.text.specs.declared.form.Form.{Form}
use Rattle.text.specs.declared.form.Form.TheVariants.{Script, Stream}
use Rattle.text.specs.Entries.{Entry, entry, First, Found, framed_first, first_entry, rest_of, behind, from_first, entries_by, entries, bytes_of, whole}
use Rattle.text.specs.Entry.{entry_bytes}
use Rattle.text.specs.Laws.{Good}
use Rattle.text.proofs.Splitting.{shrinks}

abbrev pub Octets : List ℕ → Type 0
Octets bs = AllByRecursion (λ b. b < 256) bs

-- how the bytes of a whole entry begin
record Framed (who : ℕ) (bs : List ℕ) (e : Entry) (rest : List ℕ) : Type 0 where
  is : bs ≡ framed e.message ++ rest
  same : e.who ≡ who
  few : length e.message ≤ 255
  octets : Octets e.message
  left : Octets rest

record Begun (f : Form) (bs : List ℕ) (e : Entry) (rest : List ℕ) : Type 0 where
  is : bs ≡ entry_bytes f e.who e.message ++ rest
  good : Good f e
  left : Octets rest

same_first : (p q : Entry × List ℕ) → ◌≡◌ {A = First} (Ok p) (Ok q) → p ≡ q
same_first p q h = cc

same-entry : (d e : Entry) (s t : List ℕ) → whole d s ≡ whole e t → d ≡ e
same-entry d e s t h = ap (λ (p : Entry × List ℕ). p.0) (same_first (d, s) (e, t) h)

same_rest : (d e : Entry) (s t : List ℕ) → whole d s ≡ whole e t → s ≡ t
same_rest d e s t h = ap (λ (p : Entry × List ℕ). p.1) (same_first (d, s) (e, t) h)

whole-framed : (who n : ℕ) (bs : List ℕ) → n ≤ length bs → Octets (n ∷ bs) → Framed who (n ∷ bs) (entry who (take n bs)) (drop n bs)
whole-framed who n bs h o =
    let l : length (take n bs) ≡ n = length-take-le n bs h in
    let b : n < 256 = o.0 in
    record {
      is = ap₂ (λ (a : ℕ) (r : List ℕ). a ∷ r) (sym l) (sym (take-append-drop n bs));
      same = refl;
      few = omega arith;
      octets = All-take (λ b. b < 256) n bs o.1;
      left = All-drop (λ b. b < 256) n bs o.1;
    }

framed_back : (who : ℕ) (bs : List ℕ) (e : Entry) (rest : List ℕ) → Octets bs → framed_first who bs ≡ whole e rest → Framed who bs e rest
framed_back who [] e rest o h = absurd (let z : ◌≡◌ {A = ℕ} 0 1 = cc in omega arith)
framed_back who (n ∷ bs) e rest o h =
    cond_both (ltb (length bs) n) (Err breach.Short) (whole (entry who (take n bs)) (drop n bs)) (λ x. x ≡ whole e rest → Framed who (n ∷ bs) e rest)
    (λ t g. absurd (let z : ◌≡◌ {A = ℕ} 0 1 = cc in omega arith))
    (λ t g. subst (λ (d : Entry). Framed who (n ∷ bs) d rest) (same-entry _ e _ rest g) (subst (λ (r : List ℕ). Framed who (n ∷ bs) (entry who (take n bs)) r) (same_rest _ e _ rest g) (whole-framed who n bs (ltb-false (length bs) n t) o)))
    h

first_back : (f : Form) (bs : List ℕ) (e : Entry) (rest : List ℕ) → Octets bs → first_entry f bs ≡ whole e rest → Begun f bs e rest
first_back Stream bs e rest o h =
    let g = framed_back 0 bs e rest o h in
    record { is = g.is; good = record { party = g.same; few = g.few; octets = g.octets }; left = g.left }
first_back Script [] e rest o h = absurd (let z : ◌≡◌ {A = ℕ} 0 1 = cc in omega arith)
first_back Script (who ∷ bs) e rest o h =
    cond_both (ltb 64 who) (Err (breach.Party who)) (framed_first who bs) (λ x. x ≡ whole e rest → Begun Script (who ∷ bs) e rest)
    (λ t g. absurd (let z : ◌≡◌ {A = ℕ} 0 1 = cc in omega arith))
    (λ t g.
    let r = framed_back who bs e rest o.1 g in
    let same = r.same in
    let low = ltb-false 64 who t in
    record { is = ap₂ (λ (a : ℕ) (l : List ℕ). a ∷ l) (sym same) r.is; good = record { party = omega arith; few = r.few; octets = r.octets }; left = r.left })
    h

pub record Back (f : Form) (bs : List ℕ) (es : List Entry) : Type 0 where
  pub same : bytes_of f es ≡ bs
  pub good : AllByRecursion (λ e. Good f e) es

same_ok : (xs ys : List Entry) → ◌≡◌ {A = Found} (Ok xs) (Ok ys) → xs ≡ ys
same_ok xs ys e = cc

one_more : (f : Form) (bs : List ℕ) (e : Entry) (rest : List ℕ) (es ds : List Entry) → Begun f bs e rest → ◌≡◌ {A = Found} (Ok (e ∷ ds)) (Ok es) → Back f rest ds → Back f bs es
one_more f bs e rest es ds b h r =
    subst (λ (x : List Entry). Back f bs x) (same_ok (e ∷ ds) es h) record {
      same = ap (λ (l : List ℕ). entry_bytes f e.who e.message ++ l) r.same ∙ sym b.is;
      good = (b.good, r.good);
    }

by_found : (f : Form) (bs : List ℕ) (e : Entry) (rest : List ℕ) (es : List Entry) (found : Found) → Begun f bs e rest → behind e found ≡ Ok es → ((ds : List Entry) → found ≡ Ok ds → Back f rest ds) → Back f bs es
by_found f bs e rest es (Err x) b h go = absurd (let z : ◌≡◌ {A = ℕ} 0 1 = cc in omega arith)
by_found f bs e rest es (Ok ds) b h go = one_more f bs e rest es ds b h (go ds refl)

by_first : (t : ℕ) (f : Form) (bs : List ℕ) (es : List Entry) (x : First) → first_entry f bs ≡ x → Octets bs → length (rest_of x) ≤ t → from_first (length bs) x (entries_by t f (rest_of x)) ≡ Ok es → ((rest : List ℕ) (ds : List Entry) → length rest ≤ t → Octets rest → entries_by t f rest ≡ Ok ds → Back f rest ds) → Back f bs es
by_first t f bs es (Err b) g o l h go = absurd (let z : ◌≡◌ {A = ℕ} 0 1 = cc in omega arith)
by_first t f bs es (Ok p) g o l h go =
    let b = first_back f bs p.0 p.1 o g in
    by_found f bs p.0 p.1 es (entries_by t f p.1) b h (λ ds d. go p.1 ds l b.left d)

pub entries_back : (t : ℕ) (f : Form) (bs : List ℕ) (es : List Entry) → length bs ≤ t → Octets bs → entries_by t f bs ≡ Ok es → Back f bs es
unfolding entries_by
entries_back t f [] es l o h = subst (λ (x : List Entry). Back f [] x) (same_ok [] es h) record { same = refl; good = tt }
entries_back zero f (b ∷ bs) es l o h = absurd (omega arith)
entries_back (suc t) f (b ∷ bs) es l o h =
    let s = shrinks f (b ∷ bs) (omega arith) in
    by_first t f (b ∷ bs) es (first_entry f (b ∷ bs)) refl o (omega arith) h (λ rest ds m p d. entries_back t f rest ds m p d)

pub back : (f : Form) (bs : List ℕ) (es : List Entry) → Octets bs → entries f bs ≡ Ok es → Back f bs es
unfolding entries
back f bs es o h = entries_back (length bs) f bs es (omega arith) o h
