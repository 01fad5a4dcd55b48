-- A text is read line by line.
use Rattle.std.proofs.Common.{◌≡◌, ℕ, ◌+◌, ◌<◌, Bool, false, eqb, Bor, inl, inr, List, [], ◌∷◌, ◌++◌, length, get_or, drop, Ok, Err, Result, sym, refl, ap, ◌∙◌, subst, zero-add}
use Rattle.std.proofs.lemmas.List.{append-nil, at_drop_more}
use Rattle.std.proofs.lemmas.List.FromFn.{get_or-enumerate_from, length-enumerate_from}
use Rattle.std.proofs.lemmas.Iterator.{YieldsList}
use Rattle.std.proofs.lemmas.Iterator.Consumers.{YieldsList-at, YieldsList-from_enumerate}
use Rattle.std.proofs.lemmas.Iterator.Splits.{YieldsList-from_slice_split}
use Rattle.std.specs.Fn.{CalledAt}
use Rattle.std.specs.Iterator.Adapters.{enumerate_source, enumerate_count, enumerate_steps}
use Rattle.std.specs.List.{enumerate_from}
use Rattle.std.specs.Slice.Iter.{split_rest, split_done, split_callee, split_steps}
use Rattle.std.specs.declared.iter.Enumerate.{Enumerate}
use Rattle.std.specs.declared.slice.Split.{Split}
use denote.Param.Members.{Mut}
use Rattle.text.specs.declared.fault.Mistake.{Mistake}
use Rattle.text.specs.declared.fault.ReadFault.TheVariants.{Line}
use Rattle.text.specs.declared.form.Form.{Form}
use Rattle.text.specs.Line.{line_bytes}
use Rattle.text.specs.Pieces.{lines, words, newline}
use Rattle.text.specs.Read.{reading, read_text}
use Rattle.text.proofs.Cutting.{Cut, cut, cut_pieces}

settle : (f : Form) (n : ℕ) (out bs : List ℕ) (ls : List (List ℕ)) → reading f n out (Ok bs) ls ≡ reading f n (out ++ bs) (Ok []) ls
settle f n out bs [] = ap (λ (o : List ℕ). Ok o) (sym (append-nil (out ++ bs)))
settle f n out bs (l ∷ ls) = ap (λ (o : List ℕ). reading f (n + 1) o (line_bytes f (words l)) ls) (sym (append-nil (out ++ bs)))

next : (f : Form) (n : ℕ) (out l : List ℕ) (ls : List (List ℕ)) → reading f n out (Ok []) (l ∷ ls) ≡ reading f (n + 1) out (line_bytes f (words l)) ls
next f n out l ls = ap (λ (o : List ℕ). reading f (n + 1) o (line_bytes f (words l)) ls) (append-nil out)

-- a line's bytes are appended
pub line_read : (f : Form) (n : ℕ) (out new l bs : List ℕ) (all ls : List (List ℕ)) → all ≡ l ∷ ls → line_bytes f (words l) ≡ Ok bs → new ≡ out ++ bs → reading f n out (Ok []) all ≡ reading f (n + 1) new (Ok []) ls
line_read f n out new l bs all ls a e g =
    ap (λ (x : List (List ℕ)). reading f n out (Ok []) x) a
    ∙ (next f n out l ls
    ∙ (ap (λ (r : Result (List ℕ) Mistake). reading f (n + 1) out r ls) e
    ∙ (settle f (n + 1) out bs ls ∙ ap (λ (o : List ℕ). reading f (n + 1) o (Ok []) ls) (sym g))))

pub line_refused : (f : Form) (n : ℕ) (out l : List ℕ) (all ls : List (List ℕ)) (m : Mistake) → all ≡ l ∷ ls → line_bytes f (words l) ≡ Err m → reading f n out (Ok []) all ≡ Err (Line (n + 1) m)
line_refused f n out l all ls m a e =
    ap (λ (x : List (List ℕ)). reading f n out (Ok []) x) a ∙ (next f n out l ls ∙ ap (λ (r : Result (List ℕ) Mistake). reading f (n + 1) out r ls) e)

-- an empty line behind the others says nothing
empty_line : (f : Form) (n : ℕ) (out : List ℕ) (r : Result (List ℕ) Mistake) (ls : List (List ℕ)) → reading f n out r (ls ++ [] ∷ []) ≡ reading f n out r ls
empty_line f n out (Err m) ls = refl
empty_line f n out (Ok bs) [] = ap (λ (o : List ℕ). Ok o) (append-nil (out ++ bs))
empty_line f n out (Ok bs) (l ∷ ls) = empty_line f (n + 1) (out ++ bs) (line_bytes f (words l)) ls

by_cut : (f : Form) (n : ℕ) (out : List ℕ) (qs ps : List (List ℕ)) → Cut qs ps → reading f n out (Ok []) qs ≡ reading f n out (Ok []) ps
by_cut f n out qs ps (inl e) = ap (λ (l : List (List ℕ)). reading f n out (Ok []) l) e
by_cut f n out qs ps (inr e) = ap (λ (l : List (List ℕ)). reading f n out (Ok []) l) e ∙ empty_line f n out (Ok []) ps

pub cut_read : (f : Form) (text : List ℕ) → reading f 0 [] (Ok []) (cut newline text) ≡ read_text f text
unfolding read_text
cut_read f text = by_cut f 0 [] (cut newline text) (lines text) (cut_pieces newline text)

-- the lines that a loop over the parts of a text comes to, with their numbers
pub lines_of : {F : Type 0} {s : Split ℕ F} {e i : Enumerate (Split ℕ F)} (g : Mut F (Bor ℕ × Unit {0}) Bool) {f : F} (text : List ℕ) → i ≡ e → enumerate_source e ≡ s → enumerate_count e ≡ 0 → split_rest s ≡ text → split_done s ≡ false → split_callee s ≡ f → ((x : ℕ) (b : Bool) (q : F) → CalledAt g f x b q → (q ≡ f) × (b ≡ eqb x newline)) → YieldsList {B = ℕ × List ℕ} (enumerate_steps (split_steps g)) (λ p. (p.0, p.1.now)) i (enumerate_from 0 (cut newline text))
lines_of g text same source count rest done callee test =
    YieldsList-at same (YieldsList-from_enumerate (YieldsList-at source (YieldsList-from_slice_split g (λ b. eqb b newline) text rest done callee test)) count)

-- the line that comes is that at its place
pub record Turn (all : List (List ℕ)) (n i : ℕ) (l : List ℕ) : Type 0 where
  pub number : i ≡ n
  pub rest : drop n all ≡ l ∷ drop (n + 1) all

pub turn : (all : List (List ℕ)) (n i : ℕ) (l : List ℕ) → n < length (enumerate_from 0 all) → ◌≡◌ {A = ℕ × List ℕ} (i, l) (get_or (enumerate_from 0 all) n (i, l)) → Turn all n i l
turn all n i l h e =
    let short : n < length all = subst (λ (k : ℕ). n < k) (length-enumerate_from 0 all) h in
    let at : ◌≡◌ {A = ℕ × List ℕ} (i, l) (0 + n, get_or all n l) = e ∙ get_or-enumerate_from 0 all n (i, l) short in
    record {
      number = ap (λ (p : ℕ × List ℕ). p.0) at ∙ zero-add n;
      rest = at_drop_more (λ (x : List (List ℕ)). x) all n l short ∙ ap (λ (x : List ℕ). x ∷ drop (n + 1) all) (sym (ap (λ (p : ℕ × List ℕ). p.1) at));
    }
