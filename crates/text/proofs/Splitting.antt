-- The entries of some bytes, from the front.
use Rattle.std.proofs.Common.{◌≡◌, ℕ, zero, suc, ◌<◌, ◌≤◌, ltb, List, [], ◌∷◌, length, take, drop, Ok, sym, refl, ap, ◌∙◌, subst, arith, length-drop, Err}
use Rattle.std.proofs.lemmas.Bool.{cond_both}
use Rattle.text.specs.declared.fault.Breach.TheVariants.{Short, Party}
use Rattle.text.specs.declared.form.Form.{Form}
use Rattle.text.specs.declared.form.Form.TheVariants.{Script, Stream}
use Rattle.text.specs.Entries.{Entry, entry, First, Found, framed_first, first_entry, rest_of, from_first, entries_by, entries, whole}

framed_less : (who : ℕ) (bs : List ℕ) → 0 < length bs → length (rest_of (framed_first who bs)) < length bs
framed_less who [] h = absurd (omega arith)
framed_less who (n ∷ bs) h =
    let d = length-drop n bs in
    cond_both (ltb (length bs) n) (Err Short) (whole (entry who (take n bs)) (drop n bs)) (λ x. length (rest_of x) < suc (length bs)) (λ e. omega arith) (λ e. omega arith)

framed_le : (who : ℕ) (bs : List ℕ) → length (rest_of (framed_first who bs)) ≤ length bs
framed_le who [] = omega arith
framed_le who (n ∷ bs) = let l = framed_less who (n ∷ bs) (omega arith) in omega arith

pub shrinks : (f : Form) (bs : List ℕ) → 0 < length bs → length (rest_of (first_entry f bs)) < length bs
shrinks Stream bs h = framed_less 0 bs h
shrinks Script [] h = absurd (omega arith)
shrinks Script (who ∷ bs) h =
    let l = framed_le who bs in
    cond_both (ltb 64 who) (Err (Party who)) (framed_first who bs) (λ x. length (rest_of x) < suc (length bs)) (λ e. omega arith) (λ e. omega arith)

-- more turns than bytes change nothing
enough : (t u : ℕ) (f : Form) (bs : List ℕ) → length bs ≤ t → length bs ≤ u → entries_by t f bs ≡ entries_by u f bs
unfolding entries_by
enough t u f [] h k = refl
enough zero u f (b ∷ bs) h k = absurd (omega arith)
enough (suc t) zero f (b ∷ bs) h k = absurd (omega arith)
enough (suc t) (suc u) f (b ∷ bs) h k =
    let s = shrinks f (b ∷ bs) (omega arith) in
    ap (λ (x : Found). from_first (length (b ∷ bs)) (first_entry f (b ∷ bs)) x) (enough t u f (rest_of (first_entry f (b ∷ bs))) (omega arith) (omega arith))

pub entries_none : (f : Form) → entries f [] ≡ Ok []
unfolding entries entries_by
entries_none f = refl

pub entries-first : (f : Form) (bs : List ℕ) → 0 < length bs → entries f bs ≡ from_first (length bs) (first_entry f bs) (entries f (rest_of (first_entry f bs)))
unfolding entries entries_by
entries-first f [] h = absurd (omega arith)
entries-first f (b ∷ bs) h =
    let s = shrinks f (b ∷ bs) (omega arith) in
    ap (λ (x : Found). from_first (length (b ∷ bs)) (first_entry f (b ∷ bs)) x) (enough (length bs) (length (rest_of (first_entry f (b ∷ bs)))) f (rest_of (first_entry f (b ∷ bs))) (omega arith) (omega arith))

pub by_first : (f : Form) (bs : List ℕ) (x : First) → 0 < length bs → x ≡ first_entry f bs → entries f bs ≡ from_first (length bs) x (entries f (rest_of x))
by_first f bs x h e = entries-first f bs h ∙ ap (λ (y : First). from_first (length bs) y (entries f (rest_of y))) (sym e)

pub rest_less : (f : Form) (bs : List ℕ) (e : Entry) (rest : List ℕ) → 0 < length bs → whole e rest ≡ first_entry f bs → length rest < length bs
rest_less f bs e rest h w = subst (λ (x : First). length (rest_of x) < length bs) (sym w) (shrinks f bs h)
