-- Tables that agree, the table that leases make one after the other, and the leases that are kept.
use Rattle.std.proofs.Common.{◌≡◌, ℕ, zero, suc, ◌+◌, ◌<◌, ◌≤◌, Bool, true, false, cond, eqb, List, [], ◌∷◌, ◌++◌, length, get_or, take, is_some, Some, None, Option, sym, refl, ap, ◌∙◌, subst, inl, inr, le_of_eq, add-one, arith, length-append}
use Rattle.std.specs.List.{count_by, filter}
use Rattle.std.proofs.lemmas.List.{take_all}
use Rattle.std.proofs.lemmas.List.Sums.{count_by_more_no, count_by_more_yes, length-filter}
use Rattle.std.proofs.lemmas.Bool.{cond_both, cond-true, cond-false, eq-eqb, ne_eqb, leb-false, lt-leb, cases_eq}
use Rattle.lease.specs.declared.lease.Lease.{Lease}
use Rattle.journal.specs.Place.{Place, Blank, Torn, Holds}
use Rattle.journal.specs.Table.{Table, empty, set, kept, kept_of, Agree, Filed, added, keeping}
use Rattle.journal.specs.Row.{Row, put_in, table_of}
use Rattle.journal.specs.Image.{table_in}

pub set_same : (x : Lease) (t : Table) (a : ℕ) → a ≡ x.address → set x t a ≡ Some x
set_same x t a e = cond-true _ _ _ (eq-eqb _ _ e)

pub set_other : (x : Lease) (t : Table) (a : ℕ) → (a ≡ x.address → ⊥) → set x t a ≡ t a
set_other x t a n = cond-false _ _ _ (ne_eqb _ _ n)

pub none-some : (l : Lease) → ◌≡◌ {A = Option Lease} None (Some l) → ⊥
none-some l e = let z : ◌≡◌ {A = ℕ} 0 1 = cc in omega arith

pub same_some : (k l : Lease) → Some k ≡ Some l → k ≡ l
same_some k l e = cc

-- what is kept
pub kept-some : (now : ℕ) (e : Option Lease) (l : Lease) → kept_of now e ≡ Some l → e ≡ Some l
kept-some now None l h = h
kept-some now (Some k) l h = go (kept now k) h
  where
    go : (b : Bool) → cond b (Some k) None ≡ Some l → Some k ≡ Some l
    go true h = h
    go false h = absurd (none-some l h)

kept-later : (now then : ℕ) (e : Option Lease) → now ≤ then → kept_of then (kept_of now e) ≡ kept_of then e
kept-later now then None l = refl
kept-later now then (Some x) l =
    cond_both (kept now x) (Some x) None (λ q. kept_of then q ≡ kept_of then (Some x))
    (λ e. refl)
    (λ e. sym (cond-false _ _ _ (lt-leb then x.expires (let z : x.expires < now = leb-false _ _ e in omega arith))))

-- tables that agree
pub agree_set : (n now : ℕ) (x : Lease) (t u : Table) → Agree n now t u → Agree n now (set x t) (set x u)
agree_set n now x t u h a l = go (eqb a x.address)
  where
    go : (b : Bool) → kept_of now (cond b (Some x) (t a)) ≡ kept_of now (cond b (Some x) (u a))
    go true = refl
    go false = h a l

pub agree_later : (n now then : ℕ) (t u : Table) → now ≤ then → Agree n now t u → Agree n then t u
agree_later n now then t u l h a m = sym (kept-later now then (t a) l) ∙ ap (kept_of then) (h a m) ∙ kept-later now then (u a) l

pub agree_join : (n now : ℕ) (t u v : Table) → Agree n now t u → Agree n now u v → Agree n now t v
agree_join n now t u v h k a l = h a l ∙ k a l

pub agree_back : (n now : ℕ) (t u : Table) → Agree n now t u → Agree n now u t
agree_back n now t u h a l = sym (h a l)

pub agree_same : (n now : ℕ) (t u : Table) → ((a : ℕ) → t a ≡ u a) → Agree n now t u
agree_same n now t u h a l = ap (kept_of now) (h a)

-- leases at their addresses
pub filed-set : (x : Lease) (t : Table) → Filed t → Filed (set x t)
filed-set x t f a l e =
    elim (cases_eq a x.address) [
      | inl q ↦ let z : x ≡ l = same_some x l (sym (set_same x t a q) ∙ e) in ap (λ (y : Lease). y.address) (sym z) ∙ sym q
      | inr q ↦ f a l (sym (set_other x t a q) ∙ e)
    ]

pub filed-empty : Filed empty
filed-empty a l e = absurd (none-some l e)

filed-put : (p : Place) (t : Table) → Filed t → Filed (put_in p t)
filed-put Blank t f = f
filed-put Torn t f = f
filed-put (Holds r) t f = filed-set r.lease t f

pub filed-table : (row : Row) (n : ℕ) → Filed (table_of row n)
unfolding table_of
filed-table row zero = filed-empty
filed-table row (suc n) = filed-put (row n) (table_of row n) (filed-table row n)

-- the table with the leases `xs` set, one after the other
abbrev pub laid : List Lease → Table → Table
laid [] t = t
laid (x ∷ xs) t = laid xs (set x t)

pub laid_same : (xs : List Lease) (t u : Table) → ((a : ℕ) → t a ≡ u a) → (a : ℕ) → laid xs t a ≡ laid xs u a
laid_same [] t u h a = h a
laid_same (x ∷ xs) t u h a = laid_same xs (set x t) (set x u) (λ c. ap (cond (eqb c x.address) (Some x)) (h c)) a

pub laid_push : (xs : List Lease) (x : Lease) (t : Table) → laid (xs ++ (x ∷ [])) t ≡ set x (laid xs t)
laid_push [] x t = refl
laid_push (y ∷ xs) x t = laid_push xs x (set y t)

-- the leases kept
pub length_keeping : (now : ℕ) (t : Table) (n : ℕ) → length (keeping now t n) ≤ n
unfolding keeping
length_keeping now t zero = omega arith
length_keeping now t (suc n) = go (kept_of now (t n)) (length_keeping now t n)
  where
    go : (e : Option Lease) → length (keeping now t n) ≤ n → length (added (keeping now t n) e) ≤ suc n
    go None h = omega arith
    go (Some l) h = let z : length (keeping now t n ++ (l ∷ [])) ≡ length (keeping now t n) + 1 = length-append (keeping now t n) (l ∷ []) in omega arith

length_added : (xs : List Lease) (o : Option Lease) → length (added xs o) ≡ cond (is_some o) (length xs + 1) (length xs)
length_added xs None = refl
length_added xs (Some l) = length-append xs (l ∷ [])

-- one address more
pub keeping-more : (now : ℕ) (t : Table) (n : ℕ) → keeping now t (n + 1) ≡ added (keeping now t n) (kept_of now (t n))
unfolding keeping
keeping-more now t n = ap (keeping now t) (add-one n)

pub keeping_start : (now : ℕ) (t : Table) → keeping now t 0 ≡ []
unfolding keeping
keeping_start now t = refl

-- how many entries of a list are kept
kept_so_far : (now : ℕ) (xs : List (Option Lease)) (n : ℕ) → n ≤ length xs → count_by (λ o. is_some (kept_of now o)) (take n xs) ≡ length (keeping now (table_in xs) n)
unfolding keeping
kept_so_far now xs zero l = refl
kept_so_far now xs (suc n) l =
    ap (λ (i : ℕ). count_by (λ o. is_some (kept_of now o)) (take i xs)) {x = suc n} {y = n + 1} (omega arith)
    ∙ go (kept_of now (get_or xs n None)) refl (kept_so_far now xs n (omega arith)) (omega arith)
  where
    go : (e : Option Lease) → kept_of now (get_or xs n None) ≡ e → count_by (λ o. is_some (kept_of now o)) (take n xs) ≡ length (keeping now (table_in xs) n) → n < length xs →
        count_by (λ o. is_some (kept_of now o)) (take (n + 1) xs) ≡ length (added (keeping now (table_in xs) n) e)
    go None k h m = count_by_more_no (λ o. is_some (kept_of now o)) xs n None m (ap is_some k) ∙ h
    go (Some x) k h m =
        count_by_more_yes (λ o. is_some (kept_of now o)) xs n None m (ap is_some k) ∙ ap (λ (i : ℕ). i + 1) h ∙ sym (length-append (keeping now (table_in xs) n) (x ∷ []))

pub length-kept : (now : ℕ) (xs : List (Option Lease)) → length (filter (λ o. is_some (kept_of now o)) xs) ≡ length (keeping now (table_in xs) (length xs))
length-kept now xs =
    length-filter (λ o. is_some (kept_of now o)) xs ∙ ap (count_by (λ o. is_some (kept_of now o))) (sym (take_all (length xs) xs (omega arith)))
    ∙ kept_so_far now xs (length xs) (omega arith)

pub keeping_le : (now : ℕ) (t : Table) (i n : ℕ) → i ≤ n → length (keeping now t i) ≤ length (keeping now t n)
unfolding keeping
keeping_le now t i zero l = ap_le (omega arith)
  where
    ap_le : i ≡ 0 → length (keeping now t i) ≤ length (keeping now t 0)
    ap_le e = le_of_eq (ap (λ (k : ℕ). length (keeping now t k)) e)
keeping_le now t i (suc n) l =
    elim (cases_eq i (suc n)) [
      | inl e ↦ le_of_eq (ap (λ (k : ℕ). length (keeping now t k)) e)
      | inr e ↦
          let z : length (keeping now t i) ≤ length (keeping now t n) = keeping_le now t i n (omega arith) in
          let y : length (added (keeping now t n) (kept_of now (t n))) ≡ cond (is_some (kept_of now (t n))) (length (keeping now t n) + 1) (length (keeping now t n)) = length_added (keeping now t n) (kept_of now (t n)) in
          subst (λ (k : ℕ). length (keeping now t i) ≤ k) (sym y) (cond_both (is_some (kept_of now (t n))) (length (keeping now t n) + 1) (length (keeping now t n)) (λ (k : ℕ). length (keeping now t i) ≤ k) (λ q. omega arith) (λ q. omega arith))
    ]

pub keeping_none : (now : ℕ) (t : Table) (n : ℕ) → ((a : ℕ) → t a ≡ None) → keeping now t n ≡ []
unfolding keeping
keeping_none now t zero h = refl
keeping_none now t (suc n) h = ap (λ (e : Option Lease). added (keeping now t n) (kept_of now e)) (h n) ∙ keeping_none now t n h

laid_out : (now : ℕ) (t : Table) (n a : ℕ) → Filed t → n ≤ a → laid (keeping now t n) empty a ≡ None
unfolding keeping
laid_out now t zero a f l = refl
laid_out now t (suc n) a f l = go (kept_of now (t n)) (λ x q. f n x (kept-some now (t n) x q)) (laid_out now t n a f (omega arith))
  where
    go : (e : Option Lease) → ((x : Lease) → e ≡ Some x → x.address ≡ n) → laid (keeping now t n) empty a ≡ None → laid (added (keeping now t n) e) empty a ≡ None
    go None h r = r
    go (Some x) h r =
        ap (λ (u : Table). u a) (laid_push (keeping now t n) x empty)
        ∙ set_other x (laid (keeping now t n) empty) a (let z : x.address ≡ n = h x refl in omega arith) ∙ r

laid_in : (now : ℕ) (t : Table) (n a : ℕ) → Filed t → a < n → laid (keeping now t n) empty a ≡ kept_of now (t a)
unfolding keeping
laid_in now t zero a f l = absurd (omega arith)
laid_in now t (suc n) a f l =
    elim (cases_eq a n) [
      | inl q ↦ here (kept_of now (t n)) (λ x z. f n x (kept-some now (t n) x z)) q ∙ ap (λ (i : ℕ). kept_of now (t i)) (sym q)
      | inr q ↦ past (kept_of now (t n)) (λ x z. f n x (kept-some now (t n) x z)) q (laid_in now t n a f (omega arith))
    ]
  where
    here : (e : Option Lease) → ((x : Lease) → e ≡ Some x → x.address ≡ n) → a ≡ n → laid (added (keeping now t n) e) empty a ≡ e
    here None h q = laid_out now t n a f (omega arith)
    here (Some x) h q = ap (λ (u : Table). u a) (laid_push (keeping now t n) x empty) ∙ set_same x (laid (keeping now t n) empty) a (let z : x.address ≡ n = h x refl in omega arith)

    past : (e : Option Lease) → ((x : Lease) → e ≡ Some x → x.address ≡ n) → (a ≡ n → ⊥) → laid (keeping now t n) empty a ≡ kept_of now (t a) → laid (added (keeping now t n) e) empty a ≡ kept_of now (t a)
    past None h q r = r
    past (Some x) h q r =
        ap (λ (u : Table). u a) (laid_push (keeping now t n) x empty)
        ∙ set_other x (laid (keeping now t n) empty) a (let z : x.address ≡ n = h x refl in omega arith) ∙ r

-- the leases kept make a table that agrees with theirs
pub keeping-agrees : (n now then : ℕ) (t : Table) → Filed t → now ≤ then → Agree n then (laid (keeping now t n) empty) t
keeping-agrees n now then t f l a m = ap (kept_of then) (laid_in now t n a f m) ∙ kept-later now then (t a) l
