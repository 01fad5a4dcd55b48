-- What a row that was begun reads as, and what a write behind its last record does to it.
use Rattle.std.proofs.Common.{◌≡◌, ℕ, zero, suc, ◌+◌, ◌<◌, ◌≤◌, true, false, cond, ◌&&◌, eqb, ◌⊎◌, Some, sym, refl, ap, ◌∙◌, subst, inl, inr, arith}
use Rattle.std.proofs.lemmas.Bool.{cond-true, cond-false, both_ways, eqb-true, eq-eqb, ne_eqb, le-leb, lt-leb, and_parts, and_cases, and_from, and_left, and_right, cases_eq, cases_Bool, cases_lt}
use Rattle.journal.specs.declared.record.Record.{Record}
use Rattle.journal.specs.Place.{Place, Blank, Torn, Holds, height, base_of}
use Rattle.journal.specs.Table.{Table, set}
use Rattle.journal.specs.Row.{Row, numbers, reads, first, whole, put_in, table_of}
use Rattle.journal.specs.Append.{at}
use Rattle.journal.specs.Laws.{Front, RowIsRead, Begun}

pub at_same : (k : ℕ) (p : Place) (row : Row) → at k p row k ≡ p
at_same k p row = cond-true _ _ _ (eq-eqb k k refl)

pub at_other : (k j : ℕ) (p : Place) (row : Row) → (j ≡ k → ⊥) → at k p row j ≡ row j
at_other k j p row n = cond-false _ _ _ (ne_eqb j k n)

pub height-numbers : (q : ℕ) (p : Place) → numbers q p ≡ true → height p ≡ q
height-numbers q Blank e = absurd (both_ways _ refl e)
height-numbers q Torn e = absurd (both_ways _ refl e)
height-numbers q (Holds r) e = eqb-true _ _ e

below_other : (q : ℕ) (p : Place) → height p < q → numbers q p ≡ false
below_other q Blank l = refl
below_other q Torn l = refl
below_other q (Holds r) l = ne_eqb _ _ (omega arith)

-- how far reading goes
pub reads-is : (row : Row) (m n : ℕ) → n ≤ m → ((j : ℕ) → j < n → numbers (first row + j) (row j) ≡ true) → (n < m → numbers (first row + n) (row n) ≡ false) → reads row m ≡ n
unfolding reads
reads-is row zero n l h p = omega arith
reads-is row (suc m) n l h p =
    elim (cases_eq n (suc m)) [
      | inl e ↦
          let r : reads row m ≡ m = reads-is row m m (omega arith) (λ j q. h j (omega arith)) (λ q. absurd (omega arith)) in
          cond-true _ _ _ (and_from _ _ (eq-eqb _ _ r) (h m (omega arith))) ∙ sym e
      | inr e ↦
          let r : reads row m ≡ n = reads-is row m n (omega arith) h (λ q. p (omega arith)) in
          cond-false _ _ _ (stops r) ∙ r
    ]
  where
    stops : reads row m ≡ n → (eqb (reads row m) m && numbers (first row + m) (row m)) ≡ false
    stops r =
        elim (cases_eq n m) [
          | inl z ↦ and_right _ _ (subst (λ (i : ℕ). numbers (first row + i) (row i) ≡ false) z (p (omega arith)))
          | inr z ↦ and_left _ _ (ne_eqb (reads row m) m (omega arith))
        ]

pub row-is-read : RowIsRead
unfolding reads
row-is-read row zero = record { few = omega arith; each = λ k l. absurd (omega arith); stops = λ l. absurd (omega arith) }
row-is-read row (suc R) = go (row-is-read row R) (cases_Bool (eqb (reads row R) R && numbers (first row + R) (row R)))
  where
    go : Front row R (reads row R) → ((eqb (reads row R) R && numbers (first row + R) (row R)) ≡ true) ⊎ ((eqb (reads row R) R && numbers (first row + R) (row R)) ≡ false) →
        Front row (suc R) (cond (eqb (reads row R) R && numbers (first row + R) (row R)) (suc R) (reads row R))
    go f (inl b) =
        let t : reads row R ≡ R = eqb-true (reads row R) R (and_parts (eqb (reads row R) R) (numbers (first row + R) (row R)) b).0 in
        subst (Front row (suc R)) (sym (cond-true _ _ _ b))
        (record {
          few = omega arith;
          each = λ k l. elim (cases_eq k R) [
            | inl e ↦ subst (λ (i : ℕ). numbers (first row + i) (row i) ≡ true) (sym e) (and_parts (eqb (reads row R) R) (numbers (first row + R) (row R)) b).1
            | inr e ↦ f.each k (omega arith)
          ];
          stops = λ l. absurd (omega arith);
        })
    go f (inr b) =
        subst (Front row (suc R)) (sym (cond-false _ _ _ b))
        (record {
          few = omega (arith, f.few);
          each = f.each;
          stops = λ l. elim (cases_eq (reads row R) R) [
            | inl e ↦ elim (and_cases (eqb (reads row R) R) (numbers (first row + R) (row R)) b) [
              | inl z ↦ absurd (both_ways (eqb (reads row R) R) z (eq-eqb (reads row R) R e))
              | inr z ↦ subst (λ (i : ℕ). numbers (first row + i) (row i) ≡ false) (sym e) z
            ]
            | inr e ↦ f.stops (omega (arith, f.few))
          ];
        })

pub reads_le : (row : Row) (n : ℕ) → reads row n ≤ n
reads_le row n = (row-is-read row n).few

module _ (R : ℕ) (row : Row) (n f b : ℕ) (g : Begun R row n f b) where
  pub begun_first : 0 < n → first row ≡ f
  begun_first l = let e : height (row 0) ≡ f + 0 = height-numbers (f + 0) (row 0) (g.here 0 l) in omega arith

  pub begun-reads : 0 < n → n ≤ R → reads row R ≡ n
  begun-reads l m =
      reads-is row R n m
      (λ j q. subst (λ (i : ℕ). numbers (i + j) (row j) ≡ true) (sym (begun_first l)) (g.here j q))
      (λ q. below_other (first row + n) (row n) (let z : height (row n) < f = g.past n (omega arith) q in let e : first row ≡ f = begun_first l in omega arith))

  pub begun-whole : 0 < n → n ≤ R → b ≤ n → whole R row ≡ true
  begun-whole l m w =
      let c : reads row R ≡ n = begun-reads l m in
      let e : base_of (row 0) ≡ b = g.base l in
      and_from _ _ (le-leb 1 (reads row R) (omega arith)) (le-leb (base_of (row 0)) (reads row R) (omega arith))

  pub begun-broken : 0 < n → n ≤ R → n < b → whole R row ≡ false
  begun-broken l m w =
      let c : reads row R ≡ n = begun-reads l m in
      let e : base_of (row 0) ≡ b = g.base l in
      and_right _ _ (lt-leb (base_of (row 0)) (reads row R) (omega arith))

  pub begun-below : (h : ℕ) → f + n ≤ suc h → 0 < n → (k : ℕ) → k < R → height (row k) ≤ h
  begun-below h l s k m =
      elim (cases_lt k n) [
        | inl e ↦ let z : height (row k) ≡ f + k = height-numbers (f + k) (row k) (g.here k e) in omega arith
        | inr e ↦ let z : height (row k) < f = g.past k e m in omega arith
      ]

  -- one record more
  pub begun_more : (r : Record) → r.sequence ≡ f + n → r.base ≡ b → Begun R (at n (Holds r) row) (suc n) f b
  begun_more r e z =
      record {
        here = λ k l. elim (cases_eq k n) [
          | inl q ↦ subst (λ (p : Place). numbers (f + k) p ≡ true) (sym (ap (at n (Holds r) row) q ∙ at_same n (Holds r) row)) (eq-eqb _ _ (omega arith))
          | inr q ↦ subst (λ (p : Place). numbers (f + k) p ≡ true) (sym (at_other n k (Holds r) row q)) (g.here k (omega arith))
        ];
        past = λ k l m. subst (λ (p : Place). height p < f) (sym (at_other n k (Holds r) row (omega arith))) (g.past k (omega arith) m);
        base = λ l. elim (cases_eq 0 n) [
          | inl q ↦ ap base_of (ap (at n (Holds r) row) q ∙ at_same n (Holds r) row) ∙ z
          | inr q ↦ ap base_of (at_other n 0 (Holds r) row q) ∙ g.base (omega arith)
        ];
        positive = g.positive;
      }

  -- bytes without a record behind the last one
  pub begun_harmed : (p : Place) → height p ≡ 0 → Begun R (at n p row) n f b
  begun_harmed p e =
      record {
        here = λ k l. subst (λ (q : Place). numbers (f + k) q ≡ true) (sym (at_other n k p row (omega arith))) (g.here k l);
        past = λ k l m. elim (cases_eq k n) [
          | inl q ↦ subst (λ (v : Place). height v < f) (sym (ap (at n p row) q ∙ at_same n p row)) (omega (arith, g.positive))
          | inr q ↦ subst (λ (v : Place). height v < f) (sym (at_other n k p row q)) (g.past k l m)
        ];
        base = λ l. ap base_of (at_other n 0 p row (omega arith)) ∙ g.base l;
        positive = g.positive;
      }

-- nothing is read where the first place has no record
pub none_read : (R : ℕ) (row : Row) → ((q : ℕ) → numbers q (row 0) ≡ false) → whole R row ≡ false
none_read R row h =
    let e : reads row R ≡ 0 = reads-is row R 0 (omega arith) (λ j q. absurd (omega arith)) (λ q. h (first row + 0)) in
    and_left _ _ (lt-leb 1 (reads row R) (omega arith))

-- the table of a row
put_in-same : (p : Place) (t u : Table) → ((a : ℕ) → t a ≡ u a) → (a : ℕ) → put_in p t a ≡ put_in p u a
put_in-same Blank t u h a = h a
put_in-same Torn t u h a = h a
put_in-same (Holds r) t u h a = ap (cond (eqb a r.lease.address) (Some r.lease)) (h a)

pub table_same : (row old : Row) (n : ℕ) → ((k : ℕ) → k < n → row k ≡ old k) → (a : ℕ) → table_of row n a ≡ table_of old n a
unfolding table_of
table_same row old zero h a = refl
table_same row old (suc n) h a =
    ap (λ (p : Place). put_in p (table_of row n) a) (h n (omega arith)) ∙ put_in-same (old n) _ _ (table_same row old n (λ k l. h k (omega arith))) a

pub table_kept : (row : Row) (n : ℕ) (p : Place) (a : ℕ) → table_of (at n p row) n a ≡ table_of row n a
table_kept row n p a = table_same (at n p row) row n (λ k l. at_other n k p row (omega arith)) a

pub table_more : (row : Row) (n : ℕ) (r : Record) (a : ℕ) → table_of (at n (Holds r) row) (suc n) a ≡ set r.lease (table_of row n) a
unfolding table_of
table_more row n r a =
    ap (λ (p : Place). put_in p (table_of (at n (Holds r) row) n) a) (at_same n (Holds r) row) ∙ put_in-same (Holds r) _ _ (table_kept row n (Holds r)) a
