-- A row read in one pass, and bytes that are zeros.
use Rattle.std.proofs.Common.{◌≡◌, ℕ, zero, suc, ◌+◌, ◌<◌, max, Bool, true, false, ◌&&◌, eqb, ◌⊎◌, List, [], ◌∷◌, sym, refl, ap, ◌∙◌, subst, ap₂, inl, inr, add-one, arith}
use Rattle.std.specs.List.{list_all}
use Rattle.std.proofs.lemmas.Bool.{cond-true, cond-false, eq-eqb, ne_eqb, and_from, and_right, cases_eq, cases_Bool}
use Rattle.journal.specs.declared.record.Record.{Record}
use Rattle.journal.specs.declared.state.RowState.{RowState}
use Rattle.journal.specs.declared.scan.RowScan.{RowScan}
use Rattle.journal.specs.Place.{Place, Blank, Torn, Holds, height, base_of}
use Rattle.journal.specs.Bytes.{zeros}
use Rattle.journal.specs.Row.{Row, numbers, first, reads, highest, is_blank, blank_row}
use Rattle.journal.specs.Image.{row_noted, noted, scanned, Knows}

pub zeros_list : (bs : List ℕ) → list_all (λ b. eqb b 0) bs ≡ zeros bs
unfolding zeros
zeros_list [] = refl
zeros_list (b ∷ bs) = ap (λ (z : Bool). eqb b 0 && z) (zeros_list bs)

-- places that are not looked at do not matter
pub scanned-same : (row old : Row) (n : ℕ) → ((k : ℕ) → k < n → row k ≡ old k) → scanned row n ≡ scanned old n
unfolding scanned
scanned-same row old zero h = refl
scanned-same row old (suc n) h = ap₂ (λ (s : RowScan) (p : Place). noted s n p) (scanned-same row old n (λ k l. h k (omega arith))) (h n (omega arith))

-- a pass goes on
pub scanned-more : (row : Row) (k : ℕ) (s r : RowScan) (p : Place) → s ≡ scanned row k → p ≡ row k → r ≡ noted s k p → r ≡ scanned row (k + 1)
unfolding scanned
scanned-more row k s r p e f h = h ∙ ap₂ (λ (s : RowScan) (p : Place). noted s k p) e f ∙ sym (ap (scanned row) (add-one k))

-- a place without a record
passed : (row : Row) (k : ℕ) (s : RowScan) (b : Bool) → ((q : ℕ) → numbers q (row k) ≡ false) → height (row k) ≡ 0 → base_of (row k) ≡ 0 → b ≡ (blank_row row k && is_blank (row k)) →
    Knows row k s → Knows row (suc k) (record { row = s.row; highest = s.highest; blank = b })
unfolding reads highest blank_row
passed row k s b n h z e w =
    record {
      start = λ l. absurd (omega arith);
      first = λ l. elim (cases_eq k 0) [
        | inl q ↦ ap (λ (v : RowState). v.first) (w.start q) ∙ sym (ap (λ (i : ℕ). height (row i)) (sym q) ∙ h)
        | inr q ↦ w.first (omega arith)
      ];
      base = λ l. elim (cases_eq k 0) [
        | inl q ↦ ap (λ (v : RowState). v.base) (w.start q) ∙ sym (ap (λ (i : ℕ). base_of (row i)) (sym q) ∙ z)
        | inr q ↦ w.base (omega arith)
      ];
      count = w.count ∙ sym (cond-false _ _ _ (and_right (eqb (reads row k) k) (numbers (first row + k) (row k)) (n (first row + k))));
      highest = w.highest ∙ (let y : highest row k ≡ max (highest row k) (height (row k)) = omega arith in y);
      blank = e;
    }

-- a place with one
held : (row : Row) (k : ℕ) (s : RowScan) (r : Record) → row k ≡ Holds r → Knows row k s → Knows row (suc k) (noted s k (Holds r))
unfolding reads highest blank_row
held row k s r e w =
    elim (cases_eq k 0) [
      | inl q ↦
          let z : row_noted s.row k r ≡ record { first = r.sequence; base = r.base; count = 1 } = cond-true _ _ _ (eq-eqb k 0 q) in
          let f : first row ≡ r.sequence = ap (λ (i : ℕ). height (row i)) (sym q) ∙ ap height e in
          record {
            start = λ l. absurd (omega arith);
            first = λ l. ap (λ (v : RowState). v.first) z ∙ sym f;
            base = λ l. ap (λ (v : RowState). v.base) z ∙ sym (ap (λ (i : ℕ). base_of (row i)) (sym q) ∙ ap base_of e);
            count = ap (λ (v : RowState). v.count) z ∙ (let y : ◌≡◌ {A = ℕ} 1 (suc k) = omega arith in y) ∙ sym (cond-true _ _ _ (and_from (eqb (reads row k) k) (numbers (first row + k) (row k)) (none q) (subst (λ (p : Place). numbers (first row + k) p ≡ true) (sym e) (eq-eqb r.sequence (first row + k) (omega arith)))));
            highest = tops;
            blank = dark;
          }
      | inr q ↦ go q (cases_Bool (eqb (reads row k) k && numbers (first row + k) (row k)))
    ]
  where
    none : k ≡ 0 → eqb (reads row k) k ≡ true
    none q = eq-eqb (reads row k) k (ap (reads row) q ∙ sym q)

    tops : max s.highest r.sequence ≡ max (highest row k) (height (row k))
    tops = ap₂ (λ (x y : ℕ). max x y) w.highest (sym (ap height e))

    dark : false ≡ (blank_row row k && is_blank (row k))
    dark = sym (and_right (blank_row row k) (is_blank (row k)) (ap is_blank e))

    same : (k ≡ 0 → ⊥) → (eqb s.row.count k && eqb r.sequence (s.row.first + k)) ≡ (eqb (reads row k) k && numbers (first row + k) (row k))
    same q =
        ap₂ (λ (x y : Bool). x && y) (ap (λ (i : ℕ). eqb i k) w.count)
        (ap (λ (i : ℕ). eqb r.sequence (i + k)) (w.first (omega arith)) ∙ ap (numbers (first row + k)) (sym e))

    go : (k ≡ 0 → ⊥) → ((eqb (reads row k) k && numbers (first row + k) (row k)) ≡ true) ⊎ ((eqb (reads row k) k && numbers (first row + k) (row k)) ≡ false) → Knows row (suc k) (noted s k (Holds r))
    go q (inl b) =
        let z : row_noted s.row k r ≡ record { first = s.row.first; base = s.row.base; count = k + 1 } = cond-false _ _ _ (ne_eqb k 0 q) ∙ cond-true _ _ _ (same q ∙ b) in
        record {
          start = λ l. absurd (omega arith);
          first = λ l. ap (λ (v : RowState). v.first) z ∙ w.first (omega arith);
          base = λ l. ap (λ (v : RowState). v.base) z ∙ w.base (omega arith);
          count = ap (λ (v : RowState). v.count) z ∙ add-one k ∙ sym (cond-true _ _ _ b);
          highest = tops;
          blank = dark;
        }
    go q (inr b) =
        let z : row_noted s.row k r ≡ s.row = cond-false _ _ _ (ne_eqb k 0 q) ∙ cond-false _ _ _ (same q ∙ b) in
        record {
          start = λ l. absurd (omega arith);
          first = λ l. ap (λ (v : RowState). v.first) z ∙ w.first (omega arith);
          base = λ l. ap (λ (v : RowState). v.base) z ∙ w.base (omega arith);
          count = ap (λ (v : RowState). v.count) z ∙ w.count ∙ sym (cond-false _ _ _ b);
          highest = tops;
          blank = dark;
        }

and-true : (b : Bool) → b ≡ (b && true)
and-true true = refl
and-true false = refl

knows_more : (row : Row) (k : ℕ) (s : RowScan) (p : Place) → row k ≡ p → Knows row k s → Knows row (suc k) (noted s k p)
knows_more row k s Blank e w =
    passed row k s s.blank (λ q. ap (numbers q) e) (ap height e) (ap base_of e) (w.blank ∙ and-true (blank_row row k) ∙ ap (λ (b : Bool). blank_row row k && b) (sym (ap is_blank e))) w
knows_more row k s Torn e w =
    passed row k s false (λ q. ap (numbers q) e) (ap height e) (ap base_of e) (sym (and_right (blank_row row k) (is_blank (row k)) (ap is_blank e))) w
knows_more row k s (Holds r) e w = held row k s r e w

pub knows : (row : Row) (n : ℕ) → Knows row n (scanned row n)
unfolding scanned reads highest blank_row
knows row zero = record { start = λ q. refl; first = λ l. absurd (omega arith); base = λ l. absurd (omega arith); count = refl; highest = refl; blank = refl }
knows row (suc k) = knows_more row k (scanned row k) (row k) refl (knows row k)
