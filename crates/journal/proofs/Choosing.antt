-- Which row is chosen, what is recovered then, and what bounds the sequence numbers.
use Rattle.std.proofs.Common.{◌≡◌, ℕ, zero, suc, ◌+◌, ◌-◌, ◌<◌, ◌≤◌, Bool, true, false, cond, ltb, leb, sym, refl, ap, ◌∙◌, inl, inr, arith}
use Rattle.std.proofs.lemmas.Bool.{cond-true, cond-false, both_ways, lt-ltb, le-ltb, cases_eq, cases_Bool, and_parts, and_from, and_left, lt-leb}
use Rattle.journal.specs.Place.{Place, Blank, Torn, Holds, height, base_of}
use Rattle.journal.specs.Table.{empty}
use Rattle.journal.specs.Row.{Row, numbers, first, reads, whole, table_of, highest, is_blank, blank_row}
use Rattle.journal.specs.Device.{Side, Row0, Row1, other, Device, high, blank, newer_of, newer, Choice, New, Lost, Found, choose, chosen, is_found, fresh, cursor_at, cursor, leases_at, leases}
use Rattle.journal.specs.Crash.{Damaged}
use Rattle.journal.specs.Laws.{ChoiceTells, Begun, Settled}
use Rattle.journal.proofs.Reading.{reads-is, begun_first, begun-reads, begun-whole, begun-below}

sides_differ : Row0 ≡ Row1 → ⊥
sides_differ e = let z : ◌≡◌ {A = ℕ} 0 1 = cc in omega arith

newer_both : (a b h : Bool) → a ≡ true → b ≡ true → newer_of a b h ≡ cond h Row1 Row0
newer_both true true true p q = refl
newer_both true true false p q = refl
newer_both true false h p q = absurd (both_ways _ refl q)
newer_both false b h p q = absurd (both_ways _ refl p)

whole-some : (R : ℕ) (row : Row) → whole R row ≡ true → leb 1 (reads row R) ≡ true
whole-some R row w = (and_parts (leb 1 (reads row R)) (leb (base_of (row 0)) (reads row R)) w).0

newer-whole : (R : ℕ) (d : Device) → whole R (d Row0) ≡ true → whole R (d Row1) ≡ true → newer R d ≡ cond (ltb (first (d Row0)) (first (d Row1))) Row1 Row0
newer-whole R d w v = newer_both (leb 1 (reads (d Row0) R)) (leb 1 (reads (d Row1) R)) (ltb (first (d Row0)) (first (d Row1))) (whole-some R (d Row0) w) (whole-some R (d Row1) v)

-- two rows that are whole: the newer has the higher first sequence number
older_first : (R : ℕ) (d : Device) (s : Side) → whole R (d s) ≡ true → whole R (d (other s)) ≡ true → first (d (other s)) < first (d s) → newer R d ≡ other s → ⊥
older_first R d Row0 w v l e = sides_differ (sym (newer-whole R d w v ∙ cond-false _ _ _ (le-ltb (first (d Row0)) (first (d Row1)) (omega arith))) ∙ e)
older_first R d Row1 w v l e = sides_differ (sym e ∙ newer-whole R d v w ∙ cond-true _ _ _ (lt-ltb (first (d Row0)) (first (d Row1)) l))

choose-found : (R : ℕ) (d : Device) (s v : Side) → whole R (d s) ≡ true → (v ≡ other s → whole R (d (other s)) ≡ false) → choose R d v ≡ Found s
choose-found R d Row0 Row0 w h = cond-true _ _ _ w
choose-found R d Row0 Row1 w h = cond-false _ _ _ (h refl) ∙ cond-true _ _ _ w
choose-found R d Row1 Row0 w h = cond-false _ _ _ (h refl) ∙ cond-true _ _ _ w
choose-found R d Row1 Row1 w h = cond-true _ _ _ w

pub chosen-newest : (R : ℕ) (d : Device) (s : Side) → whole R (d s) ≡ true → (whole R (d (other s)) ≡ true → first (d (other s)) < first (d s)) → chosen R d ≡ Found s
chosen-newest R d s w o =
    choose-found R d s (newer R d) w
    (λ e. elim (cases_Bool (whole R (d (other s)))) [ inl v ↦ absurd (older_first R d s w v (o v) e) | inr v ↦ v ])

-- what a settled device gives
module _ (R : ℕ) (d : Device) (s : Side) (n f b : ℕ) (t : Settled R d s n f b) where
  pub settled-chosen : chosen R d ≡ Found s
  settled-chosen =
      let fi : first (d s) ≡ f = begun_first R (d s) n f b t.row t.some in
      chosen-newest R d s (begun-whole R (d s) n f b t.row t.some t.fits t.based) (λ w. let z : first (d (other s)) < f = t.newest w in omega arith)

  pub settled-leases : leases R d ≡ table_of (d s) n
  settled-leases = ap (leases_at R d) settled-chosen ∙ ap (table_of (d s)) (begun-reads R (d s) n f b t.row t.some t.fits)

  pub settled-cursor : (h : ℕ) → high R d ≡ h → cursor R d ≡ record { side = s; first = f; count = n; base = b; highest = h }
  settled-cursor h e =
      let c : cursor R d ≡ cursor_at R d (Found s) = ap (cursor_at R d) settled-chosen in
      let x : first (d s) ≡ f = begun_first R (d s) n f b t.row t.some in
      let y : reads (d s) R ≡ n = begun-reads R (d s) n f b t.row t.some t.fits in
      let z : base_of (d s 0) ≡ b = t.row.base t.some in
      cc

-- what a device without a whole row gives
module _ (R : ℕ) (d : Device) (h : Damaged R d) where
  tableless : (v : Side) → choose R d v ≡ cond (blank R d) New Lost
  tableless v = cond-false _ _ _ (h v) ∙ cond-false _ _ _ (h (other v))

  pub damaged_found : is_found (chosen R d) ≡ false
  damaged_found = ap is_found (tableless (newer R d)) ∙ go (blank R d)
    where
      go : (b : Bool) → is_found (cond b New Lost) ≡ false
      go true = refl
      go false = refl

  pub damaged_leases : leases R d ≡ empty
  damaged_leases = ap (leases_at R d) (tableless (newer R d)) ∙ go (blank R d)
    where
      go : (b : Bool) → leases_at R d (cond b New Lost) ≡ empty
      go true = refl
      go false = refl

  pub damaged_cursor : cursor R d ≡ fresh R (high R d)
  damaged_cursor = ap (cursor_at R d) (tableless (newer R d)) ∙ go (blank R d)
    where
      go : (b : Bool) → cursor_at R d (cond b New Lost) ≡ fresh R (high R d)
      go true = refl
      go false = refl

-- sequence numbers and their bound
below-highest : (row : Row) (n k : ℕ) → k < n → height (row k) ≤ highest row n
unfolding highest
below-highest row zero k l = absurd (omega arith)
below-highest row (suc n) k l =
    elim (cases_eq k n) [
      | inl e ↦ let z : height (row k) ≡ height (row n) = ap (λ (i : ℕ). height (row i)) e in omega arith
      | inr e ↦ let z : height (row k) ≤ highest row n = below-highest row n k (omega arith) in omega arith
    ]

highest-below : (row : Row) (n h : ℕ) → ((k : ℕ) → k < n → height (row k) ≤ h) → highest row n ≤ h
unfolding highest
highest-below row zero h p = omega arith
highest-below row (suc n) h p =
    let z : highest row n ≤ h = highest-below row n h (λ k l. p k (omega arith)) in
    let y : height (row n) ≤ h = p n (omega arith) in omega arith

pub below-high : (R : ℕ) (d : Device) (s : Side) (k : ℕ) → k < R → height (d s k) ≤ high R d
below-high R d Row0 k l = let z : height (d Row0 k) ≤ highest (d Row0) R = below-highest (d Row0) R k l in omega arith
below-high R d Row1 k l = let z : height (d Row1 k) ≤ highest (d Row1) R = below-highest (d Row1) R k l in omega arith

pub high-below : (R : ℕ) (d : Device) (h : ℕ) (s : Side) → ((k : ℕ) → k < R → height (d s k) ≤ h) → ((k : ℕ) → k < R → height (d (other s) k) ≤ h) → high R d ≤ h
high-below R d h Row0 p q = let y : highest (d Row0) R ≤ h = highest-below (d Row0) R h p in let z : highest (d Row1) R ≤ h = highest-below (d Row1) R h q in omega arith
high-below R d h Row1 p q = let y : highest (d Row1) R ≤ h = highest-below (d Row1) R h p in let z : highest (d Row0) R ≤ h = highest-below (d Row0) R h q in omega arith

-- the bound is met
pub high_is : (R : ℕ) (d : Device) (h : ℕ) (s : Side) (k : ℕ) → k < R → height (d s k) ≡ h →
    ((j : ℕ) → j < R → height (d s j) ≤ h) → ((j : ℕ) → j < R → height (d (other s) j) ≤ h) → high R d ≡ h
high_is R d h s k l e p q = let y : height (d s k) ≤ high R d = below-high R d s k l in let z : high R d ≤ h = high-below R d h s p q in omega arith

-- the next sequence number of a row with room is above all that fits
pub settled-high : (R : ℕ) (d : Device) (s : Side) (k f b : ℕ) → Settled R d s k f b → k < R → high R d < f + k
settled-high R d s k f b t less =
    let z : high R d ≤ f + k - 1 = high-below R d (f + k - 1) s (begun-below R (d s) k f b t.row (f + k - 1) (omega (arith, t.row.positive)) t.some)
    (λ j l. let y : height (d (other s) j) < f + k = t.ahead less j l in omega arith) in
    omega (arith, t.row.positive)

-- a row in which nothing is above `h` can be begun
pub unbegun : (R : ℕ) (row : Row) (h b : ℕ) → ((k : ℕ) → k < R → height (row k) ≤ h) → Begun R row 0 (suc h) b
unbegun R row h b p =
    record {
      here = λ k l. absurd (omega arith);
      past = λ k l m. let z : height (row k) ≤ h = p k m in omega arith;
      base = λ l. absurd (omega arith);
      positive = omega arith;
    }

-- what the choice tells
choose-none : (a b : Bool) (x y : Side) (c : Choice) → is_found (cond a (Found x) (cond b (Found y) c)) ≡ false → (a ≡ false) × (b ≡ false)
choose-none true b x y c e = absurd (both_ways _ e refl)
choose-none false true x y c e = absurd (both_ways _ e refl)
choose-none false false x y c e = (refl, refl)

both_sides : (P : Side → Type 0) (v : Side) → P v → P (other v) → (s : Side) → P s
both_sides P Row0 p q Row0 = p
both_sides P Row0 p q Row1 = q
both_sides P Row1 p q Row0 = q
both_sides P Row1 p q Row1 = p

no_table : (R : ℕ) (d : Device) → is_found (chosen R d) ≡ false → Damaged R d
no_table R d e =
    let z : (whole R (d (newer R d)) ≡ false) × (whole R (d (other (newer R d))) ≡ false) = choose-none (whole R (d (newer R d))) (whole R (d (other (newer R d)))) (newer R d) (other (newer R d)) (cond (blank R d) New Lost) e in
    both_sides (λ s. whole R (d s) ≡ false) (newer R d) z.0 z.1

blank-place : (p : Place) → is_blank p ≡ true → p ≡ Blank
blank-place Blank e = refl
blank-place Torn e = absurd (both_ways _ refl e)
blank-place (Holds r) e = absurd (both_ways _ refl e)

blank-each : (row : Row) (n : ℕ) → blank_row row n ≡ true → (k : ℕ) → k < n → row k ≡ Blank
unfolding blank_row
blank-each row zero e k l = absurd (omega arith)
blank-each row (suc n) e k l =
    let z : (blank_row row n ≡ true) × (is_blank (row n) ≡ true) = and_parts (blank_row row n) (is_blank (row n)) e in
    elim (cases_eq k n) [
      | inl q ↦ ap row q ∙ blank-place (row n) z.1
      | inr q ↦ blank-each row n z.0 k (omega arith)
    ]

blank-all : (row : Row) (n : ℕ) → ((k : ℕ) → k < n → row k ≡ Blank) → blank_row row n ≡ true
unfolding blank_row
blank-all row zero h = refl
blank-all row (suc n) h = and_from (blank_row row n) (is_blank (row n)) (blank-all row n (λ k l. h k (omega arith))) (ap is_blank (h n (omega arith)))

lost-new : Lost ≡ New → ⊥
lost-new e = let z : ◌≡◌ {A = ℕ} 0 1 = cc in omega arith

only_blank : (b : Bool) → cond b New Lost ≡ New → b ≡ true
only_blank true e = refl
only_blank false e = absurd (lost-new e)

pub choice-tells : ChoiceTells
choice-tells R d =
    record {
      new = λ e. fresh-each e;
      zeros = λ h.
          tableless R d (λ s. blank-unread (d s) (h s)) (newer R d)
          ∙ cond-true _ _ _ (and_from (blank_row (d Row0) R) (blank_row (d Row1) R) (blank-all (d Row0) R (h Row0)) (blank-all (d Row1) R (h Row1)));
      none = no_table R d;
    }
  where
    blank-unread : (row : Row) → ((k : ℕ) → k < R → row k ≡ Blank) → whole R row ≡ false
    blank-unread row h =
        let e : reads row R ≡ 0 = reads-is row R 0 (omega arith) (λ j q. absurd (omega arith)) (λ l. ap (numbers (first row + 0)) (h 0 l)) in
        and_left _ _ (lt-leb 1 (reads row R) (omega arith))

    fresh-each : chosen R d ≡ New → (s : Side) (k : ℕ) → k < R → d s k ≡ Blank
    fresh-each e =
        let w : Damaged R d = no_table R d (ap is_found e) in
        let b : (blank_row (d Row0) R ≡ true) × (blank_row (d Row1) R ≡ true) = and_parts (blank_row (d Row0) R) (blank_row (d Row1) R) (only_blank (blank R d) (sym (tableless R d w (newer R d)) ∙ e)) in
        both_sides (λ s. (k : ℕ) → k < R → d s k ≡ Blank) Row0 (blank-each (d Row0) R b.0) (blank-each (d Row1) R b.1)
