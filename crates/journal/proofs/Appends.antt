-- An append, whole or cut: in its row, into the other row, and as the first of a table.
use Rattle.std.proofs.Common.{◌≡◌, ℕ, suc, ◌+◌, ◌<◌, ◌≤◌, min, max, Bool, true, false, cond, ltb, ◌⊎◌, List, [], ◌∷◌, ◌++◌, length, take, None, sym, refl, ap, ◌∙◌, subst, inl, inr, arith, length-append}
use Rattle.std.proofs.lemmas.List.{take_all, take_at}
use Rattle.std.proofs.lemmas.Bool.{cond_both, cond-true, cond-false, both_ways, ltb-true, ltb-false, leb-true, leb-false, lt-leb, or_left, or_right, or_from, cases_eq, cases_lt, cases_Bool}
use Rattle.lease.specs.declared.lease.Lease.{Lease}
use Rattle.journal.specs.Place.{height}
use Rattle.journal.specs.Table.{Table, empty, set, kept_of, Agree, Filed, keeping}
use Rattle.journal.specs.Row.{Row, first, whole, table_of}
use Rattle.journal.specs.Device.{Side, Row0, Row1, other, Device, high, chosen, is_found, Cursor, fresh, leases}
use Rattle.journal.specs.Append.{Plan, plan, last, writes, after, perform}
use Rattle.journal.specs.Crash.{Cut, Whole, Untouched, Tears, Zeroes, cut_at, done, lands, Damaged}
use Rattle.journal.specs.Laws.{Begun, Settled, Sound, Ready, AppendStands, Survives, AppendSurvives, LastIsCut}
use Rattle.journal.proofs.Reading.{height-numbers, begun-broken, begun-below, none_read}
use Rattle.journal.proofs.Tables.{laid, laid_push, agree_set, filed-set, length_keeping, keeping_none, keeping-agrees}
use Rattle.journal.proofs.Choosing.{settled-chosen, settled-leases, settled-cursor, damaged_found, damaged_leases, damaged_cursor, below-high, high_is, settled-high, unbegun}
use Rattle.journal.proofs.Progress.{length_numbered, Progress, performed, cut}

abbrev goes : Side → (first count base highest : ℕ) → Cursor
goes s f k b h = record { side = s; first = f; count = k; base = b; highest = h }

abbrev behind : Side → (first place base : ℕ) → List Lease → Plan
behind s f k b xs = record { side = s; place = k; first = f; base = b; copied = xs }

back : (s : Side) (d e : Device) → e (other (other s)) ≡ d (other (other s)) → e s ≡ d s
back Row0 d e q = q
back Row1 d e q = q

high_after : (R : ℕ) (e : Device) (s : Side) (k f b m : ℕ) → Begun R (e s) (k + suc m) f b → k + m < R → ((j : ℕ) → j < R → height (e (other s) j) ≤ f + (k + m)) → high R e ≡ f + (k + m)
high_after R e s k f b m g l o =
    high_is R e (f + (k + m)) s (k + m) l (height-numbers (f + (k + m)) (e s (k + m)) (g.here (k + m) (omega arith)))
    (begun-below R (e s) (k + suc m) f b g (f + (k + m)) (omega arith) (omega arith)) o

module _ (R n now then : ℕ) (d : Device) (u : Table) (x : Lease) (room : n < R) (on : now ≤ then) (fl : Filed u) where
  -- the device has a table that agrees with `v`
  abbrev Has : Device → Table → Type 0
  Has e v = (s : Side) × (k : ℕ) × (f : ℕ) × (b : ℕ) × Settled R e s k f b × Agree n then (table_of (e s) k) v

  has_leases : (e : Device) (v : Table) → Has e v → Agree n then (leases R e) v
  has_leases e v q = subst (λ (t : Table). Agree n then t v) (sym (settled-leases R e q.0 q.1 q.2 q.3 q.4)) q.5

  has_found : (e : Device) (v : Table) → Has e v → is_found (chosen R e) ≡ true
  has_found e v q = ap is_found (settled-chosen R e q.0 q.1 q.2 q.3 q.4)

  abbrev Stands : Cursor → Plan → Type 0
  Stands c p = Ready R n then (perform (writes p x) d) (after c p) (set x u) × (is_found (chosen R (perform (writes p x) d)) ≡ true)

  abbrev Outlives : ℕ → Cut → Plan → Type 0
  Outlives i k p = Survives R n then d (cut_at i k (writes p x) d) u (set x u) (lands i k (length (writes p x)))

  stands : (c : Cursor) (p : Plan) → Settled R (perform (writes p x) d) p.side (suc (p.place + length p.copied)) p.first p.base →
      Agree n then (table_of (perform (writes p x) d p.side) (suc (p.place + length p.copied))) (set x u) →
      high R (perform (writes p x) d) ≡ max c.highest (last p) → Stands c p
  stands c p t a h =
      let q : Has (perform (writes p x) d) (set x u) = (p.side, suc (p.place + length p.copied), p.first, p.base, t, a) in (
        record {
          sound = inr (p.side, suc (p.place + length p.copied), p.first, p.base, t);
          same = sym (settled-cursor R (perform (writes p x) d) p.side (suc (p.place + length p.copied)) p.first p.base t (max c.highest (last p)) h);
          agrees = has_leases _ (set x u) q;
          filed = filed-set x u fl;
          none = λ z. absurd (both_ways _ z (has_found _ (set x u) q));
        },
        has_found _ (set x u) q,
      )

  -- the table is as it was, or has the lease, or there is none still
  with_lease : (e : Device) (l : Bool) → l ≡ true → Has e (set x u) → Survives R n then d e u (set x u) l
  with_lease e l z q =
      record {
        sound = inr (q.0, q.1, q.2, q.3, q.4);
        table = subst (λ (v : Table). Agree n then (leases R e) v) (sym (cond-true l (set x u) u z)) (has_leases e (set x u) q);
        found = has_found e (set x u) q ∙ sym (or_right (is_found (chosen R d)) l z);
      }

  without : (e : Device) (l : Bool) → l ≡ false → is_found (chosen R d) ≡ true → Has e u → Survives R n then d e u (set x u) l
  without e l z f q =
      record {
        sound = inr (q.0, q.1, q.2, q.3, q.4);
        table = subst (λ (v : Table). Agree n then (leases R e) v) (sym (cond-false l (set x u) u z)) (has_leases e u q);
        found = has_found e u q ∙ sym (or_left (is_found (chosen R d)) l f);
      }

  no_table : (e : Device) (l : Bool) → l ≡ false → is_found (chosen R d) ≡ false → Agree n then empty u → Damaged R e → Survives R n then d e u (set x u) l
  no_table e l z f a w =
      record {
        sound = inl w;
        table = subst (λ (v : Table). Agree n then (leases R e) v) (sym (cond-false l (set x u) u z)) (subst (λ (v : Table). Agree n then v u) (sym (damaged_leases R e w)) a);
        found = damaged_found R e w ∙ sym (or_from (is_found (chosen R d)) l f z);
      }

  heights : (v : Side) (j : ℕ) → j < R → height (d v j) ≤ high R d
  heights v j l = below-high R d v j l

  -- behind the last record of its row
  module _ (s : Side) (k f b : ℕ) (t : Settled R d s k f b) (less : k < R) (ag : Agree n then (table_of (d s) k) u) where
    in_row : (e : Device) (j : ℕ) → k + j ≤ R → Progress R d e s k f b (x ∷ []) j → Settled R e s (k + j) f b
    in_row e j l p =
        record {
          row = p.begun;
          some = omega (arith, t.some);
          fits = l;
          based = omega (arith, t.based);
          newest = subst (λ (row : Row). whole R row ≡ true → first row < f) (sym p.rest) t.newest;
          ahead = λ m i z. subst (λ (row : Row). height (row i) < f + (k + j)) (sym p.rest) (let y : height (d (other s) i) < f + k = t.ahead less i z in omega arith);
        }

    row-table : (e : Device) (j : ℕ) (v : Table) → Progress R d e s k f b (x ∷ []) j → Agree n then (laid (take j (x ∷ [])) (table_of (d s) k)) v → Agree n then (table_of (e s) (k + j)) v
    row-table e j v p h a l = ap (kept_of then) (p.table a) ∙ h a l

    row-stands : Stands (goes s f k b (high R d)) (behind s f k b [])
    row-stands =
        let e : Device = perform (writes (behind s f k b []) x) d in
        let p : Progress R d e s k f b (x ∷ []) 1 = performed R s f b d k (f + k) (x ∷ []) refl t.row in
        stands (goes s f k b (high R d)) (behind s f k b [])
        (subst (λ (m : ℕ). Settled R e s m f b) {x = k + 1} {y = suc (k + 0)} (omega arith) (in_row e 1 (omega arith) p))
        (subst (λ (m : ℕ). Agree n then (table_of (e s) m) (set x u)) {x = k + 1} {y = suc (k + 0)} (omega arith) (row-table e 1 (set x u) p (agree_set n then x (table_of (d s) k) u ag)))
        (let z : high R e ≡ f + (k + 0) = high_after R e s k f b 0 p.begun (omega arith)
        (λ j l. subst (λ (row : Row). height (row j) ≤ f + (k + 0)) (sym p.rest) (let y : height (d (other s) j) < f + k = t.ahead less j l in omega arith)) in
        let y : high R d < f + k = settled-high R d s k f b t less in omega arith)

    row_survives : (i : ℕ) (c : Cut) → Outlives i c (behind s f k b [])
    row_survives i c =
        let e : Device = cut_at i c (writes (behind s f k b []) x) d in
        let o : length (writes (behind s f k b []) x) ≡ 1 = length_numbered s k (f + k) b (x ∷ []) in
        let p : Progress R d e s k f b (x ∷ []) (min (done i c) 1) = cut R s f b d k (f + k) (x ∷ []) i c refl t.row in
        elim (cases_Bool (lands i c (length (writes (behind s f k b []) x)))) [
          | inl y ↦
              let j : length (writes (behind s f k b []) x) ≤ done i c = leb-true (length (writes (behind s f k b []) x)) (done i c) y in
              let q : Progress R d e s k f b (x ∷ []) 1 = subst (Progress R d e s k f b (x ∷ [])) {x = min (done i c) 1} {y = 1} (omega arith) p in
              with_lease e _ y (s, k + 1, f, b, in_row e 1 (omega arith) q, row-table e 1 (set x u) q (agree_set n then x (table_of (d s) k) u ag))
          | inr y ↦
              let j : done i c < length (writes (behind s f k b []) x) = leb-false (length (writes (behind s f k b []) x)) (done i c) y in
              let q : Progress R d e s k f b (x ∷ []) 0 = subst (Progress R d e s k f b (x ∷ [])) {x = min (done i c) 1} {y = 0} (omega arith) p in
              without e _ y (ap is_found (settled-chosen R d s k f b t)) (s, k + 0, f, b, in_row e 0 (omega arith) q, row-table e 0 u q ag)
        ]

  -- a row is begun, with the leases that are kept
  abbrev copied : List Lease
  copied = keeping now u n

  abbrev Begins : Side → Device → ℕ → Type 0
  Begins v e j = Progress R d e v 0 (suc (high R d)) (length copied) (copied ++ (x ∷ [])) j

  all_length : length (copied ++ (x ∷ [])) ≡ suc (length copied)
  all_length = let z : length (copied ++ (x ∷ [])) ≡ length copied + 1 = length-append copied (x ∷ []) in omega arith

  few : length copied < R
  few = let z : length copied ≤ n = length_keeping now u n in omega arith

  turned : (v : Side) (e : Device) (j : ℕ) → Begins v e j → 0 < j → length copied ≤ j → j ≤ suc (length copied) → Settled R e v (0 + j) (suc (high R d)) (length copied)
  turned v e j p l m w =
      record {
        row = p.begun;
        some = omega arith;
        fits = omega (arith, few);
        based = omega arith;
        newest = λ y. subst (λ (row : Row). first row < suc (high R d)) (sym p.rest) (let z : height (d (other v) 0) ≤ high R d = heights (other v) 0 (omega (arith, few)) in omega arith);
        ahead = λ y i z. subst (λ (row : Row). height (row i) < suc (high R d) + (0 + j)) (sym p.rest) (let q : height (d (other v) i) ≤ high R d = heights (other v) i z in omega arith);
      }

  turned_table : (v : Side) (e : Device) (j : ℕ) (w : Table) → Begins v e j → Agree n then (laid (take j (copied ++ (x ∷ []))) empty) w → Agree n then (table_of (e v) (0 + j)) w
  unfolding table_of
  turned_table v e j w p h a l = ap (kept_of then) (p.table a) ∙ h a l

  all-copied : Agree n then (laid (take (length copied) (copied ++ (x ∷ []))) empty) u
  all-copied = subst (λ (xs : List Lease). Agree n then (laid xs empty) u) (sym (take_at copied (x ∷ []) (length copied) refl)) (keeping-agrees n now then u fl on)

  all-written : Agree n then (laid (take (suc (length copied)) (copied ++ (x ∷ []))) empty) (set x u)
  all-written =
      subst (λ (xs : List Lease). Agree n then (laid xs empty) (set x u)) (sym (take_all (suc (length copied)) (copied ++ (x ∷ [])) (omega (arith, all_length))))
      (subst (λ (t : Table). Agree n then t (set x u)) (sym (laid_push copied x empty)) (agree_set n then x (laid copied empty) u (keeping-agrees n now then u fl on)))

  begin_stands : (c : Cursor) (v : Side) → c.highest ≡ high R d → Stands c (behind v (suc (high R d)) 0 (length copied) copied)
  begin_stands c v same =
      let p : Plan = behind v (suc (high R d)) 0 (length copied) copied in
      let e : Device = perform (writes p x) d in
      let g : Begins v e (length (copied ++ (x ∷ []))) = performed R v (suc (high R d)) (length copied) d 0 (suc (high R d) + 0) (copied ++ (x ∷ [])) refl (unbegun R (d v) (high R d) (length copied) (heights v)) in
      let q : Begins v e (suc (length copied)) = subst (Begins v e) all_length g in
      stands c p
      (subst (λ (m : ℕ). Settled R e v m (suc (high R d)) (length copied)) {x = 0 + suc (length copied)} {y = suc (0 + length copied)} (omega arith) (turned v e (suc (length copied)) q (omega arith) (omega arith) (omega arith)))
      (subst (λ (m : ℕ). Agree n then (table_of (e v) m) (set x u)) {x = 0 + suc (length copied)} {y = suc (0 + length copied)} (omega arith) (turned_table v e (suc (length copied)) (set x u) q all-written))
      (let z : high R e ≡ suc (high R d) + (0 + length copied) = high_after R e v 0 (suc (high R d)) (length copied) (length copied) q.begun (omega (arith, few))
      (λ j l. subst (λ (row : Row). height (row j) ≤ suc (high R d) + (0 + length copied)) (sym q.rest) (let y : height (d (other v) j) ≤ high R d = heights (other v) j l in omega arith)) in
      omega arith)

  begin_survives : (v : Side) (i : ℕ) (c : Cut) → ((e : Device) (j : ℕ) (l : Bool) → l ≡ false → Begins v e j → j ≤ length copied → Survives R n then d e u (set x u) l) →
      Outlives i c (behind v (suc (high R d)) 0 (length copied) copied)
  begin_survives v i c h =
      let p : Plan = behind v (suc (high R d)) 0 (length copied) copied in
      let e : Device = cut_at i c (writes p x) d in
      let o : length (writes p x) ≡ length (copied ++ (x ∷ [])) = length_numbered v 0 (suc (high R d) + 0) (length copied) (copied ++ (x ∷ [])) in
      let g : Begins v e (min (done i c) (length (copied ++ (x ∷ [])))) = cut R v (suc (high R d)) (length copied) d 0 (suc (high R d) + 0) (copied ++ (x ∷ [])) i c refl (unbegun R (d v) (high R d) (length copied) (heights v)) in
      elim (cases_Bool (lands i c (length (writes p x)))) [
        | inl y ↦
            let j : length (writes p x) ≤ done i c = leb-true (length (writes p x)) (done i c) y in
            let q : Begins v e (suc (length copied)) = subst (Begins v e) {x = min (done i c) (length (copied ++ (x ∷ [])))} {y = suc (length copied)} (omega (arith, all_length)) g in
            with_lease e _ y (v, 0 + suc (length copied), suc (high R d), length copied, turned v e (suc (length copied)) q (omega arith) (omega arith) (omega arith), turned_table v e (suc (length copied)) (set x u) q all-written)
        | inr y ↦
            let j : done i c < length (writes p x) = leb-false (length (writes p x)) (done i c) y in
            h e (min (done i c) (length (copied ++ (x ∷ [])))) _ y g (omega (arith, all_length))
      ]

  -- while not all leases that are kept are copied, the row is not whole
  unfinished : (v : Side) (e : Device) (j : ℕ) → Begins v e j → (j < length copied) ⊎ (j ≡ 0) → (e ≡ d) ⊎ (whole R (e v) ≡ false)
  unfinished v e j p h =
      elim (cases_eq j 0) [
        | inl z ↦ elim (p.none z) [ inl q ↦ inl q | inr q ↦ inr (none_read R (e v) q) ]
        | inr z ↦ elim h [
          | inl m ↦ inr (begun-broken R (e v) (0 + j) (suc (high R d)) (length copied) p.begun (omega arith) (omega (arith, few)) (omega arith))
          | inr m ↦ absurd (z m)
        ]
      ]

  -- from a full row: the old one stands until the new one is whole
  module _ (s : Side) (k f b : ℕ) (t : Settled R d s k f b) (full : R ≤ k) (ag : Agree n then (table_of (d s) k) u) where
    stays : (e : Device) → whole R (e (other s)) ≡ false → e s ≡ d s → Has e u
    stays e w q = (
      s,
      k,
      f,
      b,
      record {
        row = subst (λ (row : Row). Begun R row k f b) (sym q) t.row;
        some = t.some;
        fits = t.fits;
        based = t.based;
        newest = λ y. absurd (both_ways _ w y);
        ahead = λ y. absurd (omega arith);
      },
      λ a l. ap (λ (row : Row). kept_of then (table_of row k a)) q ∙ ag a l,
    )

    old_or_copied : (e : Device) (j : ℕ) → Begins (other s) e j → j ≤ length copied → Has e u
    old_or_copied e j p l =
        elim (cases_lt j (length copied)) [
          | inl m ↦ old (unfinished (other s) e j p (inl m))
          | inr m ↦ elim (cases_eq j 0) [
            | inl z ↦ old (unfinished (other s) e j p (inr z))
            | inr z ↦
                let q : Begins (other s) e (length copied) = subst (Begins (other s) e) {x = j} {y = length copied} (omega arith) p in
                (other s, 0 + length copied, suc (high R d), length copied, turned (other s) e (length copied) q (omega arith) (omega arith) (omega arith), turned_table (other s) e (length copied) u q all-copied)
          ]
        ]
      where
        old : (e ≡ d) ⊎ (whole R (e (other s)) ≡ false) → Has e u
        old (inl q) = subst (λ (y : Device). Has y u) (sym q) (s, k, f, b, t, ag)
        old (inr q) = stays e q (back s d e p.rest)

    switch_survives : (i : ℕ) (c : Cut) → Outlives i c (behind (other s) (suc (high R d)) 0 (length copied) copied)
    switch_survives i c = begin_survives (other s) i c (λ e j l z p m. without e l z (ap is_found (settled-chosen R d s k f b t)) (old_or_copied e j p m))

  -- where there is no table
  module _ (w : Damaged R d) (void : (a : ℕ) → u a ≡ None) where
    nothing-kept : length copied ≡ 0
    nothing-kept = ap length (keeping_none now u n void)

    unbroken : (v : Side) (e : Device) → whole R (e v) ≡ false → e (other v) ≡ d (other v) → Damaged R e
    unbroken Row0 e h q Row0 = h
    unbroken Row0 e h q Row1 = ap (whole R) q ∙ w Row1
    unbroken Row1 e h q Row0 = ap (whole R) q ∙ w Row0
    unbroken Row1 e h q Row1 = h

    first_survives : (v : Side) (i : ℕ) (c : Cut) → Outlives i c (behind v (suc (high R d)) 0 (length copied) copied)
    first_survives v i c =
        begin_survives v i c (λ e j l z p m. no_table e l z (damaged_found R d w) (λ a q. ap (kept_of then) (sym (void a)))
        (elim (unfinished v e j p (inr (omega (arith, nothing-kept)))) [
          | inl q ↦ subst (Damaged R) (sym q) w
          | inr q ↦ unbroken v e q p.rest
        ]))

both : (b : Bool) (P : Plan → Type 0) (p q : Plan) → (b ≡ true → P p) → (b ≡ false → P q) → P (cond b p q)
both b P p q h k = cond_both b p q P h k

pub append_stands : AppendStands
append_stands R n now then d c u x room on r = go r.sound
  where
    go : Sound R d → Stands R n now then d u x room on r.filed c (plan R n now c u)
    go (inl w) =
        subst (λ (c : Cursor). Stands R n now then d u x room on r.filed c (plan R n now c u)) (sym (r.same ∙ damaged_cursor R d w))
        (both (ltb R R) (Stands R n now then d u x room on r.filed (fresh R (high R d))) _ _ (λ e. absurd (let z : R < R = ltb-true R R e in omega arith)) (λ e. begin_stands R n now then d u x room on r.filed (fresh R (high R d)) Row0 refl))
    go (inr (s, k, f, b, t)) =
        let ag : Agree n then (table_of (d s) k) u = subst (λ (v : Table). Agree n then v u) (settled-leases R d s k f b t) r.agrees in
        subst (λ (c : Cursor). Stands R n now then d u x room on r.filed c (plan R n now c u)) (sym (r.same ∙ settled-cursor R d s k f b t (high R d) refl))
        (both (ltb k R) (Stands R n now then d u x room on r.filed (goes s f k b (high R d))) _ _
        (λ e. row-stands R n now then d u x room on r.filed s k f b t (ltb-true k R e) ag)
        (λ e. begin_stands R n now then d u x room on r.filed (goes s f k b (high R d)) (other s) refl))

pub append_survives : AppendSurvives
append_survives R n now then d c u x i j room on r = go r.sound
  where
    go : Sound R d → Outlives R n now then d u x room on r.filed i j (plan R n now c u)
    go (inl w) =
        subst (λ (c : Cursor). Outlives R n now then d u x room on r.filed i j (plan R n now c u)) (sym (r.same ∙ damaged_cursor R d w))
        (both (ltb R R) (Outlives R n now then d u x room on r.filed i j) _ _ (λ e. absurd (let z : R < R = ltb-true R R e in omega arith))
        (λ e. first_survives R n now then d u x room on r.filed w (r.none (damaged_found R d w)) Row0 i j))
    go (inr (s, k, f, b, t)) =
        let ag : Agree n then (table_of (d s) k) u = subst (λ (v : Table). Agree n then v u) (settled-leases R d s k f b t) r.agrees in
        subst (λ (c : Cursor). Outlives R n now then d u x room on r.filed i j (plan R n now c u)) (sym (r.same ∙ settled-cursor R d s k f b t (high R d) refl))
        (both (ltb k R) (Outlives R n now then d u x room on r.filed i j) _ _
        (λ e. row_survives R n now then d u x room on r.filed s k f b t (ltb-true k R e) ag i j)
        (λ e. switch_survives R n now then d u x room on r.filed s k f b t (ltb-false k R e) ag i j))

-- one write less than all
not_landed : (i : ℕ) (k : Cut) (m : ℕ) → suc i ≡ m → (k ≡ Whole → ⊥) → lands i k m ≡ false
not_landed i Untouched m e h = lt-leb m i (omega arith)
not_landed i Whole m e h = absurd (h refl)
not_landed i Tears m e h = lt-leb m i (omega arith)
not_landed i Zeroes m e h = lt-leb m i (omega arith)

pub last-is-cut : LastIsCut
last-is-cut R n now then d c u x i k room on r e h =
    subst (λ (v : Table). Agree n then (leases R (cut_at i k (writes (plan R n now c u) x) d)) v)
    (cond-false (lands i k (length (writes (plan R n now c u) x))) (set x u) u (not_landed i k (length (writes (plan R n now c u) x)) e h))
    (append_survives R n now then d c u x i k room on r).table
