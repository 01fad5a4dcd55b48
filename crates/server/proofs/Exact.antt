-- Which leases a device has after an append, whole or cut: just those before it, or those of them that are kept, and with the new one where it came to stand.
-- Assumes nothing.
use Rattle.std.proofs.Common.{◌≡◌, ℕ, zero, suc, ◌+◌, ◌<◌, ◌≤◌, min, Bool, true, false, cond, eqb, ltb, ◌⊎◌, List, [], ◌∷◌, ◌++◌, length, take, Some, None, Option, sym, refl, ap, ◌∙◌, subst, inl, inr, arith, length-append}
use Rattle.std.proofs.lemmas.List.{take_all, take_at}
use Rattle.std.proofs.lemmas.Bool.{both_ways, cases_Bool, cases_eq, cases_lt, cond-false, cond-true, le-leb, leb-false, leb-true, ltb-false}
use Rattle.lease.specs.declared.lease.Lease.{Lease}
use Rattle.journal.specs.Place.{height}
use Rattle.journal.specs.Table.{Table, Filed, added, empty, keeping, kept_of, set}
use Rattle.journal.specs.Row.{Row, first, table_of, whole}
use Rattle.journal.specs.declared.state.Side.{Side}
use Rattle.journal.specs.Device.{Device, Cursor, cursor, high, leases, other}
use Rattle.journal.specs.Append.{Plan, Write, in_other, in_row, perform, plan, put, writes}
use Rattle.journal.specs.Crash.{Cut, Damaged, Untouched, cut_at, done, lands}
use Rattle.journal.specs.Laws.{Begun, Ready, Settled, Sound}
use Rattle.journal.proofs.Tables.{keeping-agrees, keeping_none, kept-some, laid, laid_push, length_keeping}
use Rattle.journal.proofs.Reading.{begun-broken, none_read}
use Rattle.journal.proofs.Choosing.{below-high, damaged_found, damaged_leases, settled-cursor, settled-leases, unbegun}
use Rattle.journal.proofs.Progress.{Progress, cut, length_numbered}
use Rattle.journal.proofs.Appends.{append_survives}
use Rattle.journal.proofs.Runs.{reread}

pub kept-all : (e : Option Lease) → kept_of 0 e ≡ e
kept-all None = refl
kept-all (Some l) = cond-true _ _ _ (le-leb 0 l.expires (omega arith))

-- the leases that are kept
abbrev pub kept_in : (now : ℕ) → Table → Table
kept_in now t a = kept_of now (t a)

pub filed-kept : (now : ℕ) (t : Table) → Filed t → Filed (kept_in now t)
filed-kept now t f a l e = f a l (kept-some now (t a) l e)

pub keeping-kept : (now : ℕ) (t : Table) (n : ℕ) → keeping 0 (kept_in now t) n ≡ keeping now t n
unfolding keeping
keeping-kept now t zero = refl
keeping-kept now t (suc n) =
    ap (λ (xs : List Lease). added xs (kept_of 0 (kept_of now (t n)))) (keeping-kept now t n) ∙ ap (added (keeping now t n)) (kept-all (kept_of now (t n)))

pub laid_kept : (now : ℕ) (t : Table) (n a : ℕ) → Filed t → a < n → laid (keeping now t n) empty a ≡ kept_of now (t a)
laid_kept now t n a f l =
    ap (λ (xs : List Lease). laid xs empty a) (sym (keeping-kept now t n)) ∙ sym (kept-all (laid (keeping 0 (kept_in now t) n) empty a))
    ∙ keeping-agrees n 0 0 (kept_in now t) (filed-kept now t f) (omega arith) a l ∙ kept-all (kept_of now (t a))

pub set_both : (x : Lease) (t u : Table) (a : ℕ) → t a ≡ u a → set x t a ≡ set x u a
set_both x t u a e = ap (λ (o : Option Lease). cond (eqb a x.address) (Some x) o) e

-- the new lease stands in `t`, or not
abbrev pub with? : Bool → Lease → Table → Table
with? landed x t = cond landed (set x t) t

abbrev pub Exactly : (n : ℕ) → Table → Table → Type 0
Exactly n t u = (a : ℕ) → a < n → t a ≡ u a

module _ (R n now : ℕ) (d : Device) (c : Cursor) (u : Table) (x : Lease) (room : n < R) (r : Ready R n now d c u) (i : ℕ) (k : Cut) where
  abbrev left : Plan → Device
  left p = cut_at i k (writes p x) d

  abbrev landed : Plan → Bool
  landed p = lands i k (length (writes p x))

  abbrev anew : Plan
  anew = plan R n 0 (cursor R d) (leases R d)

  -- where the plan is what it would be for the device's own leases
  by_device : (p : Plan) → p ≡ anew → Exactly n (leases R (left p)) (with? (landed p) x (leases R d))
  by_device p e a l =
      subst (λ (q : Plan). leases R (left q) a ≡ with? (landed q) x (leases R d) a) (sym e)
      (sym (kept-all (leases R (left anew) a)) ∙ (append_survives R n 0 0 d (cursor R d) (leases R d) x i k room (omega arith) (reread R n 0 d r.sound)).table a l ∙ kept-all (with? (landed anew) x (leases R d) a))

  same_row : ltb c.count R ≡ true → plan R n now c u ≡ anew
  same_row e =
      cond-true (ltb c.count R) (in_row c) (in_other n now c u) e ∙ ap in_row r.same
      ∙ sym (cond-true (ltb (cursor R d).count R) (in_row (cursor R d)) (in_other n 0 (cursor R d) (leases R d)) (ap (λ (v : Cursor). ltb v.count R) (sym r.same) ∙ e))

  same_new : Damaged R d → ltb c.count R ≡ false → plan R n now c u ≡ anew
  same_new w e =
      let ks : keeping now u n ≡ keeping 0 (leases R d) n =
      keeping_none now u n (r.none (damaged_found R d w)) ∙ sym (keeping_none 0 (leases R d) n (λ a. ap (λ (t : Table). t a) (damaged_leases R d w))) in
      cond-false (ltb c.count R) (in_row c) (in_other n now c u) e ∙ ap (λ (v : Cursor). in_other n now v u) r.same
      ∙ ap (λ (xs : List Lease). record { side = other (cursor R d).side; place = 0; first = suc (cursor R d).highest; base = length xs; copied = xs }) ks
      ∙ sym (cond-false (ltb (cursor R d).count R) (in_row (cursor R d)) (in_other n 0 (cursor R d) (leases R d)) (ap (λ (v : Cursor). ltb v.count R) (sym r.same) ∙ e))

  abbrev copied : List Lease
  copied = keeping now u n

  few : length copied < R
  few = let z : length copied ≤ n = length_keeping now u n in omega arith

  all_length : length (copied ++ (x ∷ [])) ≡ suc (length copied)
  all_length = let z : length (copied ++ (x ∷ [])) ≡ length copied + 1 = length-append copied (x ∷ []) in omega arith

  abbrev switched : Side → Plan
  switched s = record { side = other s; place = 0; first = suc (high R d); base = length copied; copied = copied }

  -- a full row, and the other is begun
  module _ (s : Side) (m f b : ℕ) (t : Settled R d s m f b) (full : R ≤ m) where
    abbrev v : Side
    v = other s

    abbrev Begins : Device → ℕ → Type 0
    Begins e j = Progress R d e v 0 (suc (high R d)) (length copied) (copied ++ (x ∷ [])) j

    back : (q : Side) (e : Device) → e (other (other q)) ≡ d (other (other q)) → e q ≡ d q
    back Side.Row0 e h = h
    back Side.Row1 e h = h

    settled : (e : Device) (j : ℕ) → Begins e j → 0 < j → length copied ≤ j → j ≤ suc (length copied) → Settled R e v (0 + j) (suc (high R d)) (length copied)
    settled e j p l h w =
        record {
          row = p.begun;
          some = omega arith;
          fits = omega (arith, few);
          based = omega arith;
          newest = λ y. subst (λ (row : Row). first row < suc (high R d)) (sym p.rest) (let z : height (d (other v) 0) ≤ high R d = below-high R d (other v) 0 (omega (arith, few)) in omega arith);
          ahead = λ y q z. subst (λ (row : Row). height (row q) < suc (high R d) + (0 + j)) (sym p.rest) (let o : height (d (other v) q) ≤ high R d = below-high R d (other v) q z in omega arith);
        }

    stays : (e : Device) → whole R (e v) ≡ false → e s ≡ d s → leases R e ≡ leases R d
    stays e w q =
        settled-leases R e s m f b
        (record {
          row = subst (λ (row : Row). Begun R row m f b) (sym q) t.row;
          some = t.some;
          fits = t.fits;
          based = t.based;
          newest = λ y. absurd (both_ways _ w y);
          ahead = λ y. absurd (omega arith);
        })
        ∙ ap (λ (row : Row). table_of row m) q ∙ sym (settled-leases R d s m f b t)

    old : (e : Device) (j : ℕ) → Begins e j → (j < length copied) ⊎ (j ≡ 0) → leases R e ≡ leases R d
    old e j p h =
        elim (cases_eq j 0) [
          | inl z ↦ elim (p.none z) [ inl q ↦ ap (leases R) q | inr q ↦ stays e (none_read R (e v) q) (back s e p.rest) ]
          | inr z ↦ elim h [
            | inl l ↦ stays e (begun-broken R (e v) (0 + j) (suc (high R d)) (length copied) p.begun (omega arith) (omega (arith, few)) (omega arith)) (back s e p.rest)
            | inr l ↦ absurd (z l)
          ]
        ]

    in-new : (e : Device) (j : ℕ) → Begins e j → 0 < j → length copied ≤ j → j ≤ suc (length copied) → (a : ℕ) → leases R e a ≡ laid (take j (copied ++ (x ∷ []))) empty a
    unfolding table_of
    in-new e j p l h w a = ap (λ (y : Table). y a) (settled-leases R e v (0 + j) (suc (high R d)) (length copied) (settled e j p l h w)) ∙ p.table a

    in_kept : (a : ℕ) → a < n → laid copied empty a ≡ kept_in now (leases R d) a
    in_kept a l = laid_kept now u n a r.filed l ∙ sym (r.agrees a l)

    copied-over : (e : Device) → Begins e (length copied) → 0 < length copied → Exactly n (leases R e) (kept_in now (leases R d))
    copied-over e p l a m =
        in-new e (length copied) p l (omega arith) (omega arith) a ∙ ap (λ (xs : List Lease). laid xs empty a) (take_at copied (x ∷ []) (length copied) refl) ∙ in_kept a m

    written_over : (e : Device) → Begins e (suc (length copied)) → Exactly n (leases R e) (set x (kept_in now (leases R d)))
    written_over e p a m =
        in-new e (suc (length copied)) p (omega arith) (omega arith) (omega arith) a
        ∙ ap (λ (xs : List Lease). laid xs empty a) (take_all (suc (length copied)) (copied ++ (x ∷ [])) (omega (arith, all_length)))
        ∙ ap (λ (y : Table). y a) (laid_push copied x empty) ∙ set_both x (laid copied empty) (kept_in now (leases R d)) a (in_kept a m)

    abbrev Either : Plan → Type 0
    Either p = Exactly n (leases R (left p)) (with? (landed p) x (leases R d)) ⊎ Exactly n (leases R (left p)) (with? (landed p) x (kept_in now (leases R d)))

    not_yet : (e : Device) (j : ℕ) (b : Bool) → b ≡ false → Begins e j → j ≤ length copied →
        Exactly n (leases R e) (with? b x (leases R d)) ⊎ Exactly n (leases R e) (with? b x (kept_in now (leases R d)))
    not_yet e j b z p l =
        elim (cases_lt j (length copied)) [
          | inl h ↦ inl (λ a m. ap (λ (y : Table). y a) (old e j p (inl h) ∙ sym (cond-false b (set x (leases R d)) (leases R d) z)))
          | inr h ↦ elim (cases_eq j 0) [
            | inl q ↦ inl (λ a m. ap (λ (y : Table). y a) (old e j p (inr q) ∙ sym (cond-false b (set x (leases R d)) (leases R d) z)))
            | inr q ↦ inr (λ a m. copied-over e (subst (Begins e) {x = j} {y = length copied} (omega arith) p) (omega arith) a m
                ∙ ap (λ (y : Table). y a) (sym (cond-false b (set x (kept_in now (leases R d))) (kept_in now (leases R d)) z)))
          ]
        ]

    switch : Either (switched s)
    switch =
        let p : Plan = switched s in
        let o : length (writes p x) ≡ length (copied ++ (x ∷ [])) = length_numbered v 0 (suc (high R d) + 0) (length copied) (copied ++ (x ∷ [])) in
        let g : Begins (left p) (min (done i k) (length (copied ++ (x ∷ [])))) =
        cut R v (suc (high R d)) (length copied) d 0 (suc (high R d) + 0) (copied ++ (x ∷ [])) i k refl (unbegun R (d v) (high R d) (length copied) (below-high R d v)) in
        elim (cases_Bool (landed p)) [
          | inl y ↦
              let j : length (writes p x) ≤ done i k = leb-true (length (writes p x)) (done i k) y in
              inr (λ a m. written_over (left p) (subst (Begins (left p)) {x = min (done i k) (length (copied ++ (x ∷ [])))} {y = suc (length copied)} (omega (arith, all_length)) g) a m
              ∙ ap (λ (w : Table). w a) (sym (cond-true (landed p) (set x (kept_in now (leases R d))) (kept_in now (leases R d)) y)))
          | inr y ↦
              let j : done i k < length (writes p x) = leb-false (length (writes p x)) (done i k) y in
              not_yet (left p) (min (done i k) (length (copied ++ (x ∷ [])))) (landed p) y g (omega (arith, all_length))
        ]

  abbrev Leaves : Plan → Type 0
  Leaves p = Exactly n (leases R (left p)) (with? (landed p) x (leases R d)) ⊎ Exactly n (leases R (left p)) (with? (landed p) x (kept_in now (leases R d)))

  -- the device's leases, all or as far as they are kept, with the new one where it came to stand
  pub leaves : Leaves (plan R n now c u)
  leaves =
      elim (cases_Bool (ltb c.count R)) [
        | inl e ↦ inl (by_device (plan R n now c u) (same_row e))
        | inr e ↦ elim r.sound [
          | inl w ↦ inl (by_device (plan R n now c u) (same_new w e))
          | inr q ↦
              let g : c ≡ record { side = q.0; first = q.2; count = q.1; base = q.3; highest = high R d } = r.same ∙ settled-cursor R d q.0 q.1 q.2 q.3 q.4 (high R d) refl in
              let h : R ≤ c.count = ltb-false c.count R e in
              let z : c.count ≡ q.1 = ap (λ (w : Cursor). w.count) g in
              subst Leaves (sym (cond-false (ltb c.count R) (in_row c) (in_other n now c u) e ∙ ap (λ (w : Cursor). in_other n now w u) g)) (switch q.0 q.1 q.2 q.3 q.4 (omega arith))
        ]
      ]

  pub sound-left : Sound R (left (plan R n now c u))
  sound-left = (append_survives R n now now d c u x i k room (omega arith) r).sound

-- a whole append is one that is cut behind its last write
pub whole-cut : (ws : List Write) (d : Device) → perform ws d ≡ cut_at (length ws) Untouched ws d
unfolding perform cut_at
whole-cut [] d = refl
whole-cut (w ∷ ws) d = whole-cut ws (put w.side w.place _ d)
