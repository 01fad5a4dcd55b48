-- What holds of the table alone: no client has two live leases, and a grant keeps it so.
-- Assumes nothing.
use Rattle.std.proofs.Common.{◌≡◌, ℕ, ◌<◌, ◌≤◌, Bool, true, false, not, ◌&&◌, eqb, Some, None, Option, sym, refl, ap, ◌∙◌, inl, inr, arith}
use Rattle.std.proofs.lemmas.Bool.{cond_both, cond-false, and_right, both_ways, eqb-true, eq-eqb, leb-true, le-leb, and_parts, and_from, or_cases, not-true}
use Rattle.lease.specs.declared.lease.Lease.{Lease}
use Rattle.lease.specs.declared.message.Request.{Request}
use Rattle.lease.specs.Table.{Table, empty, live, owned, vacant, free, leased, written, forgotten, OneEach, Pooled}
use Rattle.lease.specs.Choosing.{Chosen, leasing, entered}
use Rattle.std.proofs.lemmas.Option.{none-some, same_Some}

-- an own live lease, taken apart and put together
pub record Owned (now c : ℕ) (o : Option Lease) : Type 0 where
  pub lease : Lease
  pub there : o ≡ Some lease
  pub client : lease.client ≡ c
  pub lives : now ≤ lease.expires

pub owned-parts : (now c : ℕ) (o : Option Lease) → owned now c o ≡ true → Owned now c o
owned-parts now c None e = absurd (both_ways _ refl e)
owned-parts now c (Some l) e =
    record {
      lease = l;
      there = refl;
      client = eqb-true _ _ (and_parts (eqb l.client c) (live now l) e).0;
      lives = leb-true _ _ (and_parts (eqb l.client c) (live now l) e).1;
    }

pub owned-from : (now c : ℕ) (o : Option Lease) → Owned now c o → owned now c o ≡ true
owned-from now c o k = rw k.there (and_from (eqb k.lease.client c) (live now k.lease) (eq-eqb _ _ k.client) (le-leb _ _ k.lives))

-- what is free for a client and has a live lease is that client's
pub free-live : (now c : ℕ) (o : Option Lease) (l : Lease) → free now c o ≡ true → o ≡ Some l → now ≤ l.expires → l.client ≡ c
free-live now c o l e f g =
    let k : free now c (Some l) ≡ true = rw f at e in
    elim (or_cases (eqb l.client c) (not (live now l)) k) [
      | inl i ↦ eqb-true _ _ i
      | inr i ↦ absurd (both_ways (live now l) (not-true _ i) (le-leb _ _ g))
    ]

owned_earlier : (now later c : ℕ) (o : Option Lease) → now ≤ later → owned later c o ≡ true → owned now c o ≡ true
owned_earlier now later c o n e =
    let p : Owned later c o = owned-parts later c o e in
    owned-from now c o (record { lease = p.lease; there = p.there; client = p.client; lives = omega (arith, p.lives) })

pub one-empty : (now : ℕ) → OneEach now empty
one-empty now c a b e = absurd (both_ways _ refl e)

pub one_later : (now later : ℕ) (t : Table) → now ≤ later → OneEach now t → OneEach later t
one_later now later t n k c a b e f = k c a b (owned_earlier now later c (t a) n e) (owned_earlier now later c (t b) n f)

pub pooled-written : (pool : ℕ) (t : Table) (l : Lease) → l.address < pool → Pooled pool t → Pooled pool (written l t)
pooled-written pool t l h k a m =
    cond_both (eqb a l.address) (Some l) (t a) (λ x. x ≡ Some m → a < pool) (λ f g. omega (arith, h, eqb-true a l.address f)) (λ f g. k a m g)

-- what is left after forgetting was there, and what is live is left
pub forgotten-from : (now : ℕ) (gone : ℕ → Bool) (t : Table) (a : ℕ) (l : Lease) → forgotten now gone t a ≡ Some l → t a ≡ Some l
forgotten-from now gone t a l = cond_both (gone a && vacant now (t a)) None (t a) (λ x. x ≡ Some l → t a ≡ Some l) (λ e f. absurd (none-some l f)) (λ e f. f)

pub forgotten_stays : (now : ℕ) (gone : ℕ → Bool) (t : Table) (a : ℕ) (l : Lease) → t a ≡ Some l → now ≤ l.expires → forgotten now gone t a ≡ Some l
forgotten_stays now gone t a l e h =
    let lives : vacant now (t a) ≡ false = ap (λ (o : Option Lease). vacant now o) e ∙ ap not (le-leb _ _ h) in
    cond-false (gone a && vacant now (t a)) None (t a) (and_right (gone a) _ lives) ∙ e

owned-forgotten : (now : ℕ) (gone : ℕ → Bool) (t : Table) (c a : ℕ) → owned now c (forgotten now gone t a) ≡ true → owned now c (t a) ≡ true
owned-forgotten now gone t c a e =
    let k : Owned now c (forgotten now gone t a) = owned-parts now c (forgotten now gone t a) e in
    owned-from now c (t a) (record { lease = k.lease; there = forgotten-from now gone t a k.lease k.there; client = k.client; lives = k.lives })

pub one-forgotten : (now : ℕ) (gone : ℕ → Bool) (t : Table) → OneEach now t → OneEach now (forgotten now gone t)
one-forgotten now gone t k c a b e f = k c a b (owned-forgotten now gone t c a e) (owned-forgotten now gone t c b f)

-- the chosen address is written
module _ (pool now : ℕ) (t : Table) (r : Request) (q : ℕ) (life : ℕ) (o : Option ℕ) (pooled : Pooled pool t) (one : OneEach now t) (ch : Chosen pool now t r o) (e : o ≡ Some q) where
  abbrev new : Lease
  new = leased now life r.client q

  -- an own live lease elsewhere would have been chosen
  other : (d b : ℕ) → owned now d (Some new) ≡ true → owned now d (t b) ≡ true → b ≡ q
  other d b g j =
      let cd : r.client ≡ d = eqb-true r.client d (and_parts (eqb r.client d) (live now new) g).0 in
      let mine : owned now r.client (t b) ≡ true = rw cd j in
      let l : Owned now r.client (t b) = owned-parts now r.client (t b) mine in
      let own : (x : ℕ) × (o ≡ Some x) × (owned now r.client (t x) ≡ true) = ch.own b (pooled b l.lease l.there) mine in
      one r.client b own.0 mine own.2 ∙ same_Some own.0 q (sym own.1 ∙ e)

  pub one_written : OneEach now (written new t)
  one_written d a b =
      cond_both (eqb a q) (Some new) (t a) (λ x. owned now d x ≡ true → owned now d (written new t b) ≡ true → a ≡ b)
      (λ f g. cond_both (eqb b q) (Some new) (t b) (λ x. owned now d x ≡ true → a ≡ b)
      (λ i j. eqb-true a q f ∙ sym (eqb-true b q i))
      (λ i j. eqb-true a q f ∙ sym (other d b g j)))
      (λ f g. cond_both (eqb b q) (Some new) (t b) (λ x. owned now d x ≡ true → a ≡ b)
      (λ i j. other d a j g ∙ sym (eqb-true b q i))
      (λ i j. one d a b g j))

-- a grant, or that none is free
pub one-entered : (pool now life : ℕ) (t : Table) (r : Request) (o : Option ℕ) → Pooled pool t → Chosen pool now t r o → OneEach now t → OneEach now (entered (leasing now life r o) t)
one-entered pool now life t r None pooled ch one = one
one-entered pool now life t r (Some q) pooled ch one = one_written pool now t r q life (Some q) pooled one ch refl
