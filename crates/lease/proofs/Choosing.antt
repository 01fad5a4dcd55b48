-- The laws of choosing.
-- Assumes nothing.
use Rattle.std.proofs.Common.{◌≡◌, ℕ, zero, suc, ◌+◌, ◌<◌, ◌≤◌, Bool, true, false, cond, not, ◌&&◌, ◌||◌, eqb, ltb, ◌⊎◌, Some, None, Option, sym, refl, subst, inl, inr, arith}
use Rattle.std.proofs.lemmas.Bool.{cond_both, both_ways, ltb-true, lt-ltb, and_parts, and_from, or_left, or_right, cases_eq}
use Rattle.lease.specs.declared.lease.Lease.{Lease}
use Rattle.lease.specs.declared.message.Request.{Request}
use Rattle.lease.specs.Table.{Table, live, owned, vacant, free}
use Rattle.lease.specs.Choosing.{lowest, or_else, choose, OwnsNothing, Chosen, Choosing}
use Rattle.std.proofs.lemmas.Option.{none-some, same_Some}

-- what a client owns is free for it; what is free for it is its own or nobody's
owned-free : (now c : ℕ) (o : Option Lease) → owned now c o ≡ true → free now c o ≡ true
owned-free now c None e = refl
owned-free now c (Some l) e = or_left (eqb l.client c) (not (live now l)) (and_parts (eqb l.client c) (live now l) e).0

vacant-free : (now c : ℕ) (o : Option Lease) → vacant now o ≡ true → free now c o ≡ true
vacant-free now c None e = refl
vacant-free now c (Some l) e = or_right (eqb l.client c) (not (live now l)) e

either : (x y : Bool) → (x || not y) ≡ true → ((x && y) ≡ true) ⊎ (not y ≡ true)
either true true e = inl refl
either true false e = inr refl
either false y e = inr e

free_either : (now c : ℕ) (o : Option Lease) → free now c o ≡ true → (owned now c o ≡ true) ⊎ (vacant now o ≡ true)
free_either now c None e = inr refl
free_either now c (Some l) e = either (eqb l.client c) (live now l) e

-- what a scan finds
pub record Lowest (test : ℕ → Bool) (a k : ℕ) (o : Option ℕ) : Type 0 where
  pub below : (q : ℕ) → o ≡ Some q → q < a + k
  pub passes : (q : ℕ) → o ≡ Some q → test q ≡ true
  pub first : (q : ℕ) → o ≡ Some q → (j : ℕ) → a ≤ j → j < q → test j ≡ false
  pub any : (j : ℕ) → a ≤ j → j < a + k → test j ≡ true → (q : ℕ) × (o ≡ Some q)

pub lowest-is : (test : ℕ → Bool) (a k : ℕ) → Lowest test a k (lowest test a k)
unfolding lowest
lowest-is test a zero =
    record {
      below = λ q e. absurd (none-some q e);
      passes = λ q e. absurd (none-some q e);
      first = λ q e. absurd (none-some q e);
      any = λ j l m e. absurd (omega arith);
    }
lowest-is test a (suc k) =
    cond_both (test a) (Some a) (lowest test (a + 1) k) (λ o. Lowest test a (suc k) o)
    (λ e. record {
      below = λ q f. let z : a ≡ q = cc in omega arith;
      passes = λ q f. rw (same_Some a q f) at e;
      first = λ q f j l m. absurd (let z : a ≡ q = same_Some a q f in omega arith);
      any = λ j l m f. (a, refl);
    })
    (λ e. let ih : Lowest test (a + 1) k (lowest test (a + 1) k) = lowest-is test (a + 1) k in record {
      below = λ q f. omega (arith, ih.below q f);
      passes = ih.passes;
      first = λ q f j l m. elim (cases_eq a j) [ inl i ↦ rw i at e | inr n ↦ ih.first q f j (omega arith) m ];
      any = λ j l m f. elim (cases_eq a j) [ inl i ↦ absurd (both_ways _ e (rw i f)) | inr n ↦ ih.any j (omega arith) (omega arith) f ];
    })

module _ (pool now : ℕ) (t : Table) (r : Request) where
  abbrev c : ℕ
  c = r.client

  -- what is preferred, if it may be had
  pub record Preferred (o : Option ℕ) : Type 0 where
    pub is : (q : ℕ) → o ≡ Some q → (q < pool) × (free now c (t q) ≡ true)
    pub had : r.preferred < pool → free now c (t r.preferred) ≡ true → o ≡ Some r.preferred
    pub same : (q : ℕ) → o ≡ Some q → q ≡ r.preferred

  preferred-is : Preferred (cond (ltb r.preferred pool && free now c (t r.preferred)) (Some r.preferred) None)
  preferred-is =
      cond_both (ltb r.preferred pool && free now c (t r.preferred)) (Some r.preferred) None (λ o. Preferred o)
      (λ e. record {
        is = λ q f. subst (λ (z : ℕ). (z < pool) × (free now c (t z) ≡ true)) (same_Some _ q f) (ltb-true _ _ (and_parts _ _ e).0, (and_parts _ _ e).1);
        had = λ l f. refl;
        same = λ q f. sym (same_Some _ q f);
      })
      (λ e. record {
        is = λ q f. absurd (none-some q f);
        had = λ l f. absurd (both_ways _ e (and_from (ltb r.preferred pool) (free now c (t r.preferred)) (lt-ltb _ _ l) f));
        same = λ q f. absurd (none-some q f);
      })

  abbrev Own : Option ℕ → Type 0
  Own o = Lowest (λ a. owned now c (t a)) 0 pool o

  abbrev Rest : Option ℕ → Type 0
  Rest o = Lowest (λ a. vacant now (t a)) 0 pool o

  no_own : Own None → (a : ℕ) → a < pool → owned now c (t a) ≡ true → ⊥
  no_own x a l e = none-some _ (x.any a (omega arith) (omega arith) e).1

  owns : (a : ℕ) → Own (Some a) → OwnsNothing pool now t c → ⊥
  owns a x none = both_ways _ (none a (omega (arith, x.below a refl))) (x.passes a refl)

  first_of : (x y z : Option ℕ) → Own x → Preferred y → Rest z → Chosen pool now t r (or_else x (or_else y z))
  first_of (Some a) y z x p rest =
      record {
        below = λ q e. omega (arith, x.below q e);
        own = λ b l e. (a, refl, x.passes a refl);
        others = λ q e. owned-free now c (t q) (x.passes q e);
        preferred = λ l f none. absurd (owns a x none);
        lowest_free = λ n none. absurd (owns a x none);
        exists = λ b l e. (a, refl);
      }
  first_of None (Some a) z x p rest =
      record {
        below = λ q e. (p.is q e).0;
        own = λ b l e. absurd (no_own x b l e);
        others = λ q e. (p.is q e).1;
        preferred = λ l f none. p.had l f;
        lowest_free = λ n none q e. absurd (both_ways _ (n taken.0) taken.1);
        exists = λ b l e. (a, refl);
      }
    where
      taken : (r.preferred < pool) × (free now c (t r.preferred) ≡ true)
      taken = subst (λ (z : ℕ). (z < pool) × (free now c (t z) ≡ true)) (p.same a refl) (p.is a refl)
  first_of None None z x p rest =
      record {
        below = λ q e. omega (arith, rest.below q e);
        own = λ b l e. absurd (no_own x b l e);
        others = λ q e. vacant-free now c (t q) (rest.passes q e);
        preferred = λ l f none. absurd (none-some _ (p.had l f));
        lowest_free = λ n none q e. (rest.passes q e, λ a l. rest.first q e a (omega arith) l);
        exists = λ b l e. elim (free_either now c (t b) e) [ inl f ↦ absurd (no_own x b l f) | inr f ↦ rest.any b (omega arith) (omega arith) f ];
      }

pub choosing : Choosing
choosing pool now t r = first_of pool now t r _ _ _ (lowest-is _ 0 pool) (preferred-is pool now t r) (lowest-is _ 0 pool)

-- the laws of whatever is the choice
pub laws : (pool now : ℕ) (t : Table) (r : Request) (o : Option ℕ) → o ≡ choose pool now t r → Chosen pool now t r o
laws pool now t r o e = subst (λ (x : Option ℕ). Chosen pool now t r x) (sym e) (choosing pool now t r)
