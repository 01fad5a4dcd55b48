-- The table that a list of places stands for, after a read and after a write; and a scan for the lowest place that passes a test.
-- Assumes nothing.
use Rattle.std.proofs.Common.{◌≡◌, ℕ, suc, ◌+◌, ◌-◌, ◌<◌, ◌≤◌, Bool, true, false, cond, eqb, List, [], ◌∷◌, length, get_or, set, Some, None, Option, sym, refl, ap, ◌∙◌, inl, inr, arith}
use Rattle.std.proofs.lemmas.List.{get_or_past, get_or-set_same, get_or-set_other}
use Rattle.std.proofs.lemmas.Bool.{cond-true, cond-false, cases_eq, cases_lt, eq-eqb, ne_eqb}
use Rattle.std.specs.List.{position, position_from}
use Rattle.std.proofs.lemmas.Iterator.Adapters.{position_from-zero}
use Rattle.lease.specs.declared.lease.Lease.{Lease}
use Rattle.lease.specs.Table.{Table, table_of, at, written, Pooled}
use Rattle.lease.specs.Choosing.{lowest}
use Rattle.std.proofs.lemmas.Option.{none-some}

pub table-past : (xs : List (Option Lease)) (a : ℕ) → length xs ≤ a → table_of xs a ≡ None
table-past xs a h = get_or_past xs a None h

-- any function that a list stands for, changed at one place
pub set_at : {A : Type 0} (ys : List A) (i : ℕ) (y d : A) (k : ℕ) → i < length ys → get_or (set ys i y) k d ≡ at i y (λ j. get_or ys j d) k
set_at ys i y d k h =
    elim (cases_eq k i) [
      | inl e ↦ ap (λ (n : ℕ). get_or (set ys i y) n d) e ∙ get_or-set_same ys i y d h ∙ sym (cond-true (eqb k i) y (get_or ys k d) (eq-eqb k i e))
      | inr n ↦ get_or-set_other ys i k y d n ∙ sym (cond-false (eqb k i) y (get_or ys k d) (ne_eqb k i n))
    ]

pub written-other : (t : Table) (l m : Lease) (b : ℕ) → l ≡ m → (b ≡ m.address → ⊥) → written l t b ≡ t b
written-other t l m b e n = cond-false (eqb b l.address) (Some l) (t b) (ne_eqb b l.address (λ i. n (i ∙ ap (λ (x : Lease). x.address) e)))

-- one turn of a scan
module _ (test : ℕ → Bool) where
  pub lowest-here : (i n : ℕ) → i < n → test i ≡ true → lowest test i (n - i) ≡ Some i
  unfolding lowest
  lowest-here i n h e =
      let k : n - i ≡ suc (n - (i + 1)) = omega arith in
      ap (λ (m : ℕ). lowest test i m) k ∙ cond-true (test i) (Some i) _ e

  pub lowest-next : (i n : ℕ) → i < n → test i ≡ false → lowest test i (n - i) ≡ lowest test (i + 1) (n - (i + 1))
  unfolding lowest
  lowest-next i n h e =
      let k : n - i ≡ suc (n - (i + 1)) = omega arith in
      ap (λ (m : ℕ). lowest test i m) k ∙ cond-false (test i) (Some i) _ e

  pub lowest_end : (i n : ℕ) → n ≤ i → lowest test i (n - i) ≡ None
  unfolding lowest
  lowest_end i n h = let k : n - i ≡ 0 = omega arith in ap (λ (m : ℕ). lowest test i m) k

-- the first place of a list that passes
from_place : (p : Option Lease → Bool) (test : ℕ → Bool) (xs : List (Option Lease)) (i : ℕ) → ((k : ℕ) → k < length xs → test (i + k) ≡ p (get_or xs k None)) → position_from p i xs ≡ lowest test i (length xs)
unfolding lowest
from_place p test [] i h = refl
from_place p test (x ∷ xs) i h =
    let here : p x ≡ test i = sym (let z : i + 0 ≡ i = omega arith in ap test (sym z) ∙ h 0 (omega arith)) in
    ap (λ (b : Bool). cond b (Some i) (position_from p (i + 1) xs)) here
    ∙ ap (λ (o : Option ℕ). cond (test i) (Some i) o)
    (from_place p test xs (i + 1) (λ k l. let z : i + 1 + k ≡ i + suc k = omega arith in ap test z ∙ h (suc k) (omega (arith, l))))

pub by_place : (p : Option Lease → Bool) (xs : List (Option Lease)) → position p xs ≡ lowest (λ a. p (table_of xs a)) 0 (length xs)
by_place p xs = position_from-zero p xs ∙ from_place p (λ a. p (table_of xs a)) xs 0 (λ k l. let z : 0 + k ≡ k = omega arith in ap (λ (a : ℕ). p (table_of xs a)) z)

-- no lease stands outside the list
pub table-pooled : (xs : List (Option Lease)) → Pooled (length xs) (table_of xs)
table-pooled xs a l e = elim (cases_lt a (length xs)) [ inl k ↦ k | inr k ↦ absurd (none-some l (sym (table-past xs a k) ∙ e)) ]
