-- Which stamps a list has.
-- Assumes nothing.
use Rattle.std.proofs.Common.{◌≡◌, ℕ, true, false, ◌&&◌, ◌||◌, eqb, List, [], ◌∷◌, ◌++◌, sym, refl, ap, ◌∙◌, inl, inr}
use Rattle.std.proofs.lemmas.Bool.{and_parts, and_from, eqb-true, eq-eqb, or_cases, both_ways}
use Rattle.seen.specs.declared.stamp.Stamp.{Stamp}
use Rattle.seen.specs.Stamp.{same, member}
use Rattle.seen.specs.Laws.{In, MembersAreIn}

abbrev stamp : (client nonce address : ℕ) → Stamp
stamp c n a = record { client = c; nonce = n; address = a }

pub same-is : (x y : Stamp) → same x y ≡ true → x ≡ y
same-is x y e =
    let p = and_parts (eqb x.client y.client) (eqb x.address y.address && eqb x.nonce y.nonce) e in
    let q = and_parts (eqb x.address y.address) (eqb x.nonce y.nonce) p.1 in
    let a : x.client ≡ y.client = eqb-true x.client y.client p.0 in
    let b : x.nonce ≡ y.nonce = eqb-true x.nonce y.nonce q.1 in
    let c : x.address ≡ y.address = eqb-true x.address y.address q.0 in
    ap (λ (q : ℕ). stamp q x.nonce x.address) a ∙ ap (λ (q : ℕ). stamp y.client q x.address) b ∙ ap (λ (q : ℕ). stamp y.client y.nonce q) c

pub same_self : (x : Stamp) → same x x ≡ true
same_self x =
    and_from (eqb x.client x.client) (eqb x.address x.address && eqb x.nonce x.nonce) (eq-eqb x.client x.client refl)
    (and_from (eqb x.address x.address) (eqb x.nonce x.nonce) (eq-eqb x.address x.address refl) (eq-eqb x.nonce x.nonce refl))

found : (x : Stamp) (xs : List Stamp) → member x xs ≡ true → In x xs
found x [] e = absurd (both_ways false refl e)
found x (y ∷ ys) e =
    elim (or_cases (same x y) (member x ys) e) [
      | inl s ↦ ([], (ys, ap (λ (z : Stamp). z ∷ ys) (sym (same-is x y s))))
      | inr m ↦ let k = found x ys m in (y ∷ k.0, (k.1.0, ap (λ (zs : List Stamp). y ∷ zs) k.1.1))
    ]

front : (x : Stamp) (ys zs : List Stamp) → member x (ys ++ x ∷ zs) ≡ true
front x [] zs = elim (same x x) as (λ v. same x x ≡ v → (v || member x zs) ≡ true) [ true ↦ λ e. refl | false ↦ λ e. absurd (both_ways (same x x) e (same_self x)) ] refl
front x (y ∷ ys) zs = elim (same x y) as (λ v. (v || member x (ys ++ x ∷ zs)) ≡ true) [ true ↦ refl | false ↦ front x ys zs ]

pub members_are_in : MembersAreIn
members_are_in = record { found = found; there = λ x xs k. ap (λ (ys : List Stamp). member x ys) k.1.1 ∙ front x k.0 k.1.0 }
