-- What holds of each step, over whole runs.
-- Assumes nothing.
use Rattle.std.proofs.Common.{◌≡◌, ℕ, false, eqb, List, [], ◌∷◌, ◌++◌, None, Option, sym, refl, ap, ◌∙◌, subst}
use Rattle.std.proofs.lemmas.Bool.{or_parts, or_from}
use Rattle.std.proofs.lemmas.List.{append_assoc}
use Rattle.lease.specs.declared.message.Request as lent
use Rattle.lease.specs.Holding.{Use}
use Rattle.lease.specs.World.{elem}
use Rattle.client.specs.Client.{Step, lent, hears}
use Rattle.client.specs.Run.{client, said}
use Rattle.client.specs.Telling.{told, Told}
use Rattle.client.specs.Nonces.{requests, nonces, came, InOrder, Distinct, UsedOnce}
use Rattle.client.proofs.Steps.{told-++, requests-++, laws}

pub always-told : Told
unfolding told said client
always-told [] = refl
always-told (b ∷ bs) =
    told-++ (said bs) (hears b (client bs)).says None
    ∙ ap (λ (o : Option Use). told (hears b (client bs)).says o) (always-told bs)
    ∙ (laws b (client bs)).tells

nonces-++ : (rs qs : List lent.Request) → nonces (rs ++ qs) ≡ nonces rs ++ nonces qs
unfolding nonces
nonces-++ [] qs = refl
nonces-++ (r ∷ rs) qs = ap (λ (l : List ℕ). r.nonce ∷ l) (nonces-++ rs qs)

pub in_order : InOrder
unfolding requests nonces came said client
in_order [] = refl
in_order (b ∷ bs) =
    let p : Step = hears b (client bs) in
    let old : List ℕ = nonces (requests (said bs)) in
    ap (λ (l : List ℕ). l ++ lent b) (in_order bs)
    ∙ append_assoc old (client bs).nonces (lent b)
    ∙ ap (λ (l : List ℕ). old ++ l) (laws b (client bs)).in_order
    ∙ sym (append_assoc old (nonces (requests p.says)) p.client.nonces)
    ∙ ap (λ (l : List ℕ). l ++ p.client.nonces) (sym (nonces-++ (requests (said bs)) (requests p.says)) ∙ ap nonces (sym (requests-++ (said bs) p.says)))

absent-before : (n : ℕ) (xs ys : List ℕ) → elem n (xs ++ ys) ≡ false → elem n xs ≡ false
unfolding elem
absent-before n [] ys e = refl
absent-before n (x ∷ xs) ys e =
    let p : (eqb n x ≡ false) × (elem n (xs ++ ys) ≡ false) = or_parts (eqb n x) (elem n (xs ++ ys)) e in
    or_from (eqb n x) (elem n xs) p.0 (absent-before n xs ys p.1)

distinct_before : (xs ys : List ℕ) → Distinct (xs ++ ys) → Distinct xs
unfolding Distinct
distinct_before [] ys d = tt
distinct_before (x ∷ xs) ys d = (absent-before x xs ys d.0, distinct_before xs ys d.1)

pub used-once : UsedOnce
used-once bs d = distinct_before (nonces (requests (said bs))) (client bs).nonces (subst Distinct (in_order bs) d)
