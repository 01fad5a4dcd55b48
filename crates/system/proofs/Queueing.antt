-- Nonces that are lent and used, each once.
-- Assumes nothing.
use Rattle.std.proofs.Common.{◌≡◌, ℕ, Bool, true, false, ◌||◌, eqb, ◌⊎◌, List, [], ◌∷◌, ◌++◌, Some, sym, refl, subst, inl, inr}
use Rattle.std.proofs.lemmas.Bool.{both_ways, cases_Bool, eqb-true, eq-eqb, or_parts, or_left, or_right}
use Rattle.lease.specs.World.{elem}
use Rattle.wire.specs.declared.message.Message.{Message}
use Rattle.wire.specs.declared.message.Message.TheVariants.{Request, Grant, Settings, Tick, Crash, Restart, OwnNumber, Nonce, InUse, NoAddress, Fault}
use Rattle.client.specs.Client.{lends}
use Rattle.client.specs.Nonces.{Distinct}
use Rattle.system.specs.Watch.{any_in, nonce_in}

pub lends-is : (m : Message) → nonce_in (Some m) ≡ lends m
lends-is (Request r) = refl
lends-is (Grant g) = refl
lends-is (Settings n t k) = refl
lends-is Tick = refl
lends-is Crash = refl
lends-is (Restart clock) = refl
lends-is (OwnNumber n) = refl
lends-is (Nonce n) = refl
lends-is (InUse a u) = refl
lends-is NoAddress = refl
lends-is (Fault f) = refl

or_either : (a b : Bool) → (a || b) ≡ true → (a ≡ true) ⊎ (b ≡ true)
or_either true b e = inl refl
or_either false b e = inr e

pub elem_either : (n : ℕ) (xs ys : List ℕ) → elem n (xs ++ ys) ≡ true → (elem n xs ≡ true) ⊎ (elem n ys ≡ true)
unfolding elem
elem_either n [] ys e = inr e
elem_either n (x ∷ xs) ys e =
    elim (or_either (eqb n x) (elem n (xs ++ ys)) e) [
      | inl a ↦ inl (or_left (eqb n x) (elem n xs) a)
      | inr a ↦ elim (elem_either n xs ys a) [
        | inl c ↦ inl (or_right (eqb n x) (elem n xs) c)
        | inr c ↦ inr c
      ]
    ]

pub elem_front : (n : ℕ) (xs ys : List ℕ) → elem n xs ≡ true → elem n (xs ++ ys) ≡ true
unfolding elem
elem_front n [] ys e = absurd (both_ways false refl e)
elem_front n (x ∷ xs) ys e =
    elim (or_either (eqb n x) (elem n xs) e) [
      | inl a ↦ or_left (eqb n x) (elem n (xs ++ ys)) a
      | inr a ↦ or_right (eqb n x) (elem n (xs ++ ys)) (elem_front n xs ys a)
    ]

pub elem_back : (n : ℕ) (xs ys : List ℕ) → elem n ys ≡ true → elem n (xs ++ ys) ≡ true
unfolding elem
elem_back n [] ys e = e
elem_back n (x ∷ xs) ys e = or_right (eqb n x) (elem n (xs ++ ys)) (elem_back n xs ys e)

pub elem_not : (n : ℕ) (xs : List ℕ) → (elem n xs ≡ true → ⊥) → elem n xs ≡ false
elem_not n xs h = elim (cases_Bool (elem n xs)) [ inl e ↦ absurd (h e) | inr e ↦ e ]

pub elem-here : (n : ℕ) (xs : List ℕ) → elem n (n ∷ xs) ≡ true
unfolding elem
elem-here n xs = or_left (eqb n n) (elem n xs) (eq-eqb n n refl)

pub elem-later : (n m : ℕ) (xs : List ℕ) → elem n xs ≡ true → elem n (m ∷ xs) ≡ true
unfolding elem
elem-later n m xs e = or_right (eqb n m) (elem n xs) e

pub elem-one : (n m : ℕ) (xs : List ℕ) → elem n (m ∷ xs) ≡ true → (n ≡ m) ⊎ (elem n xs ≡ true)
unfolding elem
elem-one n m xs e = elim (or_either (eqb n m) (elem n xs) e) [ inl a ↦ inl (eqb-true n m a) | inr a ↦ inr a ]

-- those that come behind are others
pub distinct_join : (xs ys : List ℕ) → Distinct xs → Distinct ys → ((n : ℕ) → elem n xs ≡ true → elem n ys ≡ true → ⊥) → Distinct (xs ++ ys)
unfolding Distinct
distinct_join [] ys d e h = e
distinct_join (x ∷ xs) ys d e h = (
  elem_not x (xs ++ ys) (λ a. elim (elem_either x xs ys a) [
    | inl c ↦ both_ways _ d.0 c
    | inr c ↦ h x (elem-here x xs) c
  ]),
  distinct_join xs ys d.1 e (λ n a c. h n (elem-later n x xs a) c),
)

pub distinct_head : (n : ℕ) (ns : List ℕ) → Distinct (n ∷ ns) → (elem n ns ≡ false) × Distinct ns
unfolding Distinct
distinct_head n ns d = d

pub lent_distinct : (m : Message) → Distinct (lends m)
unfolding Distinct elem
lent_distinct (Request r) = tt
lent_distinct (Grant g) = tt
lent_distinct (Settings n t k) = tt
lent_distinct Tick = tt
lent_distinct Crash = tt
lent_distinct (Restart clock) = tt
lent_distinct (OwnNumber n) = tt
lent_distinct (Nonce n) = (refl, tt)
lent_distinct (InUse a u) = tt
lent_distinct NoAddress = tt
lent_distinct (Fault f) = tt

-- none of these is among those
pub none_in : (ms ns : List ℕ) → any_in ms ns ≡ false → (n : ℕ) → elem n ms ≡ true → elem n ns ≡ false
unfolding elem
none_in [] ns e n h = absurd (both_ways false refl h)
none_in (m ∷ ms) ns e n h =
    let p : (elem m ns ≡ false) × (any_in ms ns ≡ false) = or_parts (elem m ns) (any_in ms ns) e in
    elim (elem-one n m ms h) [
      | inl s ↦ subst (λ (z : ℕ). elem z ns ≡ false) (sym s) p.0
      | inr s ↦ none_in ms ns p.1 n s
    ]
