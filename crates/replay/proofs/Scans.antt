-- Scans over places, as scans of a list.
-- Assumes nothing.
use Rattle.std.proofs.Common.{◌≡◌, ℕ, zero, suc, ◌+◌, ◌<◌, ◌≤◌, Bool, true, false, ◌||◌, List, [], ◌∷◌, length, get_or, take, Some, None, Option, cond, sym, refl, ap, ◌∙◌, zero-add, add-zero, arith}
use Rattle.std.specs.Option.{option_map}
use Rattle.std.specs.List.{enumerate_from, find, list_any}
use Rattle.std.proofs.lemmas.List.{take_all}
use Rattle.std.proofs.lemmas.List.Folds.{list_any_more}
use Rattle.std.proofs.lemmas.List.FromFn.{length-enumerate_from, get_or-enumerate_from}
use Rattle.lease.specs.Choosing.{lowest}
use Rattle.system.specs.Watch.{any_below}

or_swapped : (a b : Bool) → (a || b) ≡ (b || a)
or_swapped true true = refl
or_swapped true false = refl
or_swapped false true = refl
or_swapped false false = refl

any_front : {A : Type 0} (p : A → Bool) (xs : List A) (d : A) (n : ℕ) → n ≤ length xs → any_below (λ i. p (get_or xs i d)) n ≡ list_any p (take n xs)
unfolding any_below
any_front p xs d zero h = refl
any_front p xs d (suc n) h =
    let one : suc n ≡ n + 1 = omega arith in
    or_swapped (p (get_or xs n d)) (any_below (λ i. p (get_or xs i d)) n)
    ∙ ap (λ (b : Bool). b || p (get_or xs n d)) (any_front p xs d n (omega arith))
    ∙ sym (list_any_more p xs n d (omega arith))
    ∙ ap (λ (k : ℕ). list_any p (take k xs)) (sym one)

any_same : (f g : ℕ → Bool) (n : ℕ) → ((i : ℕ) → i < n → f i ≡ g i) → any_below f n ≡ any_below g n
unfolding any_below
any_same f g zero k = refl
any_same f g (suc n) k = ap (λ (b : Bool). b || any_below f n) (k n (omega arith)) ∙ ap (λ (b : Bool). g n || b) (any_same f g n (λ i h. k i (omega arith)))

-- some item of a list passes
pub any_listed : {A : Type 0} (p : A → Bool) (xs : List A) (d : A) (n : ℕ) → length xs ≡ n → list_any p xs ≡ any_below (λ i. p (get_or xs i d)) n
any_listed p xs d n e = ap (list_any p) (sym (take_all n xs (omega arith))) ∙ sym (any_front p xs d n (omega arith))

-- some item passes with its place
pub any_placed : {A : Type 0} (p : ℕ × A → Bool) (test : ℕ → Bool) (xs : List A) (d : A) (n : ℕ) → length xs ≡ n → ((i : ℕ) → i < n → p (i, get_or xs i d) ≡ test i) → list_any p (enumerate_from 0 xs) ≡ any_below test n
any_placed {A} p test xs d n e k =
    any_listed p (enumerate_from 0 xs) (0, d) n (length-enumerate_from 0 xs ∙ e)
    ∙ any_same (λ i. p (get_or (enumerate_from 0 xs) i (0, d))) test n
    (λ i h. ap p (get_or-enumerate_from 0 xs i (0, d) (omega arith)) ∙ ap (λ (j : ℕ). p (j, get_or xs i d)) (zero-add i) ∙ k i h)

place_in : {A : Type 0} (b : Bool) (x : ℕ × A) (o : Option (ℕ × A)) → option_map (λ q. q.0) (cond b (Some x) o) ≡ cond b (Some x.0) (option_map (λ q. q.0) o)
place_in true x o = refl
place_in false x o = refl

found_from : {A : Type 0} (p : ℕ × A → Bool) (test : ℕ → Bool) (xs : List A) (a : ℕ) → ((i : ℕ) (x : A) → i < length xs → x ≡ get_or xs i x → p (a + i, x) ≡ test (a + i)) →
    option_map (λ q. q.0) (find p (enumerate_from a xs)) ≡ lowest test a (length xs)
unfolding lowest
found_from p test [] a k = refl
found_from {A} p test (x ∷ xs) a k =
    let here : p (a, x) ≡ test a = ap (λ (j : ℕ). p (j, x)) (sym (add-zero a)) ∙ k 0 x (omega arith) refl ∙ ap test (add-zero a) in
    place_in (p (a, x)) (a, x) (find p (enumerate_from (a + 1) xs))
    ∙ ap (λ (b : Bool). cond b (Some a) (option_map (λ q. q.0) (find p (enumerate_from (a + 1) xs)))) here
    ∙ ap (λ (o : Option ℕ). cond (test a) (Some a) o)
    (found_from p test xs (a + 1)
    (λ i y h e. let s : a + 1 + i ≡ a + suc i = omega arith in ap (λ (j : ℕ). p (j, y)) s ∙ k (suc i) y (omega arith) e ∙ ap test (sym s)))

-- the place of the first item that passes
pub found_placed : {A : Type 0} (p : ℕ × A → Bool) (test : ℕ → Bool) (xs : List A) (n : ℕ) → length xs ≡ n → ((i : ℕ) (x : A) → i < length xs → x ≡ get_or xs i x → p (i, x) ≡ test i) →
    option_map (λ q. q.0) (find p (enumerate_from 0 xs)) ≡ lowest test 0 n
found_placed p test xs n e k =
    found_from p test xs 0 (λ i x h r. ap (λ (j : ℕ). p (j, x)) (zero-add i) ∙ k i x h r ∙ ap test (sym (zero-add i)))
    ∙ ap (λ (m : ℕ). lowest test 0 m) e

-- of what was found the place is asked
pub place_of_found : {A B : Type 0} (f : A → B) (o : Option (ℕ × A)) → option_map (λ (q : ℕ × A). q.0) o ≡ option_map (λ (q : ℕ × B). q.0) (option_map {T = ℕ × A} {U = ℕ × B} (λ (q : ℕ × A). (q.0, f q.1)) o)
place_of_found f None = refl
place_of_found f (Some q) = refl
