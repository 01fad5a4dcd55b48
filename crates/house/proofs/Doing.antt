-- One thing done after the other.
use Rattle.std.proofs.Common.{◌≡◌, ℕ, zero, suc, ◌+◌, ◌<◌, List, [], ◌∷◌, ◌++◌, length, get_or, take, drop, Ok, Err, Result, sym, refl, ap, ◌∙◌, subst, inl, inr, add-one, arith}
use Rattle.std.proofs.lemmas.List.{append-nil, append_assoc, flat_map_more, take-append-drop, take_more}
use Rattle.std.proofs.lemmas.List.Concat.{flat_map-append}
use Rattle.std.proofs.lemmas.Bool.{cases_eq}
use Rattle.server.specs.declared.effect.Effect.{Effect}
use Rattle.stream.specs.declared.hearer.Stop.{Stop}
use Rattle.house.specs.Acts.{Act, Wrote, Synced, Bytes, saved, saves, acts, acts_of, Grows, Partly, Does}

pub nothing : {O : Type 0} (did : O → List Act → Type 0) (a : O) → Grows did a [] a
nothing did a before h = subst (did a) (sym (append-nil before)) h

pub more : {O : Type 0} (did : O → List Act → Type 0) (a b c : O) (xs ys : List Act) → Grows did a xs b → Grows did b ys c → Grows did a (xs ++ ys) c
more did a b c xs ys g h before k = subst (did c) (append_assoc before xs ys) (h (before ++ xs) (g before k))

pub fails-first : {O : Type 0} (did : O → List Act → Type 0) (a b : O) (xs ys : List Act) → Partly did a xs b → Partly did a (xs ++ ys) b
fails-first did a b xs ys p =
    record {
      done = p.done;
      failed = p.failed;
      undone = p.undone ++ ys;
      split = ap (λ (x : List Act). x ++ ys) p.split ∙ append_assoc p.done (p.failed ∷ p.undone) ys;
      grows = p.grows;
    }

pub fails-later : {O : Type 0} (did : O → List Act → Type 0) (a b c : O) (xs ys : List Act) → Grows did a xs b → Partly did b ys c → Partly did a (xs ++ ys) c
fails-later did a b c xs ys g p =
    record {
      done = xs ++ p.done;
      failed = p.failed;
      undone = p.undone;
      split = ap (λ (y : List Act). xs ++ y) p.split ∙ sym (append_assoc xs p.done (p.failed ∷ p.undone));
      grows = more did a b c xs p.done g p.grows;
    }

-- nothing of it was begun
pub unbegun : {O : Type 0} (did : O → List Act → Type 0) (a : O) (x : Act) (xs : List Act) → Partly did a (x ∷ xs) a
unbegun did a x xs = record { done = []; failed = x; undone = xs; split = refl; grows = nothing did a }

pub does-next : {O : Type 0} (did : O → List Act → Type 0) (a b c : O) (xs ys : List Act) (r : Result Unit Stop)
    → Grows did a xs b → Does did b ys r c → Does did a (xs ++ ys) r c
does-next did a b c xs ys (Ok x) g d = more did a b c xs ys g d
does-next did a b c xs ys (Err e) g d = fails-later did a b c xs ys g d

-- the first places were saved, and the next was not: so much for all of them
pub saves_fail : {O : Type 0} (did : O → List Act → Type 0) (a b : O) (p : Bytes) (f i n : ℕ) → i < n → Partly did a (saves p f (suc i)) b → Partly did a (saves p f n) b
unfolding saves
saves_fail did a b p f i zero h k = absurd (omega arith)
saves_fail did a b p f i (suc n) h k =
    elim (cases_eq i n) [
      | inl e ↦ subst (λ (x : ℕ). Partly did a (saves p f (suc x)) b) e k
      | inr ne ↦ fails-first did a b (saves p f n) (saved p (f + n)) (saves_fail did a b p f i n (omega arith) k)
    ]

pub saves-more : {O : Type 0} (did : O → List Act → Type 0) (a b c : O) (p : Bytes) (f i : ℕ)
    → Grows did a (saves p f i) b → Grows did b (saved p (f + i)) c → Grows did a (saves p f (i + 1)) c
unfolding saves
saves-more did a b c p f i g h = rw add-one (more did a b c (saves p f i) (saved p (f + i)) g h)

pub saves_stop : {O : Type 0} (did : O → List Act → Type 0) (a b c : O) (p : Bytes) (f i n : ℕ) → i < n
    → Grows did a (saves p f i) b → Partly did b (saved p (f + i)) c → Partly did a (saves p f n) c
unfolding saves
saves_stop did a b c p f i n l g h = saves_fail did a c p f i n l (fails-later did a b c (saves p f i) (saved p (f + i)) g h)

pub saves-none : {O : Type 0} (did : O → List Act → Type 0) (a : O) (p : Bytes) (f : ℕ) → Grows did a (saves p f 0) a
unfolding saves
saves-none did a p f = nothing did a

-- where there is something to save, none of it
pub saves_unbegun : {O : Type 0} (did : O → List Act → Type 0) (a : O) (p : Bytes) (f n : ℕ) → 0 < n → Partly did a (saves p f n) a
unfolding saves
saves_unbegun did a p f n l = saves_fail did a a p f 0 n l (unbegun did a (Wrote (f + 0) (p (f + 0))) (Synced ∷ []))

acts-next : (p : Bytes) (es : List Effect) (i : ℕ) (d : Effect) → i < length es → acts p (take (i + 1) es) ≡ acts p (take i es) ++ acts_of p (get_or es i d)
acts-next p es i d h = ap (acts p) (take_more es i d h) ∙ sym (flat_map_more (acts_of p) [] (take i es) (get_or es i d))

acts-split : (p : Bytes) (es : List Effect) (n : ℕ) → acts p es ≡ acts p (take n es) ++ acts p (drop n es)
acts-split p es n = ap (acts p) (sym (take-append-drop n es)) ∙ flat_map-append (acts_of p) (take n es) (drop n es)

pub acts_stop : {O : Type 0} (did : O → List Act → Type 0) (a b c : O) (p : Bytes) (es : List Effect) (i : ℕ) (d : Effect) → i < length es
    → Grows did a (acts p (take i es)) b → Partly did b (acts_of p (get_or es i d)) c → Partly did a (acts p es) c
acts_stop did a b c p es i d l g h =
    subst (λ xs. Partly did a xs c) (sym (acts-split p es (i + 1)))
    (fails-first did a c (acts p (take (i + 1) es)) (acts p (drop (i + 1) es))
    (subst (λ xs. Partly did a xs c) (sym (acts-next p es i d l)) (fails-later did a b c (acts p (take i es)) (acts_of p (get_or es i d)) g h)))

-- of a file nothing is said
pub untold : {O : Type 0} (a b : O) (x : Act) (r : Result Unit Stop) → Does (λ _ _. Unit {0}) a (x ∷ []) r b
untold a b x (Ok u) = λ before h. tt
untold a b x (Err e) = record { done = []; failed = x; undone = []; split = refl; grows = λ before h. tt }
