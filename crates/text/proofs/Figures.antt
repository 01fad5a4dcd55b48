-- The numbers of a line, one by one.
use Rattle.std.proofs.Common.{◌≡◌, ℕ, suc, ◌+◌, ◌<◌, ◌≤◌, List, [], ◌∷◌, length, get_or, slice_set, Ok, Err, Result, sym, refl, ap, ◌∙◌, subst, add-zero, zero-add, arith}
use Rattle.text.specs.declared.fault.Mistake.{Mistake}
use Rattle.text.specs.declared.field.Field.{Field}
use Rattle.text.specs.declared.kind.Kind.{Kind}
use Rattle.text.specs.declared.kind.Kind.TheVariants as k
use Rattle.text.specs.Field.{range}
use Rattle.text.specs.Kind.{fields}
use Rattle.text.specs.Sentence.{Fitting, FittingFrom, figures}
use Rattle.text.specs.Speech.{Words, figure_at, figure_before, figures_of, padded, figures_at}

-- the numbers before this place are at most what their fields can hold
abbrev pub Held : List Field → List ℕ → ℕ → Type 0
Held fs ns i = (k : ℕ) (x : Field) → k < i → get_or ns k 0 ≤ (range (get_or fs k x)).most

fitting_from : (fs : List Field) (ns : List ℕ) (i : ℕ) → ((k : ℕ) (x : Field) → k < length fs → get_or ns (i + k) 0 ≤ (range (get_or fs k x)).most) → FittingFrom i fs ns
fitting_from [] ns i h = tt
fitting_from (f ∷ fs) ns i h =
    let first : i + 0 ≡ i = add-zero i in (
      subst (λ (j : ℕ). get_or ns j 0 ≤ (range f).most) first (h 0 f (omega arith)),
      fitting_from fs ns (i + 1) (λ k x l.
          let next : i + suc k ≡ i + 1 + k = omega arith in
          subst (λ (j : ℕ). get_or ns j 0 ≤ (range (get_or fs k x)).most) next (h (suc k) x (omega arith))),
    )

pub fitting : (fs : List Field) (ns : List ℕ) (i : ℕ) → length fs ≤ i → Held fs ns i → Fitting fs ns
fitting fs ns i h held =
    fitting_from fs ns 0 (λ k x l. subst (λ (j : ℕ). get_or ns j 0 ≤ (range (get_or fs k x)).most) (sym (zero-add k)) (held k x (omega arith)))

abbrev pub with_figure : ℕ → List ℕ → Result ℕ Mistake → Result (List ℕ) Mistake
with_figure i ns (Err m) = Err m
with_figure i ns (Ok n) = Ok (slice_set ns i n)

-- step by step: the numbers so far, and the fields still to come, from this one on
abbrev pub figures_on : ℕ → ℕ → Words → List Field → Result (List ℕ) Mistake → Result (List ℕ) Mistake
figures_on i place ws [] r = r
figures_on i place ws (f ∷ fs) (Err m) = Err m
figures_on i place ws (f ∷ fs) (Ok ns) =
    figures_on (i + 1) place ws fs (with_figure i ns (figure_at f (place + i) ws))

-- numbers written over others, from this one on
abbrev over : ℕ → List ℕ → List ℕ → List ℕ
over i ns [] = ns
over i ns (m ∷ ms) = over (i + 1) (slice_set ns i m) ms

abbrev laid_over : ℕ → List ℕ → Result (List ℕ) Mistake → Result (List ℕ) Mistake
laid_over i ns (Err m) = Err m
laid_over i ns (Ok ms) = Ok (over i ns ms)

failed : (i place : ℕ) (ws : Words) (fs : List Field) (m : Mistake) → figures_on i place ws fs (Err m) ≡ Err m
failed i place ws [] m = refl
failed i place ws (f ∷ fs) m = refl

laid : (i n : ℕ) (ns : List ℕ) (r : Result (List ℕ) Mistake) → laid_over (i + 1) (slice_set ns i n) r ≡ laid_over i ns (figure_before (Ok n) r)
laid i n ns (Err m) = refl
laid i n ns (Ok ms) = refl

by_figure : (i place : ℕ) (ws : Words) (fs : List Field) (ns : List ℕ) (q : Result ℕ Mistake) (r : Result (List ℕ) Mistake) → ((n : ℕ) → figures_on (i + 1) place ws fs (Ok (slice_set ns i n)) ≡ laid_over (i + 1) (slice_set ns i n) r) → figures_on (i + 1) place ws fs (with_figure i ns q) ≡ laid_over i ns (figure_before q r)
by_figure i place ws fs ns (Err m) r h = failed (i + 1) place ws fs m
by_figure i place ws fs ns (Ok n) r h = h n ∙ laid i n ns r

on_laid : (i place : ℕ) (ws : Words) (fs : List Field) (ns : List ℕ) → figures_on i place ws fs (Ok ns) ≡ laid_over i ns (figures_of (place + i) ws fs)
on_laid i place ws [] ns = refl
on_laid i place ws (f ∷ fs) ns =
    let next : place + (i + 1) ≡ place + i + 1 = omega arith in
    by_figure i place ws fs ns (figure_at f (place + i) ws) (figures_of (place + i + 1) ws fs) (λ n. on_laid (i + 1) place ws fs (slice_set ns i n) ∙ ap (λ (p : ℕ). laid_over (i + 1) (slice_set ns i n) (figures_of p ws fs)) next)

-- how many there are is how many fields
abbrev Few : Result (List ℕ) Mistake → List Field → Type 0
Few (Err m) fs = Unit {0}
Few (Ok ns) fs = length ns ≡ length fs

few_before : (q : Result ℕ Mistake) (r : Result (List ℕ) Mistake) (f : Field) (fs : List Field) → Few r fs → Few (figure_before q r) (f ∷ fs)
few_before (Err m) r f fs h = tt
few_before (Ok n) (Err m) f fs h = tt
few_before (Ok n) (Ok ns) f fs h = ap suc h

few : (place : ℕ) (ws : Words) (fs : List Field) → Few (figures_of place ws fs) fs
few place ws [] = refl
few place ws (f ∷ fs) = few_before (figure_at f place ws) (figures_of (place + 1) ws fs) f fs (few (place + 1) ws fs)

padded-laid : (r : Result (List ℕ) Mistake) (fs : List Field) → Few r fs → length fs ≤ 3 → laid_over 0 (figures 0 0 0) r ≡ padded r
padded-laid (Err m) fs h l = refl
padded-laid (Ok []) fs h l = refl
padded-laid (Ok (a ∷ [])) fs h l = refl
padded-laid (Ok (a ∷ b ∷ [])) fs h l = refl
padded-laid (Ok (a ∷ b ∷ c ∷ [])) fs h l = refl
padded-laid (Ok (a ∷ b ∷ c ∷ d ∷ ns)) fs h l = absurd (omega (arith, h, l))

at_most_three : (x : Kind) → length (fields x) ≤ 3
at_most_three k.Settings = omega arith
at_most_three k.Number = omega arith
at_most_three k.Nonce = omega arith
at_most_three k.Request = omega arith
at_most_three k.Grant = omega arith
at_most_three k.Crash = omega arith
at_most_three k.Restart = omega arith
at_most_three k.InUse = omega arith
at_most_three k.NoAddress = omega arith
at_most_three k.Fault = omega arith

-- step by step they are what they are at once
pub stepwise : (x : Kind) (place : ℕ) (ws : Words) → figures_on 0 place ws (fields x) (Ok (figures 0 0 0)) ≡ figures_at x place ws
stepwise x place ws =
    on_laid 0 place ws (fields x) (figures 0 0 0)
    ∙ (ap (λ (p : ℕ). laid_over 0 (figures 0 0 0) (figures_of p ws (fields x))) (add-zero place) ∙ padded-laid (figures_of place ws (fields x)) (fields x) (few place ws (fields x)) (at_most_three x))
