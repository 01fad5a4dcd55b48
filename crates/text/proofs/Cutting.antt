-- Where a text is cut into pieces, and which words a line has.
use Rattle.std.proofs.Common.{◌≡◌, ℕ, zero, suc, ◌<◌, ◌≤◌, Bool, true, false, cond, not, eqb, ◌⊎◌, inl, inr, List, [], ◌∷◌, ◌++◌, length, get_or, filter, Some, None, Option, MatchOption, Bor, sym, refl, ap, subst, ◌∙◌, arith}
use Rattle.std.proofs.lemmas.Bool.{cond-true, ne_eqb}
use Rattle.std.specs.List.{slice_split, onto_first, slice_get}
use Rattle.std.proofs.lemmas.Option.{unwrap_or-slice_get}
use Rattle.std.specs.Option.{is_some, option_map, unwrap_or}
use Rattle.text.specs.Pieces.{onto, pieces, before, filled}

-- what `split` gives
abbrev pub cut : ℕ → List ℕ → List (List ℕ)
cut end bs = slice_split (λ b. eqb b end) bs

-- these are the pieces, maybe with an empty one behind them
abbrev pub Cut : (qs ps : List (List ℕ)) → Type 0
Cut qs ps = (qs ≡ ps) ⊎ (qs ≡ ps ++ [] ∷ [])

longer : (b : ℕ) (ps : List (List ℕ)) → Cut (onto_first b (ps ++ [] ∷ [])) (onto b ps)
longer b [] = inl refl
longer b (p ∷ ps) = inr refl

same : (b : ℕ) (ps : List (List ℕ)) → onto_first b ps ≡ onto b ps
same b [] = refl
same b (p ∷ ps) = refl

further : (t : Bool) (b : ℕ) (qs ps : List (List ℕ)) → Cut qs ps → Cut (cond t ([] ∷ qs) (onto_first b qs)) (cond t ([] ∷ ps) (onto b ps))
further true b qs ps (inl e) = inl (ap (λ (l : List (List ℕ)). [] ∷ l) e)
further true b qs ps (inr e) = inr (ap (λ (l : List (List ℕ)). [] ∷ l) e)
further false b qs ps (inl e) = inl (ap (onto_first b) e ∙ same b ps)
further false b qs ps (inr e) = subst (λ (l : List (List ℕ)). Cut (onto_first b l) (onto b ps)) (sym e) (longer b ps)

pub cut_pieces : (end : ℕ) (bs : List ℕ) → Cut (cut end bs) (pieces end bs)
cut_pieces end [] = inr refl
cut_pieces end (b ∷ bs) = further (eqb b end) b (cut end bs) (pieces end bs) (cut_pieces end bs)

-- an empty piece behind the others changes no place
at-end : (ps : List (List ℕ)) (k : ℕ) → get_or (ps ++ [] ∷ []) k [] ≡ get_or ps k []
at-end [] zero = refl
at-end [] (suc k) = refl
at-end (p ∷ ps) zero = refl
at-end (p ∷ ps) (suc k) = at-end ps k

at-cut : (qs ps : List (List ℕ)) (k : ℕ) → Cut qs ps → get_or qs k [] ≡ get_or ps k []
at-cut qs ps k (inl e) = ap (λ (l : List (List ℕ)). get_or l k []) e
at-cut qs ps k (inr e) = ap (λ (l : List (List ℕ)). get_or l k []) e ∙ at-end ps k

pub cut_at : (end : ℕ) (bs : List ℕ) (k : ℕ) → get_or (cut end bs) k [] ≡ get_or (pieces end bs) k []
cut_at end bs k = at-cut (cut end bs) (pieces end bs) k (cut_pieces end bs)

abbrev pub full : List ℕ → Bool
full w = not (eqb (length w) 0)

filled_filter : (ps : List (List ℕ)) → filter full ps ≡ filled ps
filled_filter [] = refl
filled_filter ([] ∷ ps) = filled_filter ps
filled_filter ((b ∷ w) ∷ ps) =
    cond-true (full (b ∷ w)) ((b ∷ w) ∷ filter full ps) (filter full ps) (ap not (ne_eqb (length (b ∷ w)) 0 (λ e. omega arith)))
    ∙ ap (λ (l : List (List ℕ)). (b ∷ w) ∷ l) (filled_filter ps)

filled_end : (ps : List (List ℕ)) → filled (ps ++ [] ∷ []) ≡ filled ps
filled_end [] = refl
filled_end ([] ∷ ps) = filled_end ps
filled_end ((b ∷ w) ∷ ps) = ap (λ (l : List (List ℕ)). (b ∷ w) ∷ l) (filled_end ps)

filled-cut : (qs ps : List (List ℕ)) → Cut qs ps → filled qs ≡ filled ps
filled-cut qs ps (inl e) = ap filled e
filled-cut qs ps (inr e) = ap filled e ∙ filled_end ps

-- the words of what stands before a comment
pub filter_cut : (end : ℕ) (bs : List ℕ) → filter full (cut end bs) ≡ filled (pieces end bs)
filter_cut end bs = filled_filter (cut end bs) ∙ filled-cut (cut end bs) (pieces end bs) (cut_pieces end bs)

begins : (t : Bool) (b : ℕ) (qs : List (List ℕ)) (d w : List ℕ) → ((e : List ℕ) → get_or qs 0 e ≡ w) → get_or (cond t ([] ∷ qs) (onto_first b qs)) 0 d ≡ cond t [] (b ∷ w)
begins true b qs d w e = refl
begins false b [] d w e = ap (λ (l : List ℕ). b ∷ l) (e [])
begins false b (q ∷ qs) d w e = ap (λ (l : List ℕ). b ∷ l) (e [])

pub before_cut : (end : ℕ) (bs d : List ℕ) → get_or (cut end bs) 0 d ≡ before end bs
before_cut end [] d = refl
before_cut end (b ∷ bs) d = begins (eqb b end) b (cut end bs) d (before end bs) (λ e. before_cut end bs e)

pub filled-some : (w : List ℕ) (ps : List (List ℕ)) → 0 < length w → filled (w ∷ ps) ≡ w ∷ filled ps
filled-some [] ps h = absurd (omega arith)
filled-some (b ∷ w) ps h = refl

-- one call came to the place of the first item
pub at_once : (r : Option (Bor (List ℕ))) → MatchOption r (0 ≤ 0) (λ _. ◌≡◌ {A = ℕ} 0 0)
at_once None = omega arith
at_once (Some x) = refl

pub shown : (r : Option (Bor (List ℕ))) (d : Bor (List ℕ)) → (unwrap_or r d).now ≡ unwrap_or (option_map (λ (x : Bor (List ℕ)). x.now) r) d.now
shown None d = refl
shown (Some x) d = refl

-- the item at a place, or else what stands in for it
pub item_or : (r : Option (Bor (List ℕ))) (d : Bor (List ℕ)) (all : List (List ℕ)) (k : ℕ) → option_map (λ (x : Bor (List ℕ)). x.now) r ≡ slice_get all k → (unwrap_or r d).now ≡ get_or all k d.now
item_or r d all k e = shown r d ∙ (ap (λ (o : Option (List ℕ)). unwrap_or o d.now) e ∙ unwrap_or-slice_get all k d.now)

-- no word is empty
some_full : (ps : List (List ℕ)) (k : ℕ) → is_some (slice_get (filled ps) k) ≡ full (get_or (filled ps) k [])
some_full [] k = refl
some_full ([] ∷ ps) k = some_full ps k
some_full ((b ∷ w) ∷ ps) zero = sym (ap not (ne_eqb (length (b ∷ w)) 0 (λ e. omega arith)))
some_full ((b ∷ w) ∷ ps) (suc k) = some_full ps k

copied : (r : Option (Bor (List ℕ))) → is_some r ≡ is_some (option_map (λ (x : Bor (List ℕ)). x.now) r)
copied None = refl
copied (Some x) = refl

pub is_word : (r : Option (Bor (List ℕ))) (ps : List (List ℕ)) (k : ℕ) → option_map (λ (x : Bor (List ℕ)). x.now) r ≡ slice_get (filled ps) k → is_some r ≡ full (get_or (filled ps) k [])
is_word r ps k e = copied r ∙ (ap is_some e ∙ some_full ps k)
