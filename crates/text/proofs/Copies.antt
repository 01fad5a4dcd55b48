-- The same bytes again and again.
use Rattle.std.proofs.Common.{◌≡◌, ℕ, zero, suc, ◌+◌, List, ◌++◌, sym, ap, ◌∙◌, add-one}
use Rattle.std.proofs.lemmas.List.{append-nil, append_assoc}
use Rattle.text.specs.Entry.{copies}
use Rattle.text.proofs.Appending.{joined}

copies_suc : (n : ℕ) (bs : List ℕ) → copies n bs ++ bs ≡ copies (suc n) bs
unfolding copies
copies_suc zero bs = sym (append-nil bs)
copies_suc (suc n) bs = append_assoc bs (copies n bs) bs ∙ ap (λ (l : List ℕ). bs ++ l) (copies_suc n bs)

pub copies-more : (n : ℕ) (bs : List ℕ) → copies n bs ++ bs ≡ copies (n + 1) bs
copies-more n bs = copies_suc n bs ∙ ap (λ (k : ℕ). copies k bs) (sym (add-one n))

pub one_more : (new mid old bs : List ℕ) (n : ℕ) → mid ≡ old ++ copies n bs → new ≡ mid ++ bs → new ≡ old ++ copies (n + 1) bs
one_more new mid old bs n e f = joined new mid old (copies n bs) bs e f ∙ ap (λ (l : List ℕ). old ++ l) (copies-more n bs)
