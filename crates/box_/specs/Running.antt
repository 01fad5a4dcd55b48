-- One message after the other.
use Rattle.std.specs.Prelude.{ℕ, List, [], ◌∷◌, ◌++◌, Ok, Err, Result, MatchResult, refl}
use Rattle.std.proofs.Common.{subst}
use Rattle.std.proofs.lemmas.Fn.{FoldsTo-push}
use Rattle.client.specs.Client.{Client}
use Rattle.stream.specs.declared.hearer.Stop.{Stop}
use Rattle.box_.specs.Hearing.{Heard, Hears, Ran, Stops}

pub ran_more : (c d e : Client) (out some more : List ℕ) (ms : List (List ℕ)) (m : List ℕ)
    → Ran ms c out d some → Ran (m ∷ []) d some e more → Ran (ms ++ (m ∷ [])) c out e more
ran_more c d e out some more ms m r (v, h, p) =
    FoldsTo-push (λ (p : Client × List ℕ) (n : List ℕ) (q : Client × List ℕ). Heard n p.0 p.1 q.0 q.1) (c, out) ms (d, some) m (e, more) r
    (subst (λ (q : Client × List ℕ). Heard m d some q.0 q.1) p h)

pub ran_one : (c d : Client) (out more : List ℕ) (m : List ℕ) (r : Result Unit Stop)
    → Hears m c out r d more → MatchResult r (λ _. Ran (m ∷ []) c out d more) (λ _. Stops m c out d more)
ran_one c d out more m (Ok x) h = ((d, more), h, refl)
ran_one c d out more m (Err e) h = h
