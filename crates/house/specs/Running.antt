-- One message after the other.
use Rattle.std.specs.Prelude.{ℕ, List, [], ◌∷◌, ◌++◌, Ok, Err, Result, MatchResult, refl}
use Rattle.std.proofs.Common.{subst}
use Rattle.std.proofs.lemmas.Fn.{FoldsTo-push}
use Rattle.server.specs.declared.server.Server.{Server}
use Rattle.stream.specs.declared.hearer.Stop.{Stop}
use Rattle.house.specs.Acts.{Act}
use Rattle.house.specs.Hearing.{Heard, Hears, Ran, Stops}

pub ran_more : {O : Type 0} (did : O → List Act → Type 0) (s t u : Server) (a b c : O) (ms : List (List ℕ)) (m : List ℕ)
    → Ran did s a ms t b → Ran did t b (m ∷ []) u c → Ran did s a (ms ++ (m ∷ [])) u c
ran_more {O} did s t u a b c ms m r (v, h, p) =
    FoldsTo-push (λ (p : Server × O) (n : List ℕ) (q : Server × O). Heard did n p.0 p.1 q.0 q.1) (s, a) ms (t, b) m (u, c) r
    (subst (λ (q : Server × O). Heard did m t b q.0 q.1) p h)

pub ran_one : {O : Type 0} (did : O → List Act → Type 0) (s t : Server) (a b : O) (m : List ℕ) (r : Result Unit Stop)
    → Hears did m s a r t b → MatchResult r (λ _. Ran did s a (m ∷ []) t b) (λ _. Stops did m s a t b)
ran_one did s t a b m (Ok x) h = ((t, b), h, refl)
ran_one did s t a b m (Err e) h = h
