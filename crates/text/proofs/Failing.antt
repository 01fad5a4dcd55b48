-- What a result was before its refusal was made another.
use Rattle.std.proofs.Common.{◌≡◌, ℕ, Ok, Err, Result, MatchResult, refl, arith}

pub refused_by : {A B D : Type 0} (r : Result A B) (e : D) (P : B → Type 0) → MatchResult r (λ (x : A). ◌≡◌ {A = Result A D} (Err e) (Ok x)) (λ b. P b) → (b : B) × (r ≡ Err b) × P b
refused_by (Ok x) e P h = absurd (let z : ◌≡◌ {A = ℕ} 0 1 = cc in omega arith)
refused_by (Err b) e P h = (b, refl, h)

pub kept_of : (D : Type 0) {A B : Type 0} (r : Result A B) (x : A) → MatchResult r (λ (y : A). ◌≡◌ {A = Result A D} (Ok x) (Ok y)) (λ _. ⊥) → r ≡ Ok x
kept_of D (Ok y) x h = cc
kept_of D (Err b) x h = absurd h
