-- An option of which no value passes is none.
-- Assumes nothing.
use Rattle.std.proofs.Common.{◌≡◌, Some, None, Option, refl}

pub none_only : {A : Type 0} (C : Option A → Type 0) → ((x : A) → C (Some x) → ⊥) → (y : Option A) → C y → y ≡ None
none_only C never None k = refl
none_only C never (Some x) k = absurd (never x k)
