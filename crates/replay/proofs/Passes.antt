-- A pass over a list that puts out something for each element: what is out already and what is left make the whole.
-- Assumes nothing.
use Rattle.std.proofs.Common.{◌≡◌, ℕ, ◌+◌, ◌<◌, ◌≤◌, Bool, ◌||◌, List, [], ◌∷◌, ◌++◌, length, get_or, drop, sym, refl, ap, ◌∙◌, append_assoc, append-nil}
use Rattle.std.specs.List.{list_any}
use Rattle.std.proofs.lemmas.List.{drop_more, drop_all}
use Rattle.server.specs.declared.effect.Effect.{Effect}
use Rattle.server.specs.declared.effect.Effect.TheVariants.{Persist, Send}
use Rattle.lease.specs.declared.fault.Fault.{Fault}
use Rattle.wire.specs.declared.message.Message.{Message}
use Rattle.wire.specs.declared.message.Message.TheVariants as message
use Rattle.system.specs.declared.line.Party.{Party}
use Rattle.system.specs.Parties.{sends}
use Rattle.system.specs.Watch.{exhausted_by, exhausts, fault_in}
use Rattle.system.specs.Report.{fault_line, fault_lines}
use Rattle.replay.specs.Parties.{sent}

module _ {A B : Type 0} (f : List A → List B) (g : A → List B) (none : f [] ≡ []) (more : (x : A) (xs : List A) → f (x ∷ xs) ≡ g x ++ f xs) where
  pub pass_rest : (xs : List A) (i : ℕ) (d : A) → i < length xs → f (drop i xs) ≡ g (get_or xs i d) ++ f (drop (i + 1) xs)
  pass_rest xs i d h = ap f (drop_more xs i d h) ∙ more (get_or xs i d) (drop (i + 1) xs)

  pub pass_turn : (xs : List A) (i : ℕ) (d : A) (out next whole : List B) → i < length xs → out ++ f (drop i xs) ≡ whole → next ≡ out ++ g (get_or xs i d) →
      next ++ f (drop (i + 1) xs) ≡ whole
  pass_turn xs i d out next whole h e n =
      ap (λ (l : List B). l ++ f (drop (i + 1) xs)) n ∙ append_assoc out (g (get_or xs i d)) (f (drop (i + 1) xs)) ∙ ap (λ (l : List B). out ++ l) (sym (pass_rest xs i d h)) ∙ e

  pub pass_end : (xs : List A) (i : ℕ) (out whole : List B) → length xs ≤ i → out ++ f (drop i xs) ≡ whole → out ≡ whole
  pass_end xs i out whole h e = sym (append-nil out) ∙ ap (λ (l : List B). out ++ l) (sym (ap f (drop_all i xs h) ∙ none)) ∙ e

-- a count that came to its end among messages
pub exhausts_listed : (ms : List Message) → list_any (λ m. exhausted_by (fault_in m)) ms ≡ exhausts ms
unfolding exhausts
exhausts_listed [] = refl
exhausts_listed (m ∷ ms) = ap (λ (b : Bool). exhausted_by (fault_in m) || b) (exhausts_listed ms)

-- the messages among effects
pub sends_none : sends [] ≡ []
unfolding sends
sends_none = refl

pub sends_more : (e : Effect) (es : List Effect) → sends (e ∷ es) ≡ sent e ++ sends es
unfolding sends
sends_more (Persist w) es = refl
sends_more (Send m) es = refl

-- the faults among messages
pub faults-none : (p : Party) → fault_lines p [] ≡ []
unfolding fault_lines
faults-none p = refl

pub faults-more : (p : Party) (m : Message) (ms : List Message) → fault_lines p (m ∷ ms) ≡ fault_line p (fault_in m) ++ fault_lines p ms
unfolding fault_lines
faults-more p m ms = refl

-- a message that is no fault
pub no_fault : (p : Party) (m : Message) → ((f : Fault) → m ≡ message.Fault f → ⊥) → fault_line p (fault_in m) ≡ []
no_fault p (message.Request r) n = refl
no_fault p (message.Grant g) n = refl
no_fault p (message.Settings a t e) n = refl
no_fault p message.Tick n = refl
no_fault p message.Crash n = refl
no_fault p (message.Restart clock) n = refl
no_fault p (message.OwnNumber k) n = refl
no_fault p (message.Nonce k) n = refl
no_fault p (message.InUse a u) n = refl
no_fault p message.NoAddress n = refl
no_fault p (message.Fault f) n = absurd (n f refl)
