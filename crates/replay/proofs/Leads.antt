-- What a list of leads stands for, after a write and after a moment that is noted for all.
-- Assumes nothing.
use Rattle.std.proofs.Common.{◌≡◌, ℕ, zero, suc, ◌<◌, ◌≤◌, Bool, true, false, cond, ◌&&◌, List, map, length, get_or, replicate, is_some, Some, None, Option, sym, refl, ap, ◌∙◌, inl, inr, arith}
use mathlib.Core.Path.{fun_ext}
use Rattle.std.specs.Option.{option_map}
use Rattle.std.proofs.lemmas.List.{get_or_past, length-map}
use Rattle.std.proofs.lemmas.Bool.{cond-false, cases_lt, both_ways}
use Rattle.client.specs.declared.client.Client as code
use Rattle.client.specs.Client as client
use Rattle.client.specs.Of.{client_of}
use Rattle.system.specs.Parties.{Parties}
use Rattle.system.specs.Watch as watch
use Rattle.system.specs.Watch.{widened, lead, noted}
use Rattle.replay.specs.declared.lead.Lead.{Lead}
use Rattle.replay.specs.Lead.{lead_of}
use Rattle.replay.specs.Parties.{clients_of, shown_by}
use Rattle.replay.specs.Watch.{leads_of, noted_by}

none-at : (n i : ℕ) → ◌≡◌ {A = Option Lead} (get_or (replicate n None) i None) None
none-at zero i = refl
none-at (suc n) zero = refl
none-at (suc n) (suc i) = none-at n i

pub leads-new : (xs : List (Option Lead)) (n : ℕ) → xs ≡ replicate n None → leads_of xs ≡ (λ i. None)
leads-new xs n e = fun_ext (λ i. ap (λ (o : Option Lead). option_map lead_of o) (ap (λ (l : List (Option Lead)). get_or l i None) e ∙ none-at n i))

lead-past : (xs : List (Option Lead)) (k : ℕ) → length xs ≤ k → leads_of xs k ≡ None
lead-past xs k h = ap (λ (o : Option Lead). option_map lead_of o) (get_or_past xs k None h)

-- the moment is noted at the places below `i`, and not yet at the others
abbrev pub NotedTo : (clients : List code.Client) (server i : ℕ) (old xs : List (Option Lead)) → Type 0
NotedTo cs v i old xs =
    ((k : ℕ) → k < i → leads_of xs k ≡ noted_by (shown_by (clients_of cs k)) v (leads_of old k)) × ((k : ℕ) → i ≤ k → leads_of xs k ≡ leads_of old k)

-- a client that shows a clock
shown-noted : (s b : Bool) (n v : ℕ) (o : Option watch.Lead) → s ≡ true → noted_by (cond b (Some n) None) v o ≡ cond (s && b) (Some (widened (lead n v) o)) o
shown-noted true true n v o e = refl
shown-noted true false n v o e = refl
shown-noted false b n v o e = absurd (both_ways false refl e)

noted_here : (x : Parties) (k : ℕ) (o : Option watch.Lead) (ls : ℕ → Option watch.Lead) → x.server.server.up ≡ true → o ≡ noted_by (shown_by (x.clients k)) x.server.server.clock (ls k) → o ≡ noted x ls k
noted_here x k o ls up e =
    e ∙ shown-noted x.server.server.up ((x.clients k).state.holder.up && is_some (x.clients k).state.own) (x.clients k).state.holder.clock x.server.server.clock (ls k) up

-- past the last place nobody has a number
and_never : (s u : Bool) → (s && (u && false)) ≡ false
and_never true true = refl
and_never true false = refl
and_never false u = refl

noted-past : (x : Parties) (k : ℕ) (ls : ℕ → Option watch.Lead) → x.clients k ≡ client.fresh → noted x ls k ≡ ls k
noted-past x k ls e =
    ap (λ (c : client.Client). cond (x.server.server.up && (c.state.holder.up && is_some c.state.own)) (Some (widened (lead c.state.holder.clock x.server.server.clock) (ls k))) (ls k)) e
    ∙ cond-false _ _ (ls k) (and_never x.server.server.up true)

pub moment_noted : (x : Parties) (cs : List code.Client) (v : ℕ) (old xs : List (Option Lead)) → x.clients ≡ clients_of cs → length cs ≡ 65 → length old ≡ 65 → length xs ≡ 65 →
    x.server.server.up ≡ true → v ≡ x.server.server.clock → ((k : ℕ) → k < length cs → leads_of xs k ≡ noted_by (shown_by (clients_of cs k)) v (leads_of old k)) → leads_of xs ≡ noted x (leads_of old)
moment_noted x cs v old xs z a b d up e f = fun_ext at_place where
  at_place : (k : ℕ) → leads_of xs k ≡ noted x (leads_of old) k
  at_place k = elim (cases_lt k 65) [
    | inl h ↦
        noted_here x k (leads_of xs k) (leads_of old) up
        (f k (omega arith) ∙ ap (λ (m : ℕ). noted_by (shown_by (clients_of cs k)) m (leads_of old k)) e
        ∙ ap (λ (g : ℕ → client.Client). noted_by (shown_by (g k)) x.server.server.clock (leads_of old k)) (sym z))
    | inr h ↦ lead-past xs k (omega arith) ∙ sym (noted-past x k (leads_of old) (ap (λ (g : ℕ → client.Client). g k) z ∙ get_or_past (map client_of cs) k client.fresh (omega (arith, length-map cs client_of))) ∙ lead-past old k (omega arith))
  ]
