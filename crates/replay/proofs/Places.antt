-- What a list of clients stands for, after a read and after a write.
-- Assumes nothing.
use Rattle.std.proofs.Common.{◌≡◌, ℕ, zero, suc, ◌<◌, List, [], ◌∷◌, ◌++◌, map, length, get_or, set, sym, refl, ap, ◌∙◌, arith}
use mathlib.Core.Path.{fun_ext}
use Rattle.std.proofs.lemmas.List.{get_or-map, map-set, map-append, length-map}
use Rattle.lease.specs.Table.{at}
use Rattle.lease.proofs.Places.{set_at}
use Rattle.client.specs.declared.client.Client as code
use Rattle.client.specs.Client as client
use Rattle.client.specs.Of.{client_of}
use Rattle.replay.specs.Parties.{clients_of}

-- a client that was read
pub client-read : (xs : List code.Client) (i : ℕ) (x : code.Client) → i < length xs → x ≡ get_or xs i x → clients_of xs i ≡ client_of x
client-read xs i x h e = get_or-map client_of xs i x client.fresh h ∙ ap (λ (y : code.Client). client_of y) (sym e)

-- one that is written
pub clients-set : (xs : List code.Client) (i : ℕ) (x : code.Client) → i < length xs → clients_of (set xs i x) ≡ at i (client_of x) (clients_of xs)
clients-set xs i x h =
    fun_ext (λ k. ap (λ (ys : List client.Client). get_or ys k client.fresh) (map-set client_of xs i x) ∙ set_at (map client_of xs) i (client_of x) client.fresh k (omega (arith, length-map xs client_of)))

-- new ones
abbrev pub AllNew : List code.Client → Type 0
AllNew xs = (i : ℕ) → clients_of xs i ≡ client.fresh

new-more : (xs : List client.Client) (c : client.Client) → c ≡ client.fresh → ((i : ℕ) → get_or xs i client.fresh ≡ client.fresh) → (i : ℕ) → get_or (xs ++ c ∷ []) i client.fresh ≡ client.fresh
new-more [] c e f zero = e
new-more [] c e f (suc i) = refl
new-more (x ∷ xs) c e f zero = f 0
new-more (x ∷ xs) c e f (suc i) = new-more xs c e (λ j. f (suc j)) i

pub all-new-more : (xs : List code.Client) (c : code.Client) → client_of c ≡ client.fresh → AllNew xs → AllNew (xs ++ c ∷ [])
all-new-more xs c e f i = ap (λ (ys : List client.Client). get_or ys i client.fresh) (map-append client_of xs (c ∷ [])) ∙ new-more (map client_of xs) (client_of c) e f i
