-- What the list of clients and the list of messages stand for, after a read and after a write.
-- Assumes nothing.
use Rattle.std.proofs.Common.{◌≡◌, ℕ, zero, suc, ◌+◌, ◌-◌, ◌^◌, ◌<◌, ◌≤◌, Bool, true, ◌||◌, eqb, List, [], ◌∷◌, ◌++◌, map, reverse, length, get_or, set, replicate, is_ok, Some, None, Option, Ok, Err, Result, sym, refl, ap, ◌∙◌, subst, arith, below_more}
use mathlib.Core.Path.{fun_ext}
use Rattle.std.specs.List.{list_any, slice_get}
use Rattle.std.specs.Option.{option_map}
use Rattle.std.proofs.lemmas.List.{get_or-map, get_or_past, get_or-reverse, map-set, map-append, length-map, length-reverse, reverse-append}
use Rattle.std.proofs.lemmas.Option.{slice_get-get_or, slice_get_past}
use Rattle.std.proofs.lemmas.List.Sorted.{IsPermutation-reverse, list_any-IsPermutation}
use Rattle.std.proofs.lemmas.Bool.{both_ways, cond-true, cond-false, eq-eqb, ne_eqb}
use Rattle.lease.specs.declared.fault.Fault.{Fault}
use Rattle.lease.specs.declared.holder.Holder.{Holder}
use Rattle.lease.specs.declared.message.Request as request
use Rattle.lease.specs.declared.message.Grant as grant
use Rattle.lease.specs.Table.{at}
use Rattle.lease.specs.World as world
use Rattle.lease.specs.Run.{client_passes}
use Rattle.lease.specs.Stands.{client_of, HolderPassed}
use Rattle.lease.proofs.Places.{set_at}
use Rattle.simulation.specs.declared.event.Sent.{Sent}
use Rattle.simulation.specs.Play.{off, clients_of, message_of, messages_of, nonces, draws_it}

pub client-at : (xs : List Holder) (i : ℕ) (d : Holder) → i < length xs → clients_of xs i ≡ client_of (get_or xs i d)
client-at xs i d h = get_or-map client_of xs i d off h

-- a client that was read
pub client-read : (xs : List Holder) (i : ℕ) (x : Holder) → i < length xs → x ≡ get_or xs i x → clients_of xs i ≡ client_of x
client-read xs i x h e = client-at xs i x h ∙ ap (λ (y : Holder). client_of y) (sym e)

pub client-past : (xs : List Holder) (i : ℕ) → length xs ≤ i → clients_of xs i ≡ off
client-past xs i h = get_or_past (map client_of xs) i off (omega (arith, length-map xs client_of))

pub clients-set : (xs : List Holder) (i : ℕ) (x : Holder) → i < length xs → clients_of (set xs i x) ≡ at i (client_of x) (clients_of xs)
clients-set xs i x h =
    fun_ext (λ k. ap (λ (ys : List world.Client). get_or ys k off) (map-set client_of xs i x) ∙ set_at (map client_of xs) i (client_of x) off k (omega (arith, length-map xs client_of)))

pub clients-same : (xs : List Holder) (i : ℕ) (x : Holder) → i < length xs → clients_of (set xs i x) i ≡ client_of x
clients-same xs i x h = ap (λ (f : ℕ → world.Client). f i) (clients-set xs i x h) ∙ cond-true (eqb i i) (client_of x) (clients_of xs i) (eq-eqb i i refl)

pub clients-other : (xs : List Holder) (i k : ℕ) (x : Holder) → i < length xs → (k ≡ i → ⊥) → clients_of (set xs i x) k ≡ clients_of xs k
clients-other xs i k x h n = ap (λ (f : ℕ → world.Client). f k) (clients-set xs i x h) ∙ cond-false (eqb k i) (client_of x) (clients_of xs k) (ne_eqb k i n)

pub clients-start : (n : ℕ) (x : Holder) → client_of x ≡ off → clients_of (replicate n x) ≡ (λ c. off)
clients-start n x e = fun_ext (λ i. at-start n i) where
  at-start : (m i : ℕ) → clients_of (replicate m x) i ≡ off
  at-start zero i = refl
  at-start (suc m) zero = e
  at-start (suc m) (suc i) = at-start m i

-- one message more
pub messages-push : (ms : List Sent) (m : Sent) → messages_of (ms ++ m ∷ []) ≡ message_of m ∷ messages_of ms
messages-push ms m = ap (λ (l : List world.Message). reverse l) (map-append message_of ms (m ∷ [])) ∙ reverse-append (map message_of ms) (message_of m ∷ [])

pub nonces-request : (r : request.Request) (ms : List world.Message) → nonces (world.Requests r ∷ ms) ≡ r.nonce ∷ nonces ms
unfolding nonces
nonces-request r ms = refl

pub nonces-grant : (g : grant.Grant) (ms : List world.Message) → nonces (world.Grants g ∷ ms) ≡ nonces ms
unfolding nonces
nonces-grant g ms = refl

-- the messages in turn, the newest first
map_reverse : {A B : Type 0} (f : A → B) (xs : List A) → map f (reverse xs) ≡ reverse (map f xs)
map_reverse f [] = refl
map_reverse {A} {B} f (x ∷ xs) =
    ap (λ (l : List A). map f l) (reverse-append (x ∷ []) xs) ∙ map-append f (reverse xs) (x ∷ []) ∙ ap (λ (l : List B). l ++ f x ∷ []) (map_reverse f xs)
    ∙ sym (reverse-append (f x ∷ []) (map f xs))

pub newest : (ms : List Sent) (i : ℕ) → option_map message_of (slice_get (reverse ms) i) ≡ world.sent i (messages_of ms)
unfolding world.sent
newest ms i = sent-in (reverse ms) i ∙ ap (λ (l : List world.Message). world.sent i l) (map_reverse message_of ms) where
  sent-in : (l : List Sent) (k : ℕ) → option_map message_of (slice_get l k) ≡ world.sent k (map message_of l)
  sent-in [] k = refl
  sent-in (m ∷ l) zero = refl
  sent-in (m ∷ l) (suc k) = sent-in l k

-- the message after which i were sent, by its place in the list
pub message-at : (ms : List Sent) (i : ℕ) (d : Sent) → i < length ms → Some (message_of (get_or ms (length ms - 1 - i) d)) ≡ world.sent i (messages_of ms)
message-at ms i d h =
    ap (λ (o : Option Sent). option_map message_of o) (sym (slice_get-get_or (reverse ms) i d (omega (arith, length-reverse ms)) ∙ ap (λ (m : Sent). Some m) (get_or-reverse ms i d h)))
    ∙ newest ms i

pub message-none : (ms : List Sent) (i : ℕ) → length ms ≤ i → None ≡ world.sent i (messages_of ms)
message-none ms i h = ap (λ (o : Option Sent). option_map message_of o) (sym (slice_get_past (reverse ms) i (omega (arith, length-reverse ms)))) ∙ newest ms i

-- a nonce is drawn where some request has it
any_map : {A B : Type 0} (f : A → B) (test : B → Bool) (xs : List A) → list_any (λ x. test (f x)) xs ≡ list_any test (map f xs)
any_map f test [] = refl
any_map f test (x ∷ xs) = ap (λ (b : Bool). test (f x) || b) (any_map f test xs)

drawn-in : (n : ℕ) (ms : List world.Message) → list_any (draws_it n) ms ≡ world.elem n (nonces ms)
unfolding world.elem nonces
drawn-in n [] = refl
drawn-in n (world.Requests r ∷ ms) = ap (λ (b : Bool). eqb n r.nonce || b) (drawn-in n ms)
drawn-in n (world.Grants g ∷ ms) = drawn-in n ms

pub drawn_any : (n : ℕ) (ms : List Sent) → list_any (λ m. draws_it n (message_of m)) ms ≡ world.elem n (nonces (messages_of ms))
drawn_any n ms = any_map message_of (draws_it n) ms ∙ list_any-IsPermutation (draws_it n) _ _ (IsPermutation-reverse (map message_of ms)) ∙ drawn-in n (messages_of ms)

-- a clock that went on, and one that could not
went_on : (h l : Holder) (n : ℕ) → client_of l ≡ client_passes n (client_of h) → h.up ≡ true → h.clock.ticks + n < 2 ^ 63
went_on h l n e u =
    let z : l.clock.ticks ≡ h.clock.ticks + n = ap (λ (x : world.Client). x.clock) (e ∙ cond-true h.up _ (client_of h) u) in
    omega (arith, z, l.clock.early)

pub can_pass : (r : Result Holder Fault) (n : ℕ) (h : Holder) → HolderPassed r n h → is_ok r ≡ true → h.up ≡ true → h.clock.ticks + n < 2 ^ 63
can_pass (Ok l) n h p e u = went_on h l n p u
can_pass (Err f) n h p e u = absurd (both_ways _ refl e)

-- what is so of each client's value is so of the client that it stands for
pub at_each : (xs : List Holder) (k : ℕ) → k < length xs → (P : world.Client → Type 0) → ((d : Holder) → P (client_of (get_or xs k d))) → P (clients_of xs k)
at_each [] k h P f = absurd (omega arith)
at_each (x ∷ xs) k h P f = subst P (sym (client-at (x ∷ xs) k x h)) (f x)

-- one turn of the loop that lets time pass: the clients below `i` went on, the others didn't yet
abbrev pub GoneOn : (ticks : List ℕ) → (i : ℕ) → List Holder → List Holder → Type 0
GoneOn ts i old xs =
    ((k : ℕ) → k < i → clients_of xs k ≡ client_passes (get_or ts k 0) (clients_of old k)) × ((k : ℕ) → i ≤ k → clients_of xs k ≡ clients_of old k)

pub goes_on : (ts : List ℕ) (i : ℕ) (old xs : List Holder) (x y : Holder) → i < length xs → clients_of xs i ≡ client_of x → client_of y ≡ client_passes (get_or ts i 0) (client_of x) →
    GoneOn ts i old xs → GoneOn ts (i + 1) old (set xs i y)
goes_on ts i old xs x y h e f inv = (
  below_more _ _ (λ k l. clients-other xs i k y h (λ z. omega arith) ∙ inv.0 k l)
      (clients-same xs i y h ∙ f ∙ ap (λ (z : world.Client). client_passes (get_or ts i 0) z) (sym e ∙ inv.1 i (omega arith))),
  λ k l. clients-other xs i k y h (λ z. omega arith) ∙ inv.1 k (omega arith),
)
