-- Stamps are found among others exactly if what they stand for is.
-- Assumes nothing.
use Rattle.std.proofs.Common.{◌≡◌, ℕ, Bool, true, false, cond, not, ◌&&◌, ◌||◌, eqb, List, [], ◌∷◌, ◌++◌, map, reverse, Some, None, MatchOption, Option, sym, refl, ap, ◌∙◌, append_assoc}
use mathlib.Core.List.{reverse-append}
use Rattle.std.specs.Option.{option_to_list}
use Rattle.std.proofs.lemmas.List.{map-append}
use Rattle.lease.specs.declared.message.Grant as given
use Rattle.lease.specs.declared.message.Request as asked
use Rattle.lease.specs.World.{elem}
use Rattle.seen.specs.declared.stamp.Stamp.{Stamp}
use Rattle.seen.specs.Stamp.{member}
use Rattle.wire.specs.declared.message.Message.{Message}
use Rattle.wire.specs.declared.message.Message.TheVariants as message
use Rattle.wire.specs.Read.{read}
use Rattle.client.specs.Nonces.{request, requests}
use Rattle.system.specs.declared.line.Party.{Party}
use Rattle.system.specs.declared.line.Party.TheVariants.{Server, Client}
use Rattle.system.specs.Watch.{Watch, any_in, granted, grant_of as grant_in, grants, requested, unsent, unsent_grant, unsent_request}
use Rattle.replay.specs.Parties.{event_of}
use Rattle.replay.specs.Watch.{stamp_of_request, request_of, stamp_of_grant, grant_of, stamp_of_nonce, stamps_in, stamps_in_message, nonces_in}

-- a stamp's address stands before its nonce
turned : (a k n : Bool) → (a && (n && k)) ≡ (a && (k && n))
turned false k n = refl
turned true true true = refl
turned true true false = refl
turned true false true = refl
turned true false false = refl

pub request_member : (r : asked.Request) (ss : List Stamp) → member (stamp_of_request r) ss ≡ requested r (map request_of ss)
unfolding requested
request_member r [] = refl
request_member r (s ∷ ss) =
    ap (λ (b : Bool). b || member (stamp_of_request r) ss) (turned (eqb r.client s.client) (eqb r.nonce s.nonce) (eqb r.preferred s.address))
    ∙ ap (λ (b : Bool). (eqb r.client s.client && (eqb r.nonce s.nonce && eqb r.preferred s.address)) || b) (request_member r ss)

pub grant_member : (g : given.Grant) (ss : List Stamp) → member (stamp_of_grant g) ss ≡ granted g (map grant_of ss)
unfolding granted
grant_member g [] = refl
grant_member g (s ∷ ss) =
    ap (λ (b : Bool). b || member (stamp_of_grant g) ss) (turned (eqb g.client s.client) (eqb g.nonce s.nonce) (eqb g.address s.address))
    ∙ ap (λ (b : Bool). (eqb g.client s.client && (eqb g.nonce s.nonce && eqb g.address s.address)) || b) (grant_member g ss)

nonce-step : (a b k : Bool) (m n : ℕ) (ns : List ℕ) (q : Bool) → q ≡ elem m ns → k ≡ eqb m n → ((a && (b && k)) || q) ≡ elem m (cond (a && b) (n ∷ ns) ns)
unfolding elem
nonce-step true true true m n ns q e f = ap (λ (x : Bool). x || elem m ns) f
nonce-step true true false m n ns q e f = e ∙ ap (λ (x : Bool). x || elem m ns) f
nonce-step true false true m n ns q e f = e
nonce-step true false false m n ns q e f = e
nonce-step false b k m n ns q e f = e

pub nonce_member : (n : ℕ) (ss : List Stamp) → member (stamp_of_nonce n) ss ≡ elem n (nonces_in ss)
unfolding elem
nonce_member n [] = refl
nonce_member n (s ∷ ss) = nonce-step (eqb 0 s.client) (eqb 0 s.address) (eqb n s.nonce) n s.nonce (nonces_in ss) (member (stamp_of_nonce n) ss) (nonce_member n ss) refl

pub drawn_any : (m : ℕ) (b : Bool) (ns : List ℕ) → b ≡ elem m ns → b ≡ (elem m ns || false)
drawn_any m true ns e = ap (λ (x : Bool). x || false) e
drawn_any m false ns e = ap (λ (x : Bool). x || false) e

-- what is noted of a message more
pub stamps_more : (p : Party) (m : Message) (ms : List Message) → stamps_in p (m ∷ ms) ≡ stamps_in_message p m ++ stamps_in p ms
unfolding grants requests
stamps_more Server m ms = map-append stamp_of_grant (grant_in m) (grants ms)
stamps_more (Client i) m ms = map-append stamp_of_request (request m) (requests ms)

pub stamps_none : (p : Party) → stamps_in p [] ≡ []
unfolding grants requests
stamps_none Server = refl
stamps_none (Client i) = refl

-- from the last on: each comes before those that follow it
pub noted_back : (p : Party) (ms : List Message) (m : Message) (old next first : List Stamp) → old ≡ stamps_in p (reverse ms) ++ first → next ≡ stamps_in_message p m ++ old →
    next ≡ stamps_in p (reverse (ms ++ m ∷ [])) ++ first
noted_back p ms m old next first e n =
    n ∙ ap (λ (l : List Stamp). stamps_in_message p m ++ l) e ∙ sym (append_assoc (stamps_in_message p m) (stamps_in p (reverse ms)) first)
    ∙ ap (λ (l : List Stamp). l ++ first) (sym (stamps_more p m (reverse ms))) ∙ ap (λ (l : List Message). stamps_in p l ++ first) (sym (reverse-append ms (m ∷ [])))

-- and back to what they stand for
grants_back : (gs : List given.Grant) → map grant_of (map stamp_of_grant gs) ≡ gs
grants_back [] = refl
grants_back (g ∷ gs) = ap (λ (l : List given.Grant). g ∷ l) (grants_back gs)

requests_back : (rs : List asked.Request) → map request_of (map stamp_of_request rs) ≡ rs
requests_back [] = refl
requests_back (r ∷ rs) = ap (λ (l : List asked.Request). r ∷ l) (requests_back rs)

pub grants_noted : (gs : List given.Grant) (ss ts : List Stamp) → ts ≡ map stamp_of_grant gs ++ ss → map grant_of ts ≡ gs ++ map grant_of ss
grants_noted gs ss ts e = ap (map grant_of) e ∙ map-append grant_of (map stamp_of_grant gs) ss ∙ ap (λ (l : List given.Grant). l ++ map grant_of ss) (grants_back gs)

pub requests_noted : (rs : List asked.Request) (ss ts : List Stamp) → ts ≡ map stamp_of_request rs ++ ss → map request_of ts ≡ rs ++ map request_of ss
requests_noted rs ss ts e = ap (map request_of) e ∙ map-append request_of (map stamp_of_request rs) ss ∙ ap (λ (l : List asked.Request). l ++ map request_of ss) (requests_back rs)

-- a message that was never sent, by who hears it
pub unsent_request_is : (p : Party) (r : asked.Request) (o : Option Message) (bs : List ℕ) (b : Bool) (w : Watch) → p ≡ Server → o ≡ Some (message.Request r) → o ≡ read bs → b ≡ requested r w.requests → not b ≡ unsent (event_of p bs) w
unfolding read
unsent_request_is p r o bs b w who is heard e = ap not e ∙ ap (λ (m : Option Message). unsent_request m w) (sym is ∙ heard) ∙ ap (λ (q : Party). unsent (event_of q bs) w) (sym who)

pub unsent_grant_is : (p : Party) (i : ℕ) (g : given.Grant) (o : Option Message) (bs : List ℕ) (b : Bool) (w : Watch) → p ≡ Client i → o ≡ Some (message.Grant g) → o ≡ read bs → b ≡ granted g w.grants → not b ≡ unsent (event_of p bs) w
unfolding read
unsent_grant_is p i g o bs b w who is heard e = ap not e ∙ ap (λ (m : Option Message). unsent_grant m w) (sym is ∙ heard) ∙ ap (λ (q : Party). unsent (event_of q bs) w) (sym who)

pub drawn_is : (o : Option ℕ) (b : Bool) (ss : List Stamp) → MatchOption o (b ≡ false) (λ n. b ≡ member (stamp_of_nonce n) ss) → b ≡ any_in (option_to_list o) (nonces_in ss)
drawn_is None b ss e = e
drawn_is (Some n) b ss e = drawn_any n b (nonces_in ss) (e ∙ nonce_member n ss)
