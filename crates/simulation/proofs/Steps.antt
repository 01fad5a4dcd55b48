-- Each step of the code as a step of the model, over the parts of a simulation; and the promise over the code's own clients.
-- Assumes nothing.
use Rattle.std.proofs.Common.{◌≡◌, ℕ, ◌+◌, ◌<◌, ◌≤◌, Bool, true, false, cond, not, ◌&&◌, eqb, List, [], ◌∷◌, ◌++◌, map, reverse, length, get_or, take, set, replicate, Some, None, Ok, Err, vec_len, Option, Result, sym, refl, ap, ◌∙◌, subst, inl, inr, arith}
use mathlib.Core.Path.{fun_ext}
use Rattle.std.proofs.lemmas.List.{get_or_default, map-append, reverse-append, take_more, take_all}
use Rattle.std.proofs.lemmas.Bool.{cond_both, cond-true, cond-false, cases_lt, eqb-true, and_from, and_left, not_from_false}
use Rattle.lease.specs.declared.fault.Fault.{Fault}
use Rattle.lease.specs.declared.message.Request as request
use Rattle.lease.specs.declared.message.Grant as grant
use Rattle.lease.specs.declared.holder.Holder.{Holder}
use Rattle.lease.specs.Settings.{Settings}
use Rattle.lease.specs.Table.{at}
use Rattle.lease.specs.Holding as held
use Rattle.lease.specs.World as world
use Rattle.lease.specs.Run as run
use Rattle.lease.specs.Premise.{Agree}
use Rattle.lease.specs.Of.{holding_of}
use Rattle.lease.specs.Stands.{client_of, HolderHeard}
use Rattle.lease.proofs.Promise.{never_two}
use Rattle.simulation.specs.declared.event.Sent.{Sent}
use Rattle.simulation.specs.declared.event.Sent.TheVariants.{Request, Grant}
use Rattle.simulation.specs.declared.event.Event.{Event}
use Rattle.simulation.specs.declared.event.Stop.{Stop}
use Rattle.simulation.specs.declared.simulation.Simulation.{Simulation}
use Rattle.simulation.specs.Play.{off, clients_of, messages_of, nonces, settings_in, world_of, event_of, history, Refused, Stepped, PlayedTo, Alone}
use Rattle.simulation.proofs.Parties.{client-at, client-read, client-past, clients-set, clients-start, messages-push, nonces-request, nonces-grant}

-- a world by its server, clients and messages
abbrev pub whole : world.Server → (ℕ → world.Client) → List world.Message → world.World
whole v f ms = record { server = v; clients = f; messages = ms; drawn = nonces ms }

pub start_of : (v : world.Server) (xs : List Holder) (ms : List Sent) (n : ℕ) (x : Holder) → v ≡ (world.start).server → xs ≡ replicate n x → client_of x ≡ off → ms ≡ [] →
    whole v (clients_of xs) (messages_of ms) ≡ world.start
unfolding nonces
start_of v xs ms n x a b c d =
    let f : clients_of xs ≡ (λ i. off) = ap (λ (l : List Holder). clients_of l) b ∙ clients-start n x c in
    let g : messages_of ms ≡ [] = ap (λ (l : List Sent). messages_of l) d in
    ap (λ (u : world.Server). whole u (clients_of xs) (messages_of ms)) a
    ∙ ap (λ (h : ℕ → world.Client). whole (world.start).server h (messages_of ms)) f
    ∙ ap (λ (l : List world.Message). whole (world.start).server (λ i. off) l) g

-- a client takes another's place
pub put : (v : world.Server) (ms : List world.Message) (xs : List Holder) (i : ℕ) (y : Holder) (z : world.Client) → i < length xs → client_of y ≡ z →
    whole v (clients_of (set xs i y)) ms ≡ run.with_client i z (whole v (clients_of xs) ms)
put v ms xs i y z h e = ap (λ (f : ℕ → world.Client). whole v f ms) (clients-set xs i y h ∙ ap (λ (u : world.Client). at i u (clients_of xs)) e)

-- its own
pub put_same : (w : world.World) (i : ℕ) (z : world.Client) → z ≡ w.clients i → w ≡ run.with_client i z w
put_same w i z e = ap (λ (f : ℕ → world.Client). record { server = w.server; clients = f; messages = w.messages; drawn = w.drawn }) (fun_ext at_same)
  where
    at_same : (k : ℕ) → w.clients k ≡ at i z w.clients k
    at_same k = cond_both (eqb k i) z (w.clients k) (λ x. w.clients k ≡ x) (λ f. ap (λ (j : ℕ). w.clients j) (eqb-true k i f) ∙ sym e) (λ f. refl)

-- time passes for all
pub pass_step : (v u : world.Server) (xs ys : List Holder) (ms : List world.Message) (k : ℕ) (ts : List ℕ) → u ≡ run.server_passes k v → length ys ≡ length xs →
    ((i : ℕ) → i < length xs → clients_of ys i ≡ run.client_passes (get_or ts i 0) (clients_of xs i)) →
    whole u (clients_of ys) ms ≡ run.passes k (λ c. get_or ts c 0) (whole v (clients_of xs) ms)
pass_step v u xs ys ms k ts e m f =
    let g : clients_of ys ≡ (λ i. run.client_passes (get_or ts i 0) (clients_of xs i)) = fun_ext (λ i.
    elim (cases_lt i (length xs)) [
      | inl h ↦ f i h
      | inr h ↦ client-past ys i (omega arith) ∙ sym (ap (λ (z : world.Client). run.client_passes (get_or ts i 0) z) (client-past xs i h))
    ]) in
    ap (λ (z : world.Server). whole z (clients_of ys) ms) e ∙ ap (λ (c : ℕ → world.Client). whole (run.server_passes k v) c ms) g

-- a client asks
pub ask_step : (v : world.Server) (xs : List Holder) (ms ms' : List Sent) (i n p : ℕ) (x y : Holder) → i < length xs → x ≡ get_or xs i x → x.up ≡ true →
    world.elem n (nonces (messages_of ms)) ≡ false → client_of y ≡ run.asked n (client_of x) → ms' ≡ ms ++ Request (record { client = i; nonce = n; preferred = p }) ∷ [] →
    whole v (clients_of (set xs i y)) (messages_of ms') ≡ run.asks i n p (whole v (clients_of xs) (messages_of ms))
ask_step v xs ms ms' i n p x y h r up fresh e m =
    let c : clients_of xs i ≡ client_of x = client-read xs i x h r in
    let f : clients_of (set xs i y) ≡ at i (run.asked n (clients_of xs i)) (clients_of xs) =
    clients-set xs i y h ∙ ap (λ (z : world.Client). at i z (clients_of xs)) (e ∙ ap (λ (z : world.Client). run.asked n z) (sym c)) in
    let g : messages_of ms' ≡ world.Requests (record { client = i; nonce = n; preferred = p }) ∷ messages_of ms =
    ap (λ (l : List Sent). messages_of l) m ∙ messages-push ms (Request (record { client = i; nonce = n; preferred = p })) in
    let t : ((clients_of xs i).up && not (world.elem n (nonces (messages_of ms)))) ≡ true = and_from _ _ (ap (λ (z : world.Client). z.up) c ∙ up) (not_from_false _ fresh) in
    ap (λ (l : List world.Message). whole v (clients_of (set xs i y)) l) g
    ∙ ap (λ (k : ℕ → world.Client). whole v k (world.Requests (record { client = i; nonce = n; preferred = p }) ∷ messages_of ms)) f
    ∙ ap (λ (l : List ℕ). record { server = v; clients = at i (run.asked n (clients_of xs i)) (clients_of xs); messages = world.Requests (record { client = i; nonce = n; preferred = p }) ∷ messages_of ms; drawn = l }) (nonces-request (record { client = i; nonce = n; preferred = p }) (messages_of ms))
    ∙ sym (cond-true _ (run.requested i n p (whole v (clients_of xs) (messages_of ms))) (whole v (clients_of xs) (messages_of ms)) t)

-- one that is down doesn't
pub ask_down : (v : world.Server) (xs : List Holder) (ms : List Sent) (i n p : ℕ) (x : Holder) → i < length xs → x ≡ get_or xs i x → x.up ≡ false →
    whole v (clients_of xs) (messages_of ms) ≡ run.asks i n p (whole v (clients_of xs) (messages_of ms))
ask_down v xs ms i n p x h r d = sym (cond-false _ _ _ (and_left _ _ (ap (λ (z : world.Client). z.up) (client-read xs i x h r) ∙ d)))

-- a request is answered
pub grant-step : (s : Settings) (v u : world.Server) (f : ℕ → world.Client) (r : request.Request) (g : grant.Grant) (ms ms' : List Sent) (o : Option world.Message) →
    Some (world.Requests r) ≡ o → Ok (Some g) ≡ run.answer s v r → u ≡ run.serves s (Ok (Some g)) v → ms' ≡ ms ++ Grant g ∷ [] →
    whole u f (messages_of ms') ≡ run.server_hears s o (whole v f (messages_of ms))
grant-step s v u f r g ms ms' o e a b m =
    let l : messages_of ms' ≡ world.Grants g ∷ messages_of ms = ap (λ (x : List Sent). messages_of x) m ∙ messages-push ms (Grant g) in
    ap (λ (x : List world.Message). whole u f x) l
    ∙ ap (λ (x : world.Server). whole x f (world.Grants g ∷ messages_of ms)) b
    ∙ ap (λ (x : List ℕ). record { server = run.serves s (Ok (Some g)) v; clients = f; messages = world.Grants g ∷ messages_of ms; drawn = x }) (nonces-grant g (messages_of ms))
    ∙ ap (λ (x : run.Answer). run.replied s x (whole v f (messages_of ms))) a
    ∙ ap (λ (x : Option world.Message). run.server_hears s x (whole v f (messages_of ms))) e

-- a client hears a grant
pub hear_step : (s : Settings) (v : world.Server) (xs : List Holder) (ms : List world.Message) (i : ℕ) (x y : Holder) (g : grant.Grant) (o : Option world.Message) → Some (world.Grants g) ≡ o →
    i < length xs → x ≡ get_or xs i x → HolderHeard s.term i g (Ok y) x → whole v (clients_of (set xs i y)) ms ≡ run.client_hears s i o (whole v (clients_of xs) ms)
hear_step s v xs ms i x y g o e h r k =
    put v ms xs i y (held.settled (clients_of xs i) (run.hearing s.term i g (clients_of xs i))) h
    (ap (λ (z : Result world.Client Fault). held.settled (client_of x) z) k ∙ ap (λ (z : world.Client). held.settled z (run.hearing s.term i g z)) (sym (client-read xs i x h r)))
    ∙ ap (λ (z : Option world.Message). run.client_hears s i z (whole v (clients_of xs) ms)) e

pub hear_not : (s : Settings) (v : world.Server) (xs : List Holder) (ms : List world.Message) (i : ℕ) (x : Holder) (f : Fault) (g : grant.Grant) (o : Option world.Message) → Some (world.Grants g) ≡ o →
    i < length xs → x ≡ get_or xs i x → HolderHeard s.term i g (Err f) x → whole v (clients_of xs) ms ≡ run.client_hears s i o (whole v (clients_of xs) ms)
hear_not s v xs ms i x f g o e h r k =
    put_same (whole v (clients_of xs) ms) i (held.settled (clients_of xs i) (run.hearing s.term i g (clients_of xs i)))
    (ap (λ (z : Result world.Client Fault). held.settled (clients_of xs i) z) (ap (λ (z : world.Client). run.hearing s.term i g z) (client-read xs i x h r) ∙ sym k))
    ∙ ap (λ (z : Option world.Message). run.client_hears s i z (whole v (clients_of xs) ms)) e

-- one event more
pub history-more : (es : List Event) (i : ℕ) (d : Event) → i < length es → history (take (i + 1) es) ≡ event_of (get_or es i d) ∷ history (take i es)
history-more es i d h =
    ap (λ (l : List Event). history l) (take_more es i d h)
    ∙ ap (λ (l : List run.Event). reverse l) (map-append event_of (take i es) (get_or es i d ∷ []))
    ∙ reverse-append (map event_of (take i es)) (event_of (get_or es i d) ∷ [])

-- where a play has come to: after the first `i` events
abbrev pub Reached : List Event → (i : ℕ) → Simulation → Simulation → Type 0
Reached es i x y =
    ((past : List run.Event) → world_of x ≡ run.world (settings_in x) past → world_of y ≡ run.world (settings_in x) (history (take i es) ++ past))
    × (settings_in y ≡ settings_in x) × (vec_len y.clients ≡ vec_len x.clients)

pub reached-none : (es : List Event) (x : Simulation) → Reached es 0 x x
reached-none es x = ((λ past e. e), refl, refl)

pub reached-more : (es : List Event) (i : ℕ) (d : Event) (x y z : Simulation) (u : Unit) → i < length es → Reached es i x y → Stepped (Ok u) (event_of (get_or es i d)) y z → Reached es (i + 1) x z
unfolding run.world
reached-more es i d x y z u h r st = (
  (λ past e.
      st.step ∙ ap (λ (s : Settings). run.step s (event_of (get_or es i d)) (world_of y)) r.1
      ∙ ap (λ (w : world.World). run.step (settings_in x) (event_of (get_or es i d)) w) (r.0 past e)
      ∙ ap (λ (l : List run.Event). run.world (settings_in x) (l ++ past)) (sym (history-more es i d h))),
  st.settings ∙ r.1,
  st.clients ∙ r.2,
)

pub reached_stop : (es : List Event) (i : ℕ) (d : Event) (x y z : Simulation) (stop : Stop) → i < length es → Reached es i x y → Stepped (Err stop) (event_of (get_or es i d)) y z →
    ((past : List run.Event) → world_of x ≡ run.world (settings_in x) past → PlayedTo stop es past x z) × (settings_in z ≡ settings_in x) × (vec_len z.clients ≡ vec_len x.clients)
reached_stop es i d x y z stop h r st = (
  (λ past e. (
    i,
    get_or es i d,
    h,
    get_or_default es i d (get_or es i d) h,
    st.step.0 ∙ r.0 past e,
    subst (λ (w : world.World). Refused stop (vec_len x.clients) (event_of (get_or es i d)) w) (sym st.step.0)
        (subst (λ (n : ℕ). Refused stop n (event_of (get_or es i d)) (world_of y)) r.2 st.step.1),
  )),
  st.settings ∙ r.1,
  st.clients ∙ r.2,
)

pub world_end : (s : Settings) (es : List Event) (i : ℕ) (past : List run.Event) (w : world.World) → length es ≤ i →
    w ≡ run.world s (history (take i es) ++ past) → w ≡ run.world s (history es ++ past)
world_end s es i past w h e = e ∙ ap (λ (l : List Event). run.world s (history l ++ past)) (take_all i es h)

-- THE PROMISE, over the code's own clients
pub alone : (s : Settings) (es : List run.Event) (xs : List Holder) → clients_of xs ≡ (run.world s es).clients → Agree s es → Alone xs
alone s es xs e g d i j u v hi hj ui uj same =
    never_two s es g v.address i j (u.until, uses i u hi ui ∙ ap (λ (a : ℕ). Some (record { address = a; until = u.until })) same) (v.until, uses j v hj uj) where
      uses : (k : ℕ) (q : held.Use) → k < length xs → (holding_of (get_or xs k d).holding).uses ≡ Some q → ((run.world s es).clients k).holding.uses ≡ Some q
      uses k q h f = ap (λ (g : ℕ → world.Client). (g k).holding.uses) (sym e) ∙ ap (λ (z : world.Client). z.holding.uses) (client-at xs k d h) ∙ f

-- who sent a request was up, and who sent none wasn't
pub asked-up : (b : Bool) (x y : request.Request) → Some x ≡ cond b (Some y) None → (b ≡ true) × (x ≡ y)
asked-up true x y e = (refl, cc)
asked-up false x y e = absurd (let z : ◌≡◌ {A = ℕ} 0 1 = cc in omega arith)

pub asked_down : (b : Bool) (y : request.Request) → None ≡ cond b (Some y) None → b ≡ false
asked_down true y e = absurd (let z : ◌≡◌ {A = ℕ} 0 1 = cc in omega arith)
asked_down false y e = refl
