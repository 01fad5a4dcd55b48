-- Clocks that drift apart little meet the usual premise.
-- Assumes nothing.
use Rattle.std.proofs.Common.{◌≡◌, ℕ, ◌+◌, ◌-◌, ◌≤◌, Bool, true, false, not, ◌&&◌, eqb, List, [], ◌∷◌, ◌++◌, Some, None, Ok, Err, Option, Result, sym, refl, ap, ◌∙◌, subst, arith}
use Rattle.std.proofs.lemmas.Bool.{cond_both, cond-true, cond-false, eqb-true, eqb-false, ne_eqb, and_parts, not-true}
use Rattle.lease.specs.declared.fault.Fault.{Fault}
use Rattle.lease.specs.declared.message.Grant.{Grant}
use Rattle.lease.specs.Settings.{Settings}
use Rattle.lease.specs.Table.{at}
use Rattle.lease.specs.Holding.{Holding, taking, settled}
use Rattle.lease.specs.World.{Message, Requests, Grants, Server, Client, World, elem, sent}
use Rattle.lease.specs.Run.{Answer, Event, Pass, Asks, ServerHears, ServerHearsAndCrashes, ClientHears, ClientStarts, ClientCrashes, ServerCrashes, Forgets, ServerRestarts, forgets, requested, answer, serves, server_hears, held_by, hearing, client_hears, step, world}
use Rattle.lease.specs.Premise.{spares, spares_all, Close, Onward, Forward, AllAlong}
use Rattle.lease.specs.Drift.{Gains, GainsAtMost, LittleDrift}
use Rattle.lease.proofs.History.{passes-clock, client-clock, restarts-clock}

-- a client's clock and whether it is up
pub record Alike (x y : Client) : Type 0 where
  pub clock : y.clock ≡ x.clock
  pub up : y.up ≡ x.up

alike : (x : Client) → Alike x x
alike x = record { clock = refl; up = refl }

-- the server's clock gains at most `n` ticks on the client's, and loses none; the client is up
pub record Gained (n : ℕ) (w w' : World) (c : ℕ) : Type 0 where
  pub up : (w'.clients c).up ≡ true
  pub behind : (w'.clients c).clock + w.server.clock ≤ (w.clients c).clock + w'.server.clock
  pub near : w'.server.clock + (w.clients c).clock ≤ w.server.clock + ((w'.clients c).clock + n)

-- neither clock goes on
still : (x : ℕ) (w w' : World) (c : ℕ) → (w.clients c).up ≡ true → w'.server.clock ≡ w.server.clock → Alike (w.clients c) (w'.clients c) → Gained x w w' c
still x w w' c u e q = record { up = q.up ∙ u; behind = omega (arith, e, q.clock); near = omega (arith, e, q.clock) }

-- a client that changes neither
at-alike : (w : World) (c d : ℕ) (x : Client) → Alike (w.clients d) x → Alike (w.clients c) (at d x w.clients c)
at-alike w c d x q =
    cond_both (eqb c d) x (w.clients c) (λ (y : Client). Alike (w.clients c) y)
    (λ e. subst (λ (z : ℕ). Alike (w.clients z) x) (sym (eqb-true c d e)) q)
    (λ e. alike (w.clients c))

serves-clock : (s : Settings) (v : Server) (x : Answer) → (serves s x v).clock ≡ v.clock
serves-clock s v (Ok None) = refl
serves-clock s v (Ok (Some g)) = refl
serves-clock s v (Err f) = refl

forgets-clock : (gone : ℕ → Bool) (v : Server) → (forgets gone v).clock ≡ v.clock
forgets-clock gone v = cond_both v.up _ v (λ (z : Server). z.clock ≡ v.clock) (λ e. refl) (λ e. refl)

hears-clock : (s : Settings) (w : World) (o : Option Message) → ((server_hears s o w).server.clock ≡ w.server.clock) × ((server_hears s o w).clients ≡ w.clients)
hears-clock s w None = (refl, refl)
hears-clock s w (Some (Grants g)) = (refl, refl)
hears-clock s w (Some (Requests r)) = (serves-clock s w.server (answer s w.server r), refl)

held-alike : (x : Client) (r : Result Holding Fault) → Alike x (settled x (held_by x r))
held-alike x (Ok h) = record { clock = refl; up = refl }
held-alike x (Err f) = alike x

hearing-alike : (term c : ℕ) (g : Grant) (x : Client) → Alike x (settled x (hearing term c g x))
hearing-alike term c g x =
    cond_both x.up _ (Ok x) (λ (r : Result Client Fault). Alike x (settled x r)) (λ e. held-alike x (taking term x.clock c g x.holding)) (λ e. alike x)

other-alike : (w : World) (c d : ℕ) (x : Client) → not (eqb d c) ≡ true → Alike (w.clients c) (at d x w.clients c)
other-alike w c d x e =
    let f : eqb c d ≡ false = ne_eqb c d (λ i. eqb-false d c (not-true _ e) (sym i)) in
    subst (λ (y : Client). Alike (w.clients c) y) (sym (cond-false (eqb c d) x (w.clients c) f)) (alike (w.clients c))

takes_still : (x : ℕ) (s : Settings) (w : World) (c d : ℕ) (o : Option Message) → (w.clients c).up ≡ true → Gained x w (client_hears s d o w) c
takes_still x s w c d None u = still x w w c u refl (alike _)
takes_still x s w c d (Some (Requests r)) u = still x w w c u refl (alike _)
takes_still x s w c d (Some (Grants g)) u = still x w _ c u refl (at-alike w c d _ (hearing-alike s.term d g (w.clients d)))

crash_still : (x : ℕ) (s : Settings) (w : World) (c i : ℕ) (wrote : Bool) → (w.clients c).up ≡ true → Gained x w (step s (ServerHearsAndCrashes i wrote) w) c
crash_still x s w c i true u = still x w _ c u (hears-clock s w (sent i w.messages)).0 (alike _)
crash_still x s w c i false u = still x w _ c u refl (alike _)

step_gains : (x : ℕ) (s : Settings) (w : World) (c : ℕ) (e : Event) → Gains x e w → spares c e ≡ true → (w.clients c).up ≡ true → Gained x w (step s e w) c
step_gains x s w c (Pass k f) g sp u =
    let p : _ = client-clock (f c) (w.clients c) u in
    let q : _ = (passes-clock k w.server).0 in
    record { up = ap (λ (y : Client). y.up) (cond-true (w.clients c).up _ (w.clients c) u) ∙ u; behind = omega (arith, p, q, (g c).0); near = omega (arith, p, q, (g c).1) }
step_gains x s w c (Asks d n p) g sp u =
    cond_both ((w.clients d).up && not (elem n w.drawn)) (requested d n p w) w (λ w'. Gained x w w' c)
    (λ e. still x w (requested d n p w) c u refl (at-alike w c d _ (record { clock = refl; up = refl }))) (λ e. still x w w c u refl (alike _))
step_gains x s w c (ServerHears i) g sp u =
    still x w _ c u (hears-clock s w (sent i w.messages)).0 (subst (λ (f : ℕ → Client). Alike (w.clients c) (f c)) (sym (hears-clock s w (sent i w.messages)).1) (alike _))
step_gains x s w c (ServerHearsAndCrashes i wrote) g sp u = crash_still x s w c i wrote u
step_gains x s w c (ClientHears d i) g sp u = takes_still x s w c d (sent i w.messages) u
step_gains x s w c (ClientStarts d clock) g sp u = still x w _ c u refl (other-alike w c d _ sp)
step_gains x s w c (ClientCrashes d) g sp u = still x w _ c u refl (other-alike w c d _ sp)
step_gains x s w c ServerCrashes g sp u = still x w _ c u refl (alike _)
step_gains x s w c (Forgets gone) g sp u = still x w _ c u (forgets-clock gone w.server) (alike _)
step_gains x s w c (ServerRestarts clock lost) g sp u =
    let q : _ = (restarts-clock s clock lost w.server).0 in
    record { up = u; behind = omega (arith, q, g.0); near = omega (arith, q, g.1) }

gains : (s : Settings) (n c : ℕ) (between before : List Event) → GainsAtMost s n (between ++ before) → spares_all c between ≡ true → ((world s before).clients c).up ≡ true →
    Gained n (world s before) (world s (between ++ before)) c
unfolding GainsAtMost spares_all world
gains s n c [] before g sp u = record { up = u; behind = omega arith; near = omega arith }
gains s n c (e ∷ es) before g sp u =
    let p : (spares c e ≡ true) × (spares_all c es ≡ true) = and_parts (spares c e) (spares_all c es) sp in
    let ih : Gained (n - g.0) (world s before) (world s (es ++ before)) c = gains s (n - g.0) c es before g.3 p.1 u in
    let now : Gained g.0 (world s (es ++ before)) (step s e (world s (es ++ before))) c = step_gains g.0 s (world s (es ++ before)) c e g.2 p.0 ih.up in
    record { up = now.up; behind = omega (arith, ih.behind, now.behind); near = omega (arith, ih.near, now.near, g.1) }

close : (s : Settings) (n : ℕ) (es : List Event) → n ≤ s.skew → GainsAtMost s n es → Close s es
close s n es l g c before q =
    let x : Gained n (world s before) (world s (q.between ++ before)) c = gains s n c q.between before (subst (λ (z : List Event). GainsAtMost s n z) q.split g) q.spared q.client_up in
    let y : Gained n (world s before) (world s es) c = subst (λ (z : List Event). Gained n (world s before) (world s z) c) (sym q.split) x in
    (omega (arith, y.behind), omega (arith, y.near))

onward : (x : ℕ) (e : Event) (w : World) → Gains x e w → Onward e w
onward x (Pass k f) w g = tt
onward x (Asks d n p) w g = tt
onward x (ServerHears i) w g = tt
onward x (ServerHearsAndCrashes i wrote) w g = tt
onward x (ClientHears d i) w g = tt
onward x (ClientStarts d clock) w g = tt
onward x (ClientCrashes d) w g = tt
onward x ServerCrashes w g = tt
onward x (Forgets gone) w g = tt
onward x (ServerRestarts clock lost) w g = g.0

all_along : (s : Settings) (n : ℕ) (es : List Event) → n ≤ s.skew → GainsAtMost s n es → AllAlong (Close s) es × Forward s es
unfolding AllAlong Forward GainsAtMost
all_along s n [] l g = (tt, tt)
all_along s n (e ∷ es) l g =
    let r : AllAlong (Close s) es × Forward s es = all_along s (n - g.0) es (omega arith) g.3 in
    ((close s n (e ∷ es) l g, r.0), (onward g.0 e (world s es) g.2, r.1))

pub little_drift : LittleDrift
little_drift s es g = all_along s s.skew es (omega arith) g
