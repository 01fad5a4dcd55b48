-- The moments of a run, and that what holds at every moment holds in every run within the premise.
-- Assumes nothing.
use Rattle.std.proofs.Common.{◌≡◌, ℕ, zero, suc, ◌+◌, ◌-◌, ◌≤◌, Bool, true, false, not, eqb, List, [], ◌∷◌, Some, None, sym, refl, ap, ◌∙◌, subst, inl, inr, arith}
use Rattle.std.proofs.lemmas.Bool.{cond_both, cond-true, eqb-false, ne_eqb, not_from_false, and_from}
use Rattle.lease.specs.Settings.{Settings, outlasts}
use Rattle.lease.specs.World.{Message, Server, Client, World, sent}
use Rattle.lease.specs.Run.{Event, Pass, Asks, ServerHears, ServerHearsAndCrashes, ClientHears, ClientStarts, ClientCrashes, ServerCrashes, Forgets, ServerRestarts, server_passes, client_passes, restarts, step, world}
use Rattle.lease.specs.Premise.{spares, spares_all, Stretch, Near, Close, AllAlong, Agree, CloselyIsEnough}
use Rattle.std.proofs.lemmas.Option.{none-some, same_Some}
use Rattle.lease.proofs.Claims.{In}
use Rattle.lease.proofs.Sound.{Moments, Sound, Agrees}
use Rattle.lease.proofs.ServerSteps.{server-crashes, server-forgets, server-restarts, server-hears, server-hears_and_crashes}
use Rattle.lease.proofs.ClientSteps.{client-forgets, client-asks, client-hears}
use Rattle.lease.proofs.Passing.{time_passes}

-- there was a moment in the run, with the server and the client up, when their clocks showed `h` and `t`, and the client neither crashed nor started since
pub record Since (s : Settings) (es : List Event) (c t h : ℕ) : Type 0 where
  pub before : List Event
  pub stretch : Stretch s c before es
  pub server_up : (world s before).server.up ≡ true
  pub ticks : ((world s before).clients c).clock ≡ t
  pub server-ticks : (world s before).server.clock ≡ h

since_on : (s : Settings) (es : List Event) (e : Event) (c : ℕ) → spares c e ≡ true → (t h : ℕ) → Since s es c t h → Since s (e ∷ es) c t h
unfolding spares_all
since_on s es e c p t h q =
    record {
      before = q.before;
      stretch = record {
        between = e ∷ q.stretch.between;
        split = ap (λ (xs : List Event). e ∷ xs) q.stretch.split;
        spared = and_from _ _ p q.stretch.spared;
        client_up = q.stretch.client_up;
      };
      server_up = q.server_up;
      ticks = q.ticks;
      server-ticks = q.server-ticks;
    }

since_now : (s : Settings) (es : List Event) (c : ℕ) → (world s es).server.up ≡ true → ((world s es).clients c).up ≡ true → Since s es c ((world s es).clients c).clock (world s es).server.clock
unfolding spares_all
since_now s es c u x = record { before = es; stretch = record { between = []; split = refl; spared = refl; client_up = x }; server_up = u; ticks = refl; server-ticks = refl }

near_agrees : (s : Settings) (es : List Event) (c : ℕ) → Near s es → Agrees s (Since s es c) (world s es) c
near_agrees s es c near up t h q below soon =
    let d : ℕ = ((world s es).clients c).clock - t in
    let e : ((world s es).clients c).clock ≡ ((world s q.before).clients c).clock + d = omega (arith, q.ticks) in
    let n : (world s es).server.clock ≤ (world s q.before).server.clock + outlasts s d = near c q.before q.stretch q.server_up up d e (omega arith) in
    omega (arith, n, q.server-ticks)

pub agrees : (s : Settings) (es : List Event) → Agree s es → (c : ℕ) → Agrees s (Since s es c) (world s es) c
unfolding AllAlong world
agrees s [] ag c = λ up t h q below soon. omega arith
agrees s (e ∷ es) ag c = near_agrees s (e ∷ es) c ag.0

pub sent_in : (i : ℕ) (ms : List Message) (m : Message) → sent i ms ≡ Some m → In m ms
unfolding sent
sent_in i [] m e = none-some m e
sent_in zero (x ∷ ms) m e = inl (sym (same_Some x m e))
sent_in (suc i) (x ∷ ms) m e = inr (sent_in i ms m e)

pub passes-clock : (k : ℕ) (v : Server) → ((server_passes k v).clock ≡ v.clock + k) × ((server_passes k v).up ≡ v.up)
passes-clock k v = cond_both _ _ _ (λ (z : Server). (z.clock ≡ v.clock + k) × (z.up ≡ v.up)) (λ e. (refl, refl)) (λ e. (refl, refl))

pub client-clock : (k : ℕ) (x : Client) → x.up ≡ true → (client_passes k x).clock ≡ x.clock + k
client-clock k x e = ap (λ (z : Client). z.clock) (cond-true x.up _ x e)

pub restarts-clock : (s : Settings) (clock : ℕ) (lost : Bool) (v : Server) → ((restarts s clock lost v).clock ≡ clock) × ((restarts s clock lost v).up ≡ true)
restarts-clock s clock lost v = cond_both _ _ _ (λ (z : Server). (z.clock ≡ clock) × (z.up ≡ true)) (λ e. (refl, refl)) (λ e. (refl, refl))

other : (c d : ℕ) → eqb d c ≡ false → not (eqb c d) ≡ true
other c d e = not_from_false _ (ne_eqb c d (λ i. eqb-false d c e (sym i)))

sound-step : (s : Settings) (S S' : Moments) (e : Event) (w : World) → ((c : ℕ) → Agrees s (S c) w c) → ((c : ℕ) → Agrees s (S' c) (step s e w) c) →
    ((c : ℕ) → spares c e ≡ true → (t h : ℕ) → S c t h → S' c t h) → ((c : ℕ) → w.server.up ≡ true → (w.clients c).up ≡ true → S c (w.clients c).clock w.server.clock) →
    ((c : ℕ) → (step s e w).server.up ≡ true → ((step s e w).clients c).up ≡ true → S' c ((step s e w).clients c).clock (step s e w).server.clock) →
    Sound s S w → Sound s S' (step s e w)
sound-step s S S' (Pass k f) w ag ag' ks now now' so =
    time_passes s S S' w so f (λ c. ks c refl) k
    (λ up c x t h m b u.
    let p : ((server_passes k w.server).clock ≡ w.server.clock + k) × ((server_passes k w.server).up ≡ w.server.up) = passes-clock k w.server in
    let q : (client_passes (f c) (w.clients c)).clock ≡ (w.clients c).clock + f c = client-clock (f c) (w.clients c) x in
    omega (arith, p.0, ag' c (p.1 ∙ up) t h (ks c refl t h m) (omega (arith, q)) (omega (arith, q))))
sound-step s S S' (Asks c n p) w ag ag' ks now now' so = client-asks s S S' w so c n p (λ c. ks c refl)
sound-step s S S' (ServerHears i) w ag ag' ks now now' so = server-hears s S S' w so ag (λ c. ks c refl) now _ (sent_in i w.messages)
sound-step s S S' (ServerHearsAndCrashes i wrote) w ag ag' ks now now' so = server-hears_and_crashes s S S' w so ag (λ c. ks c refl) now _ wrote (sent_in i w.messages)
sound-step s S S' (ClientHears c i) w ag ag' ks now now' so = client-hears s S S' w so c (λ c. ks c refl) _ (sent_in i w.messages)
sound-step s S S' (ClientStarts c clock) w ag ag' ks now now' so = client-forgets s S S' w so c clock true (λ d e. ks d (other c d e))
sound-step s S S' (ClientCrashes c) w ag ag' ks now now' so = client-forgets s S S' w so c _ false (λ d e. ks d (other c d e))
sound-step s S S' ServerCrashes w ag ag' ks now now' so = server-crashes s S S' w so (λ c. ks c refl)
sound-step s S S' (Forgets gone) w ag ag' ks now now' so = server-forgets s S S' w so ag (λ c. ks c refl) gone
sound-step s S S' (ServerRestarts clock lost) w ag ag' ks now now' so =
    let r : ((restarts s clock lost w.server).clock ≡ clock) × ((restarts s clock lost w.server).up ≡ true) = restarts-clock s clock lost w.server in
    server-restarts s S S' w so clock lost (λ c. ks c refl) (λ c back up. subst (λ (z : ℕ). S' c (w.clients c).clock z) r.0 (now' c r.1 up))

pub sound : (s : Settings) (es : List Event) → Agree s es → Sound s (Since s es) (world s es)
unfolding world AllAlong
sound s [] ag =
    record {
      book = λ a. None;
      kept = λ e a. refl;
      nonces = λ m i. absurd i;
      holds = λ c. record { uses = λ u e. absurd (none-some u e); waits = λ q e. absurd (none-some q e) };
    }
sound s (e ∷ es) ag =
    sound-step s (Since s es) (Since s (e ∷ es)) e (world s es) (agrees s es ag.1) (agrees s (e ∷ es) ag) (since_on s es e) (since_now s es) (since_now s (e ∷ es)) (sound s es ag.1)

-- the usual premise is stronger
close_near : (s : Settings) (es : List Event) → AllAlong (Close s) es → Agree s es
unfolding AllAlong
close_near s [] ag = tt
close_near s (e ∷ es) ag = (λ c before q up up' d g l. omega (arith, (ag.0 c before q).1, g), close_near s es ag.1)

pub closely_is_enough : CloselyIsEnough
closely_is_enough s es ag = (close_near s es ag.0, ag.1)
