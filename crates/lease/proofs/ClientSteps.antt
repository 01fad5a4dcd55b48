-- What holds at every moment holds on when a client asks, hears, starts or crashes.
-- Assumes nothing.
use Rattle.std.proofs.Common.{◌≡◌, ℕ, ◌+◌, Bool, true, false, not, ◌&&◌, eqb, leb, List, ◌∷◌, Some, None, Ok, Option, Result, refl, subst, inl, inr, arith}
use Rattle.std.proofs.lemmas.Bool.{cond_both, both_ways, eqb-true, eq-eqb, leb-true, and_parts, not-true, or_left, or_right}
use Rattle.lease.specs.declared.fault.Fault.{Fault}
use Rattle.lease.specs.declared.message.Request.{Request}
use Rattle.lease.specs.declared.message.Grant.{Grant}
use Rattle.lease.specs.Settings.{Settings}
use Rattle.lease.specs.Holding.{Use, Wait, Holding, taken, taking_for, settled}
use Rattle.lease.specs.World.{Message, Requests, Grants, Server, Client, World, knowing_nothing, elem}
use Rattle.lease.specs.Run.{with_holding, asked, held_by, hearing, with_client, requested, asks, client_hears}
use Rattle.std.proofs.lemmas.Option.{none-some, same_Some}
use Rattle.lease.proofs.Claims.{In, View, view, Using, Waiting, Holds, Moves, using_moves, waiting_moves, holds_same}
use Rattle.lease.proofs.Sound.{Moments, Sound, Kept, claim_stays, same, client-does}

grant-request : (g : Grant) (r : Request) → Grants g ≡ Requests r → ⊥
grant-request g r e = let z : ◌≡◌ {A = ℕ} 0 1 = cc in omega arith

-- one nonce more
newest : (n : ℕ) (ns : List ℕ) → elem n (n ∷ ns) ≡ true
unfolding elem
newest n ns = or_left (eqb n n) (elem n ns) (eq-eqb n n refl)

more : (n : ℕ) (ns : List ℕ) (m : ℕ) → elem m ns ≡ true → elem m (n ∷ ns) ≡ true
unfolding elem
more n ns m e = or_right (eqb m n) (elem m ns) e

module _ (s : Settings) (S S' : Moments) (w : World) (k : Sound s S w) where
  abbrev v : Server
  v = w.server

  abbrev viewed : List Message → List ℕ → View
  viewed ms drawn = record { now = v.clock; hush = v.silent; book = k.book; messages = ms; drawn = drawn }

  -- a client that knows nothing
  pub client-forgets : (c clock : ℕ) (up : Bool) → ((d : ℕ) → eqb d c ≡ false → Kept S S' d) → Sound s S' (with_client c (knowing_nothing clock up) w)
  client-forgets c clock up ks =
      client-does s S S' w k c _ w.messages w.drawn ks (λ n e. e) k.nonces (λ g i. i)
      (record { uses = λ u e. absurd (none-some u e); waits = λ q e. absurd (none-some q e) })

  -- what a client has that stays as it is, while it does something
  own_moves : (c : ℕ) (h : Holding) (ms : List Message) (drawn : List ℕ) → Kept S S' c → ((n : ℕ) → elem n w.drawn ≡ true → elem n drawn ≡ true) → ((g : Grant) → In (Grants g) ms → In (Grants g) w.messages) →
      Moves s (S c) (S' c) (view w k.book) (viewed ms drawn) c (w.clients c) (with_holding (w.clients c) h)
  own_moves c h ms drawn ks on old =
      record {
        up = refl;
        clock = omega arith;
        drawn = on;
        claims = λ asked a x l q. claim_stays s S S' w k c ms drawn ks asked a q;
        grants = λ g own i. inl (old g i);
      }

  pub client-asks : (c n p : ℕ) → ((d : ℕ) → Kept S S' d) → Sound s S' (asks c n p w)
  client-asks c n p ks =
      cond_both ((w.clients c).up && not (elem n w.drawn)) (requested c n p w) w (λ w'. Sound s S' w')
      (λ able. client-does s S S' w k c me (Requests r ∷ w.messages) (n ∷ w.drawn) (λ d f. ks d) (more n w.drawn)
      (λ m. elim [ inl f ↦ rw f (newest n w.drawn) | inr i ↦ more n w.drawn _ (k.nonces m i) ]) old
      (record {
        uses = λ u f. using_moves s (S c) (S' c) (view w k.book) after c (w.clients c) me moves u ((k.holds c).uses u f).now ((k.holds c).uses u f);
        waits = λ q f.
            let g : record { nonce = n; asked = (w.clients c).clock } ≡ q = same_Some _ _ f in
            subst (λ (z : Wait). Waiting s (S' c) after c me z) g
            (record {
              up = (and_parts _ _ able).0;
              drawn = newest n w.drawn;
              past = omega arith;
              claims = λ g i own same l. absurd (both_ways _ (not-true _ (and_parts _ _ able).1) (rw same at (k.nonces (Grants g) (old g i))));
            });
      }))
      (λ e. same s S S' w k ks)
    where
      r : Request
      r = record { client = c; nonce = n; preferred = p }

      me : Client
      me = asked n (w.clients c)

      after : View
      after = viewed (Requests r ∷ w.messages) (n ∷ w.drawn)

      old : (g : Grant) → In (Grants g) (Requests r ∷ w.messages) → In (Grants g) w.messages
      old g (inl f) = absurd (grant-request g r f)
      old g (inr i) = i

      moves : Moves s (S c) (S' c) (view w k.book) after c (w.clients c) me
      moves = own_moves c _ (Requests r ∷ w.messages) (n ∷ w.drawn) (ks c) (more n w.drawn) old

  -- a grant that comes to a client
  module _ (c : ℕ) (ks : (d : ℕ) → Kept S S' d) where
    abbrev has : Holding → Client
    has h = with_holding (w.clients c) h

    moves : (h : Holding) → Moves s (S c) (S' c) (view w k.book) (viewed w.messages w.drawn) c (w.clients c) (has h)
    moves h = own_moves c h w.messages w.drawn (ks c) (λ n e. e) (λ g i. i)

    does : (x : Client) → Holds s (S' c) (viewed w.messages w.drawn) c x → Sound s S' (with_client c x w)
    does x q = client-does s S S' w k c x w.messages w.drawn (λ d f. ks d) (λ n e. e) k.nonces (λ g i. i) q

    unchanged : Sound s S' (with_client c (w.clients c) w)
    unchanged = does (w.clients c) (holds_same s (S c) (S' c) (view w k.book) _ c (w.clients c) (moves (w.clients c).holding) (k.holds c))

    -- what a client makes of a grant: nothing, or what it takes
    abbrev After : Result Holding Fault → Type 0
    After x = Sound s S' (with_client c (settled (w.clients c) (held_by (w.clients c) x)) w)

    has_taken : (g : Grant) → In (Grants g) w.messages → g.client ≡ c → (o : Option Wait) → (w.clients c).holding.waits ≡ o → After (taking_for s.term (w.clients c).clock g o)
    has_taken g i own None e = unchanged
    has_taken g i own (Some q) e =
        cond_both (eqb g.nonce q.nonce) _ _ (λ x. After x)
        (λ f. cond_both (leb (w.clients c).clock (q.asked + s.term)) _ _ (λ x. After x)
        (λ soon.
        let h : Holding = taken s.term g.address q.asked in
        let wait : Waiting s (S' c) (viewed w.messages w.drawn) c (has h) q = waiting_moves s (S c) (S' c) (view w k.book) _ c (w.clients c) _ (moves h) q ((k.holds c).waits q e) in
        does (has h) (record {
          uses = λ u j. subst (λ (z : Use). Using s (S' c) (viewed w.messages w.drawn) c (has h) z) (same_Some _ _ j)
              (record {
                up = wait.up;
                now = leb-true _ _ soon;
                asked = q.asked;
                till = refl;
                claim = wait.claims g i own (eqb-true _ _ f) (leb-true _ _ soon);
              });
          waits = λ u j. absurd (none-some u j);
        }))
        (λ late. unchanged))
        (λ f. unchanged)

    hears-grant : (g : Grant) → In (Grants g) w.messages → Sound s S' (with_client c (settled (w.clients c) (hearing s.term c g (w.clients c))) w)
    hears-grant g i =
        cond_both (w.clients c).up _ (Ok (w.clients c)) (λ x. Sound s S' (with_client c (settled (w.clients c) x) w))
        (λ up. cond_both (eqb g.client c) _ _ (λ x. After x) (λ e. has_taken g i (eqb-true _ _ e) (w.clients c).holding.waits refl) (λ e. unchanged))
        (λ down. unchanged)

    pub client-hears : (o : Option Message) → ((m : Message) → o ≡ Some m → In m w.messages) → Sound s S' (client_hears s c o w)
    client-hears None i = same s S S' w k ks
    client-hears (Some (Requests r)) i = same s S S' w k ks
    client-hears (Some (Grants g)) i = hears-grant g (i _ refl)
