-- What holds at every moment holds on when the server hears, crashes or restarts.
-- Assumes nothing.
use Rattle.std.proofs.Common.{◌≡◌, ℕ, ◌+◌, ◌<◌, ◌≤◌, Bool, true, false, cond, ◌&&◌, ◌||◌, eqb, ◌∷◌, Some, None, Ok, Err, Option, sym, refl, ap, ◌∙◌, inl, inr, arith}
use Rattle.std.proofs.lemmas.Bool.{cond_both, cond-true, cond-false, cases_Bool, cases_lt, eqb-true, eq-eqb, or_parts}
use Rattle.lease.specs.declared.lease.Lease.{Lease}
use Rattle.lease.specs.declared.message.Request.{Request}
use Rattle.lease.specs.declared.message.Grant.{Grant}
use Rattle.lease.specs.Settings.{Settings, life, silence}
use Rattle.lease.specs.Table.{Table, empty, vacant, leased, written, forgotten}
use Rattle.lease.specs.Choosing.{Chosen}
use Rattle.lease.specs.World.{Message, Requests, Grants, Server, World, is_silent, elem}
use Rattle.lease.specs.Run.{Answer, answer, serves, lends, crashes, with_server, forgets, restarts, replied, server_hears}
use Rattle.std.proofs.lemmas.Option.{none-some, same_Some}
use Rattle.lease.proofs.Choosing.{laws}
use Rattle.lease.proofs.Tidy.{free-live, forgotten_stays}
use Rattle.lease.proofs.Claims.{In, view, Line, claim_on}
use Rattle.lease.proofs.Sound.{Moments, Sound, Agrees, Mine, Kept, sound-loses, server-does, same}
use Rattle.lease.proofs.Answers.{GrantedBy, Meant, meant, not_silent_lem}

module _ (s : Settings) (S S' : Moments) (w : World) (k : Sound s S w) where
  abbrev v : Server
  v = w.server

  pub server-crashes : ((c : ℕ) → Kept S S' c) → Sound s S' (with_server (crashes v) w)
  server-crashes ks = sound-loses s S' w w.messages (λ m i. i) (same s S S' w k ks)

  -- the server restarts, maybe with a clock that is behind: then the restart is the moment that a claim counts from
  restarted : (v' : Server) → ((c : ℕ) → Kept S S' c) → ((c : ℕ) → v'.clock < v.clock → (w.clients c).up ≡ true → S' c (w.clients c).clock v'.clock) →
      (v'.silent ≡ None → (a : ℕ) → k.book a ≡ v'.table a) → ((u : ℕ) → v'.silent ≡ Some u → v'.clock + life s ≤ u) → Sound s S' (with_server v' w)
  restarted v' ks now kept hush =
      server-does s S S' w k v' k.book w.messages kept k.nonces
      (λ c asked a up l q. elim (cases_lt v'.clock q.h) [
        | inl b ↦
            record {
              t = (w.clients c).clock;
              h = v'.clock;
              moment = now c (omega (arith, b, q.past)) up;
              since = omega (arith, q.since, q.seen);
              seen = omega arith;
              past = omega arith;
              hushed = hush;
              line = record { lease = q.line.lease; there = q.line.there; client = q.line.client; expires = omega (arith, q.line.expires) };
            }
        | inr b ↦ claim_on (life s) (S c) (S' c) (view w k.book) _ c _ _ asked a (ks c) (omega arith) q b (λ u e. omega (arith, hush u e)) q.line
      ])
      (λ c g own i. inl i)

  pub server-restarts : (clock : ℕ) (lost : Bool) → ((c : ℕ) → Kept S S' c) → ((c : ℕ) → clock < v.clock → (w.clients c).up ≡ true → S' c (w.clients c).clock clock) →
      Sound s S' (with_server (restarts s clock lost v) w)
  server-restarts clock lost ks now =
      cond_both (lost || is_silent v.silent) _ _ (λ v'. Sound s S' (with_server v' w))
      (λ e. restarted (record { clock = clock; up = true; silent = Some (clock + silence s); table = empty }) ks now
      (λ f. absurd (none-some _ (sym f))) (λ u f. let z : clock + silence s ≡ u = same_Some _ _ f in omega arith))
      (λ e. restarted (record { clock = clock; up = true; silent = None; table = v.table }) ks now
      (λ f. k.kept (not_silent_lem _ (or_parts _ _ e).1)) (λ u f. absurd (none-some u f)))

  -- what is over is forgotten: no claim rests on it
  pub server-forgets : ((c : ℕ) → Agrees s (S c) w c) → ((c : ℕ) → Kept S S' c) → (gone : ℕ → Bool) → Sound s S' (with_server (forgets gone v) w)
  server-forgets ag ks gone =
      cond_both v.up _ v (λ v'. Sound s S' (with_server v' w))
      (λ up. server-does s S S' w k (record { clock = v.clock; up = v.up; silent = v.silent; table = forgotten v.clock gone v.table }) (forgotten v.clock gone k.book) w.messages
      (λ e a. ap (λ (o : Option Lease). cond (gone a && vacant v.clock o) None o) (k.kept e a)) k.nonces
      (λ d asked a d-up l x.
      let live : v.clock ≤ x.h + life s = ag d up x.t x.h x.moment x.seen (omega (arith, x.since)) in
      claim_on (life s) (S d) (S' d) (view w k.book) _ d _ _ asked a (ks d) (omega arith) x x.past x.hushed
      (record {
        lease = x.line.lease;
        there = forgotten_stays v.clock gone k.book a x.line.lease x.line.there (omega (arith, live, x.line.expires));
        client = x.line.client;
        expires = x.line.expires;
      }))
      (λ d g own i. inl i))
      (λ down. same s S S' w k ks)

  -- the server hears a request
  module _ (ag : (c : ℕ) → Agrees s (S c) w c) (ks : (c : ℕ) → Kept S S' c) (now : (c : ℕ) → v.up ≡ true → (w.clients c).up ≡ true → S c (w.clients c).clock v.clock) where
    -- a grant: no other client's claim is on the address, since its lease would be live
    grant-sound : (r : Request) (g : Grant) → elem r.nonce w.drawn ≡ true → GrantedBy s v r g → Sound s S' (replied s (Ok (Some g)) w)
    grant-sound r g drawn by =
        server-does s S S' w k (lends s g v) book' (Grants g ∷ w.messages) (λ e a. ap (cond (eqb a g.address) (Some new)) (k.kept e a))
        (λ m. elim [ inl e ↦ rw (e, by.nonce) drawn | inr i ↦ k.nonces m i ])
        (λ d asked a d-up l x. claim_on (life s) (S d) (S' d) (view w k.book) _ d _ _ asked a (ks d) (omega arith) x x.past x.hushed (lines d asked a l x))
        (λ d m own. elim [
          | inl e ↦
              let mg : m ≡ g = cc in
              inr (λ d-up asked f. record {
                t = (w.clients d).clock;
                h = v.clock;
                moment = ks d _ _ (now d by.up d-up);
                since = f;
                seen = omega arith;
                past = omega arith;
                hushed = λ u e. absurd (none-some u (sym by.quiet ∙ e));
                line = record {
                  lease = new;
                  there = cond-true (eqb m.address g.address) _ _ (eq-eqb _ _ (ap (λ (z : Grant). z.address) mg));
                  client = ap (λ (z : Grant). z.client) (sym mg) ∙ own;
                  expires = omega arith;
                };
              })
          | inr i ↦ inl i
        ])
      where
        new : Lease
        new = leased v.clock (life s) g.client g.address

        book' : Table
        book' = written new k.book

        ch : Chosen s.addresses v.clock v.table r (Some g.address)
        ch = laws s.addresses v.clock v.table r (Some g.address) (sym by.chosen)

        lines : (d asked a : ℕ) → (w.clients d).clock ≤ asked + s.term → (x : Mine s S w k.book d asked a) → Line book' a d (x.h + life s)
        lines d asked a l x =
            elim (cases_Bool (eqb a g.address)) [
              | inl e ↦
                  let live : v.clock ≤ x.h + life s = ag d by.up x.t x.h x.moment x.seen (omega (arith, x.since)) in
                  let there : v.table g.address ≡ Some x.line.lease = rw (← eqb-true a g.address e) (sym (k.kept by.quiet a) ∙ x.line.there) in
                  let mine : x.line.lease.client ≡ r.client =
                  free-live v.clock r.client (v.table g.address) x.line.lease (ch.others g.address refl) there (omega (arith, live, x.line.expires)) in
                  record { lease = new; there = cond-true (eqb a g.address) _ _ e; client = by.client ∙ sym mine ∙ x.line.client; expires = omega (arith, x.past) }
              | inr e ↦ record { lease = x.line.lease; there = cond-false (eqb a g.address) _ _ e ∙ x.line.there; client = x.line.client; expires = x.line.expires }
            ]

    answer-sound : (r : Request) → elem r.nonce w.drawn ≡ true → (x : Answer) → Meant s v r x → Sound s S' (replied s x w)
    answer-sound r drawn (Ok None) by = same s S S' w k ks
    answer-sound r drawn (Ok (Some g)) by = grant-sound r g drawn by
    answer-sound r drawn (Err f) by = same s S S' w k ks

    pub server-hears : (o : Option Message) → ((m : Message) → o ≡ Some m → In m w.messages) → Sound s S' (server_hears s o w)
    server-hears None i = same s S S' w k ks
    server-hears (Some (Grants g)) i = same s S S' w k ks
    server-hears (Some (Requests r)) i = answer-sound r (k.nonces _ (i _ refl)) (answer s v r) (meant s v r)

    -- the lease is written, and the server crashes before the grant is sent
    answer-lost : (r : Request) → elem r.nonce w.drawn ≡ true → (x : Answer) → Meant s v r x → Sound s S' (with_server (crashes (serves s x v)) w)
    answer-lost r drawn (Ok None) by = server-crashes ks
    answer-lost r drawn (Ok (Some g)) by = sound-loses s S' (replied s (Ok (Some g)) w) w.messages (λ m i. inr i) (grant-sound r g drawn by)
    answer-lost r drawn (Err f) by = server-crashes ks

    hears-lost : (o : Option Message) → ((m : Message) → o ≡ Some m → In m w.messages) → Sound s S' (with_server (crashes (server_hears s o w).server) w)
    hears-lost None i = server-crashes ks
    hears-lost (Some (Grants g)) i = server-crashes ks
    hears-lost (Some (Requests r)) i = answer-lost r (k.nonces _ (i _ refl)) (answer s v r) (meant s v r)

    pub server-hears_and_crashes : (o : Option Message) (wrote : Bool) → ((m : Message) → o ≡ Some m → In m w.messages) →
        Sound s S' (with_server (crashes (cond wrote (server_hears s o w).server v)) w)
    server-hears_and_crashes o true i = hears-lost o i
    server-hears_and_crashes o false i = server-crashes ks
