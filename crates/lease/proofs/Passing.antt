-- What holds at every moment holds on when time passes.
-- Assumes nothing.
use Rattle.std.proofs.Common.{◌≡◌, ℕ, ◌+◌, ◌<◌, ◌≤◌, Bool, true, ltb, leb, Some, None, Option, refl, inl, arith}
use Rattle.std.proofs.lemmas.Bool.{cond_both, both_ways, leb-true, ltb-true, and_parts}
use Rattle.lease.specs.Settings.{Settings, life}
use Rattle.lease.specs.Table.{Table, empty}
use Rattle.lease.specs.Holding.{Use, still_used, later}
use Rattle.lease.specs.World.{Server, Client, World}
use Rattle.lease.specs.Run.{over, client_passes, passes}
use Rattle.std.proofs.lemmas.Option.{none-some, same_Some}
use Rattle.lease.proofs.Claims.{View, view, Claim, Holds, holds_moves, claim_on}
use Rattle.lease.proofs.Sound.{Moments, Sound, Mine, Kept}

over-parts : (now : ℕ) (up : Bool) (o : Option ℕ) → over now up o ≡ true → (u : ℕ) × (o ≡ Some u) × (up ≡ true) × (u < now)
over-parts now up None e = absurd (both_ways _ refl e)
over-parts now up (Some u) e = (u, refl, (and_parts up (ltb u now) e).0, ltb-true _ _ (and_parts up (ltb u now) e).1)

still_used_lem : (now : ℕ) (o : Option Use) (u : Use) → still_used now o ≡ Some u → (o ≡ Some u) × (now ≤ u.until)
still_used_lem now None u = λ e. absurd (none-some u e)
still_used_lem now (Some x) u =
    cond_both (leb now x.until) (Some x) None (λ o. o ≡ Some u → (Some x ≡ Some u) × (now ≤ u.until))
    (λ e f. (f, rw (same_Some x u f) at (leb-true _ _ e))) (λ e f. absurd (none-some u f))

module _ (s : Settings) (S S' : Moments) (w : World) (k : Sound s S w) where
  abbrev v : Server
  v = w.server

  module _ (f : ℕ → ℕ) (ks : (c : ℕ) → Kept S S' c) where
    abbrev viewed : Server → Table → View
    viewed v' book = record { now = v'.clock; hush = v'.silent; book = book; messages = w.messages; drawn = w.drawn }

    abbrev older : ℕ → Client
    older c = record { clock = (w.clients c).clock + f c; up = (w.clients c).up; holding = later ((w.clients c).clock + f c) (w.clients c).holding }

    client-passes : (v' : Server) (book' : Table) (c : ℕ) →
        ((asked a : ℕ) → (w.clients c).up ≡ true → (w.clients c).clock + f c ≤ asked + s.term → Mine s S w k.book c asked a → Claim (life s) (S' c) (viewed v' book') c ((w.clients c).clock + f c) asked a) →
        Holds s (S' c) (viewed v' book') c (client_passes (f c) (w.clients c))
    client-passes v' book' c claims =
        cond_both (w.clients c).up (older c) (w.clients c) (λ x. Holds s (S' c) (viewed v' book') c x)
        (λ e. holds_moves s (S c) (S' c) (view w k.book) (viewed v' book') c (w.clients c) (older c)
        (record { up = refl; clock = omega arith; drawn = λ n e. e; claims = claims; grants = λ g own i. inl i })
        (still_used_lem ((w.clients c).clock + f c) (w.clients c).holding.uses) refl (k.holds c))
        (λ e. record {
          uses = λ u g. absurd (both_ways _ e ((k.holds c).uses u g).up);
          waits = λ q g. absurd (both_ways _ e ((k.holds c).waits q g).up);
        })

    -- for clients alone, by any ticks
    pub clients_pass : Sound s S' (record { server = v; clients = λ c. client_passes (f c) (w.clients c); messages = w.messages; drawn = w.drawn })
    clients_pass =
        record {
          book = k.book;
          kept = k.kept;
          nonces = k.nonces;
          holds = λ c. client-passes v k.book c
              (λ asked a up m q. claim_on (life s) (S c) (S' c) (view w k.book) _ c _ _ asked a (ks c) (omega arith) q q.past q.hushed q.line);
        }

    -- for all, where the server's clock sees no use outlast its lease
    module _ (n : ℕ)
        (ag : v.up ≡ true → (c : ℕ) → (w.clients c).up ≡ true → (t h : ℕ) → S c t h → t ≤ (w.clients c).clock + f c → (w.clients c).clock + f c ≤ t + s.term → v.clock + n ≤ h + life s) where
      pub time_passes : Sound s S' (passes n f w)
      time_passes =
          cond_both (over (v.clock + n) v.up v.silent) ended going (λ v'. Sound s S' (record { server = v'; clients = λ c. client_passes (f c) (w.clients c); messages = w.messages; drawn = w.drawn }))
          (λ e. record {
            book = empty;
            kept = λ g a. refl;
            nonces = k.nonces;
            holds = λ c. client-passes ended empty c (λ asked a up m q. absurd (gone e c up asked a m q));
          })
          (λ e. record {
            book = k.book;
            kept = k.kept;
            nonces = k.nonces;
            holds = λ c. client-passes going k.book c
                (λ asked a up m q. claim_on (life s) (S c) (S' c) (view w k.book) _ c _ _ asked a (ks c) (omega arith) q (omega (arith, q.past)) q.hushed q.line);
          })
        where
          ended : Server
          ended = record { clock = v.clock + n; up = v.up; silent = None; table = empty }

          going : Server
          going = record { clock = v.clock + n; up = v.up; silent = v.silent; table = v.table }

          -- at the end of the silence no claim is left
          gone : over (v.clock + n) v.up v.silent ≡ true → (c : ℕ) → (w.clients c).up ≡ true → (asked a : ℕ) → (w.clients c).clock + f c ≤ asked + s.term → Mine s S w k.book c asked a → ⊥
          gone e c up asked a m q =
              let o : (u : ℕ) × (v.silent ≡ Some u) × (v.up ≡ true) × (u < v.clock + n) = over-parts _ _ _ e in
              omega (arith, ag o.2 c up q.t q.h q.moment (omega (arith, q.seen)) (omega (arith, q.since)), q.hushed o.0 o.1, o.3)
