-- What holds at every moment, and that it holds on when only the server or only one client does something.
-- Assumes nothing.
use Rattle.std.proofs.Common.{◌≡◌, ℕ, ◌+◌, ◌≤◌, true, false, eqb, ◌⊎◌, List, None, sym, refl, subst, inl, arith}
use Rattle.std.proofs.lemmas.Bool.{cond_both, eqb-true}
use Rattle.lease.specs.declared.message.Grant.{Grant}
use Rattle.lease.specs.Settings.{Settings, life}
use Rattle.lease.specs.Table.{Table, at}
use Rattle.lease.specs.World.{Message, Requests, Grants, Server, Client, World, elem}
use Rattle.lease.specs.Run.{crashes}
use Rattle.lease.proofs.Claims.{In, View, view, Claim, Holds, Moves, holds_same, claim_on}

abbrev pub nonce_of : Message → ℕ
nonce_of (Requests r) = r.nonce
nonce_of (Grants g) = g.nonce

-- for each client, the moments that its claims may count from
abbrev pub Moments : Type 1
Moments = ℕ → ℕ → ℕ → Type 0

pub record Sound (s : Settings) (S : Moments) (w : World) : Type 0 where
  pub book : Table
  pub kept : w.server.silent ≡ None → (a : ℕ) → book a ≡ w.server.table a
  pub nonces : (m : Message) → In m w.messages → elem (nonce_of m) w.drawn ≡ true
  pub holds : (c : ℕ) → Holds s (S c) (view w book) c (w.clients c)

-- the lemma on clocks: since a moment that `S` speaks of, a client that counted at most a term saw the server count at most a lease's life
abbrev pub Agrees : Settings → (ℕ → ℕ → Type 0) → World → ℕ → Type 0
Agrees s S w c = w.server.up ≡ true → (t h : ℕ) → S t h → t ≤ (w.clients c).clock → (w.clients c).clock ≤ t + s.term → w.server.clock ≤ h + life s

-- what the client may claim now
abbrev pub Mine : Settings → Moments → World → Table → (c asked a : ℕ) → Type 0
Mine s S w book c asked a = Claim (life s) (S c) (view w book) c (w.clients c).clock asked a

-- moments stay moments
abbrev pub Kept : Moments → Moments → ℕ → Type 0
Kept S S' c = (t h : ℕ) → S c t h → S' c t h

-- messages may be lost, and the server may crash
pub sound-loses : (s : Settings) (S : Moments) (w : World) (ms : List Message) → ((m : Message) → In m ms → In m w.messages) → Sound s S w →
    Sound s S (record { server = crashes w.server; clients = w.clients; messages = ms; drawn = w.drawn })
sound-loses s S w ms sub k =
    record {
      book = k.book;
      kept = k.kept;
      nonces = λ m i. k.nonces m (sub m i);
      holds = λ c. holds_same s (S c) (S c) (view w k.book) _ c (w.clients c)
          (record {
            up = refl;
            clock = omega arith;
            drawn = λ n e. e;
            claims = λ asked a x l q. claim_on (life s) (S c) (S c) (view w k.book) _ c _ _ asked a (λ t h m. m) (omega arith) q q.past q.hushed q.line;
            grants = λ g own i. inl (sub _ i);
          }) (k.holds c);
    }

module _ (s : Settings) (S S' : Moments) (w : World) (k : Sound s S w) where
  abbrev v : Server
  v = w.server

  abbrev pub viewed : Server → Table → List Message → View
  viewed v' book ms = record { now = v'.clock; hush = v'.silent; book = book; messages = ms; drawn = w.drawn }

  -- the server does something, no client does
  pub server-does : (v' : Server) (book' : Table) (ms : List Message) → (v'.silent ≡ None → (a : ℕ) → book' a ≡ v'.table a) → ((m : Message) → In m ms → elem (nonce_of m) w.drawn ≡ true) →
      ((c asked a : ℕ) → (w.clients c).up ≡ true → (w.clients c).clock ≤ asked + s.term → Mine s S w k.book c asked a → Claim (life s) (S' c) (viewed v' book' ms) c (w.clients c).clock asked a) →
      ((c : ℕ) (g : Grant) → g.client ≡ c → In (Grants g) ms →
      In (Grants g) w.messages ⊎ ((w.clients c).up ≡ true → (asked : ℕ) → asked ≤ (w.clients c).clock → Claim (life s) (S' c) (viewed v' book' ms) c (w.clients c).clock asked g.address)) →
      Sound s S' (record { server = v'; clients = w.clients; messages = ms; drawn = w.drawn })
  server-does v' book' ms kept nonces claims grants =
      record {
        book = book';
        kept = kept;
        nonces = nonces;
        holds = λ c. holds_same s (S c) (S' c) (view w k.book) (viewed v' book' ms) c (w.clients c)
            (record { up = refl; clock = omega arith; drawn = λ n e. e; claims = claims c; grants = grants c }) (k.holds c);
      }

  -- a claim stays a claim where neither clock nor book changes
  pub claim_stays : (c : ℕ) (ms : List Message) (drawn : List ℕ) → Kept S S' c → (asked a : ℕ) → Mine s S w k.book c asked a →
      Claim (life s) (S' c) (record { now = v.clock; hush = v.silent; book = k.book; messages = ms; drawn = drawn }) c (w.clients c).clock asked a
  claim_stays c ms drawn ks asked a q = claim_on (life s) (S c) (S' c) (view w k.book) _ c _ _ asked a ks (omega arith) q q.past q.hushed q.line

  pub same : ((c : ℕ) → Kept S S' c) → Sound s S' w
  same ks = server-does v k.book w.messages k.kept k.nonces (λ c asked a x l q. claim_stays c w.messages w.drawn (ks c) asked a q) (λ c g own i. inl i)

  -- one client does something
  pub client-does : (c : ℕ) (x : Client) (ms : List Message) (drawn : List ℕ) → ((d : ℕ) → eqb d c ≡ false → Kept S S' d) → ((n : ℕ) → elem n w.drawn ≡ true → elem n drawn ≡ true) →
      ((m : Message) → In m ms → elem (nonce_of m) drawn ≡ true) → ((g : Grant) → In (Grants g) ms → In (Grants g) w.messages) →
      Holds s (S' c) (record { now = v.clock; hush = v.silent; book = k.book; messages = ms; drawn = drawn }) c x →
      Sound s S' (record { server = v; clients = at c x w.clients; messages = ms; drawn = drawn })
  client-does c x ms drawn ks on nonces old h =
      record {
        book = k.book;
        kept = k.kept;
        nonces = nonces;
        holds = λ d. cond_both (eqb d c) x (w.clients d) (λ y. Holds s (S' d) after d y)
            (λ e. subst (λ (z : ℕ). Holds s (S' z) after z x) (sym (eqb-true d c e)) h)
            (λ e. holds_same s (S d) (S' d) (view w k.book) after d (w.clients d) (alike d (ks d e)) (k.holds d));
      }
    where
      after : View
      after = record { now = v.clock; hush = v.silent; book = k.book; messages = ms; drawn = drawn }

      alike : (d : ℕ) → Kept S S' d → Moves s (S d) (S' d) (view w k.book) after d (w.clients d) (w.clients d)
      alike d ks =
          record {
            up = refl;
            clock = omega arith;
            drawn = on;
            claims = λ asked a x l q. claim_stays d ms drawn ks asked a q;
            grants = λ g own i. inl (old g i);
          }
