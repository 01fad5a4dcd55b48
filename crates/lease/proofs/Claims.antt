-- A client's claim on an address, what a client holds by its claims, and what of it stays when something happens.
-- Assumes nothing.
use Rattle.std.proofs.Common.{◌≡◌, ℕ, ◌+◌, ◌≤◌, true, ◌⊎◌, List, [], ◌∷◌, Some, Option, sym, refl, ◌∙◌, inl, inr, arith}
use Rattle.lease.specs.declared.lease.Lease.{Lease}
use Rattle.lease.specs.declared.message.Grant.{Grant}
use Rattle.lease.specs.Settings.{Settings, life}
use Rattle.lease.specs.Table.{Table}
use Rattle.lease.specs.Holding.{Use, Wait}
use Rattle.lease.specs.World.{Message, Grants, Client, World, elem}

abbrev pub In : {A : Type 0} → A → List A → Type 0
In x [] = ⊥
In x (y ∷ ys) = (x ≡ y) ⊎ In x ys

-- what a claim rests on: the server's clock, until when it is silent, the book, all messages, and the nonces that were drawn.
-- The book is the table, or in the silence the one that was lost.
pub record View : Type 0 where
  pub now : ℕ
  pub hush : Option ℕ
  pub book : Table
  pub messages : List Message
  pub drawn : List ℕ

abbrev pub view : World → Table → View
view w book = record { now = w.server.clock; hush = w.server.silent; book = book; messages = w.messages; drawn = w.drawn }

-- the book has the address as the client's, until `v` or longer
pub record Line (book : Table) (a c v : ℕ) : Type 0 where
  pub lease : Lease
  pub there : book a ≡ Some lease
  pub client : lease.client ≡ c
  pub expires : v ≤ lease.expires

-- The client `c`, whose clock shows `clock`, may use the address `a` on account of a request sent at `asked`: there was a moment since, when its clock showed `t` and the server's, which was up, `h`;
-- the book has the address as the client's for a lease's life from then on, and a silence lasts at least as long.
-- `S t h` says that there was such a moment, and that the client neither crashed nor started since.
pub record Claim (lasts : ℕ) (S : ℕ → ℕ → Type 0) (k : View) (c clock asked a : ℕ) : Type 0 where
  pub t : ℕ
  pub h : ℕ
  pub moment : S t h
  pub since : asked ≤ t
  pub seen : t ≤ clock
  pub past : h ≤ k.now
  pub hushed : (u : ℕ) → k.hush ≡ Some u → h + lasts ≤ u
  pub line : Line k.book a c (h + lasts)

-- what is used rests on a claim
pub record Using (s : Settings) (S : ℕ → ℕ → Type 0) (k : View) (c : ℕ) (x : Client) (u : Use) : Type 0 where
  pub up : x.up ≡ true
  pub now : x.clock ≤ u.until
  pub asked : ℕ
  pub till : u.until ≡ asked + s.term
  pub claim : Claim (life s) S k c x.clock asked u.address

-- each grant that could still be taken rests on a claim
pub record Waiting (s : Settings) (S : ℕ → ℕ → Type 0) (k : View) (c : ℕ) (x : Client) (q : Wait) : Type 0 where
  pub up : x.up ≡ true
  pub drawn : elem q.nonce k.drawn ≡ true
  pub past : q.asked ≤ x.clock
  pub claims : (g : Grant) → In (Grants g) k.messages → g.client ≡ c → g.nonce ≡ q.nonce → x.clock ≤ q.asked + s.term →
      Claim (life s) S k c x.clock q.asked g.address

pub record Holds (s : Settings) (S : ℕ → ℕ → Type 0) (k : View) (c : ℕ) (x : Client) : Type 0 where
  pub uses : (u : Use) → x.holding.uses ≡ Some u → Using s S k c x u
  pub waits : (q : Wait) → x.holding.waits ≡ Some q → Waiting s S k c x q

-- what happens leaves the client every claim that it may still use, and brings grants only with claims
pub record Moves (s : Settings) (S S' : ℕ → ℕ → Type 0) (k k' : View) (c : ℕ) (x x' : Client) : Type 0 where
  pub up : x'.up ≡ x.up
  pub clock : x.clock ≤ x'.clock
  pub drawn : (n : ℕ) → elem n k.drawn ≡ true → elem n k'.drawn ≡ true
  pub claims : (asked a : ℕ) → x.up ≡ true → x'.clock ≤ asked + s.term → Claim (life s) S k c x.clock asked a → Claim (life s) S' k' c x'.clock asked a
  pub grants : (g : Grant) → g.client ≡ c → In (Grants g) k'.messages →
      In (Grants g) k.messages ⊎ (x.up ≡ true → (asked : ℕ) → asked ≤ x.clock → Claim (life s) S' k' c x'.clock asked g.address)

module _ (s : Settings) (S S' : ℕ → ℕ → Type 0) (k k' : View) (c : ℕ) (x x' : Client) (m : Moves s S S' k k' c x x') where
  pub using_moves : (u : Use) → x'.clock ≤ u.until → Using s S k c x u → Using s S' k' c x' u
  using_moves u l q =
      record {
        up = m.up ∙ q.up;
        now = l;
        asked = q.asked;
        till = q.till;
        claim = m.claims q.asked u.address q.up (omega (arith, q.till)) q.claim;
      }

  pub waiting_moves : (q : Wait) → Waiting s S k c x q → Waiting s S' k' c x' q
  waiting_moves q h =
      record {
        up = m.up ∙ h.up;
        drawn = m.drawn q.nonce h.drawn;
        past = omega (arith, h.past, m.clock);
        claims = λ g i own same l. elim (m.grants g own i) [
          | inl j ↦ m.claims q.asked g.address h.up l (h.claims g j own same (omega (arith, m.clock)))
          | inr new ↦ new h.up q.asked h.past
        ];
      }

  -- a client whose uses and requests are among those that it had
  pub holds_moves : ((u : Use) → x'.holding.uses ≡ Some u → (x.holding.uses ≡ Some u) × (x'.clock ≤ u.until)) → x'.holding.waits ≡ x.holding.waits →
      Holds s S k c x → Holds s S' k' c x'
  holds_moves still same h =
      record {
        uses = λ u e. using_moves u (still u e).1 (h.uses u (still u e).0);
        waits = λ q e. waiting_moves q (h.waits q (sym same ∙ e));
      }

-- a client that nothing happens to
pub holds_same : (s : Settings) (S S' : ℕ → ℕ → Type 0) (k k' : View) (c : ℕ) (x : Client) → Moves s S S' k k' c x x → Holds s S k c x → Holds s S' k' c x
holds_same s S S' k k' c x m h = holds_moves s S S' k k' c x x m (λ u e. (e, (h.uses u e).now)) refl h

-- a claim goes on
pub claim_on : (lasts : ℕ) (S S' : ℕ → ℕ → Type 0) (k k' : View) (c clock clock' asked a : ℕ) → ((t h : ℕ) → S t h → S' t h) → clock ≤ clock' → (q : Claim lasts S k c clock asked a) →
    q.h ≤ k'.now → ((u : ℕ) → k'.hush ≡ Some u → q.h + lasts ≤ u) → Line k'.book a c (q.h + lasts) → Claim lasts S' k' c clock' asked a
claim_on lasts S S' k k' c clock clock' asked a kept on q past hushed l =
    record {
      t = q.t;
      h = q.h;
      moment = kept q.t q.h q.moment;
      since = q.since;
      seen = omega (arith, q.seen);
      past = past;
      hushed = hushed;
      line = l;
    }
