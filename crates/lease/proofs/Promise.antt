-- The promises, from what holds at every moment.
-- Assumes nothing.
use Rattle.std.proofs.Common.{◌≡◌, ℕ, ◌+◌, ◌≤◌, true, false, not, ◌&&◌, eqb, leb, List, Some, None, Ok, Option, Result, sym, refl, ap, ◌∙◌, arith}
use Rattle.std.proofs.lemmas.Bool.{cond-true, eq-eqb, le-leb, and_from, not_from_false}
use Rattle.lease.specs.declared.fault.Fault.{Fault}
use Rattle.lease.specs.declared.lease.Lease.{Lease}
use Rattle.lease.specs.declared.message.Request.{Request}
use Rattle.lease.specs.declared.message.Grant.{Grant}
use Rattle.lease.specs.Settings.{Settings}
use Rattle.lease.specs.Table.{owned}
use Rattle.lease.specs.Choosing.{choose, Chosen}
use Rattle.lease.specs.Holding.{Wait, Holding, taken, taking_for, settled}
use Rattle.lease.specs.World.{Server, Client, World, lending, elem, sent}
use Rattle.lease.specs.Run.{Answer, Event, Asks, ServerHears, ClientHears, answered, answer_up, answer, held_by, hearing, requested, replied, step, world}
use Rattle.lease.specs.Premise.{Agree}
use Rattle.lease.specs.Promise.{Uses, NeverTwo, CanHave, Keeps, InTable}
use Rattle.std.proofs.lemmas.Option.{same_Some}
use Rattle.lease.proofs.Choosing.{choosing}
use Rattle.lease.proofs.Tidy.{owned-from}
use Rattle.lease.proofs.Claims.{view, Line, Using}
use Rattle.lease.proofs.Answers.{lending-parts}
use Rattle.lease.proofs.Keeping.{tidy}
use Rattle.lease.proofs.History.{Since, agrees, sound}

uses_by : (s : Settings) (es : List Event) (ag : Agree s es) (c a : ℕ) (u : Uses (world s es) c a) →
    Using s (Since s es c) (view (world s es) (sound s es ag).book) c ((world s es).clients c) (record { address = a; until = u.0 })
uses_by s es ag c a u = ((sound s es ag).holds c).uses _ u.1

pub never_two : NeverTwo
never_two s es ag a c d u x =
    let p : Line (sound s es ag).book a c _ = (uses_by s es ag c a u).claim.line in
    let q : Line (sound s es ag).book a d _ = (uses_by s es ag d a x).claim.line in
    sym p.client ∙ ap (λ (l : Lease). l.client) (same_Some _ _ (sym p.there ∙ q.there)) ∙ q.client

pub in_table : InTable
in_table s es ag c a u quiet =
    let x : Using s (Since s es c) (view (world s es) (sound s es ag).book) c ((world s es).clients c) (record { address = a; until = u.0 }) = uses_by s es ag c a u in (
      x.claim.line.lease,
      sym ((sound s es ag).kept quiet a) ∙ x.claim.line.there,
      x.claim.line.client,
      λ up.
          omega (
            arith,
            agrees s es ag c up x.claim.t x.claim.h x.claim.moment x.claim.seen (omega (arith, x.now, x.till, x.claim.since)),
            x.claim.line.expires,
          ),
    )

-- what the server answers, where it chooses an address
pub answers : (s : Settings) (v : Server) (r : Request) (q : ℕ) → lending v ≡ true → choose s.addresses v.clock v.table r ≡ Some q →
    answer s v r ≡ Ok (Some (record { client = r.client; nonce = r.nonce; address = q }))
answers s v r q lends e =
    let p : (v.up ≡ true) × (v.silent ≡ None) = lending-parts _ _ lends in
    cond-true v.up _ (Ok None) p.0 ∙ ap (λ (o : Option ℕ). answer_up s v r o) p.1 ∙ ap (λ (o : Option ℕ). answered r o) e

-- a client takes the grant for the request that waits
pub takes : (s : Settings) (c : ℕ) (g : Grant) (x : Client) (t : ℕ) → x.up ≡ true → g.client ≡ c → x.holding.waits ≡ Some (record { nonce = g.nonce; asked = t }) → x.clock ≤ t + s.term →
    (settled x (hearing s.term c g x)).holding ≡ taken s.term g.address t
takes s c g x t up own e l =
    ap (λ (z : Result Client Fault). (settled x z).holding) (cond-true x.up _ _ up)
    ∙ ap (λ (z : Result Holding Fault). (settled x (held_by x z)).holding) (
    cond-true (eqb g.client c) _ _ (eq-eqb _ _ own)
    ∙ ap (λ (o : Option Wait). taking_for s.term x.clock g o) e
    ∙ cond-true (eqb g.nonce g.nonce) _ _ (eq-eqb _ _ refl)
    ∙ cond-true (leb x.clock (t + s.term)) _ _ (le-leb _ _ l))

-- who asks, is heard, and hears the grant
two_messages : (s : Settings) (w : World) (c n p q : ℕ) → lending w.server ≡ true → (w.clients c).up ≡ true → elem n w.drawn ≡ false →
    choose s.addresses w.server.clock w.server.table (record { client = c; nonce = n; preferred = p }) ≡ Some q →
    ((step s (ClientHears c 0) (step s (ServerHears 0) (step s (Asks c n p) w))).clients c).holding ≡ taken s.term q (w.clients c).clock
unfolding sent
two_messages s w c n p q lends up fresh e =
    ap (λ (z : World). ((step s (ClientHears c 0) (step s (ServerHears 0) z)).clients c).holding) (cond-true ((w.clients c).up && not (elem n w.drawn)) w₁ w (and_from _ _ up (not_from_false _ fresh)))
    ∙ ap (λ (x : Answer). ((step s (ClientHears c 0) (replied s x w₁)).clients c).holding) (answers s w.server r q lends e)
    ∙ ap (λ (z : Client). z.holding) (cond-true (eqb c c) _ _ (eq-eqb c c refl))
    ∙ takes s c g (w₁.clients c) (w.clients c).clock (ap (λ (z : Client). z.up) me ∙ up) refl (ap (λ (z : Client). z.holding.waits) me) (omega (arith, ap (λ (z : Client). z.clock) me))
  where
    r : Request
    r = record { client = c; nonce = n; preferred = p }

    g : Grant
    g = record { client = c; nonce = n; address = q }

    w₁ : World
    w₁ = requested c n p w

    me : w₁.clients c ≡ record { clock = (w.clients c).clock; up = (w.clients c).up; holding = record { uses = (w.clients c).holding.uses; waits = Some (record { nonce = n; asked = (w.clients c).clock }) } }
    me = cond-true (eqb c c) _ (w.clients c) (eq-eqb c c refl)

pub can_have : CanHave
unfolding world
can_have s es c n p lends up fresh b m f =
    let r : Request = record { client = c; nonce = n; preferred = p } in
    let ch : Chosen s.addresses (world s es).server.clock (world s es).server.table r (choose s.addresses (world s es).server.clock (world s es).server.table r) = choosing s.addresses _ _ r in
    let q : (q : ℕ) × (choose s.addresses (world s es).server.clock (world s es).server.table r ≡ Some q) = ch.exists b m f in
    (q.0, ch.below q.0 q.1, two_messages s (world s es) c n p q.0 lends up fresh q.1)

pub keeps : Keeps
unfolding world
keeps s es ag on c a n p lends fresh u =
    let r : Request = record { client = c; nonce = n; preferred = p } in
    let x : Using s (Since s es c) (view (world s es) (sound s es ag).book) c ((world s es).clients c) (record { address = a; until = u.0 }) = uses_by s es ag c a u in
    let ch : Chosen s.addresses (world s es).server.clock (world s es).server.table r (choose s.addresses (world s es).server.clock (world s es).server.table r) = choosing s.addresses _ _ r in
    let up : ((world s es).server.up ≡ true) × ((world s es).server.silent ≡ None) = lending-parts _ _ lends in
    let t : (l : Lease) × ((world s es).server.table a ≡ Some l) × (l.client ≡ c) × ((world s es).server.up ≡ true → (world s es).server.clock ≤ l.expires) = in_table s es ag c a u up.1 in
    let mine : owned (world s es).server.clock c ((world s es).server.table a) ≡ true = owned-from _ c _ (record { lease = t.0; there = t.1; client = t.2; lives = t.3 up.0 }) in
    let q : (q : ℕ) × (choose s.addresses (world s es).server.clock (world s es).server.table r ≡ Some q) × (owned (world s es).server.clock c ((world s es).server.table q) ≡ true) =
    ch.own a ((tidy s es on).pooled a t.0 t.1) mine in
    two_messages s (world s es) c n p q.0 lends x.up fresh q.1
    ∙ ap (λ (z : ℕ). taken s.term z ((world s es).clients c).clock) ((tidy s es on).one c q.0 a q.2 mine)
