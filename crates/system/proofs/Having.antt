-- Who asks while an address is free has one, and who uses one and asks keeps it: by two messages.
-- Assumes nothing.
use Rattle.std.proofs.Common.{◌≡◌, ℕ, ◌+◌, ◌^◌, ◌<◌, ◌≤◌, true, eqb, ltb, leb, [], ◌∷◌, Some, None, Ok, Option, Result, sym, refl, ap, ◌∙◌, subst, inl, inr, arith}
use Rattle.std.specs.Option.{option_map}
use Rattle.std.proofs.lemmas.Bool.{cond_both, cond-true, cond-false, eq-eqb, le-leb, lt-ltb, ltb-true}
use Rattle.lease.specs.declared.fault.Fault as lease
use Rattle.lease.specs.declared.lease.Lease.{Lease}
use Rattle.lease.specs.declared.message.Grant as given
use Rattle.lease.specs.declared.message.Request as asked
use Rattle.lease.specs.Settings as model
use Rattle.lease.specs.Settings.{life}
use Rattle.lease.specs.Choosing.{Chosen, choose}
use Rattle.lease.specs.Holding.{Holding, Use, Wait, taken, taking_for}
use Rattle.lease.specs.Table.{OneEach, Table, owned}
use Rattle.lease.specs.World as core
use Rattle.lease.specs.World.{lending}
use Rattle.lease.specs.Run.{answer, hearing}
use Rattle.lease.specs.Run as run
use Rattle.std.proofs.lemmas.Option.{none-some}
use Rattle.lease.proofs.Choosing.{choosing}
use Rattle.lease.proofs.Promise as promise
use Rattle.wire.specs.declared.message.Message.{Message}
use Rattle.wire.specs.declared.message.Message.TheVariants.{Request, Grant}
use Rattle.wire.specs.declared.reader.Reader.TheVariants as reader
use Rattle.wire.specs.Decode.{Answer, answered, decoded}
use Rattle.wire.specs.Message.{encoded}
use Rattle.wire.proofs.Readings.{read-encoded}
use Rattle.journal.specs.Append.{exhausted}
use Rattle.server.specs.Server as server
use Rattle.server.specs.Server.{planned, pooled}
use Rattle.server.specs.Refines.{Stands, model_of}
use Rattle.journal.specs.Device.{leases}
use Rattle.journal.specs.Table.{kept, kept_of}
use Rattle.lease.proofs.Answers.{lending-parts}
use Rattle.lease.proofs.Tidy.{Owned, owned-from, owned-parts}
use Rattle.lease.proofs.Claims.{Using, view}
use Rattle.client.specs.Client as client
use Rattle.client.specs.Client.{Client}
use Rattle.client.specs.State.{State, Turn, does, held_by, in_use, takes}
use Rattle.system.specs.Parties.{Parties, places, sends}
use Rattle.system.specs.Promise.{Asked, CanHave, Has, Keeps, answered_to, parties}
use Rattle.system.specs.Report.{after, beginning}
use Rattle.system.specs.Watch.{Watch}
use Rattle.system.proofs.Turning.{may_ask}
use Rattle.system.proofs.Following.{Base, Home, Judged, Moment, lately, ticked}
use Rattle.system.proofs.Promise.{Ends, ends, line_of}
use Rattle.system.proofs.ClientEvents.{at_here}

module _ (x : Parties) (k : model.Settings) (i : ℕ) (r : asked.Request) (a : Asked k x i r) (few : k.addresses < 2 ^ 16) (q : ℕ)
    (c : choose k.addresses x.server.server.clock x.server.server.table r ≡ Some q) (q< : q < k.addresses) where
  abbrev s : server.State
  s = x.server

  abbrev g : given.Grant
  g = record { client = r.client; nonce = r.nonce; address = q }

  -- THE SERVER
  heard : server.understood (encoded (Request r)) s ≡ Ok (Request r)
  heard =
      ap (λ (o : Option model.Settings). decoded reader.Server (option_map server.size o) (encoded (Request r))) a.server_knows
      ∙ ap (λ (o : Option Message). answered reader.Server (Some k.addresses) o) (read-encoded (Request r) a.fits)
      ∙ cond-true (leb r.preferred k.addresses) _ _ (le-leb _ _ a.preferred)

  answers : server.hears (encoded (Request r)) s ≡ server.appends k g (planned k s) (server.lease_of k s g) s
  unfolding server.hears
  answers =
      ap (λ (z : Answer). server.answers z s) heard
      ∙ ap (λ (o : Option model.Settings). server.requested o r s) a.server_knows
      ∙ ap (λ (z : run.Answer). server.replies k z s) (promise.answers k s.server r q a.lends c)
      ∙ cond-false (exhausted (planned k s)) _ _ a.room

  said : (answered_to r x).said ≡ Grant g ∷ []
  unfolding sends
  said = ap (λ (t : server.Step). sends t.effects) answers

  -- THE CLIENT
  abbrev c₀ : Client
  c₀ = x.clients i

  fits-grant : (r.client < 2 ^ 32) × (r.nonce < 2 ^ 64) × (q < 2 ^ 16)
  fits-grant = (a.fits.0, a.fits.1, omega (arith, few, q<))

  understands : client.understood (encoded (Grant g)) c₀ ≡ Ok (Grant g)
  understands =
      ap (λ (o : Option model.Settings). decoded reader.Client (option_map client.size o) (encoded (Grant g))) a.client_knows
      ∙ ap (λ (o : Option Message). answered reader.Client (Some k.addresses) o) (read-encoded (Grant g) fits-grant)
      ∙ cond-true (ltb q k.addresses) _ _ (lt-ltb _ _ q<)

  abbrev held : core.Client
  held = run.with_holding c₀.state.holder (taken k.term q c₀.state.holder.clock)

  hears_it : hearing k.term r.client g c₀.state.holder ≡ Ok held
  hears_it =
      cond-true c₀.state.holder.up _ _ a.up
      ∙ ap (λ (z : Result Holding lease.Fault). run.held_by c₀.state.holder z) (
      cond-true (eqb r.client r.client) _ _ (eq-eqb _ _ refl)
      ∙ ap (λ (o : Option Wait). taking_for k.term c₀.state.holder.clock g o) a.waits
      ∙ cond-true (eqb r.nonce r.nonce) _ _ (eq-eqb _ _ refl)
      ∙ cond-true (leb c₀.state.holder.clock (c₀.state.holder.clock + k.term)) _ _ (le-leb _ _ (omega arith)))

  takes_it : does (Grant g) c₀.state ≡ Ok (takes k.term q c₀.state held)
  takes_it =
      cond-true c₀.state.holder.up _ _ a.up
      ∙ ap (λ (o : Option ℕ). Rattle.client.specs.State.granted o c₀.state.settings g c₀.state) a.own
      ∙ ap (λ (o : Option model.Settings). Rattle.client.specs.State.granted (Some r.client) o g c₀.state) a.client_knows
      ∙ ap (λ (z : Result core.Client lease.Fault). held_by k.term q c₀.state z) hears_it

  abbrev turn : Turn
  turn = takes k.term q c₀.state held

  uses : in_use (client.hears (encoded (Grant g)) c₀).client.state ≡ Some (record { address = q; until = c₀.state.holder.clock + k.term })
  unfolding client.hears
  uses =
      ap (λ (z : Answer). in_use (client.answers c₀ z).client.state) understands
      ∙ ap (λ (z : Result Turn lease.Fault). in_use (client.goes_on c₀ (client.queued (Grant g) c₀.nonces) z).client.state) takes_it
      ∙ may_ask turn (λ t. in_use t.client.state ≡ Some (record { address = q; until = c₀.state.holder.clock + k.term })) turn.state.settings turn.state.own (client.queued (Grant g) c₀.nonces) refl refl refl
      (λ j c n ms e f h up. refl)

  pub has_it_lem : Has k x i r q
  has_it_lem =
      record {
        within = q<;
        grants = said;
        uses = ap (λ (z : Client). in_use z.state) (at_here i (client.hears (encoded (Grant g)) c₀).client x.clients) ∙ uses;
      }

pub can_have : CanHave
can_have x k i r a few b b< f =
    let ch : Chosen k.addresses x.server.server.clock x.server.server.table r (choose k.addresses x.server.server.clock x.server.server.table r) = choosing k.addresses _ _ r in
    let q : (q : ℕ) × (choose k.addresses x.server.server.clock x.server.server.table r ≡ Some q) = ch.exists b b< f in
    (q.0, has_it_lem x k i r a few q.0 q.1 (ch.below q.0 q.1))

-- what a table keeps
kept-some : (now : ℕ) (o : Option Lease) (l : Lease) → kept_of now o ≡ Some l → o ≡ Some l
kept-some now None l e = absurd (none-some l e)
kept-some now (Some m) l e = cond_both (kept now m) (Some m) None (λ z. z ≡ Some l → Some m ≡ Some l) (λ t h. h) (λ t h. absurd (none-some l h)) e

kept-live : (now : ℕ) (o : Option Lease) (l : Lease) → o ≡ Some l → now ≤ l.expires → kept_of now o ≡ Some l
kept-live now o l e f = ap (kept_of now) e ∙ cond-true (kept now l) (Some l) None (le-leb now l.expires f)

-- two tables with the same leases that are kept have the same that are live
same_live : (now a : ℕ) (t u : Table) (l : Lease) → kept_of now (t a) ≡ kept_of now (u a) → t a ≡ Some l → now ≤ l.expires → u a ≡ Some l
same_live now a t u l e h f = kept-some now (u a) l (sym e ∙ kept-live now (t a) l h f)

module _ (k : model.Settings) (x : Parties) (w : Watch) (j : Judged k x w) (i : ℕ) (r : asked.Request) (i< : i < places) (a : Asked k x i r) (u : Use) (e : in_use (x.clients i).state ≡ Some u) where
  abbrev b : Base k 0 x w
  b = j.base

  abbrev v : core.Server
  v = x.server.server

  abbrev c : ℕ
  c = r.client

  stands : Home k x.server → Stands k x.server
  stands (inl st) = st
  stands (inr un) = absurd (none-some k (sym un.unknown ∙ a.server_knows))

  st : Stands k x.server
  st = stands b.home

  lends : (v.up ≡ true) × (v.silent ≡ None)
  lends = lending-parts v.up v.silent a.lends

  same : model_of k x.server ≡ b.world.server
  unfolding ticked
  same = b.server

  mine : Using k (Moment x w c) (view b.world b.sound.book) c (b.world.clients c) u
  mine = line_of k 0 x w b i c i< u e a.own

  abbrev l : Lease
  l = mine.claim.line.lease

  live : v.clock ≤ l.expires
  live =
      let up : b.world.server.up ≡ true = ap (λ (z : core.Server). z.up) (sym same) ∙ lends.0 in
      let cl : v.clock ≡ b.world.server.clock = ap (λ (z : core.Server). z.clock) same in
      omega (arith, cl, lately k x w j up c mine.claim.t mine.claim.h mine.claim.moment (omega (arith, mine.now, mine.till, mine.claim.since)), mine.claim.line.expires)

  -- the world's table is what the device has
  on-device : (d : ℕ) (m : Lease) → pooled k.addresses x.server.device d ≡ Some m → (d < k.addresses) × (leases 4096 x.server.device d ≡ Some m)
  on-device d m =
      cond_both (ltb d k.addresses) (leases 4096 x.server.device d) None (λ o. o ≡ Some m → (d < k.addresses) × (leases 4096 x.server.device d ≡ Some m))
      (λ f g. (ltb-true d k.addresses f, g)) (λ f g. absurd (none-some m g))

  table_so : (d : ℕ) → b.world.server.table d ≡ pooled k.addresses x.server.device d
  table_so d = ap (λ (z : core.Server). z.table d) (sym same)

  there : pooled k.addresses x.server.device u.address ≡ Some l
  there = sym (table_so u.address) ∙ sym (b.sound.kept (ap (λ (z : core.Server). z.silent) (sym same) ∙ lends.1) u.address) ∙ mine.claim.line.there

  agrees : (d : ℕ) → d < k.addresses → kept_of v.clock (leases 4096 x.server.device d) ≡ kept_of v.clock (v.table d)
  agrees = (st.ready lends.0).agrees

  pub kept_it : Has k x i r u.address
  kept_it =
      let p : (u.address < k.addresses) × (leases 4096 x.server.device u.address ≡ Some l) = on-device u.address l there in
      let m : v.table u.address ≡ Some l = same_live v.clock u.address (leases 4096 x.server.device) v.table l (agrees u.address p.0) p.1 live in
      let ch : Chosen k.addresses v.clock v.table r (choose k.addresses v.clock v.table r) = choosing k.addresses v.clock v.table r in
      let q : (q : ℕ) × (choose k.addresses v.clock v.table r ≡ Some q) × (owned v.clock c (v.table q) ≡ true) =
      ch.own u.address p.0 (owned-from v.clock c _ (record { lease = l; there = m; client = mine.claim.line.client; lives = live })) in
      let q< : q.0 < k.addresses = ch.below q.0 q.1 in
      let n : Owned v.clock c (v.table q.0) = owned-parts v.clock c (v.table q.0) q.2 in
      let d : leases 4096 x.server.device q.0 ≡ Some n.lease = same_live v.clock q.0 v.table (leases 4096 x.server.device) n.lease (sym (agrees q.0 q<)) n.there n.lives in
      let t : Table = pooled k.addresses x.server.device in
      let one : OneEach v.clock t = subst (λ (z : core.Server). OneEach z.clock z.table) (sym same) b.tidy.one in
      let s : q.0 ≡ u.address = one c q.0 u.address
      (owned-from v.clock c _ (record { lease = n.lease; there = cond-true (ltb q.0 k.addresses) _ None (lt-ltb _ _ q<) ∙ d; client = n.client; lives = n.lives }))
      (owned-from v.clock c _ (record { lease = l; there = there; client = mine.claim.line.client; lives = live })) in
      subst (λ (z : ℕ). Has k x i r z) s (has_it_lem x k i r a (omega (arith, st.few)) q.0 q.1 q<)

pub keeps : Keeps
keeps es within quiet k i r u i< a e =
    let z : (k : model.Settings) × Ends k es beginning = ends es within quiet in
    let same : k ≡ z.0 = (z.1.end.base.told k a.server_knows).0 in
    kept_it k (parties es) (after es beginning).watch (subst (λ (m : model.Settings). Judged m (parties es) (after es beginning).watch) (sym same) z.1.end) i r i< a u e
