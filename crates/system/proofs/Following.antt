-- What holds of a run over bytes at every moment: a world of the lending core goes with it, in which all that is promised holds.
-- Assumes nothing.
use Rattle.std.proofs.Common.{◌≡◌, ℕ, zero, suc, ◌+◌, ◌^◌, ◌<◌, ◌≤◌, Bool, true, false, cond, ◌&&◌, ltb, leb, ◌⊎◌, List, is_some, Some, None, Option, sym, refl, ap, ◌∙◌, subst, inl, inr, arith}
use Rattle.std.proofs.lemmas.Bool.{cond_both, cond-true, cond-false, cases_Bool, le-leb, ltb-true, lt-ltb, and_parts, and_from}
use Rattle.lease.specs.declared.message.Grant as given
use Rattle.lease.specs.declared.message.Request as asked
use Rattle.lease.specs.Settings as model
use Rattle.lease.specs.Settings.{life}
use Rattle.lease.specs.Table.{empty}
use Rattle.lease.specs.Holding.{Use, later, nothing, still_used}
use Rattle.lease.specs.World as core
use Rattle.lease.specs.World.{Message, Requests, Grants, World, elem}
use Rattle.lease.specs.Run as run
use Rattle.lease.specs.Run.{client_passes, over, server_passes}
use Rattle.std.proofs.lemmas.Option.{none-some, same_Some}
use Rattle.lease.proofs.Claims.{In}
use Rattle.lease.proofs.Sound.{Sound, same}
use Rattle.lease.proofs.Passing.{time_passes}
use Rattle.lease.proofs.Keeping.{Tidy, tidy_step}
use Rattle.lease.proofs.History.{passes-clock}
use Rattle.server.specs.Server as server
use Rattle.server.specs.Refines.{Stands, model_of}
use Rattle.client.specs.Nonces.{Distinct}
use Rattle.system.specs.Parties.{Parties, blank, places}
use Rattle.system.specs.Watch.{Lead, Watch, requested, granted, both_up, noted}
use Rattle.system.proofs.Watching.{Wider, At, wider_at, noted_wider, noted_now}

-- a moment that was noted for a client since its start, once settings are known
pub record Moment (x : Parties) (w : Watch) (c t h : ℕ) : Type 0 where
  pub known : is_some w.settings ≡ true
  pub place : ℕ
  pub within : place < places
  pub own : (x.clients place).state.own ≡ Some c
  pub lead : Lead
  pub noted : w.leads place ≡ Some lead
  pub at : At lead t h

-- a server with its settings stands for one of the lending core; without them it has a new device
pub record Unsettled (s : server.State) : Type 0 where
  pub unknown : s.settings ≡ None
  pub new : s.device ≡ blank
  pub quiet : s.server.silent ≡ None

abbrev pub Home : model.Settings → server.State → Type 0
Home k s = Stands k s ⊎ Unsettled s

-- ticks one by one
unfoldable pub ticked : ℕ → core.Server → core.Server
ticked zero v = v
ticked (suc n) v = server_passes 1 (ticked n v)

-- nonces lent to clients and not used, each once and to one client, and none that was used
pub record Queues (x : Parties) (w : Watch) (drawn : List ℕ) : Type 0 where
  pub distinct : (i : ℕ) → i < places → Distinct (x.clients i).nonces
  pub apart : (i l n : ℕ) → i < places → l < places → elem n (x.clients i).nonces ≡ true → elem n (x.clients l).nonces ≡ true → i ≡ l
  pub unused : (i n : ℕ) → i < places → elem n (x.clients i).nonces ≡ true → elem n drawn ≡ false
  pub lent : (i n : ℕ) → i < places → elem n (x.clients i).nonces ≡ true → elem n w.nonces ≡ true
  pub spent : (n : ℕ) → elem n drawn ≡ true → elem n w.nonces ≡ true

-- after `p` ticks of the server that the world has not seen yet
pub record Base (k : model.Settings) (p : ℕ) (x : Parties) (w : Watch) : Type 0 where
  pub world : World
  pub sound : Sound k (Moment x w) world
  pub tidy : Tidy k world.server
  pub server : model_of k x.server ≡ ticked p world.server
  pub home : Home k x.server
  pub clock : x.server.server.clock < 2 ^ 63
  pub clients : (i c : ℕ) → i < places → (x.clients i).state.own ≡ Some c → world.clients c ≡ (x.clients i).state.holder
  pub owned : (c : ℕ) → (world.clients c).up ≡ true → (i : ℕ) × (i < places) × ((x.clients i).state.own ≡ Some c)
  pub idle : (i : ℕ) → i < places → (x.clients i).state.own ≡ None → (x.clients i).state.holder.holding ≡ nothing
  pub alone : (i l c : ℕ) → i < places → l < places → (x.clients i).state.own ≡ Some c → (x.clients l).state.own ≡ Some c → i ≡ l
  pub agreed : (i : ℕ) (j : model.Settings) → i < places → (x.clients i).state.settings ≡ Some j → j ≡ k
  pub told : (j : model.Settings) → x.server.settings ≡ Some j → (j ≡ k) × (is_some w.settings ≡ true)
  pub requests : (r : asked.Request) → requested r w.requests ≡ true → In (Requests r) world.messages
  pub grants : (g : given.Grant) → granted g w.grants ≡ true → In (Grants g) world.messages
  pub queues : Queues x w world.drawn
  pub quiet : (i : ℕ) → i < places → (x.clients i).state.holder.up ≡ false → w.leads i ≡ None

-- what was noted of a client has the moment of now
pub record Near (t h : ℕ) (o : Option Lead) : Type 0 where
  pub lead : Lead
  pub noted : o ≡ Some lead
  pub at : At lead t h

-- at a moment that was judged
pub record Judged (k : model.Settings) (x : Parties) (w : Watch) : Type 0 where
  pub base : Base k 0 x w
  pub near : (i c : ℕ) → i < places → (x.clients i).state.own ≡ Some c → (x.clients i).state.holder.up ≡ true → x.server.server.up ≡ true →
      Near (x.clients i).state.holder.clock base.world.server.clock (w.leads i)
  pub narrow : (i : ℕ) → i < places → is_some w.settings ≡ true → (d : Lead) → w.leads i ≡ Some d → d.most ≤ d.least + k.skew

-- at any moment: within a run of ticks the world may not have seen some of the server's
abbrev pub Follows : model.Settings → (judged : Bool) → Parties → Watch → Type 0
Follows k true x w = Judged k x w
Follows k false x w = (p : ℕ) × Base k p x w

-- TICKS one by one are ticks at once
module _ (n : ℕ) (v : core.Server) where
  one_more : server_passes 1 (server_passes n v) ≡ server_passes (suc n) v
  one_more =
      elim (cases_Bool (over (v.clock + n) v.up v.silent)) [
        | inl e ↦
            ap (server_passes 1) (cond-true (over (v.clock + n) v.up v.silent) (ended (v.clock + n)) (going (v.clock + n)) e)
            ∙ ap ended clocks ∙ sym (cond-true (over (v.clock + suc n) v.up v.silent) (ended (v.clock + suc n)) (going (v.clock + suc n)) (longer v.up v.silent e))
        | inr e ↦
            ap (server_passes 1) (cond-false (over (v.clock + n) v.up v.silent) (ended (v.clock + n)) (going (v.clock + n)) e)
            ∙ ap (λ (z : ℕ). cond (over z v.up v.silent) (ended z) (going z)) clocks
      ]
    where
      ended : ℕ → core.Server
      ended z = record { clock = z; up = v.up; silent = None; table = empty }

      going : ℕ → core.Server
      going z = record { clock = z; up = v.up; silent = v.silent; table = v.table }

      clocks : v.clock + n + 1 ≡ v.clock + suc n
      clocks = omega arith

      longer : (up : Bool) (o : Option ℕ) → over (v.clock + n) up o ≡ true → over (v.clock + suc n) up o ≡ true
      longer up None e = e
      longer up (Some u) e =
          let q : (up ≡ true) × (ltb u (v.clock + n) ≡ true) = and_parts up (ltb u (v.clock + n)) e in
          and_from up (ltb u (v.clock + suc n)) q.0 (lt-ltb u (v.clock + suc n) (omega (arith, ltb-true u (v.clock + n) q.1)))

pub ticked-passes : (n : ℕ) (v : core.Server) → ticked (suc n) v ≡ server_passes (suc n) v
unfolding ticked
ticked-passes zero v = refl
ticked-passes (suc n) v = ap (server_passes 1) (ticked-passes n v) ∙ one_more (suc n) v

pub ticked-clock : (n : ℕ) (v : core.Server) → ((ticked n v).clock ≡ v.clock + n) × ((ticked n v).up ≡ v.up)
unfolding ticked
ticked-clock zero v = (omega arith, refl)
ticked-clock (suc n) v =
    let q : ((ticked n v).clock ≡ v.clock + n) × ((ticked n v).up ≡ v.up) = ticked-clock n v in
    let r : ((server_passes 1 (ticked n v)).clock ≡ (ticked n v).clock + 1) × ((server_passes 1 (ticked n v)).up ≡ (ticked n v).up) = passes-clock 1 (ticked n v) in
    (omega (arith, q.0, r.0), r.1 ∙ q.1)

-- NO TIME leaves a client as it is
unused-none : (now : ℕ) (o : Option Use) → ((u : Use) → o ≡ Some u → now ≤ u.until) → still_used now o ≡ o
unused-none now None h = refl
unused-none now (Some u) h = cond-true (leb now u.until) (Some u) None (le-leb now u.until (h u refl))

pub pass_none : (x : core.Client) → ((u : Use) → x.holding.uses ≡ Some u → x.clock ≤ u.until) → client_passes 0 x ≡ x
pass_none x h =
    cond_both x.up _ x (λ (z : core.Client). z ≡ x)
    (λ e.
    let z : x.clock + 0 ≡ x.clock = omega arith in
    let f : ℕ → core.Client = λ n. record { clock = n; up = x.up; holding = later n x.holding } in
    let g : Option Use → core.Client = λ o. record { clock = x.clock; up = x.up; holding = record { uses = o; waits = x.holding.waits } } in
    ap f z ∙ ap g (unused-none x.clock x.holding.uses h))
    (λ e. refl)

-- clock and power of the server in the world
pub server-clock : (k : model.Settings) (p : ℕ) (x : Parties) (w : Watch) (b : Base k p x w) →
    (x.server.server.clock ≡ b.world.server.clock + p) × (x.server.server.up ≡ b.world.server.up)
server-clock k p x w b =
    let q : ((ticked p b.world.server).clock ≡ b.world.server.clock + p) × ((ticked p b.world.server).up ≡ b.world.server.up) = ticked-clock p b.world.server in
    (ap (λ (z : core.Server). z.clock) b.server ∙ q.0, ap (λ (z : core.Server). z.up) b.server ∙ q.1)

-- THE MOMENT IS JUDGED: it is noted, and the world sees the server's ticks
abbrev pub with_leads : (ℕ → Option Lead) → Watch → Watch
with_leads ls w = record { requests = w.requests; grants = w.grants; nonces = w.nonces; settings = w.settings; leads = ls }

module _ (k : model.Settings) (p : ℕ) (x : Parties) (w : Watch) (b : Base k p x w) where
  abbrev v : Watch
  v = with_leads (noted x w.leads) w

  module _ (slim : (i : ℕ) → i < places → is_some w.settings ≡ true → (d : Lead) → noted x w.leads i ≡ Some d → d.most ≤ d.least + k.skew) where
    moments : (c t h : ℕ) → Moment x w c t h → Moment x v c t h
    moments c t h m =
        let q : (d : Lead) × (noted x w.leads m.place ≡ Some d) × Wider m.lead d = noted_wider x w.leads m.place m.lead m.noted in
        record { known = m.known; place = m.place; within = m.within; own = m.own; lead = q.0; noted = q.1; at = wider_at m.lead q.0 t h q.2 m.at }

    up_both : (i c : ℕ) → (x.clients i).state.own ≡ Some c → (x.clients i).state.holder.up ≡ true → x.server.server.up ≡ true → both_up x i ≡ true
    up_both i c own up sup = and_from _ _ sup (and_from _ _ up (ap is_some own))

    -- a moment that was noted isn't too long ago
    fine : (c t h : ℕ) → Moment x w c t h → (b.world.clients c).clock ≤ t + k.term → (b.world.clients c).up ≡ true → b.world.server.up ≡ true → b.world.server.clock + p ≤ h + life k
    fine c t h m soon up sup =
        let s : (x.server.server.clock ≡ b.world.server.clock + p) × (x.server.server.up ≡ b.world.server.up) = server-clock k p x w b in
        let e : b.world.clients c ≡ (x.clients m.place).state.holder = b.clients m.place c m.within m.own in
        let n : (d : Lead) × (noted x w.leads m.place ≡ Some d) × At d (x.clients m.place).state.holder.clock x.server.server.clock =
        noted_now x w.leads m.place b.clock (up_both m.place c m.own (ap (λ (z : core.Client). z.up) (sym e) ∙ up) (s.1 ∙ sup)) in
        let q : (d : Lead) × (noted x w.leads m.place ≡ Some d) × Wider m.lead d = noted_wider x w.leads m.place m.lead m.noted in
        let d : Lead = n.0 in
        let z : q.0 ≡ d = same_Some _ _ (sym q.1 ∙ n.1) in
        let wide : Wider m.lead d = subst (λ (y : Lead). Wider m.lead y) z q.2 in
        let g : d.most ≤ d.least + k.skew = slim m.place m.within m.known d n.1 in
        let c₁ : (b.world.clients c).clock ≡ (x.clients m.place).state.holder.clock = ap (λ (z : core.Client). z.clock) e in
        let a₁ : d.least + x.server.server.clock ≤ (x.clients m.place).state.holder.clock + 2 ^ 63 = n.2.0 in
        let a₂ : t + 2 ^ 63 ≤ m.lead.most + h = m.at.1 in
        let a₃ : m.lead.most ≤ d.most = wide.most in
        omega (arith, s.0, c₁, a₁, a₂, a₃, g, soon)

    and_no : (a c : Bool) → c ≡ false → (a && c) ≡ false
    and_no true c e = e
    and_no false c e = refl

    down_both : (i : ℕ) → (x.clients i).state.holder.up ≡ false → both_up x i ≡ false
    down_both i down = and_no x.server.server.up _ (ap (λ (z : Bool). z && is_some (x.clients i).state.own) down)

    -- the parts that don't look at time
    rest : (world' : World) → Sound k (Moment x v) world' → Tidy k world'.server → model_of k x.server ≡ world'.server →
        ((c : ℕ) → world'.clients c ≡ b.world.clients c) → world'.messages ≡ b.world.messages → world'.drawn ≡ b.world.drawn → Judged k x v
    unfolding ticked
    rest world' so ti sv cl ms dr =
        record {
          base = record {
            world = world';
            sound = so;
            tidy = ti;
            server = sv;
            home = b.home;
            clock = b.clock;
            clients = λ i c l o. cl c ∙ b.clients i c l o;
            owned = λ c up. b.owned c (ap (λ (z : core.Client). z.up) (sym (cl c)) ∙ up);
            idle = b.idle;
            alone = b.alone;
            agreed = b.agreed;
            told = b.told;
            requests = λ r e. subst (λ (z : List Message). In (Requests r) z) (sym ms) (b.requests r e);
            grants = λ g e. subst (λ (z : List Message). In (Grants g) z) (sym ms) (b.grants g e);
            queues = subst (λ (z : List ℕ). Queues x v z) (sym dr)
                (record { distinct = b.queues.distinct; apart = b.queues.apart; unused = b.queues.unused; lent = b.queues.lent; spent = b.queues.spent });
            quiet = λ i l down. cond-false (both_up x i) _ (w.leads i) (down_both i down) ∙ b.quiet i l down;
          };
          near = λ i c l own up sup.
              let n : (d : Lead) × (noted x w.leads i ≡ Some d) × At d (x.clients i).state.holder.clock x.server.server.clock = noted_now x w.leads i b.clock (up_both i c own up sup) in
              let s : x.server.server.clock ≡ world'.server.clock = ap (λ (z : core.Server). z.clock) sv in
              record { lead = n.0; noted = n.1; at = (omega (arith, s, n.2.0), omega (arith, s, n.2.1)) };
          narrow = slim;
        }

    passed : (n : ℕ) → p ≡ suc n → Judged k x v
    passed n e =
        let u : World = b.world in
        let f : ℕ → ℕ = λ c. 0 in
        let s : model_of k x.server ≡ server_passes p u.server =
        b.server ∙ ap (λ (z : ℕ). ticked z u.server) e ∙ ticked-passes n u.server ∙ ap (λ (z : ℕ). server_passes z u.server) (sym e) in
        rest (run.passes p f u)
        (time_passes k (Moment x w) (Moment x v) u b.sound f moments p
        (λ sup c up t h m b₁ b₂. fine c t h m (omega (arith, b₂)) up sup))
        (tidy_step k (run.Pass p f) u tt b.tidy) s
        (λ c. pass_none (u.clients c) (λ q g. ((b.sound.holds c).uses q g).now)) refl refl

    unpassed : p ≡ 0 → Judged k x v
    unfolding ticked
    unpassed e = rest b.world (same k (Moment x w) (Moment x v) b.world b.sound moments) b.tidy (b.server ∙ ap (λ (z : ℕ). ticked z b.world.server) e) (λ c. refl) refl refl

    pub judge : Judged k x v
    judge = by_count p refl
      where
        by_count : (q : ℕ) → p ≡ q → Judged k x v
        by_count zero e = unpassed e
        by_count (suc n) e = passed n e

-- AT A MOMENT THAT WAS JUDGED
module _ (k : model.Settings) (x : Parties) (w : Watch) (f : Judged k x w) where
  abbrev base : Base k 0 x w
  base = f.base

  -- a client that something was noted of is up
  pub is_up : (c t h : ℕ) → (m : Moment x w c t h) → (x.clients m.place).state.holder.up ≡ true
  is_up c t h m =
      elim (cases_Bool (x.clients m.place).state.holder.up) [
        | inl e ↦ e
        | inr e ↦ absurd (none-some m.lead (sym (base.quiet m.place m.within e) ∙ m.noted))
      ]

  -- and the server's clock isn't too far from it
  pub lately : base.world.server.up ≡ true → (c t h : ℕ) → Moment x w c t h → (base.world.clients c).clock ≤ t + k.term → base.world.server.clock ≤ h + life k
  lately up c t h m soon =
      let here : (x.server.server.clock ≡ base.world.server.clock + 0) × (x.server.server.up ≡ base.world.server.up) = server-clock k 0 x w base in
      let e : base.world.clients c ≡ (x.clients m.place).state.holder = base.clients m.place c m.within m.own in
      let n : Near (x.clients m.place).state.holder.clock base.world.server.clock (w.leads m.place) = f.near m.place c m.within m.own (is_up c t h m) (here.1 ∙ up) in
      let z : n.lead ≡ m.lead = same_Some _ _ (sym n.noted ∙ m.noted) in
      let a₁ : m.lead.least + base.world.server.clock ≤ (x.clients m.place).state.holder.clock + 2 ^ 63 =
      subst (λ (d : Lead). d.least + base.world.server.clock ≤ (x.clients m.place).state.holder.clock + 2 ^ 63) z n.at.0 in
      let g : m.lead.most ≤ m.lead.least + k.skew = f.narrow m.place m.within m.known m.lead m.noted in
      let c₁ : (base.world.clients c).clock ≡ (x.clients m.place).state.holder.clock = ap (λ (z : core.Client). z.clock) e in
      let a₂ : t + 2 ^ 63 ≤ m.lead.most + h = m.at.1 in
      omega (arith, c₁, a₁, a₂, g, soon)
