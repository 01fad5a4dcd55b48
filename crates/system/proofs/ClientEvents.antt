-- An event of a client keeps a run with its world of the lending core, before the moment is judged.
-- Assumes nothing.
use Rattle.std.proofs.Common.{◌≡◌, ℕ, ◌<◌, Bool, true, false, cond, not, ◌&&◌, ◌||◌, eqb, ◌⊎◌, List, [], ◌∷◌, ◌++◌, is_some, Some, None, Option, sym, refl, ap, ◌∙◌, subst, inl, inr}
use Rattle.std.proofs.lemmas.Bool.{both_ways, cases_eq, cond-true, cond-false, eqb-false, eq-eqb, ne_eqb, and_from}
use Rattle.lease.specs.declared.message.Grant as given
use Rattle.lease.specs.declared.message.Request as asked
use Rattle.lease.specs.Settings as model
use Rattle.lease.specs.Settings.{life}
use Rattle.lease.specs.Table.{at}
use Rattle.lease.specs.Holding.{nothing, settled}
use Rattle.lease.specs.World as core
use Rattle.lease.specs.World.{Message, Requests, Grants, World, knowing_nothing, elem}
use Rattle.lease.specs.Run as run
use Rattle.lease.specs.Run.{asks, asked as asks_with, client_hears, client_passes, hearing, with_client}
use Rattle.std.proofs.lemmas.Option.{none-some, same_Some}
use Rattle.lease.proofs.Claims.{In}
use Rattle.lease.proofs.Sound.{Kept, Moments, Sound, same}
use Rattle.lease.proofs.ClientSteps as client_steps
use Rattle.lease.proofs.Passing.{clients_pass}
use Rattle.lease.proofs.Keeping.{Tidy}
use Rattle.client.specs.Client.{Client}
use Rattle.system.specs.Parties.{Parties, places}
use Rattle.system.specs.Watch.{Lead, Watch, requested, same_request}
use Rattle.system.proofs.Watching.{request-same}
use Rattle.system.proofs.Queueing.{elem_back, elem-here, elem-later, elem_not, elem-one, distinct_head}
use Rattle.client.specs.Nonces.{Distinct}
use Rattle.system.proofs.Following.{Moment, Queues, Base, ticked, pass_none}

pub at_here : {A : Type 0} (i : ℕ) (c : A) (f : ℕ → A) → at i c f i ≡ c
at_here i c f = cond-true (eqb i i) c (f i) (eq-eqb i i refl)

pub at_other : {A : Type 0} (i : ℕ) (c : A) (f : ℕ → A) (l : ℕ) → (l ≡ i → ⊥) → at i c f l ≡ f l
at_other i c f l d = cond-false (eqb l i) c (f l) (ne_eqb l i d)

requested_either : (r : asked.Request) (rs qs : List asked.Request) → requested r (rs ++ qs) ≡ true → (requested r rs ≡ true) ⊎ (requested r qs ≡ true)
unfolding requested
requested_either r [] qs e = inr e
requested_either r (q ∷ rs) qs e = either_so (same_request r q) (requested r (rs ++ qs)) (requested r rs) (requested r qs) (λ f. requested_either r rs qs f) e
  where
    either_so : (b : Bool) (P Q R : Bool) → ((P ≡ true) → (Q ≡ true) ⊎ (R ≡ true)) → (b || P) ≡ true → ((b || Q) ≡ true) ⊎ (R ≡ true)
    either_so true P Q R f e = inl refl
    either_so false P Q R f e = f e

module _ (k : model.Settings) (p : ℕ) (x : Parties) (w : Watch) (b : Base k p x w) (i : ℕ) (i< : i < places) where
  abbrev c₀ : Client
  c₀ = x.clients i

  abbrev S : Moments
  S = Moment x w

  -- what a client's event leaves: the client, and what is watched
  pub record Left : Type 0 where
    pub client : Client
    pub requests : List asked.Request
    pub nonces : List ℕ
    pub settings : Option model.Settings
    pub leads : ℕ → Option Lead

  module _ (a : Left) where
    abbrev pub y : Parties
    y = record { server = x.server; clients = at i a.client x.clients }

    abbrev pub v₀ : Watch
    v₀ = record { requests = a.requests ++ w.requests; grants = w.grants; nonces = a.nonces ++ w.nonces; settings = a.settings; leads = a.leads }

    abbrev pub S' : Moments
    S' = Moment y v₀

    abbrev own' : Option ℕ
    own' = a.client.state.own

    here : y.clients i ≡ a.client
    here = at_here i a.client x.clients

    there : (l : ℕ) → (l ≡ i → ⊥) → y.clients l ≡ x.clients l
    there l d = at_other i a.client x.clients l d

    -- of the watch: nothing else changes
    pub record Watches : Type 0 where
      pub known : is_some w.settings ≡ true → is_some a.settings ≡ true
      pub others : (l : ℕ) → (l ≡ i → ⊥) → a.leads l ≡ w.leads l
      pub own_stays : (c : ℕ) → c₀.state.own ≡ Some c → own' ≡ Some c

    module _ (q : Watches) where
      -- moments of other clients stay
      pub kept-others : (d t h : ℕ) → (m : S d t h) → (m.place ≡ i → ⊥) → S' d t h
      kept-others d t h m ne =
          record {
            known = q.known m.known;
            place = m.place;
            within = m.within;
            own = ap (λ (z : Client). z.state.own) (there m.place ne) ∙ m.own;
            lead = m.lead;
            noted = q.others m.place ne ∙ m.noted;
            at = m.at;
          }

      -- and its own, where its lead does
      pub kept-all : ((d : Lead) → w.leads i ≡ Some d → a.leads i ≡ Some d) → (d : ℕ) → Kept S S' d
      kept-all stays d t h m =
          elim (cases_eq m.place i) [
            | inl e ↦
                let o : c₀.state.own ≡ Some d = subst (λ (z : ℕ). (x.clients z).state.own ≡ Some d) e m.own in
                record {
                  known = q.known m.known;
                  place = i;
                  within = i<;
                  own = ap (λ (z : Client). z.state.own) here ∙ q.own_stays d o;
                  lead = m.lead;
                  noted = stays m.lead (subst (λ (z : ℕ). w.leads z ≡ Some m.lead) e m.noted);
                  at = m.at;
                }
            | inr e ↦ kept-others d t h m e
          ]

      -- a moment of another number isn't this client's
      pub kept_but : (c : ℕ) → (c₀.state.own ≡ None) ⊎ (c₀.state.own ≡ Some c) → (d : ℕ) → eqb d c ≡ false → Kept S S' d
      kept_but c o d ne t h m =
          kept-others d t h m
          (λ e.
          let g : c₀.state.own ≡ Some d = subst (λ (z : ℕ). (x.clients z).state.own ≡ Some d) e m.own in
          elim o [
            | inl none ↦ none-some d (sym none ∙ g)
            | inr some ↦ eqb-false d c ne (same_Some d c (sym g ∙ some))
          ])

      -- a world for the holder `h`
      pub record Moved (h : core.Client) : Type 0 where
        pub world : World
        pub sound : Sound k S' world
        pub server : world.server ≡ b.world.server
        pub messages : world.messages ≡ b.world.messages
        pub drawn : world.drawn ≡ b.world.drawn
        pub mine : (c : ℕ) → own' ≡ Some c → world.clients c ≡ h
        pub others : (d : ℕ) → (own' ≡ Some d → ⊥) → world.clients d ≡ b.world.clients d

      -- nothing changes for it
      pub unmoved : ((d : Lead) → w.leads i ≡ Some d → a.leads i ≡ Some d) → ((c : ℕ) → own' ≡ Some c → c₀.state.own ≡ Some c) → Moved c₀.state.holder
      unmoved stays was =
          record {
            world = b.world;
            sound = same k S S' b.world b.sound (kept-all stays);
            server = refl;
            messages = refl;
            drawn = refl;
            mine = λ c o. b.clients i c i< (was c o);
            others = λ d ne. refl;
          }

      -- a client without a number isn't in the world
      pub unseen : c₀.state.own ≡ None → own' ≡ None → (h : core.Client) → Moved h
      unseen none still h =
          record {
            world = b.world;
            sound = same k S S' b.world b.sound (λ d t h m. kept-others d t h m (λ e. none-some d (sym none ∙ subst (λ (z : ℕ). (x.clients z).state.own ≡ Some d) e m.own)));
            server = refl;
            messages = refl;
            drawn = refl;
            mine = λ c o. absurd (none-some c (sym still ∙ o));
            others = λ d ne. refl;
          }

      -- it begins anew, or is numbered
      pub begun : (c : ℕ) → own' ≡ Some c → (c₀.state.own ≡ None) ⊎ (c₀.state.own ≡ Some c) → (clock : ℕ) (up : Bool) → Moved (knowing_nothing clock up)
      begun c o was clock up =
          record {
            world = with_client c (knowing_nothing clock up) b.world;
            sound = client_steps.client-forgets k S S' b.world b.sound c clock up (kept_but c was);
            server = refl;
            messages = refl;
            drawn = refl;
            mine = λ d e. let z : d ≡ c = same_Some d c (sym e ∙ o) in cond-true (eqb d c) (knowing_nothing clock up) (b.world.clients d) (eq-eqb d c z);
            others = λ d ne. at_other c (knowing_nothing clock up) b.world.clients d (λ e. ne (o ∙ ap (λ (z : ℕ). Some z) (sym e)));
          }

      module _ (stays : (d : Lead) → w.leads i ≡ Some d → a.leads i ≡ Some d) (c : ℕ) (o : own' ≡ Some c) (was : c₀.state.own ≡ Some c) where
        -- it hears a grant
        pub granted : (g : given.Grant) → In (Grants g) b.world.messages → Moved (settled c₀.state.holder (hearing k.term c g c₀.state.holder))
        granted g sent =
            let e : b.world.clients c ≡ c₀.state.holder = b.clients i c i< was in
            let h : core.Client → core.Client = λ z. settled z (hearing k.term c g z) in
            record {
              world = client_hears k c (Some (Grants g)) b.world;
              sound = client_steps.client-hears k S S' b.world b.sound c (kept-all stays) (Some (Grants g)) (λ m q. subst (λ (z : Message). In z b.world.messages) (same_Some _ _ q) sent);
              server = refl;
              messages = refl;
              drawn = refl;
              mine = λ d q. let z : d ≡ c = same_Some d c (sym q ∙ o) in cond-true (eqb d c) (h (b.world.clients c)) (b.world.clients d) (eq-eqb d c z) ∙ ap h e;
              others = λ d ne. at_other c (h (b.world.clients c)) b.world.clients d (λ q. ne (o ∙ ap (λ (z : ℕ). Some z) (sym q)));
            }

        -- a tick of its clock
        pub ticks : Moved (client_passes 1 c₀.state.holder)
        ticks =
            let e : b.world.clients c ≡ c₀.state.holder = b.clients i c i< was in
            let g : ℕ → ℕ = λ d. cond (eqb d c) 1 0 in
            record {
              world = record {
                server = b.world.server;
                clients = λ d. client_passes (g d) (b.world.clients d);
                messages = b.world.messages;
                drawn = b.world.drawn;
              };
              sound = clients_pass k S S' b.world b.sound g (kept-all stays);
              server = refl;
              messages = refl;
              drawn = refl;
              mine = λ d q.
                  let z : d ≡ c = same_Some d c (sym q ∙ o) in
                  ap (λ (n : ℕ). client_passes n (b.world.clients d)) (cond-true (eqb d c) 1 0 (eq-eqb d c z)) ∙ ap (λ (n : ℕ). client_passes 1 (b.world.clients n)) z ∙ ap (client_passes 1) e;
              others = λ d ne.
                  ap (λ (n : ℕ). client_passes n (b.world.clients d)) (cond-false (eqb d c) 1 0 (ne_eqb d c (λ q. ne (o ∙ ap (λ (z : ℕ). Some z) (sym q)))))
                  ∙ pass_none (b.world.clients d) (λ u q. ((b.sound.holds d).uses u q).now);
            }

      -- what the client's event comes to in the world
      pub record Final : Type 0 where
        pub world : World
        pub sound : Sound k S' world
        pub server : world.server ≡ b.world.server
        pub messages : (m : Message) → In m b.world.messages → In m world.messages
        pub asked : (r : asked.Request) → requested r a.requests ≡ true → In (Requests r) world.messages
        pub mine : (c : ℕ) → own' ≡ Some c → world.clients c ≡ a.client.state.holder
        pub others : (d : ℕ) → (own' ≡ Some d → ⊥) → world.clients d ≡ b.world.clients d
        pub queues : Queues y v₀ world.drawn

      -- the nonces that it has at hand before it asks
      pub record AtHand (qs : List ℕ) : Type 0 where
        pub distinct : Distinct qs
        pub apart : (l n : ℕ) → l < places → (l ≡ i → ⊥) → elem n qs ≡ true → elem n (x.clients l).nonces ≡ true → ⊥
        pub unused : (n : ℕ) → elem n qs ≡ true → elem n b.world.drawn ≡ false
        pub lent : (n : ℕ) → elem n qs ≡ true → elem n (a.nonces ++ w.nonces) ≡ true

      by_place : (l : ℕ) (P : Client → Type 0) → (l ≡ i → P a.client) → ((l ≡ i → ⊥) → P (x.clients l)) → P (y.clients l)
      by_place l P at-it off =
          elim (cases_eq l i) [
            | inl e ↦ subst P (sym (ap (λ (z : ℕ). y.clients z) e ∙ here)) (at-it e)
            | inr e ↦ subst P (sym (there l e)) (off e)
          ]

      -- all queues, where its own has some of these, and the others are not among those that are used up now
      queues_so : (qs drawn : List ℕ) → AtHand qs → Distinct a.client.nonces → ((n : ℕ) → elem n a.client.nonces ≡ true → elem n qs ≡ true) →
          ((n : ℕ) → elem n a.client.nonces ≡ true → elem n drawn ≡ false) → ((n : ℕ) → elem n drawn ≡ true → (elem n b.world.drawn ≡ true) ⊎ (elem n qs ≡ true)) → Queues y v₀ drawn
      queues_so qs drawn h dist sub own old =
          record {
            distinct = λ l l<. by_place l (λ z. Distinct z.nonces) (λ e. dist) (λ e. b.queues.distinct l l<);
            apart = λ l m n l< m<. by_place l (λ z. elem n z.nonces ≡ true → elem n (y.clients m).nonces ≡ true → l ≡ m)
                (λ e g. by_place m (λ z. elem n z.nonces ≡ true → l ≡ m) (λ o q. e ∙ sym o) (λ o q. absurd (h.apart m n m< o (sub n g) q)))
                (λ e g. by_place m (λ z. elem n z.nonces ≡ true → l ≡ m) (λ o q. absurd (h.apart l n l< e (sub n q) g)) (λ o q. b.queues.apart l m n l< m< g q));
            unused = λ l n l<. by_place l (λ z. elem n z.nonces ≡ true → elem n drawn ≡ false) (λ e g. own n g)
                (λ e g. elem_not n drawn (λ q. elim (old n q) [
                  | inl p ↦ both_ways _ (b.queues.unused l n l< g) p
                  | inr p ↦ h.apart l n l< e p g
                ]));
            lent = λ l n l<. by_place l (λ z. elem n z.nonces ≡ true → elem n (a.nonces ++ w.nonces) ≡ true) (λ e g. h.lent n (sub n g))
                (λ e g. elem_back n a.nonces w.nonces (b.queues.lent l n l< g));
            spent = λ n q. elim (old n q) [
              | inl p ↦ elem_back n a.nonces w.nonces (b.queues.spent n p)
              | inr p ↦ h.lent n p
            ];
          }

      -- IT DOESN'T ASK
      pub unasked : (qs : List ℕ) → AtHand qs → a.client.nonces ≡ qs → a.requests ≡ [] → Moved a.client.state.holder → Final
      unfolding requested
      unasked qs h e none m =
          let hh : AtHand a.client.nonces = subst (λ (z : List ℕ). AtHand z) (sym e) h in
          record {
            world = m.world;
            sound = m.sound;
            server = m.server;
            messages = λ g q. subst (λ (z : List Message). In g z) (sym m.messages) q;
            asked = λ r q. absurd (both_ways false refl (sym (ap (λ (z : List asked.Request). requested r z) none) ∙ q));
            mine = m.mine;
            others = m.others;
            queues = subst (λ (z : List ℕ). Queues y v₀ z) (sym m.drawn)
                (queues_so a.client.nonces b.world.drawn hh hh.distinct (λ n g. g) hh.unused (λ n g. inl g));
          }

      -- IT ASKS, with the first of these
      pub asks_then : (c n pref : ℕ) → AtHand (n ∷ a.client.nonces) → own' ≡ Some c → a.requests ≡ record { client = c; nonce = n; preferred = pref } ∷ [] →
          (h : core.Client) → h.up ≡ true → a.client.state.holder ≡ asks_with n h → Moved h → Final
      unfolding requested
      asks_then c n pref q o one h up e m =
          let r : asked.Request = record { client = c; nonce = n; preferred = pref } in
          let u : World = m.world in
          let fresh : elem n u.drawn ≡ false = subst (λ (z : List ℕ). elem n z ≡ false) (sym m.drawn) (q.unused n (elem-here n a.client.nonces)) in
          let me : u.clients c ≡ h = m.mine c o in
          let able : ((u.clients c).up && not (elem n u.drawn)) ≡ true = and_from _ _ (ap (λ (z : core.Client). z.up) me ∙ up) (ap not fresh) in
          let w₂ : World = run.requested c n pref u in
          let z : asks c n pref u ≡ w₂ = cond-true ((u.clients c).up && not (elem n u.drawn)) w₂ u able in
          record {
            world = w₂;
            sound = subst (λ (y : World). Sound k S' y) z (client_steps.client-asks k S' S' u m.sound c n pref (λ d t s g. g));
            server = m.server;
            messages = λ g i. inr (subst (λ (y : List Message). In g y) (sym m.messages) i);
            asked = λ g i. inl (ap (λ (y : asked.Request). Requests y) (only g r (sym (ap (λ (y : List asked.Request). requested g y) one) ∙ i)));
            mine = λ d g. let s : d ≡ c = same_Some d c (sym g ∙ o) in cond-true (eqb d c) (asks_with n (u.clients c)) (u.clients d) (eq-eqb d c s) ∙ ap (asks_with n) me ∙ sym e;
            others = λ d ne. at_other c (asks_with n (u.clients c)) u.clients d (λ g. ne (o ∙ ap (λ (y : ℕ). Some y) (sym g))) ∙ m.others d ne;
            queues = subst (λ (y : List ℕ). Queues (record { server = x.server; clients = at i a.client x.clients }) v₀ (n ∷ y)) (sym m.drawn)
                (queues_so (n ∷ a.client.nonces) (n ∷ b.world.drawn) q (distinct_head n a.client.nonces q.distinct).1 (λ g i. elem-later g n a.client.nonces i)
                (λ g i. elem_not g (n ∷ b.world.drawn) (λ s. elim (elem-one g n b.world.drawn s) [
                  | inl t ↦ both_ways _ (distinct_head n a.client.nonces q.distinct).0 (subst (λ (y : ℕ). elem y a.client.nonces ≡ true) t i)
                  | inr t ↦ both_ways _ (q.unused g (elem-later g n a.client.nonces i)) t
                ]))
                (λ g i. elim (elem-one g n b.world.drawn i) [
                  | inl t ↦ inr (subst (λ (y : ℕ). elem y (n ∷ a.client.nonces) ≡ true) (sym t) (elem-here n a.client.nonces))
                  | inr t ↦ inl t
                ]));
          }
        where
          or_no : (t : Bool) → (t || false) ≡ true → t ≡ true
          or_no true s = refl
          or_no false s = s

          only : (g r : asked.Request) → (same_request g r || false) ≡ true → g ≡ r
          only g r s = request-same g r (or_no (same_request g r) s)

      -- ALL TOGETHER
      module _ (z : Final) (idle : own' ≡ None → a.client.state.holder.holding ≡ nothing)
          (alone : (l c : ℕ) → l < places → (l ≡ i → ⊥) → (x.clients l).state.own ≡ Some c → own' ≡ Some c → ⊥)
          (agreed : (m : model.Settings) → a.client.state.settings ≡ Some m → m ≡ k) (quiet : a.client.state.holder.up ≡ false → a.leads i ≡ None) where
        is-own : (o : Option ℕ) (c : ℕ) → (o ≡ Some c) ⊎ (o ≡ Some c → ⊥)
        is-own None c = inr (λ e. none-some c e)
        is-own (Some d) c = elim (cases_eq d c) [ inl e ↦ inl (ap (λ (n : ℕ). Some n) e) | inr e ↦ inr (λ g. e (same_Some d c g)) ]

        owner : (c : ℕ) → (z.world.clients c).up ≡ true → (l : ℕ) × (l < places) × ((y.clients l).state.own ≡ Some c)
        owner c up =
            elim (is-own own' c) [
              | inl o ↦ (i, i<, ap (λ (q : Client). q.state.own) here ∙ o)
              | inr ne ↦
                  let l : (l : ℕ) × (l < places) × ((x.clients l).state.own ≡ Some c) = b.owned c (ap (λ (q : core.Client). q.up) (sym (z.others c ne)) ∙ up) in
                  let off : l.0 ≡ i → ⊥ = λ e. ne (q.own_stays c (subst (λ (n : ℕ). (x.clients n).state.own ≡ Some c) e l.2)) in
                  (l.0, l.1, ap (λ (q : Client). q.state.own) (there l.0 off) ∙ l.2)
            ]

        pub assembled : Base k p y v₀
        assembled =
            record {
              world = z.world;
              sound = z.sound;
              tidy = subst (λ (v : core.Server). Tidy k v) (sym z.server) b.tidy;
              server = b.server ∙ ap (λ (v : core.Server). ticked p v) (sym z.server);
              home = b.home;
              clock = b.clock;
              clients = λ l c l<. by_place l (λ g. g.state.own ≡ Some c → z.world.clients c ≡ g.state.holder) (λ e o. z.mine c o)
                  (λ e o. z.others c (λ o'. alone l c l< e o o') ∙ b.clients l c l< o);
              owned = owner;
              idle = λ l l<. by_place l (λ g. g.state.own ≡ None → g.state.holder.holding ≡ nothing) (λ e o. idle o) (λ e o. b.idle l l< o);
              alone = λ l m c l< m<. by_place l (λ g. g.state.own ≡ Some c → (y.clients m).state.own ≡ Some c → l ≡ m)
                  (λ e o. by_place m (λ g. g.state.own ≡ Some c → l ≡ m) (λ s t. e ∙ sym s) (λ s t. absurd (alone m c m< s t o)))
                  (λ e o. by_place m (λ g. g.state.own ≡ Some c → l ≡ m) (λ s t. absurd (alone l c l< e o t)) (λ s t. b.alone l m c l< m< o t));
              agreed = λ l m l<. by_place l (λ g. g.state.settings ≡ Some m → m ≡ k) (λ e o. agreed m o) (λ e o. b.agreed l m l< o);
              told = λ m e. ((b.told m e).0, q.known (b.told m e).1);
              requests = λ r e. elim (requested_either r a.requests w.requests e) [
                | inl s ↦ z.asked r s
                | inr s ↦ z.messages _ (b.requests r s)
              ];
              grants = λ g e. z.messages _ (b.grants g e);
              queues = z.queues;
              quiet = λ l l<. elim (cases_eq l i) [
                | inl e ↦ λ down.
                    let s : a.client.state.holder.up ≡ false = ap (λ (g : Client). g.state.holder.up) (sym (ap (λ (n : ℕ). y.clients n) e ∙ here)) ∙ down in
                    ap a.leads e ∙ quiet s
                | inr e ↦ λ down. q.others l e ∙ b.quiet l l< (ap (λ (g : Client). g.state.holder.up) (sym (there l e)) ∙ down)
              ];
            }
