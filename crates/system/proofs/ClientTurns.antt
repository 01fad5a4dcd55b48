-- What bytes that come to a client make of the run, by the message that they are.
-- Assumes nothing.
use Rattle.std.proofs.Common.{◌≡◌, ℕ, ◌+◌, ◌<◌, Bool, true, false, not, ◌||◌, List, [], ◌∷◌, ◌++◌, is_some, IfOk, Some, None, Ok, Err, Option, Result, sym, refl, ap, ◌∙◌, subst, inl, inr}
use Rattle.std.proofs.lemmas.List.{append-nil}
use Rattle.std.proofs.lemmas.Bool.{both_ways, cases_Bool, cond_both, cond-true, cond-false, not-false, or_right}
use Rattle.lease.specs.declared.fault.Fault as lease
use Rattle.lease.specs.declared.message.Grant as given
use Rattle.lease.specs.declared.message.Request as asked
use Rattle.lease.specs.Settings as model
use Rattle.lease.specs.Table.{at}
use Rattle.lease.specs.Holding.{Holding, later, nothing, settled, taking}
use Rattle.lease.specs.World as core
use Rattle.lease.specs.World.{Grants, knowing_nothing, elem}
use Rattle.lease.specs.Run.{client_passes, hearing, held_by}
use Rattle.std.proofs.lemmas.Option.{none-some, same_Some}
use Rattle.lease.proofs.Claims.{In}
use Rattle.wire.specs.declared.message.Message.{Message}
use Rattle.wire.specs.declared.message.Message.TheVariants.{Request, Grant, Settings, Tick, Crash, Restart, OwnNumber, Nonce, InUse, NoAddress, Fault}
use Rattle.wire.specs.Read.{read}
use Rattle.client.specs.Client as client
use Rattle.client.specs.Client.{Client, keeps, lends, queued, refuses, sends}
use Rattle.client.specs.State.{Turn, does}
use Rattle.client.specs.Nonces.{Distinct, requests}
use Rattle.client.proofs.Turns.{Turned, turned}
use Rattle.client.proofs.Steps.{requests-++}
use Rattle.system.specs.Parties.{Parties, Event, ToClient, Outcome, client_does, places}
use Rattle.system.specs.Watch.{Lead, Watch, anew, nonce_in, or_first, start_in, unsent_grant, watched}
use Rattle.system.proofs.Turning.{HolderBy, OwnBy, TurnedBy, client-hears, may_ask, turned_by}
use Rattle.system.proofs.Watching.{Unbroken, known-first, none_below, numbers_apart}
use Rattle.system.proofs.Queueing.{distinct_join, elem_back, elem_either, elem_front, elem_not, lent_distinct, lends-is, none_in}
use Rattle.system.proofs.Serving.{told-first}
use Rattle.system.proofs.Following.{Base}
use Rattle.system.proofs.ClientEvents as events
use Rattle.system.proofs.ClientEvents.{Left, at_here, at_other}

-- power stays where only time passes, or a grant comes
passes_up : (n : ℕ) (x : core.Client) → (client_passes n x).up ≡ x.up
passes_up n x = cond_both x.up _ x (λ (z : core.Client). z.up ≡ x.up) (λ e. refl) (λ e. refl)

held_up : (x : core.Client) (r : Result Holding lease.Fault) → (settled x (held_by x r)).up ≡ x.up
held_up x (Ok h) = refl
held_up x (Err f) = refl

hears-up : (term c : ℕ) (g : given.Grant) (x : core.Client) → (settled x (hearing term c g x)).up ≡ x.up
hears-up term c g x = cond_both x.up _ _ (λ (r : Result core.Client lease.Fault). (settled x r).up ≡ x.up) (λ e. held_up x (taking term x.clock c g x.holding)) (λ e. refl)

-- a client that holds nothing
idle_is : (x : core.Client) → x.holding ≡ nothing → x ≡ knowing_nothing x.clock x.up
idle_is x e = let f : Holding → core.Client = λ h. record { clock = x.clock; up = x.up; holding = h } in ap f e

idle_passes : (n : ℕ) (x : core.Client) → x.holding ≡ nothing → (client_passes n x).holding ≡ nothing
idle_passes n x e =
    cond_both x.up _ x (λ (z : core.Client). z.holding ≡ nothing)
    (λ up. ap (later (x.clock + n)) e) (λ down. e)

module _ (k : model.Settings) (p : ℕ) (x : Parties) (w : Watch) (b : Base k p x w) (i : ℕ) (i< : i < places) where
  abbrev c₀ : Client
  c₀ = x.clients i

  module _ (a : Left k p x w b i i<) (q : events.Watches k p x w b i i< a) (m : Message) (t : Turn) (by : TurnedBy m c₀.state t) (own-so : a.client.state.own ≡ t.state.own)
      (stays : start_in (Some m) ≡ None → t.state.holder.up ≡ c₀.state.holder.up → (d : Lead) → w.leads i ≡ Some d → a.leads i ≡ Some d)
      (sent : (g : given.Grant) → m ≡ Grant g → In (Grants g) b.world.messages) where
    abbrev Moved : core.Client → Type 0
    Moved h = events.Moved k p x w b i i< a q h

    here : (h : core.Client) → t.state.holder ≡ h → Moved h → Moved t.state.holder
    here h e d = subst (λ (z : core.Client). Moved z) (sym e) d

    -- its holder stays
    still : (n : Message) → m ≡ n → start_in (Some n) ≡ None → t.state.holder ≡ c₀.state.holder → t.state.own ≡ c₀.state.own → Moved t.state.holder
    still n e s h o =
        here c₀.state.holder h
        (events.unmoved k p x w b i i< a q (stays (ap (λ (z : Message). start_in (Some z)) e ∙ s) (ap (λ (z : core.Client). z.up) h)) (λ c g. sym o ∙ sym own-so ∙ g))

    -- it had its number before
    numbered : (c : ℕ) → c₀.state.own ≡ Some c → (n : Message) → m ≡ n → HolderBy n c₀.state t.state.holder → OwnBy n c₀.state t.state.own → Moved t.state.holder
    numbered c was (Request r) e h o = still (Request r) e refl h o
    numbered c was (Grant g) e (inl h) o = still (Grant g) e refl h o
    numbered c was (Grant g) e (inr h) o =
        let same-c : h.0 ≡ c = same_Some h.0 c (sym h.2 ∙ was) in
        let same-k : h.1 ≡ k = b.agreed i h.1 i< h.3 in
        let z : t.state.holder ≡ settled c₀.state.holder (hearing k.term c g c₀.state.holder) =
        h.4 ∙ ap (λ (n : ℕ). settled c₀.state.holder (hearing h.1.term n g c₀.state.holder)) same-c
        ∙ ap (λ (j : model.Settings). settled c₀.state.holder (hearing j.term c g c₀.state.holder)) same-k in
        here _ z
        (events.granted k p x w b i i< a q (stays (ap (λ (n : Message). start_in (Some n)) e) (ap (λ (v : core.Client). v.up) z ∙ hears-up k.term c g c₀.state.holder)) c (own-so ∙ o ∙ was) was g (sent g e))
    numbered c was (Settings n t e₁) e h o = still (Settings n t e₁) e refl h o
    numbered c was Tick e h o =
        here _ h
        (events.ticks k p x w b i i< a q (stays (ap (λ (n : Message). start_in (Some n)) e) (ap (λ (v : core.Client). v.up) h ∙ passes_up 1 c₀.state.holder)) c (own-so ∙ o ∙ was) was)
    numbered c was Crash e (inl h) o = here _ h.1 (events.begun k p x w b i i< a q c (own-so ∙ o ∙ was) (inr was) c₀.state.holder.clock false)
    numbered c was Crash e (inr h) o = still Crash e refl h.1 o
    numbered c was (Restart clock) e h o = here _ h.1 (events.begun k p x w b i i< a q c (own-so ∙ o ∙ was) (inr was) clock true)
    numbered c was (OwnNumber n) e h o = absurd (none-some c (sym o.0 ∙ was))
    numbered c was (Nonce n) e h o = still (Nonce n) e refl h o
    numbered c was (InUse u v) e h o = still (InUse u v) e refl h o
    numbered c was NoAddress e h o = still NoAddress e refl h o
    numbered c was (Fault f) e h o = still (Fault f) e refl h o

    -- it has none yet
    unseen : c₀.state.own ≡ None → t.state.own ≡ c₀.state.own → Moved t.state.holder
    unseen none o = events.unseen k p x w b i i< a q none (own-so ∙ o ∙ none) t.state.holder

    unnumbered : c₀.state.own ≡ None → (n : Message) → HolderBy n c₀.state t.state.holder → OwnBy n c₀.state t.state.own → Moved t.state.holder
    unnumbered none (Request r) h o = unseen none o
    unnumbered none (Grant g) h o = unseen none o
    unnumbered none (Settings n t e₁) h o = unseen none o
    unnumbered none Tick h o = unseen none o
    unnumbered none Crash h o = unseen none o
    unnumbered none (Restart clock) h o = unseen none o
    unnumbered none (OwnNumber n) h o =
        here _ (h ∙ idle_is c₀.state.holder (b.idle i i< none)) (events.begun k p x w b i i< a q n (own-so ∙ o.1) (inl none) c₀.state.holder.clock c₀.state.holder.up)
    unnumbered none (Nonce n) h o = unseen none o
    unnumbered none (InUse u v) h o = unseen none o
    unnumbered none NoAddress h o = unseen none o
    unnumbered none (Fault f) h o = unseen none o

    turn_moves : (o : Option ℕ) → c₀.state.own ≡ o → Moved t.state.holder
    turn_moves None e = unnumbered e m by.holder by.own
    turn_moves (Some c) e = numbered c e m refl by.holder by.own

  -- WITHOUT A NUMBER it holds nothing
  idle_by : (n : Message) (h : core.Client) → c₀.state.own ≡ None → HolderBy n c₀.state h → h.holding ≡ nothing
  idle_by (Request r) h none e = ap (λ (z : core.Client). z.holding) e ∙ b.idle i i< none
  idle_by (Grant g) h none (inl e) = ap (λ (z : core.Client). z.holding) e ∙ b.idle i i< none
  idle_by (Grant g) h none (inr e) = absurd (none-some e.0 (sym none ∙ e.2))
  idle_by (Settings n t e₁) h none e = ap (λ (z : core.Client). z.holding) e ∙ b.idle i i< none
  idle_by Tick h none e = ap (λ (z : core.Client). z.holding) e ∙ idle_passes 1 c₀.state.holder (b.idle i i< none)
  idle_by Crash h none (inl e) = ap (λ (z : core.Client). z.holding) e.1
  idle_by Crash h none (inr e) = ap (λ (z : core.Client). z.holding) e.1 ∙ b.idle i i< none
  idle_by (Restart clock) h none e = ap (λ (z : core.Client). z.holding) e.1
  idle_by (OwnNumber n) h none e = ap (λ (z : core.Client). z.holding) e ∙ b.idle i i< none
  idle_by (Nonce n) h none e = ap (λ (z : core.Client). z.holding) e ∙ b.idle i i< none
  idle_by (InUse a u) h none e = ap (λ (z : core.Client). z.holding) e ∙ b.idle i i< none
  idle_by NoAddress h none e = ap (λ (z : core.Client). z.holding) e ∙ b.idle i i< none
  idle_by (Fault f) h none e = ap (λ (z : core.Client). z.holding) e ∙ b.idle i i< none

  -- a number that it has it keeps
  own-kept : (n : Message) (o : Option ℕ) (c : ℕ) → OwnBy n c₀.state o → c₀.state.own ≡ Some c → o ≡ Some c
  own-kept (Request r) o c e was = e ∙ was
  own-kept (Grant g) o c e was = e ∙ was
  own-kept (Settings n t e₁) o c e was = e ∙ was
  own-kept Tick o c e was = e ∙ was
  own-kept Crash o c e was = e ∙ was
  own-kept (Restart clock) o c e was = e ∙ was
  own-kept (OwnNumber n) o c e was = absurd (none-some c (sym e.0 ∙ was))
  own-kept (Nonce n) o c e was = e ∙ was
  own-kept (InUse a u) o c e was = e ∙ was
  own-kept NoAddress o c e was = e ∙ was
  own-kept (Fault f) o c e was = e ∙ was

  had_none : (n : Message) (o s : Option ℕ) → c₀.state.own ≡ s → OwnBy n c₀.state o → o ≡ None → c₀.state.own ≡ None
  had_none n o None e by none = e
  had_none n o (Some c) e by none = absurd (none-some c (sym none ∙ own-kept n o c by e))

  -- THE STEP
  module _ (bs : List ℕ) (judged : Bool) where
    abbrev e : Event
    e = ToClient i bs

    abbrev made_of : client.Step → Outcome
    made_of st = client_does i st x

    abbrev left : client.Step → Left k p x w b i i<
    left st =
        record {
          client = st.client;
          requests = requests st.says;
          nonces = nonce_in (read bs);
          settings = or_first w.settings ((made_of st).parties.clients i).state.settings;
          leads = anew e (made_of st).parties w.leads;
        }

    -- what a step of the client has to be, where it breaks no premise
    abbrev Good : client.Step → Type 0
    Good st = Unbroken e x (made_of st) w (watched judged e (made_of st) w) → ((j : model.Settings) → or_first w.settings ((made_of st).parties.clients i).state.settings ≡ Some j → j ≡ k) →
        Base k p (made_of st).parties (watched false e (made_of st) w)

    module _ (st : client.Step) (u : Unbroken e x (made_of st) w (watched judged e (made_of st) w))
        (fin : (j : model.Settings) → or_first w.settings ((made_of st).parties.clients i).state.settings ≡ Some j → j ≡ k) where
      abbrev y : Parties
      y = (made_of st).parties

      mine : y.clients i ≡ st.client
      mine = at_here i st.client x.clients

      abbrev reset : Bool
      reset = is_some (start_in (read bs)) || not (y.clients i).state.holder.up

      leads-others : (l : ℕ) → (l ≡ i → ⊥) → anew e y w.leads l ≡ w.leads l
      leads-others l ne = cond_both reset (at i None w.leads) w.leads (λ ls. ls l ≡ w.leads l) (λ r. at_other i None w.leads l ne) (λ r. refl)

      leads_down : st.client.state.holder.up ≡ false → anew e y w.leads i ≡ None
      leads_down down =
          ap (λ (ls : ℕ → Option Lead). ls i) (cond-true reset (at i None w.leads) w.leads
          (or_right (is_some (start_in (read bs))) (not (y.clients i).state.holder.up) (ap not (ap (λ (z : Client). z.state.holder.up) mine ∙ down)))) ∙ at_here i None w.leads

      leads_stay : start_in (read bs) ≡ None → st.client.state.holder.up ≡ c₀.state.holder.up → (d : Lead) → w.leads i ≡ Some d → anew e y w.leads i ≡ Some d
      leads_stay s up d g =
          let was : c₀.state.holder.up ≡ true = elim (cases_Bool c₀.state.holder.up) [ inl h ↦ h | inr h ↦ absurd (none-some d (sym (b.quiet i i< h) ∙ g)) ] in
          let r : reset ≡ false = ap (λ (o : Option ℕ). is_some o || not (y.clients i).state.holder.up) s ∙ ap not (ap (λ (z : Client). z.state.holder.up) mine ∙ up ∙ was) in
          ap (λ (ls : ℕ → Option Lead). ls i) (cond-false reset (at i None w.leads) w.leads r) ∙ g

      watches : ((c : ℕ) → c₀.state.own ≡ Some c → st.client.state.own ≡ Some c) → events.Watches k p x w b i i< (left st)
      watches own = record { known = told-first w.settings (y.clients i).state.settings; others = leads-others; own_stays = own }

      agreed : (j : model.Settings) → st.client.state.settings ≡ Some j → j ≡ k
      agreed j g =
          let h : (y.clients i).state.settings ≡ Some j = ap (λ (z : Client). z.state.settings) mine ∙ g in
          fin j (known-first w.settings (y.clients i).state.settings j h u.settings)

      alone : (l c : ℕ) → l < places → (l ≡ i → ⊥) → (x.clients l).state.own ≡ Some c → st.client.state.own ≡ Some c → ⊥
      alone l c l< ne o o' =
          ne (numbers_apart y i l c (none_below _ places u.numbers l l<) (ap (λ (z : Client). z.state.own) mine ∙ o')
          (ap (λ (z : Client). z.state.own) (at_other i st.client x.clients l ne) ∙ o))

      assemble : (own : (c : ℕ) → c₀.state.own ≡ Some c → st.client.state.own ≡ Some c) → events.Final k p x w b i i< (left st) (watches own) →
          (st.client.state.own ≡ None → st.client.state.holder.holding ≡ nothing) → Base k p y (watched false e (made_of st) w)
      assemble own z idle = events.assembled k p x w b i i< (left st) (watches own) z idle alone agreed leads_down

      -- the nonces at hand, with those that the message lends
      at_hand_lem : (own : (c : ℕ) → c₀.state.own ≡ Some c → st.client.state.own ≡ Some c) (ms : List ℕ) → ((n : ℕ) → elem n ms ≡ true → elem n (nonce_in (read bs)) ≡ true) → Distinct ms →
          events.AtHand k p x w b i i< (left st) (watches own) (c₀.nonces ++ ms)
      at_hand_lem own ms sub dist =
          let new : (n : ℕ) → elem n ms ≡ true → elem n w.nonces ≡ false = λ n h. none_in (nonce_in (read bs)) w.nonces u.nonces n (sub n h) in
          record {
            distinct = distinct_join c₀.nonces ms (b.queues.distinct i i<) dist (λ n h g. both_ways _ (new n g) (b.queues.lent i n i< h));
            apart = λ l n l< ne h g. elim (elem_either n c₀.nonces ms h) [
              | inl s ↦ ne (sym (b.queues.apart i l n i< l< s g))
              | inr s ↦ both_ways _ (new n s) (b.queues.lent l n l< g)
            ];
            unused = λ n h. elim (elem_either n c₀.nonces ms h) [
              | inl s ↦ b.queues.unused i n i< s
              | inr s ↦ elem_not n b.world.drawn (λ g. both_ways _ (new n s) (b.queues.spent n g))
            ];
            lent = λ n h. elim (elem_either n c₀.nonces ms h) [
              | inl s ↦ elem_back n (nonce_in (read bs)) w.nonces (b.queues.lent i n i< s)
              | inr s ↦ elem_front n (nonce_in (read bs)) w.nonces (sub n s)
            ];
          }

    -- it refuses what comes
    nothing_lent : (xs : List ℕ) → xs ++ [] ≡ xs
    nothing_lent xs = append-nil xs

    refused : (f : lease.Fault) → start_in (read bs) ≡ None → Good (refuses f c₀)
    unfolding requests elem Distinct
    refused f s u fin =
        let st : client.Step = refuses f c₀ in
        let own : (c : ℕ) → c₀.state.own ≡ Some c → c₀.state.own ≡ Some c = λ c h. h in
        let m : events.Moved k p x w b i i< (left st) (watches st u fin own) c₀.state.holder =
        events.unmoved k p x w b i i< (left st) (watches st u fin own) (leads_stay st u fin s refl) (λ c h. h) in
        assemble st u fin own
        (events.unasked k p x w b i i< (left st) (watches st u fin own) (c₀.nonces ++ []) (at_hand_lem st u fin own [] (λ n h. absurd (both_ways false refl h)) tt) (sym (nothing_lent c₀.nonces)) refl m)
        (b.idle i i<)

    module _ (m : Message) (t : Turn) (r : read bs ≡ Some m) (d : does m c₀.state ≡ Ok t) where
      by : TurnedBy m c₀.state t
      by = turned_by c₀.state m t d

      silent : requests t.says ≡ []
      silent = let P : Result Turn lease.Fault → Type 0 = λ z. IfOk z (λ t. Turned m c₀.state t) in (subst P d (turned c₀.state m)).quiet

      keeps-own : (c : ℕ) → c₀.state.own ≡ Some c → t.state.own ≡ Some c
      keeps-own c was = own-kept m t.state.own c by.own was

      idle_turn : t.state.own ≡ None → t.state.holder.holding ≡ nothing
      idle_turn none = idle_by m t.state.holder (had_none m t.state.own c₀.state.own refl by.own none) by.holder

      lent_so : (n : ℕ) → elem n (lends m) ≡ true → elem n (nonce_in (read bs)) ≡ true
      lent_so n h = subst (λ (z : List ℕ). elem n z ≡ true) (sym (ap nonce_in r ∙ lends-is m)) h

      grant-sent : unsent_grant (read bs) w ≡ false → (g : given.Grant) → m ≡ Grant g → In (Grants g) b.world.messages
      grant-sent s g z = b.grants g (not-false _ (ap (λ (o : Option Message). unsent_grant o w) (sym (r ∙ ap (λ (n : Message). Some n) z)) ∙ s))

      start_so : start_in (Some m) ≡ None → start_in (read bs) ≡ None
      start_so s = ap start_in r ∙ s

      quietly : Good (keeps t (queued m c₀.nonces))
      quietly u fin =
          let st : client.Step = keeps t (queued m c₀.nonces) in
          let a : Left k p x w b i i< = left st in
          let q : events.Watches k p x w b i i< a = watches st u fin keeps-own in
          let moved : events.Moved k p x w b i i< a q t.state.holder =
          turn_moves a q m t by refl (λ s up. leads_stay st u fin (start_so s) up) (grant-sent u.sent) c₀.state.own refl in
          assemble st u fin keeps-own
          (events.unasked k p x w b i i< a q (c₀.nonces ++ lends m) (at_hand_lem st u fin keeps-own (lends m) lent_so (lent_distinct m)) refl silent moved)
          idle_turn

      asking : (j : model.Settings) (c n : ℕ) (ns : List ℕ) → t.state.own ≡ Some c → queued m c₀.nonces ≡ n ∷ ns → t.state.holder.up ≡ true → Good (sends j c n t ns)
      unfolding requests
      asking j c n ns o e up u fin =
          let st : client.Step = sends j c n t ns in
          let a : Left k p x w b i i< = left st in
          let q : events.Watches k p x w b i i< a = watches st u fin keeps-own in
          let rq : asked.Request = record { client = c; nonce = n; preferred = client.preferred j t.state.last } in
          let moved : events.Moved k p x w b i i< a q t.state.holder =
          turn_moves a q m t by refl (λ s up. leads_stay st u fin (start_so s) up) (grant-sent u.sent) c₀.state.own refl in
          let hand : events.AtHand k p x w b i i< a q (n ∷ ns) =
          subst (λ (z : List ℕ). events.AtHand k p x w b i i< a q z) e (at_hand_lem st u fin keeps-own (lends m) lent_so (lent_distinct m)) in
          let said : requests (t.says ++ (Request rq ∷ [])) ≡ rq ∷ [] = requests-++ t.says (Request rq ∷ []) ∙ ap (λ (z : List asked.Request). z ++ (rq ∷ [])) silent in
          assemble st u fin keeps-own
          (events.asks_then k p x w b i i< a q c n (client.preferred j t.state.last) hand o said t.state.holder up refl moved)
          (λ none. absurd (none-some c (sym none ∙ o)))

      turning : Good (client.asks t (queued m c₀.nonces))
      turning =
          may_ask t Good t.state.settings t.state.own (queued m c₀.nonces) refl refl quietly
          (λ j c n ns s o e up. asking j c n ns o e up)

    -- ANY BYTES
    pub client-base : Good (client.hears bs c₀)
    client-base = client-hears bs c₀ Good refused turning
