-- The server goes on with a run of the lending core.
-- Assumes nothing.
use Rattle.std.proofs.Common.{◌≡◌, ℕ, suc, ◌+◌, ◌^◌, Bool, true, false, ◌||◌, leb, List, [], ◌∷◌, ◌++◌, Some, None, Option, sym, refl, ap, ◌∙◌, subst, inl, append_assoc, arith, Ok, Err}
use Rattle.std.proofs.lemmas.Bool.{cond-false, lt-leb}
use Rattle.lease.specs.declared.fault.Fault.TheVariants.{CountExhausted}
use Rattle.lease.specs.declared.message.Grant as given
use Rattle.lease.specs.declared.message.Request as asked
use Rattle.lease.specs.Settings as model
use Rattle.lease.specs.World as world
use Rattle.lease.specs.Run as run
use Rattle.lease.specs.Run.{answer, server_passes}
use Rattle.lease.proofs.Promise.{never_two}
use Rattle.wire.specs.Decode.{Answer}
use Rattle.lease.specs.Table.{Table, empty}
use Rattle.lease.specs.World.{is_silent}
use Rattle.journal.specs.Device.{Choice, New, chosen, cursor, is_found}
use Rattle.journal.proofs.Choosing.{choice-tells}
use Rattle.server.specs.Server.{State, Step, answers, fresh, hears, is_lost, pooled, refuses, silently, understood, with_server}
use Rattle.server.specs.Refines.{AllFrom, Asking, Cause, Crashes, Embeds, Event, Forgets, Hears, HearsAndCrashes, Passes, Refines, Restarts, Time, cause_in, grant_by, model_of, occur, occurs, sends, sent}
use Rattle.server.specs.Follows.{Begins, Follows, GoesOn, NoTwo, RunGoesOn, RunIsCut, RunTicks, Sent, sent_on}
use Rattle.server.proofs.Refining.{cut-refines-all, events-of_runs, pooled-none, settling-stands, step-refines, tick_stands, ticks-on}

-- what was sent stays so
still_sent : (i : ℕ) (m : world.Message) (a : run.Answer) (ms : List world.Message) → world.sent i ms ≡ Some m → (j : ℕ) × (world.sent j (run.replies a ms) ≡ Some m)
unfolding world.sent
still_sent i m (Ok None) ms e = (i, e)
still_sent i m (Ok (Some g)) ms e = (suc i, e)
still_sent i m (Err f) ms e = (i, e)

pub replies-on : (a : run.Answer) (gs : List given.Grant) (ms : List world.Message) → sent_on (grant_by a ++ gs) ms ≡ sent_on gs (run.replies a ms)
replies-on (Ok None) gs ms = refl
replies-on (Ok (Some g)) gs ms = refl
replies-on (Err f) gs ms = refl

no_two : (k : model.Settings) (es : List run.Event) → NoTwo k es
no_two k es = never_two k es

module _ (k : model.Settings) (o : Cause) (untimed : o ≡ Time → ⊥) where
  -- the run after more events of the server
  record Lifts (evs : List Event) (es : List run.Event) (v : world.Server) : Type 0 where
    whole : List run.Event
    more : List run.Event
    split : whole ≡ more ++ es
    server : (run.world k whole).server ≡ occur k evs v
    clients : (run.world k whole).clients ≡ (run.world k es).clients
    messages : (run.world k whole).messages ≡ sent_on (sent k evs v) (run.world k es).messages

  abbrev Requested : List run.Event → Type 0
  Requested es = (r : asked.Request) → o ≡ Asking r → Sent k es r

  -- one event more
  one_more : (e : Event) (evs : List Event) (x : run.Event) (es : List run.Event) (v : world.Server) →
      (run.world k (x ∷ es)).clients ≡ (run.world k es).clients →
      ((gs : List given.Grant) → sent_on gs (run.world k (x ∷ es)).messages ≡ sent_on (sends k e v ++ gs) (run.world k es).messages) →
      Lifts evs (x ∷ es) (occurs k e v) → Lifts (e ∷ evs) es v
  one_more e evs x es v cl ms l =
      record {
        whole = l.whole;
        more = l.more ++ (x ∷ []);
        split = l.split ∙ sym (append_assoc l.more (x ∷ []) es);
        server = l.server;
        clients = l.clients ∙ cl;
        messages = l.messages ∙ ms (sent k evs (occurs k e v));
      }

  lift : (evs : List Event) (es : List run.Event) (v : world.Server) → (run.world k es).server ≡ v → AllFrom o evs → Requested es → Lifts evs es v
  unfolding run.world
  lift [] es v same h req = record { whole = es; more = []; split = refl; server = same; clients = refl; messages = refl }
  lift (Passes n ∷ evs) es v same h req = absurd (untimed h.0.0)
  lift (Hears r ∷ evs) es v same h req =
      let i : Sent k es r = req r h.0 in
      let w : world.World = run.world k es in
      let b : Embeds k w = events-of_runs k w in
      let m : (run.step k (run.ServerHears i.0) w).messages ≡ run.replies (answer k v r) w.messages =
      (b.hears i.0 r i.1).1 ∙ ap (λ (y : world.Server). run.replies (answer k y r) w.messages) same in
      one_more (Hears r) evs (run.ServerHears i.0) es v (ap (λ (q : Option world.Message). (run.server_hears k q w).clients) i.1)
      (λ gs. ap (sent_on gs) m ∙ sym (replies-on (answer k v r) gs w.messages))
      (lift evs (run.ServerHears i.0 ∷ es) (occurs k (Hears r) v) ((b.hears i.0 r i.1).0 ∙ ap (occurs k (Hears r)) same) h.1
      (λ q e. subst (λ (l : List world.Message). (j : ℕ) × (world.sent j l ≡ Some (world.Requests q))) (sym m) (still_sent (req q e).0 (world.Requests q) (answer k v r) w.messages (req q e).1)))
  lift (HearsAndCrashes r wrote ∷ evs) es v same h req =
      let i : Sent k es r = req r h.0 in
      one_more (HearsAndCrashes r wrote) evs (run.ServerHearsAndCrashes i.0 wrote) es v refl (λ gs. refl)
      (lift evs (run.ServerHearsAndCrashes i.0 wrote ∷ es) (occurs k (HearsAndCrashes r wrote) v)
      ((events-of_runs k (run.world k es)).hears_and_crashes i.0 r wrote i.1 ∙ ap (occurs k (HearsAndCrashes r wrote)) same) h.1 req)
  lift (Crashes ∷ evs) es v same h req =
      one_more Crashes evs run.ServerCrashes es v refl (λ gs. refl) (lift evs (run.ServerCrashes ∷ es) (occurs k Crashes v) (ap (occurs k Crashes) same) h.1 req)
  lift (Forgets gone ∷ evs) es v same h req =
      one_more (Forgets gone) evs (run.Forgets gone) es v refl (λ gs. refl) (lift evs (run.Forgets gone ∷ es) (occurs k (Forgets gone) v) (ap (occurs k (Forgets gone)) same) h.1 req)
  lift (Restarts clock lost ∷ evs) es v same h req =
      one_more (Restarts clock lost) evs (run.ServerRestarts clock lost) es v refl (λ gs. refl)
      (lift evs (run.ServerRestarts clock lost ∷ es) (occurs k (Restarts clock lost) v) (ap (occurs k (Restarts clock lost)) same) h.1 req)

  goes_on : (es : List run.Event) (s t : State) (gs : List given.Grant) → Follows k es s → Requested es → Refines k s t gs o → GoesOn k es t gs
  goes_on es s t gs f req r =
      let l : Lifts r.events es (model_of k s) = lift r.events es (model_of k s) f.same r.heard req in
      record {
        whole = l.whole;
        more = l.more;
        split = l.split;
        follows = record { stands = r.stands; same = l.server ∙ sym r.state };
        clients = l.clients;
        messages = l.messages ∙ ap (λ (y : List given.Grant). sent_on y (run.world k es).messages) (sym r.sends);
        never_two = no_two k l.whole;
      }

pub run-goes_on : RunGoesOn
run-goes_on k es s bs f untimed req = goes_on k (cause_in (understood bs s)) untimed es s _ _ f req (step-refines k s bs f.stands)

asking_no_time : (r : asked.Request) → Asking r ≡ Time → ⊥
asking_no_time r e = let z : ◌≡◌ {A = ℕ} 0 1 = cc in omega arith

same-asking : (q r : asked.Request) → Asking r ≡ Asking q → r ≡ q
same-asking q r e = cc

pub run-is-cut : RunIsCut
run-is-cut k es s r g i c f was e =
    goes_on k (Asking r) (asking_no_time r) es s _ [] f (λ q z. subst (Sent k es) (same-asking q r z) was) (cut-refines-all k s r g i c f.stands e)

pub run-ticks : RunTicks
unfolding hears run.world
run-ticks k es s bs f w e l =
    let b : leb (2 ^ 63) (s.server.clock + 1) ≡ false = lt-leb (2 ^ 63) (s.server.clock + 1) l in
    let z : hears bs s ≡ silently (with_server (server_passes 1 s.server) s) =
    ap (λ (a : Answer). answers a s) e ∙ cond-false (leb (2 ^ 63) (s.server.clock + 1)) (refuses CountExhausted s) (silently (with_server (server_passes 1 s.server) s)) b in (
      subst (λ (t : Step). Follows k (run.Pass 1 f ∷ es) t.state) (sym z)
          (record { stands = tick_stands k s w.stands; same = ap (server_passes 1) w.same ∙ sym (ticks-on k s w.stands) }),
      no_two k (run.Pass 1 f ∷ es),
    )

pub begins : Begins
unfolding run.world
begins k d c few h =
    let new : chosen 4096 d ≡ New = (choice-tells 4096 d).zeros h in
    let none : is_found (chosen 4096 d) ≡ false = ap is_found new in
    let b : Bool = is_lost (chosen 4096 d) || is_silent None in
    let e : b ≡ false = ap (λ (x : Choice). is_lost x || is_silent None) new in
    let x : world.Server = record { clock = 0; up = true; silent = Some (0 + model.silence k); table = empty } in
    let y : world.Server = record { clock = 0; up = true; silent = None; table = pooled k.addresses d } in
    record {
      stands = (settling-stands k (fresh d c) few (inl ((choice-tells 4096 d).none none)) refl).stands;
      same = sym (
          ap (λ (z : world.Server). model_of k (record { settings = Some k; server = z; device = d; cursor = cursor 4096 d })) (cond-false b x y e)
          ∙ ap (λ (t : Table). record { clock = 0; up = true; silent = None; table = t }) (pooled-none k.addresses d none)
          );
    }
