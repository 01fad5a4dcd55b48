-- A whole run as a list of the schedule's events, and a stretch of one.
-- Assumes nothing. Lists of events begin with the newest, as runs do.
use Rattle.std.proofs.Common.{◌≡◌, ℕ, true, false, List, [], ◌∷◌, ◌++◌, IfOk, Some, None, Ok, Err, Option, Result, sym, refl, ap, ◌∙◌, subst}
use Rattle.std.proofs.lemmas.Bool.{cond_both, both_ways, and_parts}
use Rattle.std.proofs.lemmas.List.{append_assoc}
use Rattle.lease.specs.declared.fault.Fault as lease
use Rattle.lease.specs.declared.message.Request as lent
use Rattle.lease.specs.Settings as model
use Rattle.retry.specs.Schedule.{is_due}
use Rattle.retry.specs.Run as retry
use Rattle.retry.specs.Run.{Event, Asks, Lawful}
use Rattle.wire.specs.declared.message.Message.{Message}
use Rattle.wire.specs.declared.message.Message.TheVariants.{Request}
use Rattle.wire.specs.Decode.{Answer}
use Rattle.client.specs.State.{State, Turn, does}
use Rattle.client.specs.Client.{Client, Step, preferred, keeps, sends, ready, asks_by, queued, refuses, goes_on, answers, understood, hears}
use Rattle.client.specs.Nonces.{requests}
use Rattle.client.specs.Pacing.{some}
use Rattle.client.specs.Run.{Run, client}
use Rattle.client.proofs.Turns.{Turned, turned}
use Rattle.client.proofs.Steps.{requests-++}
use Rattle.client.proofs.Scheduling.{Tied, Part, view, happened, part}

-- a request is the newest event of its step
abbrev pub requesting : List lent.Request → List Event
requesting [] = []
requesting (r ∷ rs) = Asks ∷ []

-- a refusal is no event
abbrev pub heard_by : Message → State → Result Turn lease.Fault → List Event
heard_by m s (Ok t) = happened m s
heard_by m s (Err f) = []

-- what came before the request
abbrev pub first_by : Client → Answer → List Event
first_by c (Ok m) = heard_by m c.state (does m c.state)
first_by c (Err f) = []

abbrev pub first : List ℕ → Client → List Event
first b c = first_by c (understood b c)

abbrev pub events : List ℕ → Client → List Event
events b c = requesting (requests (hears b c).says) ++ first b c

-- what a step is to the schedule after the events `es`
pub record Stepped (p : Step) (hs es : List Event) : Type 0 where
  pub lawful : Lawful es → Lawful ((requesting (requests p.says) ++ hs) ++ es)
  pub tied : Tied p.client.state ((requesting (requests p.says) ++ hs) ++ es)
  pub up : some (requests p.says) ≡ true → p.client.state.holder.up ≡ true

-- nothing is asked
quietly : (p : Step) (hs es : List Event) → requests p.says ≡ [] → Part p.client.state hs es → Stepped p hs es
quietly p hs es q k =
    record {
      lawful = λ l. subst (λ (rs : List lent.Request). Lawful ((requesting rs ++ hs) ++ es)) (sym q) (k.lawful l);
      tied = subst (λ (rs : List lent.Request). Tied p.client.state ((requesting rs ++ hs) ++ es)) (sym q) k.tied;
      up = λ e. absurd (both_ways false refl (sym (ap (λ (rs : List lent.Request). some rs) q) ∙ e));
    }

module _ (t : Turn) (hs es : List Event) (k : Part t.state hs es) (quiet : requests t.says ≡ []) where
  sending : (j : model.Settings) (own n : ℕ) (ns : List ℕ) → ready t.state ≡ true → Stepped (sends j own n t ns) hs es
  unfolding requests Lawful retry.client
  sending j own n ns e =
      let up : t.state.holder.up ≡ true = (and_parts t.state.holder.up (is_due t.state.schedule t.state.holder.clock) e).0 in
      let due : is_due t.state.schedule t.state.holder.clock ≡ true = (and_parts t.state.holder.up (is_due t.state.schedule t.state.holder.clock) e).1 in
      let r : lent.Request = record { client = own; nonce = n; preferred = preferred j t.state.last } in
      let said : requests (t.says ++ (Request r ∷ [])) ≡ r ∷ [] = requests-++ t.says (Request r ∷ []) ∙ ap (λ (rs : List lent.Request). rs ++ (r ∷ [])) quiet in
      record {
        lawful = λ l. subst (λ (rs : List lent.Request). Lawful ((requesting rs ++ hs) ++ es)) (sym said)
            (ap (λ (c : retry.Client). is_due c.schedule c.clock) (sym (k.tied up)) ∙ due, k.lawful l);
        tied = λ _. subst (λ (rs : List lent.Request). view (sends j own n t ns).client.state ≡ retry.client ((requesting rs ++ hs) ++ es)) (sym said) (ap retry.sends (k.tied up));
        up = λ _. up;
      }

  asking : (j : Option model.Settings) (own : Option ℕ) (ns : List ℕ) → Stepped (asks_by j own t ns) hs es
  asking None own ns = quietly (keeps t ns) hs es quiet k
  asking (Some j) None ns = quietly (keeps t ns) hs es quiet k
  asking (Some j) (Some own) [] = quietly (keeps t []) hs es quiet k
  asking (Some j) (Some own) (n ∷ ns) = cond_both (ready t.state) _ _ (λ p. Stepped p hs es) (λ e. sending j own n ns e) (λ e. quietly (keeps t (n ∷ ns)) hs es quiet k)

module _ (c : Client) (es : List Event) (tie : Tied c.state es) where
  refusing : (f : lease.Fault) → Stepped (refuses f c) [] es
  unfolding requests
  refusing f = quietly (refuses f c) [] es refl (record { lawful = λ l. l; tied = tie })

  going : (m : Message) (r : Result Turn lease.Fault) → IfOk r (λ t. Part t.state (happened m c.state) es) → IfOk r (λ t. Turned m c.state t) →
      Stepped (goes_on c (queued m c.nonces) r) (heard_by m c.state r) es
  going m (Ok t) k d = asking t (happened m c.state) es k d.quiet t.state.settings t.state.own (queued m c.nonces)
  going m (Err f) k d = refusing f

  answering : (a : Answer) → Stepped (answers c a) (first_by c a) es
  answering (Ok m) = going m (does m c.state) (part c.state es tie m) (turned c.state m)
  answering (Err f) = refusing f

  pub stepped : (b : List ℕ) → Stepped (hears b c) (first b c) es
  unfolding hears
  stepped b = answering (understood b c)

-- all events of a run
unfoldable pub trace : Run → List Event
trace [] = []
trace (b ∷ bs) = events b (client bs) ++ trace bs

-- those of a stretch of it
unfoldable pub stretch : (before between : Run) → List Event
stretch before [] = []
stretch before (b ∷ bs) = events b (client (bs ++ before)) ++ stretch before bs

pub trace-++ : (before between : Run) → trace (between ++ before) ≡ stretch before between ++ trace before
unfolding trace stretch
trace-++ before [] = refl
trace-++ before (b ∷ bs) =
    ap (λ (l : List Event). events b (client (bs ++ before)) ++ l) (trace-++ before bs)
    ∙ sym (append_assoc (events b (client (bs ++ before))) (stretch before bs) (trace before))

-- the client is the schedule's after its trace, while it is up
pub tied : (bs : Run) → Tied (client bs).state (trace bs)
unfolding client trace retry.client
tied [] = λ _. refl
tied (b ∷ bs) = (stepped (client bs) (trace bs) (tied bs) b).tied

pub lawful : (bs : Run) → Lawful (trace bs)
unfolding client trace Lawful
lawful [] = tt
lawful (b ∷ bs) = (stepped (client bs) (trace bs) (tied bs) b).lawful (lawful bs)
