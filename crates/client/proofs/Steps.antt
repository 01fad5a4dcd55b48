-- A single step of a client: what it tells, which nonce it uses, and what it does in the model.
-- Assumes nothing.
use Rattle.std.proofs.Common.{◌≡◌, ℕ, true, ltb, List, [], ◌∷◌, ◌++◌, IfOk, IfErr, Some, None, Ok, Err, Option, Result, sym, refl, ap, ◌∙◌, MatchResult}
use Rattle.std.specs.Option.{option_map}
use Rattle.std.proofs.lemmas.Bool.{cond_both, and_parts}
use Rattle.std.proofs.lemmas.List.{append-nil, append_assoc}
use Rattle.lease.specs.declared.fault.Fault as lease
use Rattle.lease.specs.declared.message.Request as lent
use Rattle.lease.specs.Settings as model
use Rattle.lease.specs.Settings.{valid}
use Rattle.lease.specs.Holding.{Use}
use Rattle.lease.specs.World as world
use Rattle.lease.specs.Run.{asked}
use Rattle.retry.specs.Schedule.{is_due}
use Rattle.wire.specs.declared.message.Message.{Message}
use Rattle.wire.specs.declared.message.Message.TheVariants.{Request, Grant, Settings, Tick, Crash, Restart, OwnNumber, Nonce, InUse, NoAddress, Fault}
use Rattle.wire.specs.declared.reader.Reader.TheVariants as reader
use Rattle.wire.specs.Decode.{Answer, judged, answered, decoded}
use Rattle.wire.specs.Read.{read}
use Rattle.client.specs.State.{State, Turn, in_use, does}
use Rattle.client.specs.Client.{Client, Step, preferred, keeps, sends, ready, asks_by, lends, lent_by, lent, queued, refuses, goes_on, answers, size, understood, hears}
use Rattle.client.specs.Telling.{told}
use Rattle.client.specs.Nonces.{requests, nonces}
use Rattle.client.specs.Refines.{Act, Passes, Asks, Hears, Crashes, Starts, act, acts, Fits, Fit, AllFrom, HeardIn, sent, RefinesHeard}
use Rattle.client.specs.Refines.{sends as sends-of}
use Rattle.client.specs.Laws.{Laws}
use Rattle.client.proofs.Turns.{Turned, turned}

-- messages put out one after the other
pub told-++ : (ms ns : List Message) (o : Option Use) → told (ms ++ ns) o ≡ told ns (told ms o)
unfolding told
told-++ [] ns o = refl
told-++ (m ∷ ms) ns o = told-++ ms ns _

pub requests-++ : (ms ns : List Message) → requests (ms ++ ns) ≡ requests ms ++ requests ns
unfolding requests
requests-++ [] ns = refl
requests-++ (Request r ∷ ms) ns = ap (λ (l : List lent.Request). r ∷ l) (requests-++ ms ns)
requests-++ (Grant g ∷ ms) ns = requests-++ ms ns
requests-++ (Settings n t k ∷ ms) ns = requests-++ ms ns
requests-++ (Tick ∷ ms) ns = requests-++ ms ns
requests-++ (Crash ∷ ms) ns = requests-++ ms ns
requests-++ (Restart clock ∷ ms) ns = requests-++ ms ns
requests-++ (OwnNumber n ∷ ms) ns = requests-++ ms ns
requests-++ (Nonce n ∷ ms) ns = requests-++ ms ns
requests-++ (InUse a u ∷ ms) ns = requests-++ ms ns
requests-++ (NoAddress ∷ ms) ns = requests-++ ms ns
requests-++ (Fault f ∷ ms) ns = requests-++ ms ns

-- and so what is done in the model
acts-++ : (ds es : List Act) (x : world.Client) → acts (ds ++ es) x ≡ acts es (acts ds x)
unfolding acts
acts-++ [] es x = refl
acts-++ (d ∷ ds) es x = acts-++ ds es (act d x)

sent-++ : (ds es : List Act) → sent (ds ++ es) ≡ sent ds ++ sent es
unfolding sent
sent-++ [] es = refl
sent-++ (d ∷ ds) es = ap (λ (l : List lent.Request). sends-of d ++ l) (sent-++ ds es) ∙ sym (append_assoc (sends-of d) (sent ds) (sent es))

-- what fits one state fits another with the same number and settings
fits_too : (s s' : State) → s'.own ≡ s.own → s'.settings ≡ s.settings → (a : Act) (x : world.Client) → Fits s a x → Fits s' a x
fits_too s s' e f Passes x k = tt
fits_too s s' e f (Asks r) x k = (e ∙ k.0, k.1)
fits_too s s' e f (Hears own h g) x k = (e ∙ k.0, f ∙ k.1)
fits_too s s' e f Crashes x k = tt
fits_too s s' e f (Starts clock) x k = tt

fit-++ : (s s' : State) → s'.own ≡ s.own → s'.settings ≡ s.settings → (ds es : List Act) (x : world.Client) → Fit s ds x → Fit s' es (acts ds x) → Fit s' (ds ++ es) x
unfolding Fit acts
fit-++ s s' e f [] es x k j = j
fit-++ s s' e f (d ∷ ds) es x k j = (fits_too s s' e f d x k.0, fit-++ s s' e f ds es (act d x) k.1 j)

none_from : (m : Message) → AllFrom m []
unfolding AllFrom
none_from m = tt

asks-from : (m : Message) (r : lent.Request) (ds : List Act) → AllFrom m ds → AllFrom m (ds ++ (Asks r ∷ []))
unfolding AllFrom
asks-from m r [] h = (tt, tt)
asks-from m r (d ∷ ds) h = (h.0, asks-from m r ds h.1)

-- the laws of a step that was lent the nonces `l`
record Lawful (a : Answer) (c : Client) (l : List ℕ) (p : Step) : Type 0 where
  tells : told p.says (in_use c.state) ≡ in_use p.client.state
  in_order : c.nonces ++ l ≡ nonces (requests p.says) ++ p.client.nonces
  refines : RefinesHeard a c p

module _ (c : Client) where
  refusing : (a : Answer) → HeardIn a [] → (f : lease.Fault) (l : List ℕ) → l ≡ [] → Lawful a c l (refuses f c)
  unfolding told requests nonces acts Fit sent
  refusing a h f l e =
      record {
        tells = refl;
        in_order = ap (λ (k : List ℕ). c.nonces ++ k) e ∙ append-nil c.nonces;
        refines = record { refines = record { does = []; fit = tt; holder = refl; requested = refl }; heard = h };
      }

  module _ (m : Message) (l : List ℕ) (t : Turn) (d : Turned m c.state t) where
    keeping : (ns : List ℕ) → c.nonces ++ l ≡ ns → Lawful (Ok m) c l (keeps t ns)
    unfolding nonces
    keeping ns e =
        record {
          tells = d.tells;
          in_order = e ∙ ap (λ (rs : List lent.Request). nonces rs ++ ns) (sym d.quiet);
          refines = record { refines = record { does = d.does; fit = d.fit; holder = d.holder; requested = d.quiet ∙ sym d.silent }; heard = d.heard };
        }

    sending : (k : model.Settings) (own n : ℕ) (ns : List ℕ) → t.state.own ≡ Some own → t.state.holder.up ≡ true → c.nonces ++ l ≡ n ∷ ns → Lawful (Ok m) c l (sends k own n t ns)
    unfolding told requests nonces acts Fit sent
    sending k own n ns o up e =
        let r : lent.Request = record { client = own; nonce = n; preferred = preferred k t.state.last } in
        let said : requests (t.says ++ (Request r ∷ [])) ≡ r ∷ [] = requests-++ t.says (Request r ∷ []) ∙ ap (λ (rs : List lent.Request). rs ++ (r ∷ [])) d.quiet in
        record {
          tells = told-++ t.says (Request r ∷ []) (in_use c.state) ∙ d.tells;
          in_order = e ∙ ap (λ (rs : List lent.Request). nonces rs ++ ns) (sym said);
          refines = record {
            refines = record {
              does = d.does ++ (Asks r ∷ []);
              fit = fit-++ t.state (sends k own n t ns).client.state refl refl d.does (Asks r ∷ []) c.state.holder d.fit ((o, ap (λ (x : world.Client). x.up) (sym d.holder) ∙ up), tt);
              holder = ap (λ (x : world.Client). asked n x) d.holder ∙ sym (acts-++ d.does (Asks r ∷ []) c.state.holder);
              requested = said ∙ ap (λ (rs : List lent.Request). rs ++ (r ∷ [])) (sym d.silent) ∙ sym (sent-++ d.does (Asks r ∷ []));
            };
            heard = asks-from m r d.does d.heard;
          };
        }

    asking : (k : Option model.Settings) (own : Option ℕ) (ns : List ℕ) → t.state.own ≡ own → c.nonces ++ l ≡ ns → Lawful (Ok m) c l (asks_by k own t ns)
    asking None own ns o e = keeping ns e
    asking (Some k) None ns o e = keeping ns e
    asking (Some k) (Some own) [] o e = keeping [] e
    asking (Some k) (Some own) (n ∷ ns) o e =
        cond_both (ready t.state) _ _ (λ p. Lawful (Ok m) c l p) (λ r. sending k own n ns o (and_parts t.state.holder.up (is_due t.state.schedule t.state.holder.clock) r).0 e) (λ r. keeping (n ∷ ns) e)

  -- what a message that lends `l` makes of it
  going : (m : Message) (r : Result Turn lease.Fault) → IfOk r (λ t. Turned m c.state t) → IfErr r (λ f. lends m ≡ []) → Lawful (Ok m) c (lends m) (goes_on c (queued m c.nonces) r)
  going m (Ok t) d k = asking m (lends m) t d t.state.settings t.state.own (queued m c.nonces) refl refl
  going m (Err f) d k = refusing (Ok m) (none_from m) f (lends m) k

-- a nonce is never refused
none_lent : (r : Result Turn lease.Fault) → IfErr r (λ f. ◌≡◌ {A = List ℕ} [] [])
none_lent (Ok t) = tt
none_lent (Err f) = refl

nonce-taken : (m : Message) (s : State) → IfErr (does m s) (λ f. lends m ≡ [])
nonce-taken (Request r) s = refl
nonce-taken (Grant g) s = none_lent (does (Grant g) s)
nonce-taken (Settings n t k) s = none_lent (does (Settings n t k) s)
nonce-taken Tick s = none_lent (does Tick s)
nonce-taken Crash s = tt
nonce-taken (Restart clock) s = none_lent (does (Restart clock) s)
nonce-taken (OwnNumber n) s = none_lent (does (OwnNumber n) s)
nonce-taken (Nonce n) s = tt
nonce-taken (InUse a u) s = refl
nonce-taken NoAddress s = refl
nonce-taken (Fault f) s = refl

-- what a byte string lends, its message does
abbrev LentSo : List ℕ → Answer → Type 0
LentSo l a = MatchResult a (λ m. l ≡ lends m) (λ f. l ≡ [])

judged-lends : (n : Option ℕ) (m : Message) → LentSo (lends m) (judged reader.Client n m)
judged-lends n (Request r) = refl
judged-lends None (Grant g) = refl
judged-lends (Some n) (Grant g) = cond_both (ltb g.address n) _ _ (λ a. LentSo [] a) (λ e. refl) (λ e. refl)
judged-lends None (Settings n t k) = cond_both (valid n t k) _ _ (λ a. LentSo [] a) (λ e. refl) (λ e. refl)
judged-lends (Some p) (Settings n t k) = refl
judged-lends n Tick = refl
judged-lends n Crash = refl
judged-lends n (Restart clock) = refl
judged-lends n (OwnNumber m) = refl
judged-lends n (Nonce m) = refl
judged-lends n (InUse a u) = refl
judged-lends n NoAddress = refl
judged-lends n (Fault f) = refl

answered-lends : (n : Option ℕ) (o : Option Message) → LentSo (lent_by o) (answered reader.Client n o)
answered-lends n None = refl
answered-lends n (Some m) = judged-lends n m

answering : (c : Client) (l : List ℕ) (a : Answer) → LentSo l a → Lawful a c l (answers c a)
answering c l (Ok m) e =
    let k : Lawful (Ok m) c (lends m) (answers c (Ok m)) = going c m (does m c.state) (turned c.state m) (nonce-taken m c.state) in
    record { tells = k.tells; in_order = ap (λ (q : List ℕ). c.nonces ++ q) e ∙ k.in_order; refines = k.refines }
answering c l (Err f) e = refusing c (Err f) refl f l e

lawful : (bs : List ℕ) (c : Client) → Lawful (understood bs c) c (lent bs) (hears bs c)
unfolding hears
lawful bs c =
    let n : Option ℕ = option_map size c.state.settings in
    answering c (lent bs) (decoded reader.Client n bs) (answered-lends n (read bs))

pub laws : (bs : List ℕ) (c : Client) → Laws bs c
laws bs c =
    let k : Lawful (understood bs c) c (lent bs) (hears bs c) = lawful bs c in
    record { tells = k.tells; in_order = k.in_order; refines = k.refines.refines }

pub laws_heard : (bs : List ℕ) (c : Client) → RefinesHeard (understood bs c) c (hears bs c)
laws_heard bs c = (lawful bs c).refines
