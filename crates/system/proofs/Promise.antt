-- The promise over whole runs: a report that names no broken premise names no address that two use, and no two ever use one.
-- Assumes nothing.
use Rattle.std.proofs.Common.{◌≡◌, ℕ, zero, suc, ◌<◌, Bool, true, false, not, ◌&&◌, ◌||◌, eqb, List, [], ◌∷◌, ◌++◌, is_some, Some, None, Option, sym, refl, ap, ◌∙◌, inr, arith}
use Rattle.std.proofs.lemmas.Bool.{both_ways, cond_both, eqb-true, eq-eqb, and_parts, or_parts, or_from, not-true, not-false}
use Rattle.lease.specs.declared.fault.Fault as lease
use Rattle.lease.specs.declared.lease.Lease.{Lease}
use Rattle.lease.specs.Settings as model
use Rattle.lease.specs.Choosing.{lowest}
use Rattle.lease.specs.Holding.{Holding, Use}
use Rattle.lease.specs.Table.{Table}
use Rattle.lease.specs.World as core
use Rattle.std.proofs.lemmas.Option.{none-some, same_Some}
use Rattle.lease.proofs.Choosing.{Lowest, lowest-is}
use Rattle.lease.proofs.Claims.{Using, view}
use Rattle.lease.proofs.Keeping.{tidy_empty}
use Rattle.wire.specs.declared.message.Message as message
use Rattle.journal.specs.Device.{chosen, is_found}
use Rattle.journal.proofs.Choosing.{choice-tells}
use Rattle.server.proofs.Refining.{pooled-none}
use Rattle.client.specs.Nonces.{Distinct}
use Rattle.client.specs.State.{in_use}
use Rattle.system.specs.declared.line.Line.{Line as ReportLine}
use Rattle.system.specs.declared.line.Party.{Party}
use Rattle.system.specs.declared.line.Premise.{Premise}
use Rattle.system.specs.Parties.{Parties, Event, ToServer, ToClient, Cuts, Damages, AllWithin, Within, Outcome, blank, happens, places, start}
use Rattle.system.specs.Watch.{Watch, fault_in, granted, is_tick, knows, or_first, requested, unwatched, watched}
use Rattle.system.specs.Report.{Play, after, beginning, broken, fault_line, fault_lines, judged, lines, next, nothing, pair, pair_of, played, premise_line, rival, sharing, tick_lines, ticks_next, two_line, user_line, user_lines, uses_it}
use Rattle.system.specs.Promise.{Kept, NamesNoTwo, NeverTwo, any, names_premise, names_two}
use Rattle.system.proofs.Watching.{Unbroken, unbroken}
use Rattle.system.proofs.Following.{Moment, Base, Judged, Follows, ticked}
use Rattle.system.proofs.Running.{one_event}

-- NO TWO, at any moment
module _ (k : model.Settings) (p : ℕ) (x : Parties) (w : Watch) (b : Base k p x w) where
  -- whoever uses an address has a number
  numbered : (i : ℕ) → i < places → (u : Use) → in_use (x.clients i).state ≡ Some u → (o : Option ℕ) → (x.clients i).state.own ≡ o → (c : ℕ) × ((x.clients i).state.own ≡ Some c)
  numbered i i< u e None o = absurd (none-some u (sym (ap (λ (h : Holding). h.uses) (b.idle i i< o)) ∙ e))
  numbered i i< u e (Some c) o = (c, o)

  pub line_of : (i c : ℕ) → i < places → (u : Use) → in_use (x.clients i).state ≡ Some u → (x.clients i).state.own ≡ Some c → Using k (Moment x w c) (view b.world b.sound.book) c (b.world.clients c) u
  line_of i c i< u e o = (b.sound.holds c).uses u (ap (λ (z : core.Client). z.holding.uses) (b.clients i c i< o) ∙ e)

  pub no_two : (i l : ℕ) (u v : Use) → i < places → l < places → in_use (x.clients i).state ≡ Some u → in_use (x.clients l).state ≡ Some v → u.address ≡ v.address → i ≡ l
  no_two i l u v i< l< e f same =
      let c : (c : ℕ) × ((x.clients i).state.own ≡ Some c) = numbered i i< u e (x.clients i).state.own refl in
      let d : (d : ℕ) × ((x.clients l).state.own ≡ Some d) = numbered l l< v f (x.clients l).state.own refl in
      let m : Using k (Moment x w c.0) (view b.world b.sound.book) c.0 (b.world.clients c.0) u = line_of i c.0 i< u e c.1 in
      let n : Using k (Moment x w d.0) (view b.world b.sound.book) d.0 (b.world.clients d.0) v = line_of l d.0 l< v f d.1 in
      let s : b.sound.book u.address ≡ b.sound.book v.address = ap b.sound.book same in
      let t : m.claim.line.lease ≡ n.claim.line.lease = same_Some _ _ (sym m.claim.line.there ∙ s ∙ n.claim.line.there) in
      let g : c.0 ≡ d.0 = sym m.claim.line.client ∙ ap (λ (z : Lease). z.client) t ∙ n.claim.line.client in
      b.alone i l d.0 i< l< (c.1 ∙ ap (λ (z : ℕ). Some z) g) d.1

  uses_it_lem : (a : ℕ) (o : Option Use) → uses_it a o ≡ true → (u : Use) × (o ≡ Some u) × (u.address ≡ a)
  uses_it_lem a None e = absurd (both_ways false refl e)
  uses_it_lem a (Some u) e = (u, refl, eqb-true u.address a e)

  no_pair_lem : (i : ℕ) → i < places → (u : Use) → in_use (x.clients i).state ≡ Some u → (o : Option ℕ) → Lowest (rival x i u.address) 0 places o → pair i u.address o ≡ []
  no_pair_lem i i< u e None l = refl
  no_pair_lem i i< u e (Some j) l =
      let r : rival x i u.address j ≡ true = l.passes j refl in
      let q : (not (eqb j i) ≡ true) × (uses_it u.address (in_use (x.clients j).state) ≡ true) = and_parts _ _ r in
      let v : (v : Use) × (in_use (x.clients j).state ≡ Some v) × (v.address ≡ u.address) = uses_it_lem u.address (in_use (x.clients j).state) q.1 in
      let j< : j < places = l.below j refl in
      let s : j ≡ i = no_two j i v.0 u j< i< v.1 e v.2 in
      absurd (both_ways _ (not-true _ q.0) (eq-eqb j i s))

  pub no_sharing : (e : Event) → Within e → sharing e x ≡ []
  no_sharing (ToServer bs) i< = refl
  no_sharing (ToClient i bs) i< = by_use (in_use (x.clients i).state) refl
    where
      by_use : (o : Option Use) → in_use (x.clients i).state ≡ o → pair_of x i o ≡ []
      by_use None e = refl
      by_use (Some u) e = no_pair_lem i i< u e (lowest (rival x i u.address) 0 places) (lowest-is (rival x i u.address) 0 places)
  no_sharing (Cuts bs n c) i< = refl
  no_sharing (Damages d clock) i< = refl

-- LINES
pub any-apart : (t : ReportLine → Bool) (xs ys : List ReportLine) → any t (xs ++ ys) ≡ false → (any t xs ≡ false) × (any t ys ≡ false)
unfolding any
any-apart t [] ys e = (refl, e)
any-apart t (l ∷ xs) ys e =
    let p : (t l ≡ false) × (any t (xs ++ ys) ≡ false) = or_parts (t l) (any t (xs ++ ys)) e in
    let q : (any t xs ≡ false) × (any t ys ≡ false) = any-apart t xs ys p.1 in
    (or_from (t l) (any t xs) p.0 q.0, q.1)

any_join : (t : ReportLine → Bool) (xs ys : List ReportLine) → any t xs ≡ false → any t ys ≡ false → any t (xs ++ ys) ≡ false
unfolding any
any_join t [] ys e f = f
any_join t (l ∷ xs) ys e f =
    let p : (t l ≡ false) × (any t xs ≡ false) = or_parts (t l) (any t xs) e in
    or_from (t l) (any t (xs ++ ys)) p.0 (any_join t xs ys p.1 f)

fault_two : (p : Party) (o : Option lease.Fault) → any names_two (fault_line p o) ≡ false
unfolding any
fault_two p None = refl
fault_two p (Some f) = refl

faults_two : (p : Party) (ms : List message.Message) → any names_two (fault_lines p ms) ≡ false
unfolding any fault_lines
faults_two p [] = refl
faults_two p (m ∷ ms) = any_join names_two (fault_line p (fault_in m)) (fault_lines p ms) (fault_two p (fault_in m)) (faults_two p ms)

premise_two : (n : Bool) (o : Option Premise) → any names_two (premise_line n o) ≡ false
unfolding any
premise_two true o = refl
premise_two false None = refl
premise_two false (Some p) = refl

user_two : (i : ℕ) (o : Option Use) → any names_two (user_line i o) ≡ false
unfolding any
user_two i None = refl
user_two i (Some u) = refl

users_two : (x : Parties) (i n : ℕ) → any names_two (user_lines x i n) ≡ false
unfolding any user_lines
users_two x i zero = refl
users_two x i (suc n) = any_join names_two (user_line i (in_use (x.clients i).state)) (user_lines x (suc i) n) (user_two i (in_use (x.clients i).state)) (users_two x (suc i) n)

tick_two : (e : Event) (o : Outcome) → any names_two (tick_lines e o) ≡ false
unfolding any
tick_two (ToServer bs) o =
    cond_both (is_tick (ToServer bs) && nothing o.said) _ [] (λ ls. any names_two ls ≡ false) (λ e. users_two o.parties 0 places) (λ e. refl)
tick_two (ToClient i bs) o = refl
tick_two (Cuts bs n c) o = refl
tick_two (Damages d clock) o = refl

shared_two : (b : Bool) (ls : List ReportLine) → ls ≡ [] → any names_two (two_line b ls) ≡ false
unfolding any
shared_two true ls e = refl
shared_two false ls e = ap (any names_two) e

-- no premise is named, so none is broken
unnamed : (n : Bool) (o : Option Premise) → n ≡ false → any names_premise (premise_line n o) ≡ false → o ≡ None
unfolding any
unnamed true o n e = absurd (both_ways true n refl)
unnamed false None n e = refl
unnamed false (Some p) n e = absurd (both_ways true e refl)

pub whole-at : (g : Bool) (e : Event) (h : Play) → h.named ≡ false → any names_premise (lines g e h) ≡ false → broken g e (happens e h.parties) h ≡ None
whole-at g e h n q =
    let o : Outcome = happens e h.parties in
    let q₁ : _ × _ = any-apart names_premise (fault_lines _ o.said) _ q in
    let q₂ : (any names_premise (premise_line h.named (broken g e o h)) ≡ false) × _ = any-apart names_premise (premise_line h.named (broken g e o h)) _ q₁.1 in
    unnamed h.named (broken g e o h) n q₂.0

-- SETTINGS that were taken first stay so
pub settings_stay : (es : List Event) (h : Play) (m : model.Settings) → h.watch.settings ≡ Some m → (after es h).watch.settings ≡ Some m
unfolding after
settings_stay [] h m e = e
settings_stay (x ∷ es) h m e =
    settings_stay es (next (judged x es) x h) m (ap (λ (o : Option model.Settings). or_first o (knows x (happens x h.parties).parties)) e)

-- a tick that is followed by a tick isn't judged, and nothing else
pub unjudged : (e : Event) (es : List Event) → judged e es ≡ false → (is_tick e ≡ true) × (ticks_next es ≡ true)
unjudged e es h = and_parts (is_tick e) (ticks_next es) (not-false _ h)

-- WHOLE RUNS
module _ (k : model.Settings) where
  pub record Ends (es : List Event) (h : Play) : Type 0 where
    pub no_two_named : any names_two (played es h) ≡ false
    pub end : Judged k (after es h).parties (after es h).watch

  run : (es : List Event) (h : Play) (j : Bool) → AllWithin es → Follows k j h.parties h.watch → (j ≡ false → ticks_next es ≡ true) → h.named ≡ false → any names_premise (played es h) ≡ false →
      ((m : model.Settings) → (after es h).watch.settings ≡ Some m → m ≡ k) → Ends es h
  unfolding played after any AllWithin
  run [] h true i f ticks n quiet fin = record { no_two_named = refl; end = f }
  run [] h false i f ticks n quiet fin = absurd (both_ways false refl (ticks refl))
  run (e ∷ es) h j i f ticks n quiet fin =
      let x : Parties = h.parties in
      let o : Outcome = happens e x in
      let g : Bool = judged e es in
      let v : Watch = watched g e o h.watch in
      let q : (any names_premise (lines g e h) ≡ false) × (any names_premise (played es (next g e h)) ≡ false) = any-apart names_premise (lines g e h) (played es (next g e h)) quiet in
      let whole : broken g e o h ≡ None = whole-at g e h n q.0 in
      let u : Unbroken e x o h.watch v = unbroken e x o h.watch v whole in
      let f' : Follows k g o.parties v =
      one_event k x h.watch j g e i.0 f ticks (λ b. (unjudged e es b).0) u (λ m s. fin m (settings_stay es (next g e h) m s)) in
      let n' : (next g e h).named ≡ false = ap (λ (b : Bool). b || is_some (broken g e o h)) n ∙ ap is_some whole in
      let r : Ends es (next g e h) = run es (next g e h) g i.1 f' (λ b. (unjudged e es b).1) n' q.1 fin in
      let two : sharing e o.parties ≡ [] = no_sharing_at g o.parties v f' e i.0 in
      record {
        no_two_named = any_join names_two (lines g e h) (played es (next g e h))
            (any_join names_two (fault_lines _ o.said) _ (faults_two _ o.said)
            (any_join names_two (premise_line h.named (broken g e o h)) _ (premise_two h.named (broken g e o h))
            (any_join names_two (two_line h.shared (sharing e o.parties)) _ (shared_two h.shared (sharing e o.parties) two) (tick_two e o)))) r.no_two_named;
        end = r.end;
      }
    where
      no_sharing_at : (g : Bool) (x : Parties) (w : Watch) → Follows k g x w → (e : Event) → Within e → sharing e x ≡ []
      no_sharing_at true x w f e i = no_sharing k 0 x w f.base e i
      no_sharing_at false x w f e i = no_sharing k f.0 x w f.1 e i

  -- THE START
  blank_none : is_found (chosen 4096 blank) ≡ false
  blank_none = ap is_found ((choice-tells 4096 blank).zeros (λ q i l. refl))

  pub begins : Judged k start unwatched
  unfolding ticked Distinct core.elem requested granted
  begins =
      record {
        base = record {
          world = core.start;
          sound = record {
            book = λ a. None;
            kept = λ e a. refl;
            nonces = λ m i. absurd i;
            holds = λ c. record { uses = λ u e. absurd (none-some u e); waits = λ q e. absurd (none-some q e) };
          };
          tidy = tidy_empty k 0 true None;
          server = ap (λ (t : Table). record { clock = 0; up = true; silent = None; table = t }) (pooled-none k.addresses blank blank_none);
          home = inr (record { unknown = refl; new = refl; quiet = refl });
          clock = omega arith;
          clients = λ i c l e. absurd (none-some c e);
          owned = λ c up. absurd (both_ways false refl up);
          idle = λ i l e. refl;
          alone = λ i l c p q e. absurd (none-some c e);
          agreed = λ i m l e. absurd (none-some m e);
          told = λ m e. absurd (none-some m e);
          requests = λ r e. absurd (both_ways false refl e);
          grants = λ g e. absurd (both_ways false refl e);
          queues = record {
            distinct = λ i l. tt;
            apart = λ i l n p q e. absurd (both_ways false refl e);
            unused = λ i n l e. absurd (both_ways false refl e);
            lent = λ i n l e. absurd (both_ways false refl e);
            spent = λ n e. absurd (both_ways false refl e);
          };
          quiet = λ i l e. refl;
        };
        near = λ i c l e. absurd (none-some c e);
        narrow = λ i l known. absurd (both_ways false refl known);
      }

-- the settings of a run, any where there are none
abbrev pub settings-of : Option model.Settings → model.Settings
settings-of None = record { addresses = 1; term = 60; skew = 0 }
settings-of (Some k) = k

pub settings_so : (o : Option model.Settings) (m : model.Settings) → o ≡ Some m → m ≡ settings-of o
settings_so None m e = absurd (none-some m e)
settings_so (Some k) m e = same_Some m k (sym e)

pub ends : (es : List Event) → AllWithin es → Kept es → (k : model.Settings) × Ends k es beginning
ends es i quiet =
    let k : model.Settings = settings-of (after es beginning).watch.settings in
    (k, run k es beginning true i (begins k) (λ e. absurd (both_ways true e refl)) refl quiet (λ m e. settings_so (after es beginning).watch.settings m e))

pub names_no_two : NamesNoTwo
names_no_two es i quiet = (ends es i quiet).1.no_two_named

pub never_two : NeverTwo
never_two es i quiet l m u v l< m< =
    let e : (k : model.Settings) × Ends k es beginning = ends es i quiet in
    no_two e.0 0 (after es beginning).parties (after es beginning).watch e.1.end.base l m u v l< m<
