-- Each step of the server is what can happen to that of the lending core.
-- Assumes nothing.
use Rattle.std.proofs.Common.{◌≡◌, ℕ, ◌+◌, ◌^◌, ◌<◌, ◌≤◌, Bool, true, false, cond, not, ◌&&◌, ◌||◌, eqb, ltb, leb, [], ◌∷◌, ◌++◌, length, Some, None, Ok, Err, Option, sym, refl, ap, ◌∙◌, subst, inl, inr, arith}
use mathlib.Core.Path.{fun_ext}
use Rattle.std.proofs.lemmas.Bool.{both_ways, cases_Bool, cases_lt, cond_both, cond-false, cond-true, le-leb, le-ltb, lt-ltb, ne_eqb, or_cases}
use Rattle.lease.specs.declared.fault.Fault.TheVariants.{CountExhausted}
use Rattle.lease.specs.declared.lease.Lease.{Lease}
use Rattle.lease.specs.declared.message.Grant as given
use Rattle.lease.specs.declared.message.Request as asked
use Rattle.lease.specs.Settings as model
use Rattle.lease.specs.Table.{Table, empty, forgotten, live, vacant}
use Rattle.lease.specs.Choosing.{choose}
use Rattle.lease.specs.World as world
use Rattle.lease.specs.World.{is_silent}
use Rattle.lease.specs.Run as run
use Rattle.lease.specs.Run.{answer, crashes, forgets, lends, over, restarts, server_passes, serves}
use Rattle.lease.proofs.Answers.{GrantedBy, Meant, meant}
use Rattle.lease.proofs.Choosing.{laws}
use Rattle.wire.specs.declared.message.Message.TheVariants.{Request, Grant, Settings, Tick, Crash, Restart, OwnNumber, Nonce, InUse, NoAddress, Fault}
use Rattle.wire.specs.Decode.{Answer}
use Rattle.journal.specs.Table.{kept_of, set}
use Rattle.journal.specs.Device.{Device, Choice, New, Lost, Found, chosen, Cursor, cursor, is_found, leases}
use Rattle.journal.specs.Append.{Plan, after, exhausted, perform, writes}
use Rattle.journal.specs.Crash.{Cut, Untouched, cut_at, lands}
use Rattle.journal.specs.Laws.{Ready, Sound}
use Rattle.journal.proofs.Tables.{agree_later, filed-empty}
use Rattle.journal.proofs.Appends.{append_stands}
use Rattle.journal.proofs.Runs.{filed-at, none-at}
use Rattle.server.specs.Server.{State, answers, appends, comes_back, hears, is_lost, learns, lease_of, planned, pooled, reads, refuses, replies, requested, rereads, silently, tells, understood, with_server}
use Rattle.server.specs.Refines.{CutRefines, Crashes, Forgets, Hears, HearsAndCrashes, Passes, Restarts, Cause, Asking, Falling, Other, Rising, Time, EventsOfRuns, Refines, SettlingStands, Stands, StepRefines, down_with, grant_by, grants_in, model_of, occurs, cause_in, sent}
use Rattle.server.proofs.Answering.{answer-same, server_at}
use Rattle.server.proofs.Exact.{Exactly, kept_in, leaves, sound-left, whole-cut, with?}

-- with no table there are no leases
pub pooled-none : (n : ℕ) (d : Device) → is_found (chosen 4096 d) ≡ false → pooled n d ≡ empty
pooled-none n d e = fun_ext (λ a. cond_both (ltb a n) (leases 4096 d a) None (λ q. q ≡ None) (λ l. none-at 4096 d (chosen 4096 d) e a) (λ l. refl))

lost_unfound : (c : Choice) → is_lost c ≡ true → is_found c ≡ false
lost_unfound New e = refl
lost_unfound Lost e = refl
lost_unfound (Found s) e = absurd (both_ways _ refl e)

over-silent : (now : ℕ) (up : Bool) (o : Option ℕ) → over now up o ≡ true → is_silent o ≡ true
over-silent now up None e = absurd (both_ways _ refl e)
over-silent now up (Some u) e = refl

in-pool : (n : ℕ) (t : Table) (a : ℕ) → a < n → cond (ltb a n) (t a) None ≡ t a
in-pool n t a l = cond-true (ltb a n) (t a) None (lt-ltb a n l)

out_of_pool : (n : ℕ) (t : Table) (a : ℕ) → n ≤ a → cond (ltb a n) (t a) None ≡ None
out_of_pool n t a l = cond-false (ltb a n) (t a) None (le-ltb a n l)

-- WHAT AN APPEND STARTS FROM
module _ (n now : ℕ) (d : Device) (c : Cursor) where
  ready-none : Sound 4096 d → c ≡ cursor 4096 d → is_found (chosen 4096 d) ≡ false → Ready 4096 n now d c empty
  ready-none s q e =
      record { sound = s; same = q; agrees = λ a l. ap (kept_of now) (none-at 4096 d (chosen 4096 d) e a); filed = filed-empty; none = λ z a. refl }

  ready-pooled : Sound 4096 d → c ≡ cursor 4096 d → Ready 4096 n now d c (pooled n d)
  ready-pooled s q =
      record {
        sound = s;
        same = q;
        agrees = λ a l. ap (kept_of now) (sym (in-pool n (leases 4096 d) a l));
        filed = λ a l e. elim (cases_lt a n) [
          | inl h ↦ filed-at 4096 d (chosen 4096 d) a l (sym (in-pool n (leases 4096 d) a h) ∙ e)
          | inr h ↦ let z : ◌≡◌ {A = Option Lease} None (Some l) = sym (out_of_pool n (leases 4096 d) a h) ∙ e in absurd (let y : ◌≡◌ {A = ℕ} 0 1 = cc in omega arith)
        ];
        none = λ z a. ap (λ (t : Table). t a) (pooled-none n d z);
      }

  ready-later : (then : ℕ) (u : Table) → now ≤ then → Ready 4096 n now d c u → Ready 4096 n then d c u
  ready-later then u l r =
      record { sound = r.sound; same = r.same; agrees = agree_later n now then (leases 4096 d) u l r.agrees; filed = r.filed; none = r.none }

not_silent_lem : (o : Option ℕ) → o ≡ None → is_silent o ≡ true → ⊥
not_silent_lem o e h = both_ways _ (ap is_silent e) h

tells_nobody : (o : Option ℕ) → grants_in (tells o) ≡ []
tells_nobody None = refl
tells_nobody (Some u) = refl

-- READING
module _ (k : model.Settings) (s : State) (few : k.addresses < 4096) (sound : Sound 4096 s.device) (lost : is_silent s.server.silent ≡ true → is_found (chosen 4096 s.device) ≡ false) (clock : ℕ) where
  abbrev d : Device
  d = s.device

  abbrev has : world.Server → State
  has y = record { settings = Some k; server = y; device = d; cursor = cursor 4096 d }

  pub read-refines : Refines k s (reads k clock s).state (grants_in (reads k clock s).effects) (Rising clock)
  read-refines =
      let b : Bool = is_lost (chosen 4096 d) || is_silent s.server.silent in
      let none : b ≡ true → is_found (chosen 4096 d) ≡ false =
      λ e. elim (or_cases (is_lost (chosen 4096 d)) (is_silent s.server.silent) e) [ inl h ↦ lost_unfound (chosen 4096 d) h | inr h ↦ lost h ] in
      let x : world.Server = record { clock = clock; up = true; silent = Some (clock + model.silence k); table = empty } in
      let y : world.Server = record { clock = clock; up = true; silent = None; table = pooled k.addresses d } in
      record {
        events = Restarts clock (is_lost (chosen 4096 d)) ∷ [];
        heard = (refl, tt);
        state = cond_both b x y (λ z. model_of k (has z) ≡ z) (λ e. ap (λ (t : Table). record { clock = clock; up = true; silent = Some (clock + model.silence k); table = t }) (pooled-none k.addresses d (none e))) (λ e. refl);
        sends = tells_nobody (rereads k clock d s.server).silent;
        stands = cond_both b x y (λ z. Stands k (has z))
            (λ e. record { settled = refl; few = few; sound = sound; ready = λ u. ready-none k.addresses clock d (cursor 4096 d) sound refl (none e); lost = λ u. none e })
            (λ e. record { settled = refl; few = few; sound = sound; ready = λ u. ready-pooled k.addresses clock d (cursor 4096 d) sound refl; lost = λ u. absurd (both_ways _ refl u) });
      }

pub settling-stands : SettlingStands
settling-stands k s few sound quiet =
    cond_both s.server.up (reads k s.server.clock s) (silently (record { settings = Some k; server = s.server; device = s.device; cursor = s.cursor })) (λ t. Refines k s t.state (grants_in t.effects) (Rising s.server.clock))
    (λ e. read-refines k s few sound (λ h. absurd (not_silent_lem s.server.silent quiet h)) s.server.clock)
    (λ e. record {
      events = [];
      heard = tt;
      state = refl;
      sends = refl;
      stands = record { settled = refl; few = few; sound = sound; ready = λ u. absurd (both_ways _ e u); lost = λ h. absurd (not_silent_lem s.server.silent quiet h) };
    })

-- WHICH TABLE AN APPEND LEAVES
abbrev cut_to_lem : (n : ℕ) → Table → Table
cut_to_lem n t a = cond (ltb a n) (t a) None

pooled_with : (n : ℕ) (d : Device) (x : Lease) (t : Table) (b : Bool) → Exactly n (leases 4096 d) (with? b x t) → x.address < n → pooled n d ≡ with? b x (cut_to_lem n t)
pooled_with n d x t true h l =
    fun_ext (λ a. elim (cases_lt a n) [
      | inl m ↦ in-pool n (leases 4096 d) a m ∙ h a m ∙ ap (λ (o : Option Lease). cond (eqb a x.address) (Some x) o) (sym (in-pool n t a m))
      | inr m ↦
          out_of_pool n (leases 4096 d) a m ∙ sym (out_of_pool n t a m)
          ∙ sym (cond-false (eqb a x.address) (Some x) (cut_to_lem n t a) (ne_eqb a x.address (λ e. omega arith)))
    ])
pooled_with n d x t false h l =
    fun_ext (λ a. elim (cases_lt a n) [
      | inl m ↦ in-pool n (leases 4096 d) a m ∙ h a m ∙ sym (in-pool n t a m)
      | inr m ↦ out_of_pool n (leases 4096 d) a m ∙ sym (out_of_pool n t a m)
    ])

cut-kept : (n now : ℕ) (t : Table) → cut_to_lem n (kept_in now t) ≡ kept_in now (cut_to_lem n t)
cut-kept n now t = fun_ext (λ a. go a (ltb a n))
  where
    go : (a : ℕ) (b : Bool) → cond b (kept_of now (t a)) None ≡ kept_of now (cond b (t a) None)
    go a true = refl
    go a false = refl

-- all that is over is forgotten
abbrev all : ℕ → Bool
all a = true

forgotten-kept : (now : ℕ) (t : Table) → forgotten now all t ≡ kept_in now t
forgotten-kept now t = fun_ext (λ a. go (t a))
  where
    turned : (b : Bool) (l : Lease) → cond (not b) None (Some l) ≡ cond b (Some l) None
    turned true l = refl
    turned false l = refl

    go : (o : Option Lease) → cond (true && vacant now o) None o ≡ kept_of now o
    go None = refl
    go (Some l) = turned (live now l) l

-- a kept lease is kept
kept-twice : (now : ℕ) (o : Option Lease) → kept_of now (kept_of now o) ≡ kept_of now o
kept-twice now None = refl
kept-twice now (Some l) = go (leb now l.expires) refl
  where
    go : (b : Bool) → leb now l.expires ≡ b → kept_of now (cond b (Some l) None) ≡ cond b (Some l) None
    go true e = cond-true _ _ _ e
    go false e = refl

module _ (k : model.Settings) (s : State) (st : Stands k s) where
  abbrev v : world.Server
  v = s.server

  abbrev m : world.Server
  m = model_of k s

  unchanged : (o : Cause) → Refines k s s [] o
  unchanged o = record { events = []; heard = tt; state = refl; sends = refl; stands = st }

  -- A TICK
  abbrev over_now : Bool
  over_now = over (v.clock + 1) v.up v.silent

  abbrev ended : world.Server
  ended = record { clock = v.clock + 1; up = v.up; silent = None; table = empty }

  abbrev gone_on : Table → world.Server
  gone_on t = record { clock = v.clock + 1; up = v.up; silent = v.silent; table = t }

  none-lost : over_now ≡ true → is_found (chosen 4096 s.device) ≡ false
  none-lost e = st.lost (over-silent (v.clock + 1) v.up v.silent e)

  pub ticks-on : model_of k (with_server (server_passes 1 v) s) ≡ server_passes 1 m
  ticks-on =
      elim (cases_Bool over_now) [
        | inl e ↦
            ap (λ (z : world.Server). model_of k (with_server z s)) (cond-true over_now ended (gone_on v.table) e)
            ∙ ap (λ (t : Table). record { clock = v.clock + 1; up = v.up; silent = None; table = t }) (pooled-none k.addresses s.device (none-lost e)) ∙ sym (cond-true over_now ended (gone_on m.table) e)
        | inr e ↦ ap (λ (z : world.Server). model_of k (with_server z s)) (cond-false over_now ended (gone_on v.table) e) ∙ sym (cond-false over_now ended (gone_on m.table) e)
      ]

  pub tick_stands : Stands k (with_server (server_passes 1 v) s)
  tick_stands =
      cond_both over_now ended (gone_on v.table) (λ z. Stands k (with_server z s))
      (λ e. record {
        settled = st.settled;
        few = st.few;
        sound = st.sound;
        ready = λ u. ready-none k.addresses (v.clock + 1) s.device s.cursor st.sound (st.ready u).same (none-lost e);
        lost = λ u. none-lost e;
      })
      (λ e. record {
        settled = st.settled;
        few = st.few;
        sound = st.sound;
        ready = λ u. ready-later k.addresses v.clock s.device s.cursor (v.clock + 1) v.table (omega arith) (st.ready u);
        lost = st.lost;
      })

  ticked : Refines k s (with_server (server_passes 1 v) s) [] Time
  ticked = record { events = Passes 1 ∷ []; heard = ((refl, refl), tt); state = ticks-on; sends = refl; stands = tick_stands }

  crashed : Refines k s (with_server (crashes v) s) [] Falling
  crashed =
      record {
        events = Crashes ∷ [];
        heard = (refl, tt);
        state = refl;
        sends = refl;
        stands = record { settled = st.settled; few = st.few; sound = st.sound; ready = λ u. absurd (both_ways _ refl u); lost = st.lost };
      }

  came_back : (clock : ℕ) → Refines k s (comes_back s.settings clock s).state (grants_in (comes_back s.settings clock s).effects) (Rising clock)
  came_back clock =
      subst (λ (o : Option model.Settings). Refines k s (comes_back o clock s).state (grants_in (comes_back o clock s).effects) (Rising clock)) (sym st.settled) (read-refines k s st.few st.sound st.lost clock)

  -- A REQUEST
  module _ (r : asked.Request) (g : given.Grant) (ans : answer k v r ≡ Ok (Some g)) where
    by : GrantedBy k v r g
    by = subst (λ (x : run.Answer). Meant k v r x) ans (meant k v r)

    abbrev x : Lease
    x = lease_of k s g

    abbrev p : Plan
    p = planned k s

    inside : g.address < k.addresses
    inside = (laws k.addresses v.clock v.table r (choose k.addresses v.clock v.table r) refl).below g.address by.chosen

    start : Ready 4096 k.addresses v.clock s.device s.cursor v.table
    start = st.ready by.up

    abbrev with_table_lem : Table → world.Server
    with_table_lem t = server_at v.clock v.up v.silent t

    -- whatever of what is over it remembers, the lending core answers the same
    same_answer : (t : Table) → ((a : ℕ) → a < k.addresses → kept_of v.clock (t a) ≡ kept_of v.clock (leases 4096 s.device a)) → answer k (with_table_lem t) r ≡ Ok (Some g)
    same_answer t h = answer-same k v.clock t v.table r v.up v.silent (λ u a l. h a l ∙ start.agrees a l) ∙ ans

    answer-all : answer k m r ≡ Ok (Some g)
    answer-all = same_answer m.table (λ a l. ap (kept_of v.clock) (in-pool k.addresses (leases 4096 s.device) a l))

    abbrev m' : world.Server
    m' = with_table_lem (kept_in v.clock m.table)

    forgot : occurs k (Forgets all) m ≡ m'
    forgot = cond-true v.up (with_table_lem (forgotten v.clock all m.table)) m by.up ∙ ap with_table_lem (forgotten-kept v.clock m.table)

    answer-kept : answer k m' r ≡ Ok (Some g)
    answer-kept = same_answer m'.table (λ a l. kept-twice v.clock (m.table a) ∙ ap (kept_of v.clock) (in-pool k.addresses (leases 4096 s.device) a l))

    not_lost : is_silent v.silent ≡ true → is_found (chosen 4096 (perform (writes p x) s.device)) ≡ false
    not_lost h = absurd (not_silent_lem v.silent by.quiet h)

    stands_after : Stands k (appends k g p x s).state
    stands_after =
        let z : Ready 4096 k.addresses v.clock (perform (writes p x) s.device) (after s.cursor p) (set x v.table) =
        (append_stands 4096 k.addresses v.clock v.clock s.device s.cursor v.table x st.few (omega arith) start).0 in
        record { settled = st.settled; few = st.few; sound = z.sound; ready = λ u. z; lost = not_lost }

    served : (w : world.Server) → answer k w r ≡ Ok (Some g) → occurs k (Hears r) w ≡ lends k g w
    served w e = ap (λ (y : run.Answer). serves k y w) e

    sent-one : (w : world.Server) → answer k w r ≡ Ok (Some g) → g ∷ [] ≡ sent k (Hears r ∷ []) w
    sent-one w e = sym (ap (λ (y : run.Answer). grant_by y ++ []) e)

    abbrev whole : Device
    whole = cut_at (length (writes p x)) Untouched (writes p x) s.device

    landed_whole : lands (length (writes p x)) Untouched (length (writes p x)) ≡ true
    landed_whole = le-leb (length (writes p x)) (length (writes p x)) (omega arith)

    whole-table : (t : Table) → Exactly k.addresses (leases 4096 whole) (with? (lands (length (writes p x)) Untouched (length (writes p x))) x t) →
        pooled k.addresses (perform (writes p x) s.device) ≡ set x (cut_to_lem k.addresses t)
    whole-table t h =
        ap (pooled k.addresses) (whole-cut (writes p x) s.device)
        ∙ pooled_with k.addresses whole x t true (subst (λ (b : Bool). Exactly k.addresses (leases 4096 whole) (with? b x t)) landed_whole h) inside

    appended : Refines k s (appends k g p x s).state (g ∷ []) (Asking r)
    appended =
        elim (leaves 4096 k.addresses v.clock s.device s.cursor v.table x st.few start (length (writes p x)) Untouched) [
          | inl h ↦ record {
            events = Hears r ∷ [];
            heard = (refl, tt);
            state = ap with_table_lem (whole-table (leases 4096 s.device) h) ∙ sym (served m answer-all);
            sends = sent-one m answer-all;
            stands = stands_after;
          }
          | inr h ↦ record {
            events = Forgets all ∷ (Hears r ∷ []);
            heard = (tt, (refl, tt));
            state = ap with_table_lem (whole-table (kept_in v.clock (leases 4096 s.device)) h ∙ ap (set x) (cut-kept k.addresses v.clock (leases 4096 s.device)))
                ∙ sym (served m' answer-kept) ∙ ap (occurs k (Hears r)) (sym forgot);
            sends = sent-one m' answer-kept ∙ ap (λ (w : world.Server). sent k (Hears r ∷ []) w) (sym forgot);
            stands = stands_after;
          }
        ]

    -- A CRASH WITHIN IT
    abbrev down_with_lem : Table → world.Server
    down_with_lem t = server_at v.clock false v.silent t

    crashed-at : (b : Bool) (t : Table) → answer k (with_table_lem t) r ≡ Ok (Some g) → occurs k (HearsAndCrashes r b) (with_table_lem t) ≡ down_with_lem (with? b x t)
    crashed-at true t e = ap (λ (y : run.Answer). crashes (serves k y (with_table_lem t))) e
    crashed-at false t e = refl

    module _ (i : ℕ) (c : Cut) where
      abbrev left : Device
      left = cut_at i c (writes p x) s.device

      abbrev b : Bool
      b = lands i c (length (writes p x))

      stands-cut : Stands k (down_with left s)
      stands-cut =
          record {
            settled = st.settled;
            few = st.few;
            sound = sound-left 4096 k.addresses v.clock s.device s.cursor v.table x st.few start i c;
            ready = λ u. absurd (both_ways _ refl u);
            lost = λ h. absurd (not_silent_lem v.silent by.quiet h);
          }

      cut-refines : Refines k s (down_with left s) [] (Asking r)
      cut-refines =
          elim (leaves 4096 k.addresses v.clock s.device s.cursor v.table x st.few start i c) [
            | inl h ↦ record {
              events = HearsAndCrashes r b ∷ [];
              heard = (refl, tt);
              state = ap down_with_lem (pooled_with k.addresses left x (leases 4096 s.device) b h inside) ∙ sym (crashed-at b m.table answer-all);
              sends = refl;
              stands = stands-cut;
            }
            | inr h ↦ record {
              events = Forgets all ∷ (HearsAndCrashes r b ∷ []);
              heard = (tt, (refl, tt));
              state = ap down_with_lem (pooled_with k.addresses left x (kept_in v.clock (leases 4096 s.device)) b h inside ∙ ap (with? b x) (cut-kept k.addresses v.clock (leases 4096 s.device)))
                  ∙ sym (crashed-at b m'.table answer-kept) ∙ ap (occurs k (HearsAndCrashes r b)) (sym forgot);
              sends = refl;
              stands = stands-cut;
            }
          ]

  replied : (r : asked.Request) (a : run.Answer) → answer k v r ≡ a → Refines k s (replies k a s).state (grants_in (replies k a s).effects) (Asking r)
  replied r (Ok None) e = unchanged (Asking r)
  replied r (Err f) e = unchanged (Asking r)
  replied r (Ok (Some g)) e =
      cond_both (exhausted (planned k s)) (refuses CountExhausted s) (appends k g (planned k s) (lease_of k s g) s) (λ t. Refines k s t.state (grants_in t.effects) (Asking r))
      (λ h. unchanged (Asking r)) (λ h. appended r g e)

  asked_for : (r : asked.Request) → Refines k s (requested s.settings r s).state (grants_in (requested s.settings r s).effects) (Asking r)
  asked_for r =
      subst (λ (o : Option model.Settings). Refines k s (requested o r s).state (grants_in (requested o r s).effects) (Asking r)) (sym st.settled) (replied r (answer k v r) refl)

  refines : (a : Answer) → Refines k s (answers a s).state (grants_in (answers a s).effects) (cause_in a)
  refines (Err f) = unchanged Other
  refines (Ok (Request r)) = asked_for r
  refines (Ok (Grant g)) = unchanged Other
  refines (Ok (Settings n t e)) =
      subst (λ (o : Option model.Settings). Refines k s (learns o n t e s).state (grants_in (learns o n t e s).effects) Other) (sym st.settled) (unchanged Other)
  refines (Ok Tick) =
      cond_both (leb (2 ^ 63) (v.clock + 1)) (refuses CountExhausted s) (silently (with_server (server_passes 1 v) s)) (λ t. Refines k s t.state (grants_in t.effects) Time)
      (λ h. unchanged Time) (λ h. ticked)
  refines (Ok Crash) = crashed
  refines (Ok (Restart clock)) =
      cond_both (leb (2 ^ 63) clock) (refuses CountExhausted s) (comes_back s.settings clock s) (λ t. Refines k s t.state (grants_in t.effects) (Rising clock))
      (λ h. unchanged (Rising clock)) (λ h. came_back clock)
  refines (Ok (OwnNumber c)) = unchanged Other
  refines (Ok (Nonce c)) = unchanged Other
  refines (Ok (InUse a u)) = unchanged Other
  refines (Ok NoAddress) = unchanged Other
  refines (Ok (Fault f)) = unchanged Other

pub step-refines : StepRefines
unfolding hears
step-refines k s bs st = refines k s st (understood bs s)

pub cut-refines-all : CutRefines
cut-refines-all k s r g i c st e = cut-refines k s st r g e i c

pub events-of_runs : EventsOfRuns
events-of_runs k w =
    record {
      passes = λ n f. refl;
      hears = λ i r e. (ap (λ (o : Option world.Message). (run.server_hears k o w).server) e, ap (λ (o : Option world.Message). (run.server_hears k o w).messages) e);
      hears_and_crashes = λ i r wrote e. ap (λ (o : Option world.Message). crashes (cond wrote (run.server_hears k o w).server w.server)) e;
      crashes = refl;
      forgets = λ gone. refl;
      restarts = λ clock lost. refl;
    }
