-- The schedule's laws, carried over to whole runs of a client.
-- Assumes nothing.
use Rattle.std.proofs.Common.{◌≡◌, ℕ, ◌+◌, ◌≤◌, Bool, true, false, ◌⊎◌, List, [], ◌∷◌, ◌++◌, Some, None, Option, sym, refl, ap, ◌∙◌, subst, inl, inr, ⊎_elim, arith}
use Rattle.std.specs.Option.{option_map}
use Rattle.std.proofs.lemmas.Bool.{both_ways}
use Rattle.std.proofs.lemmas.Option.{same_Some, none-some}
use Rattle.std.proofs.lemmas.List.{append_assoc}
use Rattle.lease.specs.declared.message.Request as lent
use Rattle.lease.specs.Holding.{Use}
use Rattle.retry.specs.Run as retry
use Rattle.retry.specs.Run.{Event, Starts, Ticks, Asks, Takes, Lawful}
use Rattle.retry.specs.Pacing as pacing
use Rattle.retry.proofs.Apart as apart
use Rattle.retry.proofs.InTime as in-time
use Rattle.client.specs.State.{in_use, until}
use Rattle.client.specs.Client.{Client, understood, hears}
use Rattle.client.specs.Nonces.{requests}
use Rattle.client.specs.Pacing.{clock, some, asks, takes, loses, starts, equipped, Never, Always, FourApart, SixtyApart, PausesEnd, AsksBy, StillUses, AsksInTime}
use Rattle.client.specs.Run.{Run, client}
use Rattle.client.proofs.Scheduling.{view}
use Rattle.client.proofs.Tracing.{requesting, first, events, stepped, trace, stretch, trace-++, tied, lawful}
use Rattle.client.proofs.Events.{after-request, never_starts, never_asks, never_tarries, never_loses, never_takes, is-taken}
use Rattle.client.proofs.Moments.{long, prompt, has_all}

-- FROM STEPS TO STRETCHES
never-++ : (T : retry.Client → Event → Bool) (base ds fs : List Event) → pacing.Never T (fs ++ base) ds → pacing.Never T base fs → pacing.Never T base (ds ++ fs)
unfolding pacing.Never
never-++ T base [] fs k j = j
never-++ T base (d ∷ ds) fs k j =
    (subst (λ (l : List Event). T (retry.client l) d ≡ false) (sym (append_assoc ds fs base)) k.0, never-++ T base ds fs k.1 j)

never_stretch : (T : retry.Client → Event → Bool) (test : List ℕ → Client → Bool) →
    ((b : List ℕ) (bs : Run) → test b (client bs) ≡ false → pacing.Never T (trace bs) (events b (client bs))) →
    (before between : Run) → Never test before between → pacing.Never T (trace before) (stretch before between)
unfolding Never pacing.Never stretch
never_stretch T test one before [] k = tt
never_stretch T test one before (b ∷ bs) k =
    never-++ T (trace before) (events b (client (bs ++ before))) (stretch before bs)
    (subst (λ (l : List Event). pacing.Never T l (events b (client (bs ++ before)))) (trace-++ before bs) (one b (bs ++ before) k.0))
    (never_stretch T test one before bs k.1)

no_starts : (before between : Run) → Never starts before between → pacing.Never pacing.starts (trace before) (stretch before between)
no_starts =
    never_stretch pacing.starts starts
    (λ b bs e. after-request pacing.starts (trace bs) (λ c. refl) (requests (hears b (client bs)).says) (first b (client bs)) (never_starts (client bs) (trace bs) (understood b (client bs)) e))

no_losses : (before between : Run) → Never loses before between → pacing.Never pacing.loses (trace before) (stretch before between)
unfolding hears
no_losses =
    never_stretch pacing.loses loses
    (λ b bs e. after-request pacing.loses (trace bs) (λ c. refl) (requests (hears b (client bs)).says) (first b (client bs)) (never_loses (client bs) (trace bs) (tied bs) (understood b (client bs)) e))

no_takings : (before between : Run) → Never takes before between → pacing.Never pacing.takes (trace before) (stretch before between)
unfolding hears
no_takings =
    never_stretch pacing.takes takes
    (λ b bs e. after-request pacing.takes (trace bs) (λ c. refl) (requests (hears b (client bs)).says) (first b (client bs)) (never_takes (client bs) (trace bs) (understood b (client bs)) e))

silent : (es : List Event) (rs : List lent.Request) (hs : List Event) → some rs ≡ false → pacing.Never pacing.asks es hs → pacing.Never pacing.asks es (requesting rs ++ hs)
silent es [] hs e k = k
silent es (r ∷ rs) hs e k = absurd (both_ways true e refl)

no_requests : (before between : Run) → Never asks before between → pacing.Never pacing.asks (trace before) (stretch before between)
no_requests =
    never_stretch pacing.asks asks
    (λ b bs e. silent (trace bs) (requests (hears b (client bs)).says) (first b (client bs)) e (never_asks (client bs) (trace bs) (understood b (client bs))))

-- the first and the last moment of a stretch
at_first : (test : Client → Bool) (before between : Run) → Always test before between → test (client before) ≡ true
unfolding Always
at_first test before [] k = k
at_first test before (b ∷ bs) k = at_first test before bs k.1

at_last : (test : Client → Bool) (before between : Run) → Always test before between → test (client (between ++ before)) ≡ true
unfolding Always
at_last test before [] k = k
at_last test before (b ∷ bs) k = k.0

no_tarrying : (before between : Run) → Always equipped before between → pacing.Never pacing.tarries (trace before) (stretch before between)
unfolding Always pacing.Never stretch
no_tarrying before [] k = tt
no_tarrying before (b ∷ bs) k =
    let c : Client = client (bs ++ before) in
    never-++ pacing.tarries (trace before) (events b c) (stretch before bs)
    (subst (λ (l : List Event). pacing.Never pacing.tarries l (events b c)) (trace-++ before bs)
    (after-request pacing.tarries (trace (bs ++ before)) (λ x. refl) (requests (hears b c).says) (first b c)
    (never_tarries c (trace (bs ++ before)) (tied (bs ++ before)) (prompt (bs ++ before) (at_last equipped before bs k.1)) (understood b c))))
    (no_tarrying before bs k.1)

-- THE LAWS
pub pauses_end : PausesEnd
pauses_end before between none all ns nt na =
    let up : (client before).state.holder.up ≡ true = (has_all (client before) (at_first equipped before between all)).0 in
    let still : (client (between ++ before)).state.holder.up ≡ true = (has_all (client (between ++ before)) (at_last equipped before between all)).0 in
    let old : view (client before).state ≡ retry.client (trace before) = tied before up in
    let new : view (client (between ++ before)).state ≡ retry.client (stretch before between ++ trace before) = tied (between ++ before) still ∙ ap retry.client (trace-++ before between) in
    let law : (retry.client (stretch before between ++ trace before)).clock ≤ (retry.client (trace before)).clock + 64 =
    in-time.pauses_end (trace before) (stretch before between)
    (ap (λ (c : retry.Client). c.uses) (sym old) ∙ ap (λ (o : Option Use). option_map until o) none)
    (no_starts before between ns) (no_takings before between nt) (no_tarrying before between all) (no_requests before between na)
    in
    omega (arith, ap (λ (c : retry.Client). c.clock) old, ap (λ (c : retry.Client). c.clock) new)

-- the events of a step that asks
asking : (b : List ℕ) (c : Client) → asks b c ≡ true → events b c ≡ Asks ∷ first b c
asking b c e = one_event (requests (hears b c).says) e
  where
    one_event : (rs : List lent.Request) → some rs ≡ true → requesting rs ++ first b c ≡ Asks ∷ first b c
    one_event [] f = absurd (both_ways false refl f)
    one_event (r ∷ rs) f = refl

-- the schedule's client right before the request of a step
pub asked-at : (b : List ℕ) (bs : Run) → asks b (client bs) ≡ true → view (client (b ∷ bs)).state ≡ retry.client (Asks ∷ (first b (client bs) ++ trace bs))
unfolding client trace
asked-at b bs e =
    (stepped (client bs) (trace bs) (tied bs) b).tied ((stepped (client bs) (trace bs) (tied bs) b).up e)
    ∙ ap (λ (l : List Event). retry.client (l ++ trace bs)) (asking b (client bs) e)

asked-clock : (b : List ℕ) (bs : Run) → asks b (client bs) ≡ true → clock (client (b ∷ bs)) ≡ (retry.client (first b (client bs) ++ trace bs)).clock
unfolding retry.client
asked-clock b bs e = ap (λ (x : retry.Client). x.clock) (asked-at b bs e)

-- two requests, and what lies between them
module _ (before between : Run) (one two : List ℕ) (asks-one : asks one (client before) ≡ true) (asks_two : asks two (client (between ++ (one ∷ before))) ≡ true) where
  abbrev c : Client
  c = client (between ++ (one ∷ before))

  abbrev base : List Event
  base = first one (client before) ++ trace before

  abbrev middle : List Event
  middle = first two c ++ stretch (one ∷ before) between

  from_one : trace (one ∷ before) ≡ Asks ∷ base
  unfolding trace
  from_one = ap (λ (l : List Event). l ++ trace before) (asking one (client before) asks-one)

  to_two : middle ++ (Asks ∷ base) ≡ first two c ++ trace (between ++ (one ∷ before))
  to_two =
      append_assoc (first two c) (stretch (one ∷ before) between) (Asks ∷ base)
      ∙ ap (λ (l : List Event). first two c ++ l) (ap (λ (l : List Event). stretch (one ∷ before) between ++ l) (sym from_one) ∙ sym (trace-++ (one ∷ before) between))

  all_lawful : Lawful (Asks ∷ (middle ++ (Asks ∷ base)))
  unfolding trace
  all_lawful =
      subst (λ (l : List Event). Lawful (Asks ∷ l)) (sym to_two)
      (subst (λ (l : List Event). Lawful (l ++ trace (between ++ (one ∷ before)))) (asking two c asks_two) (lawful (two ∷ (between ++ (one ∷ before)))))

  never_middle : (T : retry.Client → Event → Bool) → pacing.Never T (trace (one ∷ before)) (stretch (one ∷ before) (two ∷ between)) → pacing.Never T (Asks ∷ base) middle
  unfolding stretch pacing.Never
  never_middle T k =
      subst (λ (l : List Event). pacing.Never T l middle) from_one
      (subst (λ (l : List Event). pacing.Never T (trace (one ∷ before)) (l ++ stretch (one ∷ before) between)) (asking two c asks_two) k).1

  clock-one : clock (client (one ∷ before)) ≡ (retry.client base).clock
  clock-one = asked-clock one before asks-one

  at_two : view (client (two ∷ (between ++ (one ∷ before)))).state ≡ retry.client (Asks ∷ (middle ++ (Asks ∷ base)))
  at_two = asked-at two (between ++ (one ∷ before)) asks_two ∙ ap (λ (l : List Event). retry.client (Asks ∷ l)) (sym to_two)

  clock_two : clock (client (two ∷ (between ++ (one ∷ before)))) ≡ (retry.client (middle ++ (Asks ∷ base))).clock
  unfolding retry.client
  clock_two = ap (λ (x : retry.Client). x.clock) at_two

  uses_two : option_map until (in_use (client (two ∷ (between ++ (one ∷ before)))).state) ≡ (retry.client (middle ++ (Asks ∷ base))).uses
  unfolding retry.client
  uses_two = ap (λ (x : retry.Client). x.uses) at_two

  four : Never starts (one ∷ before) (two ∷ between) → Never loses (one ∷ before) (two ∷ between) → clock (client (one ∷ before)) + 4 ≤ clock (client (two ∷ (between ++ (one ∷ before))))
  four ns nl =
      let law : (retry.client base).clock + 4 ≤ (retry.client (middle ++ (Asks ∷ base))).clock =
      apart.four_apart base middle all_lawful (never_middle pacing.starts (no_starts (one ∷ before) (two ∷ between) ns)) (never_middle pacing.loses (no_losses (one ∷ before) (two ∷ between) nl))
      in
      omega (arith, clock-one, clock_two)

  sixty : (u : Use) → Never starts (one ∷ before) (two ∷ between) → in_use (client (two ∷ (between ++ (one ∷ before)))).state ≡ Some u →
      clock (client (one ∷ before)) + 60 ≤ clock (client (two ∷ (between ++ (one ∷ before))))
  sixty u ns e =
      let law : (retry.client base).clock + 60 ≤ (retry.client (middle ++ (Asks ∷ base))).clock =
      apart.sixty_apart base middle all_lawful (never_middle pacing.starts (no_starts (one ∷ before) (two ∷ between) ns)) u.until (sym uses_two ∙ ap (λ (o : Option Use). option_map until o) e)
      in
      omega (arith, clock-one, clock_two)

pub four_apart : FourApart
four_apart before between one two e f ns nl = four before between one two e f ns nl

pub sixty_apart : SixtyApart
sixty_apart before between one two u e f ns i = sixty before between one two e f u ns i

-- A REQUEST AMONG THE EVENTS OF A STRETCH IS ONE OF THE CLIENT'S
skip : (limit : ℕ) (past hs rest : List Event) → pacing.Never pacing.asks (rest ++ past) hs → pacing.AsksBy limit past (hs ++ rest) → pacing.AsksBy limit past rest
unfolding pacing.Never pacing.AsksBy
skip limit past [] rest k a = a
skip limit past (Starts t ∷ hs) rest k a = skip limit past hs rest k.1 a
skip limit past (Ticks ∷ hs) rest k a = skip limit past hs rest k.1 a
skip limit past (Asks ∷ hs) rest k a = absurd (both_ways true k.0 refl)
skip limit past (Takes t s ∷ hs) rest k a = skip limit past hs rest k.1 a

peel : (limit : ℕ) (past : List Event) (rs : List lent.Request) (es : List Event) → pacing.AsksBy limit past (requesting rs ++ es) →
    ((some rs ≡ true) × ((retry.client (es ++ past)).clock ≤ limit)) ⊎ pacing.AsksBy limit past es
unfolding pacing.AsksBy
peel limit past [] es a = inr a
peel limit past (r ∷ rs) es (inl l) = inl (refl, l)
peel limit past (r ∷ rs) es (inr a) = inr a

-- `tail` and `base` are the trace of the run before the stretch
module _ (limit : ℕ) (base tail : List Event) (before : Run) (whole : trace before ≡ tail ++ base) where
  reached : (bs : Run) → (stretch before bs ++ tail) ++ base ≡ trace (bs ++ before)
  reached bs = append_assoc (stretch before bs) tail base ∙ ap (λ (l : List Event). stretch before bs ++ l) (sym whole) ∙ sym (trace-++ before bs)

  -- the request of the step `b`, or one before it
  in_step : (b : List ℕ) (bs : Run) → pacing.AsksBy limit base (stretch before (b ∷ bs) ++ tail) →
      ((asks b (client (bs ++ before)) ≡ true) × (clock (client (b ∷ (bs ++ before))) ≤ limit)) ⊎ pacing.AsksBy limit base (stretch before bs ++ tail)
  unfolding stretch
  in_step b bs a =
      let d : Client = client (bs ++ before) in
      let hs : List Event = first b d in
      let rest : List Event = stretch before bs ++ tail in
      let rs : List lent.Request = requests (hears b d).says in
      let same : ((requesting rs ++ hs) ++ stretch before bs) ++ tail ≡ requesting rs ++ (hs ++ rest) =
      append_assoc (requesting rs ++ hs) (stretch before bs) tail ∙ append_assoc (requesting rs) hs rest
      in
      ⊎_elim
      (λ k. inl (
        k.0,
        subst (λ (n : ℕ). n ≤ limit)
            (ap (λ (l : List Event). (retry.client l).clock) (append_assoc hs rest base ∙ ap (λ (l : List Event). hs ++ l) (reached bs)) ∙ sym (asked-clock b (bs ++ before) k.0)) k.1,
      ))
      (λ k. inr (skip limit base hs rest (never_asks d (rest ++ base) (understood b d)) k))
      (peel limit base rs (hs ++ rest) (subst (λ (l : List Event). pacing.AsksBy limit base l) same a))

  in-stretch : (bs : Run) → pacing.AsksBy limit base (stretch before bs ++ tail) → AsksBy limit before bs ⊎ pacing.AsksBy limit base tail
  unfolding AsksBy stretch
  in-stretch [] a = inr a
  in-stretch (b ∷ bs) a = ⊎_elim (λ k. inl (inl k)) (λ k. ⊎_elim (λ j. inl (inr j)) (λ j. inr j) (in-stretch bs k)) (in_step b bs a)

used-until : (o : Option Use) (n : ℕ) → option_map until o ≡ Some n → (a : ℕ) × (o ≡ Some (record { address = a; until = n }))
used-until None n e = absurd (none-some n e)
used-until (Some u) n e = (u.address, ap (λ (k : ℕ). Some (record { address = u.address; until = k })) (same_Some u.until n e))

never_requesting : (T : retry.Client → Event → Bool) (es : List Event) → ((x : retry.Client) → T x Asks ≡ false) → (rs : List lent.Request) → pacing.Never T es (requesting rs)
unfolding pacing.Never
never_requesting T es free [] = tt
never_requesting T es free (r ∷ rs) = (free _, tt)

uses-taken : (a t : ℕ) (es : List Event) (rs : List lent.Request) → (retry.client (requesting rs ++ (Takes a t ∷ es))).uses ≡ Some (a + t)
unfolding retry.client
uses-taken a t es [] = refl
uses-taken a t es (r ∷ rs) = refl

some-asked : (limit : ℕ) (past : List Event) (rs : List lent.Request) → pacing.AsksBy limit past (requesting rs) → some rs ≡ true
unfolding pacing.AsksBy
some-asked limit past [] a = absurd a
some-asked limit past (r ∷ rs) a = refl

-- a grant taken by a step that may ask in its turn, and a stretch after it
module _ (before between : Run) (grant : List ℕ) (a t : ℕ) (is : first grant (client before) ≡ Takes a t ∷ []) (minute : 60 ≤ t) where
  abbrev rs : List lent.Request
  rs = requests (hears grant (client before)).says

  abbrev since : List Event
  since = Takes a t ∷ trace before

  from-grant : trace (grant ∷ before) ≡ requesting rs ++ since
  unfolding trace
  from-grant = ap (λ (l : List Event). (requesting rs ++ l) ++ trace before) is ∙ append_assoc (requesting rs) (Takes a t ∷ []) (trace before)

  abbrev after : List Event
  after = stretch (grant ∷ before) between ++ requesting rs

  to_now : after ++ since ≡ trace (between ++ (grant ∷ before))
  to_now = reached 0 since (requesting rs) (grant ∷ before) from-grant between

  never_after : (T : retry.Client → Event → Bool) → ((x : retry.Client) → T x Asks ≡ false) → pacing.Never T (trace (grant ∷ before)) (stretch (grant ∷ before) between) → pacing.Never T since after
  never_after T free k =
      never-++ T since (stretch (grant ∷ before) between) (requesting rs)
      (subst (λ (l : List Event). pacing.Never T l (stretch (grant ∷ before) between)) from-grant k) (never_requesting T since free rs)

  until-is : (u : Use) → (client (grant ∷ before)).state.holder.up ≡ true → in_use (client (grant ∷ before)).state ≡ Some u → a + t ≡ u.until
  until-is u up e =
      same_Some (a + t) u.until
      (sym (uses-taken a t (trace before) rs) ∙ ap (λ (l : List Event). (retry.client l).uses) (sym from-grant)
      ∙ ap (λ (x : retry.Client). x.uses) (sym (tied (grant ∷ before) up)) ∙ ap (λ (o : Option Use). option_map until o) e)

  still : (client (between ++ (grant ∷ before))).state.holder.up ≡ true → pacing.StillUses (a + t) (retry.client (after ++ since)) → StillUses (a + t) (client (between ++ (grant ∷ before)))
  still up k =
      let v : view (client (between ++ (grant ∷ before))).state ≡ retry.client (after ++ since) = tied (between ++ (grant ∷ before)) up ∙ ap retry.client (sym to_now) in
      let o : (n : ℕ) × (in_use (client (between ++ (grant ∷ before))).state ≡ Some (record { address = n; until = a + t })) =
      used-until (in_use (client (between ++ (grant ∷ before))).state) (a + t) (ap (λ (x : retry.Client). x.uses) v ∙ k.uses)
      in
      record { address = o.0; uses = o.1; within = subst (λ (x : retry.Client). x.clock ≤ a + t) (sym v) k.within }

  timely : Always equipped (grant ∷ before) between → Never starts (grant ∷ before) between →
      StillUses (a + t) (client (between ++ (grant ∷ before))) ⊎ ((asks grant (client before) ≡ true) ⊎ AsksBy (a + t) (grant ∷ before) between)
  timely all ns =
      ⊎_elim
      (λ k. inl (still (has_all (client (between ++ (grant ∷ before))) (at_last equipped (grant ∷ before) between all)).0 k))
      (λ k. inr (⊎_elim (λ j. inr j) (λ j. inl (some-asked (a + t) since rs j)) (in-stretch (a + t) since (requesting rs) (grant ∷ before) from-grant between k)))
      (in-time.asks_in_time (trace before) after a t (subst (λ (l : List Event). Lawful l) (sym to_now) (lawful (between ++ (grant ∷ before)))) minute
      (never_after pacing.starts (λ x. refl) (no_starts (grant ∷ before) between ns)) (never_after pacing.tarries (λ x. refl) (no_tarrying (grant ∷ before) between all)))

pub asks_in_time : AsksInTime
unfolding hears
asks_in_time before between grant u e i all ns =
    let k : (a : ℕ) × (t : ℕ) × (first grant (client before) ≡ Takes a t ∷ []) × (60 ≤ t) = is-taken (client before) (long before) (understood grant (client before)) e in
    let up : (client (grant ∷ before)).state.holder.up ≡ true = (has_all (client (grant ∷ before)) (at_first equipped (grant ∷ before) between all)).0 in
    subst (λ (n : ℕ). StillUses n (client (between ++ (grant ∷ before))) ⊎ ((asks grant (client before) ≡ true) ⊎ AsksBy n (grant ∷ before) between))
    (until-is before between grant k.0 k.1 k.2 k.3 u up i) (timely before between grant k.0 k.1 k.2 k.3 all ns)
