-- What a report that names no broken premise says of the clocks.
-- Assumes nothing.
use Rattle.std.proofs.Common.{◌≡◌, ℕ, ◌+◌, ◌<◌, ◌≤◌, Bool, true, false, not, ◌||◌, List, [], ◌∷◌, ◌++◌, is_some, Some, None, Option, sym, refl, ap, ◌∙◌, subst, inl, inr, arith}
use Rattle.std.proofs.lemmas.Bool.{both_ways, cond_both, cond-false, and_from}
use Rattle.std.proofs.lemmas.List.{append_assoc}
use Rattle.lease.specs.Settings as model
use Rattle.lease.specs.Settings.{outlasts}
use Rattle.lease.specs.Table.{at}
use Rattle.std.proofs.lemmas.Option.{same_Some}
use Rattle.system.specs.Parties.{Parties, Event, ToServer, ToClient, Cuts, Damages, AllWithin, Outcome, happens, heard, places}
use Rattle.system.specs.Watch.{Lead, Watch, anew, is_tick, leads_after, start_in, watched}
use Rattle.system.specs.Report.{Play, after, beginning, broken, judged, lines, next, played, ticks_next}
use Rattle.system.specs.Promise.{Kept, any, names_premise}
use Rattle.system.specs.Clocks.{Both, ClocksAgree, Spared, within_ticks, reached, spares, ticks_last}
use Rattle.system.proofs.Watching.{Unbroken, Wider, noted_wider, unbroken, wider_self}
use Rattle.system.proofs.Following.{Follows, Judged, Near, server-clock}
use Rattle.system.proofs.ClientEvents.{at_other}
use Rattle.system.proofs.Running.{one_event}
use Rattle.system.proofs.Promise.{any-apart, begins, settings-of, settings_so, settings_stay, unjudged, whole-at}

-- SOME EVENTS keep the lead of a client that they spare
Grows : Option Lead → Option Lead → Type 0
Grows o o' = (d : Lead) → o ≡ Some d → (d' : Lead) × (o' ≡ Some d') × Wider d d'

wider_on : (d e f : Lead) → Wider d e → Wider e f → Wider d f
wider_on d e f a b = record { least = omega (arith, a.least, b.least); most = omega (arith, a.most, b.most) }

kept-anew : (i : ℕ) (e : Event) (x : Parties) (ls : ℕ → Option Lead) → spares i e x → anew e (happens e x).parties ls i ≡ ls i
kept-anew i (ToServer bs) x ls s = refl
kept-anew i (ToClient l bs) x ls (inl s) =
    let y : Parties = (happens (ToClient l bs) x).parties in
    let r : (is_some (start_in (heard (ToClient l bs))) || not (y.clients l).state.holder.up) ≡ false =
    ap (λ (b : Bool). b || not (y.clients l).state.holder.up) s.0 ∙ ap not s.1 in
    ap (λ (m : ℕ → Option Lead). m i) (cond-false (is_some (start_in (heard (ToClient l bs))) || not (y.clients l).state.holder.up) (at l None ls) ls r)
kept-anew i (ToClient l bs) x ls (inr s) =
    let y : Parties = (happens (ToClient l bs) x).parties in
    cond_both (is_some (start_in (heard (ToClient l bs))) || not (y.clients l).state.holder.up) (at l None ls) ls (λ m. m i ≡ ls i) (λ e. at_other l None ls i s) (λ e. refl)
kept-anew i (Cuts bs n c) x ls s = refl
kept-anew i (Damages d clock) x ls s = refl

grows : (i : ℕ) (e : Event) (x : Parties) (j : Bool) (ls : ℕ → Option Lead) → spares i e x → Grows (ls i) (leads_after j e (happens e x).parties ls i)
unfolding Grows
grows i e x true ls s d h = noted_wider (happens e x).parties (anew e (happens e x).parties ls) i d (kept-anew i e x ls s ∙ h)
grows i e x false ls s d h = (d, kept-anew i e x ls s ∙ h, wider_self d)

grow_all : (i : ℕ) (xs ys : List Event) (h : Play) → Spared i xs h.parties → Grows (h.watch.leads i) ((reached xs ys h).watch.leads i)
unfolding reached Spared Grows
grow_all i [] ys h s d e = (d, e, wider_self d)
grow_all i (x ∷ xs) ys h s d e =
    let q : (d' : Lead) × ((next (judged x (xs ++ ys)) x h).watch.leads i ≡ Some d') × Wider d d' = grows i x h.parties (judged x (xs ++ ys)) h.watch.leads s.0 d e in
    let r : (d'' : Lead) × ((reached xs ys (next (judged x (xs ++ ys)) x h)).watch.leads i ≡ Some d'') × Wider q.0 d'' = grow_all i xs ys (next (judged x (xs ++ ys)) x h) s.1 q.0 q.1 in
    (r.0, r.1, wider_on d q.0 r.0 q.2 r.2)

-- ONE AFTER THE OTHER
reached-on : (xs ys zs : List Event) (h : Play) → reached (xs ++ ys) zs h ≡ reached ys zs (reached xs (ys ++ zs) h)
unfolding reached
reached-on [] ys zs h = refl
reached-on (e ∷ xs) ys zs h =
    reached-on xs ys zs (next (judged e ((xs ++ ys) ++ zs)) e h)
    ∙ ap (λ (l : List Event). reached ys zs (reached xs (ys ++ zs) (next (judged e l) e h))) (append_assoc xs ys zs)

grown : (i : ℕ) (xs ys : List Event) (h : Play) → Spared i xs h.parties → (d : Lead) → h.watch.leads i ≡ Some d → (d' : Lead) × ((reached xs ys h).watch.leads i ≡ Some d') × Wider d d'
unfolding Grows
grown i xs ys h s d e = grow_all i xs ys h s d e

-- settings that are known by then stay so
after-reached : (xs ys : List Event) (h : Play) (m : model.Settings) → (reached xs ys h).watch.settings ≡ Some m → (after (xs ++ ys) h).watch.settings ≡ Some m
unfolding reached after
after-reached [] ys h m e = settings_stay ys h m e
after-reached (x ∷ xs) ys h m e = after-reached xs ys (next (judged x (xs ++ ys)) x h) m e

-- AT EVERY MOMENT of a run that breaks no premise
module _ (k : model.Settings) where
  -- unjudged just within a run of ticks
  abbrev Moments : (j : Bool) → List Event → Type 0
  Moments j ys = j ≡ false → ticks_next ys ≡ true

  pub reaches : (xs ys : List Event) (h : Play) (j : Bool) → AllWithin (xs ++ ys) → Follows k j h.parties h.watch → Moments j (xs ++ ys) → h.named ≡ false →
      any names_premise (played (xs ++ ys) h) ≡ false → ((m : model.Settings) → (after (xs ++ ys) h).watch.settings ≡ Some m → m ≡ k) →
      (last : Bool) → ((j ≡ false) → last ≡ true) →
      (g : Bool) × Follows k g (reached xs ys h).parties (reached xs ys h).watch × (g ≡ false → (ticks_last last xs ≡ true) × (ticks_next ys ≡ true))
  unfolding reached played after any AllWithin ticks_last
  reaches [] ys h j i f ticks n quiet fin last t = (j, f, λ e. (t e, ticks e))
  reaches (e ∷ xs) ys h j i f ticks n quiet fin last t =
      let x : Parties = h.parties in
      let o : Outcome = happens e x in
      let es : List Event = xs ++ ys in
      let g : Bool = judged e es in
      let q : (any names_premise (lines g e h) ≡ false) × (any names_premise (played es (next g e h)) ≡ false) = any-apart names_premise (lines g e h) (played es (next g e h)) quiet in
      let whole : broken g e o h ≡ None = whole-at g e h n q.0 in
      let u : Unbroken e x o h.watch (watched g e o h.watch) = unbroken e x o h.watch (watched g e o h.watch) whole in
      let f' : Follows k g o.parties (watched g e o h.watch) =
      one_event k x h.watch j g e i.0 f ticks (λ b. (unjudged e es b).0) u (λ m s. fin m (settings_stay es (next g e h) m s)) in
      let n' : (next g e h).named ≡ false = ap (λ (b : Bool). b || is_some (broken g e o h)) n ∙ ap is_some whole in
      reaches xs ys (next g e h) g i.1 f' (λ b. (unjudged e es b).1) n' q.1 fin (is_tick e) (λ b. (unjudged e es b).0)

module _ (before between rest : List Event) (i : AllWithin (before ++ (between ++ rest))) (quiet : Kept (before ++ (between ++ rest))) where
  abbrev all : List Event
  all = before ++ (between ++ rest)

  abbrev k : model.Settings
  k = settings-of (after all beginning).watch.settings

  -- a moment that is judged
  judged-at : (xs ys : List Event) → xs ++ ys ≡ all → within_ticks xs ys ≡ false → Judged k (reached xs ys beginning).parties (reached xs ys beginning).watch
  judged-at xs ys e out =
      let r : (g : Bool) × Follows k g (reached xs ys beginning).parties (reached xs ys beginning).watch × (g ≡ false → (ticks_last false xs ≡ true) × (ticks_next ys ≡ true)) =
      reaches k xs ys beginning true (subst AllWithin (sym e) i) (begins k) (λ b. absurd (both_ways true b refl)) refl (subst (λ (l : List Event). any names_premise (played l beginning) ≡ false) (sym e) quiet)
      (λ m s. settings_so (after all beginning).watch.settings m (ap (λ (l : List Event). (after l beginning).watch.settings) (sym e) ∙ s)) false (λ b. absurd (both_ways true b refl)) in
      by_flag r.0 r.1 r.2
    where
      by_flag : (g : Bool) → Follows k g (reached xs ys beginning).parties (reached xs ys beginning).watch → (g ≡ false → (ticks_last false xs ≡ true) × (ticks_next ys ≡ true)) →
          Judged k (reached xs ys beginning).parties (reached xs ys beginning).watch
      by_flag true f t = f
      by_flag false f t = absurd (both_ways _ out (and_from _ _ (t refl).0 (t refl).1))

  module _ (out : within_ticks before (between ++ rest) ≡ false) (out' : within_ticks (before ++ between) rest ≡ false) (p : ℕ) (p< : p < places) where
    abbrev h : Play
    h = reached before (between ++ rest) beginning

    abbrev h' : Play
    h' = reached (before ++ between) rest beginning

    J : Judged k h.parties h.watch
    J = judged-at before (between ++ rest) refl out

    J' : Judged k h'.parties h'.watch
    J' = judged-at (before ++ between) rest (append_assoc before between rest) out'

    near : (x : Parties) (w : Watch) (j : Judged k x w) → Both x p → Near (x.clients p).state.holder.clock x.server.server.clock (w.leads p)
    near x w j b =
        let s : (x.server.server.clock ≡ j.base.world.server.clock + 0) × (x.server.server.up ≡ j.base.world.server.up) = server-clock k 0 x w j.base in
        let n : Near (x.clients p).state.holder.clock j.base.world.server.clock (w.leads p) = j.near p b.number p< b.own b.client_up b.server_up in
        record { lead = n.lead; noted = n.noted; at = (omega (arith, s.0, n.at.0), omega (arith, s.0, n.at.1)) }

    within-skew : Both h.parties p → Both h'.parties p → Spared p between h.parties → (m : model.Settings) → h'.watch.settings ≡ Some m →
        ((h'.parties.clients p).state.holder.clock + h.parties.server.server.clock ≤ (h.parties.clients p).state.holder.clock + outlasts m h'.parties.server.server.clock)
        × (h'.parties.server.server.clock + (h.parties.clients p).state.holder.clock ≤ h.parties.server.server.clock + outlasts m (h'.parties.clients p).state.holder.clock)
    within-skew b b' s m e =
        let n : Near (h.parties.clients p).state.holder.clock h.parties.server.server.clock (h.watch.leads p) = near h.parties h.watch J b in
        let n' : Near (h'.parties.clients p).state.holder.clock h'.parties.server.server.clock (h'.watch.leads p) = near h'.parties h'.watch J' b' in
        let on : h' ≡ reached between rest h = reached-on before between rest beginning in
        let g : (d : Lead) × ((reached between rest h).watch.leads p ≡ Some d) × Wider n.lead d = grown p between rest h s n.lead n.noted in
        let z : g.0 ≡ n'.lead = same_Some _ _ (sym g.1 ∙ ap (λ (y : Play). y.watch.leads p) (sym on) ∙ n'.noted) in
        let wide : Wider n.lead n'.lead = subst (λ (d : Lead). Wider n.lead d) z g.2 in
        let slim : n'.lead.most ≤ n'.lead.least + k.skew = J'.narrow p p< (ap is_some e) n'.lead n'.noted in
        let same : m ≡ k =
        settings_so (after all beginning).watch.settings m
        (ap (λ (l : List Event). (after l beginning).watch.settings) (sym (append_assoc before between rest)) ∙ after-reached (before ++ between) rest beginning m e) in
        let sk : m.skew ≡ k.skew = ap (λ (y : model.Settings). y.skew) same in (
          omega (arith, n.at.0, n.at.1, n'.at.0, n'.at.1, wide.least, wide.most, slim, sk),
          omega (arith, n.at.0, n.at.1, n'.at.0, n'.at.1, wide.least, wide.most, slim, sk),
        )

pub clocks_agree : ClocksAgree
clocks_agree before between rest i quiet out out' p p< b b' s m e = within-skew before between rest i quiet out out' p p< b b' s m e
