-- Events one after the other: what is out already and what the rest will put out make the whole report.
-- Assumes nothing.
use Rattle.std.proofs.Common.{◌≡◌, ℕ, ◌-◌, ◌<◌, ◌≤◌, Bool, not, ◌&&◌, eqb, List, [], ◌∷◌, ◌++◌, map, length, get_or, take, drop, Ok, Err, MatchResult, Result, sym, refl, ap, ◌∙◌, subst, inr, append_assoc, append-nil, arith}
use Rattle.std.proofs.lemmas.List.{length-drop, take_all}
use Rattle.std.proofs.lemmas.Bool.{cond_both}
use Rattle.wire.specs.Read.{read}
use Rattle.script.specs.declared.entry.Entry.{Entry}
use Rattle.script.specs.Script.{Known, Part, Reads, part_of}
use Rattle.system.specs.declared.line.Line.{Line}
use Rattle.system.specs.Parties.{AllWithin, Event, ToClient, ToServer, Within}
use Rattle.system.specs.Watch.{is_tick, is_tick_in}
use Rattle.system.proofs.Promise.{names_no_two}
use Rattle.system.specs.Report.{Play, beginning, judged, lines, next, played, ticks_next}
use Rattle.replay.specs.Heard.{Heard, called_by}
use Rattle.replay.specs.declared.player.Stopped.{Stopped}
use Rattle.replay.specs.declared.player.Stopped.TheVariants.{NoMemory}
use Rattle.replay.specs.declared.simulation.Unheard.{Unheard}
use Rattle.replay.specs.Played.{Begun, Ended, event_of_part, events_in, events_of}

-- ticks
pub ticks_by : (who : ℕ) (bs : List ℕ) → is_tick (called_by who bs) ≡ is_tick_in (read bs)
ticks_by who bs = cond_both (eqb who 0) (ToServer bs) (ToClient who bs) (λ e. is_tick e ≡ is_tick_in (read bs)) (λ e. refl) (λ e. refl)

-- one event more
played-more : (e : Event) (es : List Event) (h : Play) → played (e ∷ es) h ≡ lines (judged e es) e h ++ played es (next (judged e es) e h)
unfolding played
played-more e es h = refl

played-none : (h : Play) → played [] h ≡ []
unfolding played
played-none h = refl

heard-on : (b : Bool) (e : Event) (es : List Event) (h k : Play) (old new : List Line) → b ≡ judged e es → Heard b e h k old new → new ++ played es k ≡ old ++ played (e ∷ es) h
heard-on b e es h k old new j r =
    ap (λ (l : List Line). l ++ played es k) r.report ∙ append_assoc old (lines b e h) (played es k)
    ∙ ap (λ (p : Play). old ++ (lines b e h ++ played es p)) r.play
    ∙ ap (λ (c : Bool). old ++ (lines c e h ++ played es (next c e h))) j
    ∙ ap (λ (l : List Line). old ++ l) (sym (played-more e es h))

play-one : (e : Entry) (es : List Entry) (b : Bool) (h k : Play) (old new whole : List Line) → b ≡ judged (event_of_part (part_of e)) (events_in es) → Heard b (called_by e.who e.message.now) h k old new →
    old ++ played (events_in (e ∷ es)) h ≡ whole → new ++ played (events_in es) k ≡ whole
play-one e es b h k old new whole j r w = heard-on b (event_of_part (part_of e)) (events_in es) h k old new j r ∙ w

-- what stands behind the first entry
pub behind : (es : List Entry) → take (length es - 1) (drop 1 es) ≡ drop 1 es
behind es = take_all (length es - 1) (drop 1 es) (omega (arith, length-drop 1 es))

pub play_turn : (es after : List Entry) (d : Entry) (b : Bool) (h k : Play) (old new whole : List Line) → 1 ≤ length es → after ≡ drop 1 es → b ≡ judged (event_of_part (part_of (get_or es 0 d))) (events_in after) →
    Heard b (called_by (get_or es 0 d).who (get_or es 0 d).message.now) h k old new → old ++ played (events_in es) h ≡ whole → new ++ played (events_in after) k ≡ whole
play_turn [] after d b h k old new whole l a j r w = absurd (omega arith)
play_turn (e ∷ es) after d b h k old new whole l a j r w =
    ap (λ (xs : List Entry). new ++ played (events_in xs) k) a ∙ play-one e es b h k old new whole (j ∙ ap (λ (xs : List Entry). judged (event_of_part (part_of e)) (events_in xs)) a) r w

pub ticks_first : (es : List Entry) (d : Entry) → 1 ≤ length es → ticks_next (events_in es) ≡ is_tick_in (read (get_or es 0 d).message.now)
ticks_first [] d l = absurd (omega arith)
ticks_first (e ∷ es) d l = ticks_by e.who e.message.now

pub judged_is : (e : Entry) (after : List Entry) (b c : Bool) → b ≡ is_tick_in (read e.message.now) → c ≡ ticks_next (events_in after) → not (b && c) ≡ judged (event_of_part (part_of e)) (events_in after)
judged_is e after b c i j =
    ap (λ (x : Bool). not (x && c)) (i ∙ sym (ticks_by e.who e.message.now)) ∙ ap (λ (x : Bool). not (is_tick (called_by e.who e.message.now) && x)) j

pub play_end : (es : List Entry) (h : Play) (out whole : List Line) → length es < 1 → out ++ played (events_in es) h ≡ whole → out ≡ whole
play_end (e ∷ es) h out whole l w = absurd (omega arith)
play_end [] h out whole l w = sym (append-nil out) ∙ ap (λ (ls : List Line). out ++ ls) (sym (played-none h)) ∙ w

-- every part is of somebody that there is
pub within_all : (ps : List Part) → Known ps → AllWithin (events_of ps)
unfolding AllWithin
within_all [] k = tt
within_all (p ∷ ps) k = (cond_both (eqb p.who 0) (ToServer p.message) (ToClient p.who p.message) (λ e. Within e) (λ e. tt) (λ e. let s : p.who ≤ 64 = k.0.known in omega arith), within_all ps k.1)

-- how a script that was read and played ends
pub ended_is : (bytes : List ℕ) (es : List Entry) (old new : List Line) (h : Play) (r : Result Unit Unheard) (q : Result Unit Stopped) → Reads bytes (map part_of es) → h ≡ beginning →
    MatchResult r (λ _. new ≡ old ++ played (events_in es) h) (λ _. Begun (played (events_in es) h) old new) → MatchResult r (λ u. q ≡ Ok u) (λ _. q ≡ Err NoMemory) → Ended bytes old new q
ended_is bytes es old new h (Ok u) q reads start ran ends =
    let P : Result Unit Stopped → Type 0 = λ s. Ended bytes old new s in
    subst P (sym ends) (record {
      parts = map part_of es;
      reads = reads;
      appends = ran ∙ ap (λ (p : Play). old ++ played (events_in es) p) start;
      promise = λ k. names_no_two (events_in es) (within_all (map part_of es) reads.known) k;
    })
ended_is bytes es old new h (Err e) q reads start ran ends =
    let P : Result Unit Stopped → Type 0 = λ s. Ended bytes old new s in
    subst P (sym ends) (inr (record { parts = map part_of es; reads = reads; begins = record { rest = ran.rest; joins = ran.joins ∙ ap (λ (p : Play). old ++ played (events_in es) p) start } }))
