use Rattle.std.proofs.Common.{List, ◌++◌, map, reverse, sym, ap, ◌∙◌, rules}
use Rattle.std.proofs.lemmas.Iterator.Adapters.{YieldsList-from_rev_slice}
use Rattle.std.proofs.lemmas.Iterator.Consumers.{YieldsList-end}
use Rattle.std.proofs.lemmas.List.{map_push, reverse-reverse}
use Rattle.wire.specs.declared.message.Message.{Message}
use Rattle.seen.specs.declared.stamp.Stamp.{Stamp}
use Rattle.seen.specs.Seen.{stamps_of}
use Rattle.replay.specs.Watch.{stamps_in}
use Rattle.replay.proofs.Stamps.{noted_back, stamps_none}
use Rattle.replay.proofs.watch_steps.note_sent.Goals as goal

pub loop-message-init : goal.loop-message-init
loop-message-init c = ap (λ (l : List Stamp). l ++ stamps_of c.args.sent.now) (sym (stamps_none c.args.speaker))

pub loop-message-preserved : goal.loop-message-preserved
loop-message-preserved c =
    let walked = map (λ m. m.now) c.loop-message.yielded in
    noted_back c.args.speaker walked c.in-Some.message.now (stamps_of c.loop-message.sent) (stamps_of c.note_stamp.new.sent) (stamps_of c.args.sent.now) c.loop-message.invariant
    (c.in_ok-note_stamp.ensures ∙ ap (λ (l : List Stamp). l ++ stamps_of c.loop-message.sent) c.stamp_in.ensures)
    ∙ ap (λ (l : List Message). stamps_in c.args.speaker (reverse l) ++ stamps_of c.args.sent.now) (sym (map_push (λ m. m.now) c.loop-message.yielded c.in-Some.message))

pub returns : goal.returns
returns c =
    let road = YieldsList-from_rev_slice c.args.said.now (search rules) in
    let all = (YieldsList-end road c.loop-message.yielded _ c.loop-message.yielded_by _ _ c.in-None.is c.next.ensures.steps).0 in
    c.loop-message.invariant ∙ ap (λ (l : List Message). stamps_in c.args.speaker l ++ stamps_of c.args.sent.now) (ap reverse all ∙ reverse-reverse c.args.said.now)
