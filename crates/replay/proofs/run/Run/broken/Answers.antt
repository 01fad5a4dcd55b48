use Rattle.std.proofs.Common.{◌≡◌, Bool, ◌||◌, List, vec_items, ap, ◌∙◌, rules}
use Rattle.std.specs.Bool.{then_some}
use Rattle.std.specs.Option.{option_or}
use Rattle.wire.specs.declared.message.Message.{Message}
use Rattle.system.specs.declared.line.Premise.TheVariants as premise
use Rattle.system.specs.Watch.{apart, differ, exhausts, knows, shares_number}
use Rattle.replay.specs.Hearing.{event_in}
use Rattle.replay.specs.Parties.{parties_of}
use Rattle.replay.specs.Watch.{watch_of}
use Rattle.replay.proofs.Hearings.{six, six_joined}
use Rattle.replay.proofs.run.Run.broken.Goals as goal
use Rattle.replay.proofs.run.Run.broken.Goals.{then-foreseen, else-foreseen}

pub returns : goal.returns
returns c =
    let m = c.args.foreseen.message in
    let n = c.args.foreseen.nonce in
    let v = watch_of c.args.self.now.watch in
    let e = event_in c.args.hearing.now in
    let number = c.shares_number-number.ensures in
    let settings : c.differ-settings.result ≡ differ v.settings (knows e (parties_of c.args.self.now.parties)) = c.differ-settings.ensures ∙ ap (λ o. differ v.settings o) c.settings.ensures in
    let count : c.exhausts-count.result ≡ exhausts (vec_items c.args.self.now.said) = c.exhausts-count.ensures ∙ ap (λ (l : List Message). exhausts l) c.deref.ensures.value in
    let clocks : c.if-foreseen.clocks ≡ (c.args.foreseen.clocks || apart v.settings v.leads) = elim c.if-foreseen.branch [ then-foreseen w ↦ search rules | else-foreseen w ↦ search rules ] in
    let joined : c.or-5.result ≡ option_or (option_or (option_or (option_or (option_or (then_some c.if-foreseen.clocks premise.Clocks) (then_some m premise.Message)) (then_some n premise.Nonce))
    (then_some c.shares_number-number.result premise.Number)) (then_some c.differ-settings.result premise.Settings)) (then_some c.exhausts-count.result premise.Count) = search rules in
    joined ∙ six_joined c.if-foreseen.clocks m n c.shares_number-number.result c.differ-settings.result c.exhausts-count.result
    ∙ ap (λ (b : Bool). six b m n c.shares_number-number.result c.differ-settings.result c.exhausts-count.result) clocks
    ∙ ap (λ (b : Bool). six (c.args.foreseen.clocks || apart v.settings v.leads) m n b c.differ-settings.result c.exhausts-count.result) number
    ∙ ap (λ (b : Bool). six (c.args.foreseen.clocks || apart v.settings v.leads) m n (shares_number e (parties_of c.args.self.now.parties)) b c.exhausts-count.result) settings
    ∙ ap (λ (b : Bool). six (c.args.foreseen.clocks || apart v.settings v.leads) m n (shares_number e (parties_of c.args.self.now.parties)) (differ v.settings (knows e (parties_of c.args.self.now.parties))) b) count
