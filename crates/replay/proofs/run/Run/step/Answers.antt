use Rattle.std.proofs.Common.{◌≡◌, List, ◌++◌, vec_items, ap, ◌∙◌, rules}
use Rattle.std.specs.Option.{option_map}
use Rattle.wire.specs.declared.message.Message.{Message}
use Rattle.system.specs.declared.line.Line.TheVariants.{Broken}
use Rattle.system.specs.Watch.{watched}
use Rattle.system.specs.Report.{fault_lines}
use Rattle.replay.specs.Of.{run_of}
use Rattle.replay.specs.Hearing.{event_in}
use Rattle.replay.specs.Parties.{parties_of}
use Rattle.replay.specs.Watch.{is_judged, watch_of}
use Rattle.replay.proofs.Hearings.{step-heard}
use Rattle.replay.proofs.run.Run.step.Goals as goal

pub returns : goal.returns
returns c =
    let line : c.map-broken.result ≡ option_map Broken c.broken.result = search rules in
    step-heard (is_judged c.args.moment) c.args.hearing.now.party c.args.hearing.now.bytes.now (run_of c.args.self.now) (parties_of c.hear.new.self) (vec_items c.hear.new.said) (watch_of c.note.new.self)
    c.foresee-foreseen.result c.broken.result c.map-broken.result c.shared.result c.put_first.new.came c.put_first-2.new.came
    (vec_items c.args.out.now) (vec_items c.put_faults.new.out) (vec_items c.put_first.new.out) (vec_items c.put_first-2.new.out) (vec_items c.report_tick.new.out)
    c.foresee-foreseen.ensures c.in_ok-hear.ensures.0 c.in_ok-hear.ensures.1
    (c.in_ok-note.ensures ∙ ap (λ (l : List Message). watched (is_judged c.args.moment) (event_in c.args.hearing.now) (record { parties = parties_of c.hear.new.self; said = l }) (watch_of c.args.self.now.watch)) c.deref.ensures.value)
    c.broken.ensures line
    (c.in_ok-put_faults.ensures ∙ ap (λ (l : List Message). vec_items c.args.out.now ++ fault_lines c.args.hearing.now.party l) c.deref-2.ensures.value)
    c.in_ok-put_first.ensures c.shared.ensures c.in_ok-put_first-2.ensures c.in_ok-report_tick.ensures
