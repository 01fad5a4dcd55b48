use Rattle.std.proofs.Common.{◌≡◌, ◌++◌, vec_items, Err, Result, sym, ap, subst, rules}
use Rattle.lease.specs.World as world
use Rattle.lease.specs.Run as run
use Rattle.simulation.specs.declared.event.Stop.{Stop}
use Rattle.simulation.specs.Play.{world_of, settings_in, history, Played}
use Rattle.simulation.proofs.Steps.{reached-none, reached-more, reached_stop, world_end, alone}
use Rattle.simulation.proofs.simulation.Simulation.play.Goals as goal

pub loop-event-init : goal.loop-event-init
loop-event-init c = reached-none c.args.events.now c.args.self.now

pub loop-event-preserved : goal.loop-event-preserved
loop-event-preserved c =
    reached-more c.args.events.now c.loop-event.event-index _ c.args.self.now c.loop-event.self c.step.new.self _ c.loop-event-test.true c.loop-event.invariant c.in_ok-step.ensures

pub returns-in_err-step : goal.returns-in_err-step
returns-in_err-step c =
    let r : _ = reached_stop c.args.events.now c.loop-event.event-index _ c.args.self.now c.loop-event.self c.step.new.self c.in_err-step.field-0.0
    c.loop-event-test.true c.loop-event.invariant c.in_err-step.ensures in
    let e : c.from_residual.result ≡ Err c.in_err-step.field-0.0 = search rules in
    record {
      played = λ past w. subst (λ (x : Result Unit Stop). Played x c.args.events.now past c.args.self.now c.step.new.self) (sym e) (r.0 past w);
      settings = r.1;
      clients = r.2;
    }

pub returns : goal.returns
returns c =
    record {
      played = λ past e.
          let w : world_of c.loop-event.self ≡ run.world (settings_in c.args.self.now) (history c.args.events.now ++ past) =
          world_end (settings_in c.args.self.now) c.args.events.now c.loop-event.event-index past _ c.loop-event-test.false (c.loop-event.invariant.0 past e) in
          (w, λ ag. alone (settings_in c.args.self.now) _ (vec_items c.loop-event.self.clients) (ap (λ (x : world.World). x.clients) w) ag);
      settings = c.loop-event.invariant.1;
      clients = c.loop-event.invariant.2;
    }
