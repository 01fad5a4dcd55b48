use Rattle.std.proofs.Common.{vec_items, arith}
use Rattle.script.proofs.Fronts.{front_none, front_more}
use Rattle.script.proofs.reading.append_entries.Goals as goal

pub loop-rest-init : goal.loop-rest-init
loop-rest-init c = record { front = front_none c.args.bytes.now (vec_items c.args.entries.now) c.requires; room = omega arith }

pub loop-rest-preserved : goal.loop-rest-preserved
loop-rest-preserved c =
    record {
      front = front_more c.args.bytes.now c.loop-rest.rest.now c.in-Some.after.now (vec_items c.loop-rest.entries) (vec_items c.push.new.self) c.in-Some.entry
          c.in_ok-push.ensures.items c.loop-rest.invariant.front c.in-Some.ensures;
      room = omega (arith, c.loop-rest.invariant.room, c.push.ensures.capacity);
    }
