use Rattle.std.proofs.Common.{◌≡◌, ◌++◌, append-nil, get_or, vec_items, rules}
use Rattle.wire.specs.declared.message.Message.TheVariants.{Request}
use Rattle.system.specs.Watch.{fault_in}
use Rattle.system.specs.Report.{fault_line, fault_lines}
use Rattle.replay.proofs.Passes.{faults-none, faults-more, no_fault, pass_turn, pass_end}
use Rattle.replay.proofs.run.put_faults.Goals as goal
use Rattle.replay.proofs.run.put_faults.Goals.{in-Fault+in_ok-push, in_default}

pub loop-message-preserved : goal.loop-message-preserved
loop-message-preserved c =
    let here = get_or c.args.said.now c.loop-message.message-index (Request (record { client = 0; nonce = 0; preferred = 0 })) in
    let e : vec_items c.match-message.out ≡ vec_items c.loop-message.out ++ fault_line c.args.listener (fault_in here) =
    elim c.match-message.branch [ in-Fault+in_ok-push w ↦ search rules | in_default w ↦ rw (no_fault c.args.listener here (λ f k. w.in_default.not-Fault f k)) (search (rules, append-nil)) ] in
    pass_turn (fault_lines c.args.listener) (λ m. fault_line c.args.listener (fault_in m)) (faults-none c.args.listener) (faults-more c.args.listener) c.args.said.now c.loop-message.message-index (Request (record { client = 0; nonce = 0; preferred = 0 })) (vec_items c.loop-message.out)
    (vec_items c.match-message.out) _ c.loop-message-test.true c.loop-message.invariant e

pub returns : goal.returns
returns c =
    pass_end (fault_lines c.args.listener) (λ m. fault_line c.args.listener (fault_in m)) (faults-none c.args.listener) (faults-more c.args.listener) c.args.said.now c.loop-message.message-index (vec_items c.loop-message.out) _
    c.loop-message-test.false c.loop-message.invariant
