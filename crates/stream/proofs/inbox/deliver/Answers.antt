use Rattle.std.proofs.lemmas.Result.{MatchResult-from_err}
use Rattle.stream.proofs.Wholes.{handed-more, fails}
use Rattle.stream.proofs.inbox.deliver.Goals as goal

pub loop-bytes-preserved : goal.loop-bytes-preserved
loop-bytes-preserved g c =
    handed-more g.H.Hearer.went g.met.H.Hearer.goes c.args.stream.now c.args.to.now c.loop-bytes.to c.hear.new.self
    c.loop-bytes.rest.now c.in-Message.bytes.now c.in-Message.after.now c.loop-bytes.invariant c.in-Message.ensures.reads.splits c.in_ok-hear.ensures

pub returns-in_err-hear : goal.returns-in_err-hear
returns-in_err-hear g c =
    MatchResult-from_err c.from_residual.result _ _ c.from_residual.ensures.0
    (λ _. fails g.H.Hearer.went g.H.Hearer.stopped c.args.stream.now c.args.to.now c.loop-bytes.to c.hear.new.self
    c.loop-bytes.rest.now c.in-Message.bytes.now c.in-Message.after.now c.loop-bytes.invariant c.in-Message.ensures.reads.splits c.in_err-hear.ensures)
