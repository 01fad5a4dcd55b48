use Rattle.std.proofs.Common.{◌≡◌, ◌++◌, drop, vec_items}
use Rattle.system.specs.Report.{fault_lines}
use Rattle.replay.proofs.run.put_faults.Given as goal

-- what is out already and what is left make the whole
abbrev pub invariant-loop-message : goal.invariant-loop-message
invariant-loop-message l = vec_items l.out ++ fault_lines l.listener (drop l.message-index l.said) ≡ vec_items l.initial.out ++ fault_lines l.listener l.said
