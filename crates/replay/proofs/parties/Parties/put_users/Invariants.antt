use Rattle.std.proofs.Common.{◌≡◌, ◌-◌, ◌++◌, vec_items}
use Rattle.system.specs.Report.{user_lines}
use Rattle.replay.specs.Parties.{parties_of}
use Rattle.replay.proofs.parties.Parties.put_users.Given as goal

-- what is out already and what is left make the whole
abbrev pub invariant-loop-place : goal.invariant-loop-place
invariant-loop-place l = vec_items l.out ++ user_lines (parties_of l.self) l.place (65 - l.place) ≡ vec_items l.initial.out ++ user_lines (parties_of l.self) 0 65
