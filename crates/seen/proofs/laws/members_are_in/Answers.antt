use Rattle.seen.proofs.Members.{members_are_in}
use Rattle.seen.proofs.laws.members_are_in.Goals as goal

pub returns : goal.returns
returns c = members_are_in
