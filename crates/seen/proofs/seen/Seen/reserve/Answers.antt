use Rattle.std.proofs.Common.{List, ap, sym, ◌∙◌}
use Rattle.seen.specs.declared.stamp.Stamp.{Stamp}
use Rattle.seen.specs.Stamp.{member}
use Rattle.seen.proofs.seen.Seen.reserve.Goals as goal

pub invariant_of-self-2 : goal.invariant_of-self-2
invariant_of-self-2 c = record { same = λ x. c.reserve-2.ensures.keys.2 x ∙ c.args.self.now.same x ∙ ap (λ (xs : List Stamp). member x xs) (sym c.reserve.ensures.items) }
