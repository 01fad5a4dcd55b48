use Rattle.std.proofs.Common.{ℕ, List, [], ◌∷◌, ◌++◌, vec_items, ap, ◌∙◌, append_assoc}
use Rattle.system.specs.declared.line.Line.{Line}
use Rattle.system.specs.declared.line.Line.TheVariants.{Tick}
use Rattle.system.specs.Report.{user_lines}
use Rattle.replay.specs.Parties.{parties_of}
use Rattle.replay.proofs.run.Run.put_use.Goals as goal

pub returns : goal.returns
returns c =
    c.in_ok-put_users.ensures
    ∙ ap (λ (l : List Line). l ++ user_lines (parties_of c.args.self.now.parties) 0 65) c.in_ok-push.ensures.items
    ∙ append_assoc (vec_items c.args.out.now) (Tick c.ticks.result ∷ []) (user_lines (parties_of c.args.self.now.parties) 0 65)
    ∙ ap (λ (n : ℕ). vec_items c.args.out.now ++ (Tick n ∷ user_lines (parties_of c.args.self.now.parties) 0 65)) (c.ticks.ensures ∙ c.clock.ensures)
