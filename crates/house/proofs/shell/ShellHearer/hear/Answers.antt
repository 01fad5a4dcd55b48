use Rattle.house.specs.Running.{ran_one}
use Rattle.house.proofs.shell.ShellHearer.hear.Goals as goal

pub returns : goal.returns
returns g c =
    ran_one g.O.Outside.did c.args.self.now.server c.hear_one.new.self.server c.args.self.now.outside c.hear_one.new.self.outside c.args.bytes.now c.hear_one.result c.hear_one.ensures
