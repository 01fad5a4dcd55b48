use Rattle.client.specs.Of.{client_of}
use Rattle.std.proofs.Common.{vec_items}
use Rattle.box_.specs.Running.{ran_one}
use Rattle.box_.proofs.shell.ShellHearer.hear.Goals as goal

pub returns : goal.returns
returns c =
    ran_one (client_of c.args.self.now.client) (client_of c.hear_one.new.self.client) (vec_items c.args.self.now.out.bytes) (vec_items c.hear_one.new.self.out.bytes) c.args.bytes.now c.hear_one.result c.hear_one.ensures
