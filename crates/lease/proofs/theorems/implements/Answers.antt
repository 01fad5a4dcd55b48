use Rattle.lease.proofs.Fulfils.{server_implements, client_implements}
use Rattle.lease.proofs.theorems.implements.Goals as goal

pub returns : goal.returns
returns c = record { server = server_implements; client = client_implements }
