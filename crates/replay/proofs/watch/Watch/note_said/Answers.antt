use Rattle.std.specs.Option.{option_map}
use Rattle.lease.specs.Of.{settings_of}
use Rattle.replay.specs.Watch.{grants_of, leads_of, nonces_of, requests_of}
use Rattle.replay.proofs.Watches.{said_by_client, said_by_server}
use Rattle.replay.proofs.watch.Watch.note_said.Goals as goal

pub returns-in-Server : goal.returns-in-Server
returns-in-Server c =
    let w = c.args.self.now in
    said_by_server c.args.said.now c.note_sent.result c.args.speaker w.grants c.note_sent.new.sent (requests_of w.requests) (grants_of w.grants) (nonces_of w.nonces) (option_map settings_of w.settings) (leads_of w.leads) c.in-Server.is c.note_sent.ensures

pub returns-in-Client : goal.returns-in-Client
returns-in-Client c =
    let w = c.args.self.now in
    said_by_client c.args.said.now c.note_sent-in-Client.result c.args.speaker w.requests c.note_sent-in-Client.new.sent (requests_of w.requests) (grants_of w.grants) (nonces_of w.nonces) (option_map settings_of w.settings) (leads_of w.leads)
    c.in-Client.field-0 c.in-Client.is c.note_sent-in-Client.ensures
