use Rattle.std.proofs.Common.{ap, ◌∙◌, rules}
use Rattle.seen.specs.declared.stamp.Stamp.{Stamp}
use Rattle.seen.specs.Seen.{stamps_of}
use Rattle.seen.specs.Stamp.{member}
use Rattle.replay.specs.Watch.{watch_of}
use Rattle.replay.proofs.Stamps.{grant_member, request_member, unsent_grant_is, unsent_request_is}
use Rattle.replay.proofs.watch.Watch.is_unsent.Goals as goal

pub returns-in-Server-Some-Request : goal.returns-in-Server-Some-Request
returns-in-Server-Some-Request c =
    unsent_request_is c.args.hearing.now.party c.in-Server-Some-Request.request c.args.hearing.now.heard c.args.hearing.now.bytes.now c.contains.result (watch_of c.args.self.now) c.in-Server-Some-Request.is-0 (search rules) c.args.hearing.now.understood
    (c.contains.ensures ∙ ap (λ (s : Stamp). member s (stamps_of c.args.self.now.requests)) c.of_request.ensures ∙ request_member c.in-Server-Some-Request.request (stamps_of c.args.self.now.requests))

pub returns-in-Client-Some-Grant : goal.returns-in-Client-Some-Grant
returns-in-Client-Some-Grant c =
    unsent_grant_is c.args.hearing.now.party _ c.in-Client-Some-Grant.grant c.args.hearing.now.heard c.args.hearing.now.bytes.now c.contains-in-Client-Some-Grant.result (watch_of c.args.self.now) c.in-Client-Some-Grant.is-0 (search rules) c.args.hearing.now.understood
    (c.contains-in-Client-Some-Grant.ensures ∙ ap (λ (s : Stamp). member s (stamps_of c.args.self.now.grants)) c.of_grant.ensures ∙ grant_member c.in-Client-Some-Grant.grant (stamps_of c.args.self.now.grants))
