use Rattle.std.proofs.Common.{◌≡◌, List, ◌++◌, append-nil, length, get_or, vec_items, ap, ◌∙◌, rules, arith}
use Rattle.client.specs.declared.client.Client.{Client}
use Rattle.client.specs.State.{in_use}
use Rattle.system.specs.Report.{user_line}
use Rattle.replay.specs.Parties.{clients_of, parties_of}
use Rattle.replay.proofs.Places.{client-read}
use Rattle.replay.proofs.Users.{users_turn, users_end}
use Rattle.replay.proofs.parties.Parties.put_users.Goals as goal
use Rattle.replay.proofs.parties.Parties.put_users.Goals.{in-Some+in_ok-push, in_default}

pub loop-place-preserved : goal.loop-place-preserved
loop-place-preserved c =
    let cs = vec_items c.args.self.now.clients in
    let read = client-read cs c.loop-place.place c.client-item.result (omega (arith, ap (λ (l : List Client). length l) c.deref-client-items.ensures.value))
    (c.client-item.is ∙ ap (λ (l : List Client). get_or l c.loop-place.place c.client-item.result) c.deref-client-items.ensures.value) in
    let e : vec_items c.match-in_use.out ≡ vec_items c.loop-place.out ++ user_line c.loop-place.place (in_use (clients_of cs c.loop-place.place).state) =
    elim c.match-in_use.branch [ in-Some+in_ok-push w ↦ rw read (search rules) | in_default w ↦ rw read (search (rules, append-nil)) ] in
    users_turn (parties_of c.args.self.now) c.loop-place.place (vec_items c.loop-place.out) (vec_items c.match-in_use.out) _ (omega (arith, c.deref-client-items.ensures.len, c.args.self.now.sized)) c.loop-place.invariant e

pub returns : goal.returns
returns c = users_end (parties_of c.args.self.now) c.loop-place.place (vec_items c.loop-place.out) _ (omega (arith, c.deref-client-items.ensures.len, c.args.self.now.sized)) c.loop-place.invariant
