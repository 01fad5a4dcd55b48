use Rattle.std.proofs.Common.{◌≡◌, vec_items, vec_len}
use Rattle.replay.proofs.Places.{AllNew}
use Rattle.replay.proofs.parties_steps.new_clients.Given as goal

abbrev pub invariant-loop : goal.invariant-loop
invariant-loop l = (vec_len l.clients ≡ l.counter) × AllNew (vec_items l.clients)
