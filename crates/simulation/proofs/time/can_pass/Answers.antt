use Rattle.std.proofs.Common.{rules, ◌≡◌, ℕ, ◌+◌, ◌^◌, ◌<◌, Bool, true, List, length, slice_index, get_or, ap, ◌∙◌, subst, arith}
use borrow.Author.Tests.{tests}
use Rattle.std.specs.Bool.{MatchBool, ⊤}
use Rattle.std.specs.List.{AllWithin, HoldsAt, enumerate_from}
use Rattle.std.proofs.lemmas.Iterator.{YieldsList-from_slice, cases_from_all}
use Rattle.std.proofs.lemmas.Iterator.Consumers.{YieldsList-from_enumerate}
use Rattle.std.proofs.lemmas.List.FromFn.{length-enumerate_from, get_or-enumerate_from}
use Rattle.lease.specs.declared.holder.Holder.{Holder}
use Rattle.lease.specs.World as world
use Rattle.simulation.proofs.Parties.{can_pass, at_each}
use Rattle.simulation.proofs.time.can_pass.Goals as goal

pub returns-clause-yes : goal.returns-clause-yes
returns-clause-yes c = λ e k h.
    let xs : List Holder = c.args.clients.now in
    let Goes : ℕ × Holder → Type 0 = λ p. p.1.up ≡ true → p.1.clock.ticks + slice_index c.args.ticks.now p.0 < 2 ^ 63 in
    let Else : Type 0 = (i : ℕ) × (i < length (enumerate_from 0 xs)) × HoldsAt (λ p. ⊤) (enumerate_from 0 xs) i in
    let all : MatchBool c.all.result (AllWithin Goes (enumerate_from 0 xs) 0 (length (enumerate_from 0 xs))) Else =
    cases_from_all _ _ _ Goes (λ p. ⊤) c.all.ensures.ran (YieldsList-from_enumerate (YieldsList-from_slice xs cc) cc) (λ x q w. search (rules, tests, can_pass)) (λ x q w. tt) in
    let within : AllWithin Goes (enumerate_from 0 xs) 0 (length (enumerate_from 0 xs)) = subst (λ (b : Bool). MatchBool b (AllWithin Goes (enumerate_from 0 xs) 0 (length (enumerate_from 0 xs))) Else) e all in
    at_each xs k h (λ (x : world.Client). x.up ≡ true → x.clock + slice_index c.args.ticks.now k < 2 ^ 63) (λ d.
    subst Goes (get_or-enumerate_from 0 xs k (0, d) h ∙ ap (λ (n : ℕ). (n, get_or xs k d)) (let z : 0 + k ≡ k = omega arith in z)) (within k (0, d) (omega arith) (omega (arith, length-enumerate_from 0 xs))))
