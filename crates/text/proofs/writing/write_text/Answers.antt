use Rattle.std.proofs.Common.{◌≡◌, ℕ, ◌-◌, ◌<◌, List, [], ◌++◌, length, None, Ok, Err, Result, MatchResult, Vec, Global, vec_items, sym, subst, ap, ◌∙◌, arith, rules}
use Rattle.std.proofs.lemmas.List.{nil_from_length}
use Rattle.std.proofs.lemmas.Bool.{eqb-true}
use Rattle.text.specs.declared.fault.WriteFault.{WriteFault}
use Rattle.text.specs.declared.fault.WriteFault.TheVariants.{Entry}
use Rattle.text.specs.Entries.{entry, entries, first_entry, first_of, whole}
use Rattle.text.specs.Write.{Answer, Refuses, run_text, writing, write_text}
use Rattle.text.proofs.Digits.{positive}
use Rattle.text.proofs.RoundTrip.{round_trip}
use Rattle.text.proofs.Splitting.{rest_less}
use Rattle.text.proofs.Writings.{entry-written, entry_refused, all-written}
use Rattle.text.proofs.Failing.{refused_by, kept_of}
use Rattle.text.proofs.writing.write_text.Goals as goal

pub loop-rest-init : goal.loop-rest-init
unfolding write_text
loop-rest-init c =
    (ap (λ (o : List ℕ). writing c.args.form (length c.args.bytes.now) o None (entries c.args.form c.args.bytes.now)) c.new-out.ensures.items, omega arith)

pub returns-in_err-entry-clause-text : goal.returns-in_err-entry-clause-text
returns-in_err-entry-clause-text c =
    let (b, is, post) = refused_by c.next_entry.result c.in_err-entry.field-0.0 _ c.in_err-entry.ensures.cases in
    let fault : c.in_err-entry.field-0.0 ≡ Entry (length c.args.bytes.now - length c.loop-rest.rest.now) b = search (rules, post) in
    let same : c.from_residual.result ≡ Err c.in_err-entry.field-0.0 = search rules in
    let all : write_text c.args.form c.args.bytes.now ≡ Err (Entry (length c.args.bytes.now - length c.loop-rest.rest.now) b) =
    sym c.loop-rest.invariant.0
    ∙ entry_refused c.args.form (length c.args.bytes.now) (vec_items c.loop-rest.out) c.loop-rest.rest.now c.loop-rest.run b (positive _ c.loop-rest-test.ensures) (ap first_of (sym is) ∙ c.next_entry.ensures)
    in
    subst (λ (r : Result (Vec ℕ Global) WriteFault). MatchResult r (λ v. write_text c.args.form c.args.bytes.now ≡ Ok (vec_items v)) (λ e. Refuses e (write_text c.args.form c.args.bytes.now))) (sym (same ∙ ap Err fault)) all

pub loop-rest-preserved : goal.loop-rest-preserved
loop-rest-preserved c =
    let rest = c.loop-rest.rest.now in
    let e = c.in_ok-entry.entry in
    let some : 0 < length c.loop-rest.rest.now = positive _ c.loop-rest-test.ensures in
    let was : c.next_entry.result ≡ Ok c.in_ok-entry.entry = kept_of _ c.next_entry.result c.in_ok-entry.entry c.in_ok-entry.ensures.cases in
    let first : whole (entry e.who e.message.now) e.rest.now ≡ first_entry c.args.form rest = ap first_of (sym was) ∙ c.next_entry.ensures in
    let less : length e.rest.now < length rest = rest_less c.args.form rest _ e.rest.now some first in (
      sym (entry-written c.args.form (length c.args.bytes.now) (vec_items c.loop-rest.out) (vec_items c.put.new.out) rest e.rest.now c.loop-rest.run c.in_ok-run.run' (entry e.who e.message.now) some first c.in_ok-run.ensures.text c.in_ok-run.ensures.run)
          ∙ c.loop-rest.invariant.0,
      omega (arith, c.loop-rest.invariant.1, less),
    )

pub returns-clause-text : goal.returns-clause-text
returns-clause-text c =
    let nil : c.loop-rest.rest.now ≡ [] = nil_from_length c.loop-rest.rest.now (eqb-true _ _ (sym c.loop-rest-test.ensures)) in
    let last : ◌≡◌ {A = Answer} (Ok (vec_items c.loop-rest.out ++ run_text c.loop-rest.run)) (Ok (vec_items c.write_run.new.out)) = ap (λ (o : List ℕ). Ok o) (sym c.in_ok-write_run.ensures) in
    sym c.loop-rest.invariant.0
    ∙ (all-written c.args.form (length c.args.bytes.now) (vec_items c.loop-rest.out) c.loop-rest.rest.now c.loop-rest.run nil ∙ last)

pub returns-clause-back : goal.returns-clause-back
returns-clause-back c = round_trip c.args.form c.args.bytes.now (vec_items c.write_run.new.out) (λ i. (c.type_inv.bytes i).fits) (returns-clause-text c)
