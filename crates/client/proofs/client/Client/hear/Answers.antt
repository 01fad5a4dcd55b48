use Rattle.std.proofs.Common.{◌≡◌, ℕ, List, [], ◌∷◌, ◌++◌, Err, vec_items, Option, sym, refl, ap, ◌∙◌}
use Rattle.std.specs.Option.{option_map}
use Rattle.wire.specs.declared.message.Message.{Message}
use Rattle.wire.specs.declared.message.Message.TheVariants.{Fault}
use Rattle.wire.specs.declared.reader.Reader.TheVariants as reader
use Rattle.wire.specs.Decode.{Answer, decoded}
use Rattle.client.specs.Of.{state_of, client_of}
use Rattle.client.specs.State.{does}
use Rattle.client.specs.Client.{Client, Step, goes_on, answers, size, hears}
use Rattle.client.proofs.Hearing.{pool-size, heard}
use Rattle.client.proofs.Steps.{laws, laws_heard}
use Rattle.client.proofs.client.Client.hear.Goals as goal

pub returns-in_err-reserve-clause-laws : goal.returns-in_err-reserve-clause-laws
returns-in_err-reserve-clause-laws c = laws c.args.bytes.now (client_of c.args.self.now)

pub returns-in_err-queue-in-Ok-clause-laws : goal.returns-in_err-queue-in-Ok-clause-laws
returns-in_err-queue-in-Ok-clause-laws c = laws c.args.bytes.now (client_of c.args.self.now)

pub returns-in_ok-queue-in-Ok : goal.returns-in_ok-queue-in-Ok
returns-in_ok-queue-in-Ok c =
    let d : Client = client_of c.queue.new.self in
    let bs : List ℕ = c.args.bytes.now in
    let e : goes_on d d.nonces (does c.in-Ok.message d.state) ≡ hears bs (client_of c.args.self.now) =
    heard (client_of c.args.self.now) d c.in-Ok.message bs (ap state_of c.in_ok-queue-in-Ok.ensures.state) c.in_ok-queue-in-Ok.ensures.nonces
    (ap (λ (p : Option ℕ). decoded reader.Client p bs) (sym (pool-size c.args.self.now.state.settings)) ∙ sym c.decode.ensures.value ∙ c.in-Ok.is)
    in
    record {
      client = c.answer.ensures.client ∙ ap (λ (p : Step). p.client) e;
      out = c.answer.ensures.out ∙ ap (λ (l : List Message). l ++ (goes_on d d.nonces (does c.in-Ok.message d.state)).says) c.reserve.ensures.items
          ∙ ap (λ (p : Step). vec_items c.args.out.now ++ p.says) e;
      succeeds = λ room nonce. refl;
      laws = laws bs (client_of c.args.self.now);
      heard = laws_heard bs (client_of c.args.self.now);
    }

pub returns-in-Err : goal.returns-in-Err
unfolding hears
returns-in-Err c =
    let bs : List ℕ = c.args.bytes.now in
    let e : decoded reader.Client (option_map size (client_of c.args.self.now).state.settings) bs ≡ Err c.in-Err.malformed =
    ap (λ (p : Option ℕ). decoded reader.Client p bs) (sym (pool-size c.args.self.now.state.settings)) ∙ sym c.decode.ensures.value ∙ c.in-Err.is
    in
    record {
      client = sym (ap (λ (a : Answer). (answers (client_of c.args.self.now) a).client) e);
      out = c.push_reserved.ensures.items ∙ ap (λ (l : List Message). l ++ (Fault c.in-Err.malformed ∷ [])) c.reserve.ensures.items
          ∙ sym (ap (λ (a : Answer). vec_items c.args.out.now ++ (answers (client_of c.args.self.now) a).says) e);
      succeeds = λ room nonce. refl;
      laws = laws bs (client_of c.args.self.now);
      heard = laws_heard bs (client_of c.args.self.now);
    }
