use Rattle.std.proofs.Common.{ℕ, ◌≡◌, Ok, Err, Option, sym, ap, ◌∙◌}
use Rattle.std.proofs.lemmas.Result.{err_from_is_err_and}
use Rattle.std.specs.Option.{option_map}
use Rattle.lease.specs.Settings as model
use Rattle.wire.specs.declared.reader.Reader.TheVariants as reader
use Rattle.wire.specs.Decode.{decoded}
use Rattle.server.specs.Of.{state_of}
use Rattle.server.specs.Server.{size, understood}
use Rattle.server.proofs.Hearing.{heard_err, heard_ok, memory_ok, pool-size}
use Rattle.server.proofs.server.Server.answer.Goals as goal

pub returns-in_err-message-clause-step : goal.returns-in_err-message-clause-step
returns-in_err-message-clause-step c =
    let e : understood c.args.bytes.now (state_of c.args.self.now) ≡ Err c.in_err-message.field-0.0 =
    sym (c.in_err-message.ensures.value ∙ ap (λ (n : Option ℕ). decoded reader.Server n c.args.bytes.now) (pool-size c.settings.result ∙ ap (λ (o : Option model.Settings). option_map size o) c.settings.ensures)) in
    let p = err_from_is_err_and c.from_residual.result c.from_residual.ensures.1 in
    rw (p.1, p.2) (heard_err c.args.bytes.now (state_of c.args.self.now) c.in_err-message.field-0.0 c.args.self.now.journal e)

pub returns-clause-step : goal.returns-clause-step
returns-clause-step c =
    let e : understood c.args.bytes.now (state_of c.args.self.now) ≡ Ok c.in_ok-message.message =
    sym (c.in_ok-message.ensures.value ∙ ap (λ (n : Option ℕ). decoded reader.Server n c.args.bytes.now) (pool-size c.settings.result ∙ ap (λ (o : Option model.Settings). option_map size o) c.settings.ensures)) in
    heard_ok c.args.bytes.now (state_of c.args.self.now) c.in_ok-message.message c.receive.result c.args.self.now.journal c.receive.new.self.journal (state_of c.receive.new.self) e c.receive.ensures.step

pub returns-clause-memory : goal.returns-clause-memory
returns-clause-memory c =
    let e : understood c.args.bytes.now (state_of c.args.self.now) ≡ Ok c.in_ok-message.message =
    sym (c.in_ok-message.ensures.value ∙ ap (λ (n : Option ℕ). decoded reader.Server n c.args.bytes.now) (pool-size c.settings.result ∙ ap (λ (o : Option model.Settings). option_map size o) c.settings.ensures)) in
    memory_ok c.args.bytes.now (state_of c.args.self.now) c.in_ok-message.message c.receive.result e c.receive.ensures.memory
