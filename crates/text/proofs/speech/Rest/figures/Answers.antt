use Rattle.std.proofs.Common.{List, Ok, ap, ◌∙◌, subst, arith}
use Rattle.text.specs.declared.field.Field.{Field}
use Rattle.text.specs.Pieces.{words}
use Rattle.text.specs.Sentence.{Fitting, figures}
use Rattle.text.proofs.Figures.{figures_on, fitting, stepwise}
use Rattle.text.proofs.speech.Rest.figures.Goals as goal

pub loop-i-init : goal.loop-i-init
loop-i-init c = (
  ap (λ (fs : List Field). figures_on 0 c.args.self.now.place (words c.args.self.now.line.now) fs (Ok (figures 0 0 0))) c.fields-fields.ensures.value
      ∙ stepwise c.args.kind c.args.self.now.place (words c.args.self.now.line.now),
  λ k x l. absurd (omega (arith, l)),
)

pub returns-clause-within : goal.returns-clause-within
returns-clause-within c =
    subst (λ (fs : List Field). Fitting fs c.loop-i.figures) c.fields-fields.ensures.value
    (fitting c.fields-fields.result.now c.loop-i.figures c.loop-i.i c.loop-i-test.false c.loop-i.invariant.1)
