use Rattle.std.proofs.Common.{◌≡◌, drop, Ok}
use Rattle.text.specs.Pieces.{words}
use Rattle.text.specs.Speech.{figures_at}
use Rattle.text.proofs.Figures.{Held, figures_on}
use Rattle.text.proofs.speech.Rest.figures.Given as goal

abbrev pub invariant-loop-i : goal.invariant-loop-i
invariant-loop-i l =
    (figures_on l.i l.self.place (words l.self.line.now) (drop l.i l.fields) (Ok l.figures) ≡ figures_at l.fn.kind l.self.place (words l.self.line.now)) × Held l.fields l.figures l.i
