use Rattle.std.proofs.Common.{◌≡◌, replicate, vec_items, refl, ◌∙◌}
use Rattle.std.specs.List.{each_same}
use Rattle.journal.proofs.Blanks.{zeros-places, zeros-cursor, zeros-new}
use Rattle.journal.proofs.journal.Journal.blank.Goals as goal

zeros : (c : goal.After-journal_over) → vec_items c.journal_over.result.device ≡ replicate 8192 (replicate 28 0)
zeros c = c.journal_over.ensures.device ∙ c.in_ok-device.ensures.items_if_clones_equal (λ y e. each_same _ y e.whole)

pub returns-clause-zeros : goal.returns-clause-zeros
returns-clause-zeros c = (zeros-places c.journal_over.result 8192 c.journal_over.ensures.journal refl (zeros c), zeros-cursor c.journal_over.result 8192 c.journal_over.ensures.journal refl (zeros c))

pub returns-clause-new : goal.returns-clause-new
returns-clause-new c = zeros-new c.journal_over.result 8192 c.journal_over.ensures.journal refl (zeros c)
