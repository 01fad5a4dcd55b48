-- The text that a report's lines add, one after the other.
-- Assumes nothing.
use Rattle.std.specs.Prelude.{ℕ, List, [], ◌++◌, codes, decimal}
use Rattle.lease.specs.Fault.{number}
use Rattle.system.specs.declared.line.Line.{Line}
use Rattle.system.specs.declared.line.Line.TheVariants.{Fault, Broken, Two, Tick, User}
use Rattle.system.specs.Names.{party_name, premise_name}
use Rattle.printing.specs.declared.printer.Pending.{Pending}
use Rattle.printing.specs.declared.printer.Pending.TheVariants as pending

-- the line of a tick is ended by what follows its users, or by the end of the text
abbrev pub ended : Pending → List ℕ
ended pending.Nothing = []
ended pending.Tick = codes "nobody\n"
ended pending.Users = codes "\n"

abbrev pub separated : Pending → List ℕ
separated pending.Nothing = []
separated pending.Tick = []
separated pending.Users = codes ", "

abbrev pub line_text : Pending → Line → List ℕ
line_text o (Fault p f) = ended o ++ (party_name p ++ (codes ": fault " ++ (decimal (number f) ++ codes "\n")))
line_text o (Broken p) = ended o ++ (codes "premise: " ++ (premise_name p ++ codes "\n"))
line_text o (Two a i j) = ended o ++ (codes "two use " ++ (decimal a ++ (codes ": " ++ (decimal i ++ (codes " and " ++ (decimal j ++ codes "\n"))))))
line_text o (Tick clock) = ended o ++ (decimal clock ++ codes ": ")
line_text o (User i a) = separated o ++ (decimal i ++ (codes " uses " ++ decimal a))

abbrev pub pending_after : Line → Pending
pending_after (Fault p f) = pending.Nothing
pending_after (Broken p) = pending.Nothing
pending_after (Two a i j) = pending.Nothing
pending_after (Tick clock) = pending.Tick
pending_after (User i a) = pending.Users
