-- The bytes that a text says: those of its lines, one after the other, up to the first mistake.
-- Assumes nothing.
use Rattle.std.specs.Prelude.{◌≡◌, ℕ, ◌+◌, List, [], ◌∷◌, ◌++◌, Ok, Err, Result}
use Rattle.text.specs.declared.fault.Mistake.{Mistake}
use Rattle.text.specs.declared.fault.ReadFault.{ReadFault}
use Rattle.text.specs.declared.fault.ReadFault.TheVariants.{Line, Memory}
use Rattle.text.specs.declared.form.Form.{Form}
use Rattle.text.specs.Line.{line_bytes}
use Rattle.text.specs.Pieces.{lines, words}

abbrev pub Answer : Type 0
Answer = Result (List ℕ) ReadFault

-- the number of the line that was read last, the bytes before it, what it says, and the lines behind it
abbrev pub reading : Form → ℕ → List ℕ → Result (List ℕ) Mistake → List (List ℕ) → Answer
reading f n out (Err m) ls = Err (Line n m)
reading f n out (Ok bs) [] = Ok (out ++ bs)
reading f n out (Ok bs) (l ∷ ls) = reading f (n + 1) (out ++ bs) (line_bytes f (words l)) ls

unfoldable pub read_text : Form → List ℕ → Answer
read_text f text = reading f 0 [] (Ok []) (lines text)

-- a refusal says what the text's answer is; only without memory it says nothing of it
abbrev pub Refuses : ReadFault → Answer → Type 0
Refuses (Line n m) a = a ≡ Err (Line n m)
Refuses Memory a = Unit {0}
