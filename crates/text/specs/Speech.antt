-- What the words of a line say, by the verb and what stands behind it.
-- Assumes nothing: where a word is missing an empty one is read.
use Rattle.std.specs.Prelude.{ℕ, ◌+◌, ◌/◌, Bool, cond, List, [], ◌∷◌, ◌++◌, length, take, Some, None, Ok, Err, Option, Result, ◌==◌, nat_lt, slice_index_or}
use Rattle.wire.specs.declared.message.Message as wire
use Rattle.text.specs.declared.fault.Expected.{Expected}
use Rattle.text.specs.declared.fault.Expected.TheVariants.{Number, FewerBytes, Nothing}
use Rattle.text.specs.declared.fault.Expected.TheVariants as expected
use Rattle.text.specs.declared.fault.Mistake.{Mistake}
use Rattle.text.specs.declared.field.Field.{Field}
use Rattle.text.specs.declared.field.Field.TheVariants.{Fault, Times}
use Rattle.text.specs.declared.kind.Kind.{Kind}
use Rattle.text.specs.declared.kind.Verb.{Verb}
use Rattle.text.specs.declared.kind.Verb.TheVariants as verb
use Rattle.text.specs.declared.speech.Speech.{Speech}
use Rattle.text.specs.declared.speech.Speech.TheVariants.{Say, Ticks, Raw}
use Rattle.text.specs.Decimal.{number_of}
use Rattle.text.specs.Field.{range}
use Rattle.text.specs.Hex.{pairs}
use Rattle.text.specs.Kind.{fields}
use Rattle.text.specs.Sentence.{figures, message_of}

abbrev pub Words : Type 0
Words = List (List ℕ)

abbrev pub word : ℕ → Words → List ℕ
word place ws = slice_index_or ws place []

abbrev pub absent : ℕ → Words → Bool
absent place ws = length (word place ws) == 0

abbrev pub mistake : Expected → ℕ → Mistake
mistake e place = record { expected = e; place = place }

abbrev pub ranged : Field → ℕ → Option ℕ → Result ℕ Mistake
ranged f place None = Err (mistake (Number f) place)
ranged f place (Some n) = cond (nat_lt n (range f).least) (Err (mistake (Number f) place)) (Ok n)

-- the number at a place, from where to where its field goes
abbrev pub figure_at : Field → ℕ → Words → Result ℕ Mistake
figure_at f place ws = ranged f place (number_of (range f).most (word place ws))

-- a number before those behind it; the first mistake is the one that counts
abbrev pub figure_before : Result ℕ Mistake → Result (List ℕ) Mistake → Result (List ℕ) Mistake
figure_before (Err m) r = Err m
figure_before (Ok n) (Err m) = Err m
figure_before (Ok n) (Ok ns) = Ok (n ∷ ns)

-- the numbers of these fields, one after the other from this place on
abbrev pub figures_of : ℕ → Words → List Field → Result (List ℕ) Mistake
figures_of place ws [] = Ok []
figures_of place ws (f ∷ fs) = figure_before (figure_at f place ws) (figures_of (place + 1) ws fs)

-- three in all: those that a kind has not are 0
abbrev pub padded : Result (List ℕ) Mistake → Result (List ℕ) Mistake
padded (Err m) = Err m
padded (Ok ns) = Ok (take 3 (ns ++ figures 0 0 0))

-- the numbers of a message of this kind
abbrev pub figures_at : Kind → ℕ → Words → Result (List ℕ) Mistake
figures_at k place ws = padded (figures_of place ws (fields k))

-- nothing stands behind what a line says
abbrev pub ended : ℕ → Words → Result Speech Mistake → Result Speech Mistake
ended place ws r = cond (absent place ws) r (Err (mistake Nothing place))

abbrev pub told : ℕ → Option wire.Message → Result Speech Mistake
told place None = Err (mistake (Number Fault) place)
told place (Some m) = Ok (Say m)

abbrev pub concluded : Kind → ℕ → Words → Result (List ℕ) Mistake → Result Speech Mistake
concluded k place ws (Err m) = Err m
concluded k place ws (Ok ns) = ended (place + length (fields k)) ws (told place (message_of k ns))

abbrev pub said_at : Kind → ℕ → Words → Result Speech Mistake
said_at k place ws = concluded k place ws (figures_at k place ws)

abbrev pub repeating : ℕ → Words → Result ℕ Mistake → Result Speech Mistake
repeating place ws (Err m) = Err m
repeating place ws (Ok n) = ended (place + 1) ws (Ok (Ticks n))

-- a tick without a number is one
abbrev pub ticks_at : ℕ → Words → Result Speech Mistake
ticks_at place ws = cond (absent place ws) (Ok (Ticks 1)) (repeating place ws (figure_at Times place ws))

-- at most 255 bytes, also none
abbrev pub raw_at : ℕ → Words → Result Speech Mistake
raw_at place ws =
    cond (nat_lt 510 (length (word place ws))) (Err (mistake FewerBytes place)) (cond (pairs (word place ws)) (ended (place + 1) ws (Ok (Raw place (length (word place ws) / 2)))) (Err (mistake expected.Bytes place)))

abbrev pub speech_of : Verb → ℕ → Words → Result Speech Mistake
speech_of verb.Tick place ws = ticks_at place ws
speech_of verb.Bytes place ws = raw_at place ws
speech_of (verb.Say k) place ws = said_at k place ws
