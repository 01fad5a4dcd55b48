-- What a line's words say, of whom, and in which bytes.
-- Assumes nothing.
use Rattle.std.specs.Prelude.{ℕ, ◌+◌, cond, List, [], ◌∷◌, ◌++◌, Some, None, Ok, Err, codes, Option, Result}
use Rattle.std.specs.Str.{bytes_eq}
use Rattle.wire.specs.declared.message.Message.TheVariants.{Tick}
use Rattle.wire.specs.Message.{encoded}
use Rattle.text.specs.declared.fault.Expected.TheVariants.{Party, Verb}
use Rattle.text.specs.declared.fault.Mistake.{Mistake}
use Rattle.text.specs.declared.field.Field.TheVariants as field
use Rattle.text.specs.declared.form.Addressee.{Addressee}
use Rattle.text.specs.declared.form.Form.{Form}
use Rattle.text.specs.declared.form.Form.TheVariants.{Script, Stream}
use Rattle.text.specs.declared.kind.Verb as kind
use Rattle.text.specs.declared.line.Lead.{Lead}
use Rattle.text.specs.declared.line.Line.{Line}
use Rattle.text.specs.declared.speech.Speech.{Speech}
use Rattle.text.specs.declared.speech.Speech.TheVariants.{Say, Ticks, Raw}
use Rattle.text.specs.Entry.{addressee, head, entry_bytes, copies}
use Rattle.text.specs.Hex.{meant}
use Rattle.text.specs.Speech.{Words, word, absent, mistake, figure_at, speech_of}
use Rattle.text.specs.Verb.{verb_of}

abbrev pub lead : ℕ → ℕ → Lead
lead who verb = record { who = who; verb = verb }

abbrev pub boxed : Result ℕ Mistake → Result Lead Mistake
boxed (Err m) = Err m
boxed (Ok n) = Ok (lead n 2)

-- the server is 0, and so is what a stream leaves out
abbrev pub lead_of : Form → Words → Result Lead Mistake
lead_of Stream ws = Ok (lead 0 0)
lead_of Script ws =
    cond (bytes_eq (codes "house") (word 0 ws)) (Ok (lead 0 1)) (cond (bytes_eq (codes "box") (word 0 ws)) (boxed (figure_at field.Party 1 ws)) (Err (mistake Party 0)))

abbrev pub spoke : Addressee → Result Speech Mistake → Result Line Mistake
spoke p (Err m) = Err m
spoke p (Ok s) = Ok (record { party = p; speech = s })

abbrev pub verbed : Form → Lead → Words → Option kind.Verb → Result Line Mistake
verbed f l ws None = Err (mistake Verb l.verb)
verbed f l ws (Some v) = spoke (addressee f l.who) (speech_of v (l.verb + 1) ws)

abbrev pub led : Form → Words → Result Lead Mistake → Result Line Mistake
led f ws (Err m) = Err m
led f ws (Ok l) = verbed f l ws (verb_of (word l.verb ws))

abbrev pub begins : Form → Words → Result Line Mistake
begins f ws = led f ws (lead_of f ws)

abbrev pub something : Result Line Mistake → Result (Option Line) Mistake
something (Err m) = Err m
something (Ok l) = Ok (Some l)

-- a line without a word says nothing
abbrev pub line_of : Form → Words → Result (Option Line) Mistake
line_of f ws = cond (absent 0 ws) (Ok None) (something (begins f ws))

abbrev pub speech_bytes : Form → ℕ → Words → Speech → List ℕ
speech_bytes f who ws (Say m) = entry_bytes f who (encoded m)
speech_bytes f who ws (Ticks n) = copies n (entry_bytes f who (encoded Tick))
speech_bytes f who ws (Raw place size) = head f who ++ size ∷ meant (word place ws)

abbrev pub said_bytes : Words → Option Line → List ℕ
said_bytes ws None = []
said_bytes ws (Some l) = speech_bytes l.party.form l.party.who ws l.speech

abbrev pub bytes_of : Words → Result (Option Line) Mistake → Result (List ℕ) Mistake
bytes_of ws (Err m) = Err m
bytes_of ws (Ok o) = Ok (said_bytes ws o)

-- the bytes of a line's entries
abbrev pub line_bytes : Form → Words → Result (List ℕ) Mistake
line_bytes f ws = bytes_of ws (line_of f ws)
