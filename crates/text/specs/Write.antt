-- The text of a script or a stream: a line an entry, but for ticks of one party in a row, which have one line together.
-- Assumes nothing.
use Rattle.std.specs.Prelude.{◌≡◌, ℕ, ◌+◌, ◌-◌, Bool, true, false, cond, ◌&&◌, List, [], ◌∷◌, ◌++◌, length, Some, None, Ok, Err, Option, Result, is_some, ◌==◌, nat_lt}
use Rattle.std.specs.Option.{option_or}
use Rattle.text.specs.declared.fault.WriteFault.{WriteFault}
use Rattle.text.specs.declared.fault.WriteFault.TheVariants.{Entry, Memory}
use Rattle.text.specs.declared.field.Field.TheVariants.{Times}
use Rattle.text.specs.declared.form.Addressee.{Addressee}
use Rattle.text.specs.declared.form.Form.{Form}
use Rattle.text.specs.declared.form.Form.TheVariants.{Script, Stream}
use Rattle.text.specs.declared.sentence.Spoken.{Spoken}
use Rattle.text.specs.declared.sentence.Spoken.TheVariants.{Tick, Raw, Say}
use Rattle.text.specs.declared.writing.Run.{Run}
use Rattle.text.specs.Entries as entries
use Rattle.text.specs.Entry.{addressee}
use Rattle.text.specs.Field.{range}
use Rattle.text.specs.Sentence.{spoken_of}
use Rattle.text.specs.Told.{line_text, tick_words, body_words}

-- ticks of one party that have no line yet
abbrev pub Waiting : Type 0
Waiting = Option Run

abbrev pub run : Addressee → ℕ → Waiting
run p times = Some (record { party = p; times = times })

abbrev pub run_text : Waiting → List ℕ
run_text None = []
run_text (Some r) = line_text r.party.form r.party.who (tick_words r.times)

abbrev pub same_form : Form → Form → Bool
same_form Script Script = true
same_form Stream Stream = true
same_form Script Stream = false
same_form Stream Script = false

abbrev pub same : Addressee → Addressee → Bool
same p q = same_form p.form q.form && p.who == q.who

-- up to what a line can say
abbrev pub joins : Run → Addressee → Bool
joins r p = nat_lt r.times (range Times).most && same r.party p

-- the ticks, with one more of this party, if it goes on their line
abbrev pub joined : Waiting → Addressee → Waiting
joined None p = None
joined (Some r) p = cond (joins r p) (run p (r.times + 1)) None

-- what an entry puts into the text, behind the ticks before it
abbrev pub put_text : Waiting → Addressee → List ℕ → Spoken → List ℕ
put_text r p m Tick = cond (is_some (joined r p)) [] (run_text r)
put_text r p m Raw = run_text r ++ line_text p.form p.who (body_words Raw m)
put_text r p m (Say s) = run_text r ++ line_text p.form p.who (body_words (Say s) m)

abbrev pub put_run : Waiting → Addressee → Spoken → Waiting
put_run r p Tick = option_or (joined r p) (run p 1)
put_run r p Raw = None
put_run r p (Say s) = None

abbrev pub told : Form → Waiting → List entries.Entry → List ℕ
told f r [] = run_text r
told f r (e ∷ es) =
    put_text r (addressee f e.who) e.message (spoken_of e.message) ++ told f (put_run r (addressee f e.who) (spoken_of e.message)) es

abbrev pub Answer : Type 0
Answer = Result (List ℕ) WriteFault

-- how many bytes there are, the text so far, the ticks before and the entries to come
abbrev pub writing : Form → ℕ → List ℕ → Waiting → entries.Found → Answer
writing f total out r (Ok es) = Ok (out ++ told f r es)
writing f total out r (Err b) = Err (Entry (total - b.left) b.breach)

unfoldable pub write_text : Form → List ℕ → Answer
write_text f bs = writing f (length bs) [] None (entries.entries f bs)

-- a refusal says where the first bad entry is; only without memory it says nothing of it
abbrev pub Refuses : WriteFault → Answer → Type 0
Refuses (Entry at breach) a = a ≡ Err (Entry at breach)
Refuses Memory a = Unit {0}
