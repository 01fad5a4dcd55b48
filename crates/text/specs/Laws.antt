-- Why nothing is lost: every script and stream has a text, and that is read as the very same bytes.
-- Assumes that lists of bytes are such, as every value of the program is.
use Rattle.std.specs.Prelude.{◌≡◌, ℕ, ◌<◌, ◌≤◌, List, length, Ok, slice_index}
use Rattle.std.specs.List.{AllByRecursion}
use Rattle.text.specs.declared.form.Form.{Form}
use Rattle.text.specs.declared.form.Form.TheVariants.{Script, Stream}
use Rattle.text.specs.Entries.{Entry, bytes_of}
use Rattle.text.specs.Read.{read_text}
use Rattle.text.specs.Write.{write_text}

abbrev pub Bytes : List ℕ → Type 0
Bytes bs = (i : ℕ) → slice_index bs i < 256

-- who an entry can be for: a stream says nothing of it
abbrev pub Party : Form → ℕ → Type 0
Party Stream who = who ≡ 0
Party Script who = who ≤ 64

-- an entry that has its place in a script or a stream
pub record Good (f : Form) (e : Entry) : Type 0 where
  pub party : Party f e.who
  pub few : length e.message ≤ 255
  pub octets : AllByRecursion (λ b. b < 256) e.message

-- what is written is read back
abbrev pub RoundTrip : Type 0
RoundTrip = (f : Form) (bs text : List ℕ) → Bytes bs → write_text f bs ≡ Ok text → read_text f text ≡ Ok bs

-- and every list of entries is written
abbrev pub Written : Type 0
Written =
    (f : Form) (es : List Entry)
    → AllByRecursion (λ e. Good f e) es
    → (text : List ℕ) × (write_text f (bytes_of f es) ≡ Ok text) × (read_text f text ≡ Ok (bytes_of f es))
