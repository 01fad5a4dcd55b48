-- The entries of a script or a stream, from their bytes.
-- Assumes nothing: bytes that are none have their first bad entry.
use Rattle.std.specs.Prelude.{ℕ, zero, suc, cond, List, [], ◌∷◌, ◌++◌, length, take, drop, Ok, Err, Result, nat_lt}
use Rattle.text.specs.declared.entry.Entry as program
use Rattle.text.specs.declared.fault.Breach.{Breach}
use Rattle.text.specs.declared.fault.Breach.TheVariants.{Short, Party}
use Rattle.text.specs.declared.field.Field.TheVariants as field
use Rattle.text.specs.declared.form.Form.{Form}
use Rattle.text.specs.declared.form.Form.TheVariants.{Script, Stream}
use Rattle.text.specs.Entry.{entry_bytes}
use Rattle.text.specs.Field.{range}

pub record Entry : Type 0 where
  pub who : ℕ
  pub message : List ℕ

abbrev pub entry : ℕ → List ℕ → Entry
entry who m = record { who = who; message = m }

-- how bytes begin: with an entry and what is behind it, or with a bad one
abbrev pub First : Type 0
First = Result (Entry × List ℕ) Breach

abbrev pub whole : Entry → List ℕ → First
whole e rest = Ok (e, rest)

abbrev pub framed_first : ℕ → List ℕ → First
framed_first who [] = Err Short
framed_first who (n ∷ bs) = cond (nat_lt (length bs) n) (Err Short) (whole (entry who (take n bs)) (drop n bs))

abbrev pub first_entry : Form → List ℕ → First
first_entry Stream bs = framed_first 0 bs
first_entry Script [] = Err Short
first_entry Script (who ∷ bs) = cond (nat_lt (range field.Party).most who) (Err (Party who)) (framed_first who bs)

abbrev pub first_of : Result program.Entry Breach → First
first_of (Ok e) = whole (entry e.who e.message.now) e.rest.now
first_of (Err b) = Err b

abbrev pub rest_of : First → List ℕ
rest_of (Ok p) = p.1
rest_of (Err b) = []

-- an entry that is none, and how many bytes there are from it on
pub record Bad : Type 0 where
  pub left : ℕ
  pub breach : Breach

abbrev pub Found : Type 0
Found = Result (List Entry) Bad

abbrev pub behind : Entry → Found → Found
behind e (Ok es) = Ok (e ∷ es)
behind e (Err b) = Err b

abbrev pub from_first : ℕ → First → Found → Found
from_first left (Ok p) found = behind p.0 found
from_first left (Err b) found = Err (record { left = left; breach = b })

-- by at most so many entries
unfoldable pub entries_by : ℕ → Form → List ℕ → Found
entries_by turns f [] = Ok []
entries_by zero f (b ∷ bs) = Ok []
entries_by (suc turns) f (b ∷ bs) =
    from_first (length (b ∷ bs)) (first_entry f (b ∷ bs)) (entries_by turns f (rest_of (first_entry f (b ∷ bs))))

-- each entry takes a byte at least
unfoldable pub entries : Form → List ℕ → Found
entries f bs = entries_by (length bs) f bs

-- and back: the bytes of entries
abbrev pub bytes_of : Form → List Entry → List ℕ
bytes_of f [] = []
bytes_of f (e ∷ es) = entry_bytes f e.who e.message ++ bytes_of f es
