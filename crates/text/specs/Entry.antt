-- An entry's bytes: who hears the message, which a stream leaves out, then the message with its length before it.
-- Assumes nothing.
use Rattle.std.specs.Prelude.{ℕ, zero, suc, List, [], ◌∷◌, ◌++◌}
use Rattle.wire.specs.Stream.{framed}
use Rattle.text.specs.declared.form.Addressee.{Addressee}
use Rattle.text.specs.declared.form.Form.{Form}
use Rattle.text.specs.declared.form.Form.TheVariants.{Script, Stream}

abbrev pub addressee : Form → ℕ → Addressee
addressee f who = record { form = f; who = who }

abbrev pub head : Form → ℕ → List ℕ
head Script who = who ∷ []
head Stream who = []

abbrev pub entry_bytes : Form → ℕ → List ℕ → List ℕ
entry_bytes f who m = head f who ++ framed m

-- the same bytes so many times
unfoldable pub copies : ℕ → List ℕ → List ℕ
copies zero bs = []
copies (suc n) bs = bs ++ copies n bs
