-- What the server's answer says of its state.
-- Assumes nothing.
use Rattle.std.proofs.Common.{◌≡◌, ℕ, Bool, true, false, ◌&&◌, Some, None, Ok, Err, Option, refl}
use Rattle.std.proofs.lemmas.Bool.{cond_both, both_ways, and_parts}
use Rattle.lease.specs.declared.message.Request.{Request}
use Rattle.lease.specs.declared.message.Grant.{Grant}
use Rattle.lease.specs.Settings.{Settings}
use Rattle.lease.specs.Choosing.{choose}
use Rattle.lease.specs.World.{Server, is_silent, not_silent}
use Rattle.lease.specs.Run.{Answer, answered, answer_up, answer}

-- a grant is of the chosen address, to who asked, by a server that lends
pub record GrantedBy (s : Settings) (v : Server) (r : Request) (g : Grant) : Type 0 where
  pub up : v.up ≡ true
  pub quiet : v.silent ≡ None
  pub chosen : choose s.addresses v.clock v.table r ≡ Some g.address
  pub client : g.client ≡ r.client
  pub nonce : g.nonce ≡ r.nonce

abbrev pub Meant : Settings → Server → Request → Answer → Type 0
Meant s v r (Ok None) = Unit
Meant s v r (Ok (Some g)) = GrantedBy s v r g
Meant s v r (Err f) = Unit

module _ (s : Settings) (v : Server) (r : Request) where
  by_choice : v.up ≡ true → v.silent ≡ None → (o : Option ℕ) → choose s.addresses v.clock v.table r ≡ o → Meant s v r (answered r o)
  by_choice up quiet None e = tt
  by_choice up quiet (Some a) e = record { up = up; quiet = quiet; chosen = e; client = refl; nonce = refl }

  by_silence : v.up ≡ true → (o : Option ℕ) → v.silent ≡ o → Meant s v r (answer_up s v r o)
  by_silence up None e = by_choice up e (choose s.addresses v.clock v.table r) refl
  by_silence up (Some u) e = tt

  pub meant : Meant s v r (answer s v r)
  meant = cond_both v.up _ (Ok None) (λ x. Meant s v r x) (λ up. by_silence up v.silent refl) (λ e. tt)

pub lending-parts : (up : Bool) (o : Option ℕ) → (up && not_silent o) ≡ true → (up ≡ true) × (o ≡ None)
lending-parts up None e = ((and_parts up true e).0, refl)
lending-parts up (Some u) e = absurd (both_ways _ refl (and_parts up false e).1)

pub not_silent_lem : (o : Option ℕ) → is_silent o ≡ false → o ≡ None
not_silent_lem None e = refl
not_silent_lem (Some u) e = absurd (both_ways _ e refl)
