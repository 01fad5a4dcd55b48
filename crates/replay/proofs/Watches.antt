-- A watch by its parts.
-- Assumes nothing.
use Rattle.std.proofs.Common.{◌≡◌, ℕ, List, ◌++◌, OnOk, Option, Result, sym, ap, ◌∙◌}
use Rattle.std.proofs.lemmas.Result.{IfOk-weaker}
use Rattle.std.specs.declared.alloc.AllocError.{AllocError}
use Rattle.lease.specs.declared.message.Grant as given
use Rattle.lease.specs.declared.message.Request as asked
use Rattle.lease.specs.Settings as model
use Rattle.wire.specs.declared.message.Message.{Message}
use Rattle.seen.specs.declared.seen.Seen.{Seen}
use Rattle.seen.specs.Seen.{stamps_of}
use Rattle.client.specs.Nonces.{requests}
use Rattle.system.specs.declared.line.Party.{Party}
use Rattle.system.specs.declared.line.Party.TheVariants.{Server, Client}
use Rattle.system.specs.Watch.{Watch, Lead, grants}
use Rattle.replay.specs.Watch.{grants_of, requests_of, said_by, stamps_in}
use Rattle.replay.proofs.Stamps.{grants_noted, requests_noted}

abbrev pub made_of : List asked.Request → List given.Grant → List ℕ → Option model.Settings → (ℕ → Option Lead) → Watch
made_of rs gs ns k ls = record { requests = rs; grants = gs; nonces = ns; settings = k; leads = ls }

pub watch-parts : {rs rs' : List asked.Request} {gs gs' : List given.Grant} {ns ns' : List ℕ} {k k' : Option model.Settings} {ls ls' : ℕ → Option Lead} →
    rs ≡ rs' → gs ≡ gs' → ns ≡ ns' → k ≡ k' → ls ≡ ls' → made_of rs gs ns k ls ≡ made_of rs' gs' ns' k' ls'
watch-parts {rs} {rs'} {gs} {gs'} {ns} {ns'} {k} {k'} {ls} {ls'} a b d e f =
    ap (λ (x : List asked.Request). made_of x gs ns k ls) a ∙ ap (λ (x : List given.Grant). made_of rs' x ns k ls) b ∙ ap (λ (x : List ℕ). made_of rs' gs' x k ls) d
    ∙ ap (λ (x : Option model.Settings). made_of rs' gs' ns' x ls) e ∙ ap (λ (x : ℕ → Option Lead). made_of rs' gs' ns' k' x) f

-- what a party put out is noted
module _ (ms : List Message) (r : Result Unit AllocError) (p : Party) (old new : Seen) (rs : List asked.Request) (gs : List given.Grant) (ns : List ℕ) (k : Option model.Settings) (ls : ℕ → Option Lead) where
  pub said_by_server : p ≡ Server → OnOk r (stamps_of new ≡ stamps_in p ms ++ stamps_of old) → OnOk r (made_of rs (grants_of new) ns k ls ≡ said_by p ms (made_of rs (grants_of old) ns k ls))
  said_by_server who e =
      IfOk-weaker r (λ _. stamps_of new ≡ stamps_in p ms ++ stamps_of old) (λ _. made_of rs (grants_of new) ns k ls ≡ said_by p ms (made_of rs (grants_of old) ns k ls))
      (λ u f.
      ap (λ (l : List given.Grant). made_of rs l ns k ls) (grants_noted (grants ms) (stamps_of old) (stamps_of new) (f ∙ ap (λ (q : Party). stamps_in q ms ++ stamps_of old) who))
      ∙ ap (λ (q : Party). said_by q ms (made_of rs (grants_of old) ns k ls)) (sym who)) e

  pub said_by_client : (i : ℕ) → p ≡ Client i → OnOk r (stamps_of new ≡ stamps_in p ms ++ stamps_of old) → OnOk r (made_of (requests_of new) gs ns k ls ≡ said_by p ms (made_of (requests_of old) gs ns k ls))
  said_by_client i who e =
      IfOk-weaker r (λ _. stamps_of new ≡ stamps_in p ms ++ stamps_of old) (λ _. made_of (requests_of new) gs ns k ls ≡ said_by p ms (made_of (requests_of old) gs ns k ls))
      (λ u f.
      ap (λ (l : List asked.Request). made_of l gs ns k ls) (requests_noted (requests ms) (stamps_of old) (stamps_of new) (f ∙ ap (λ (q : Party). stamps_in q ms ++ stamps_of old) who))
      ∙ ap (λ (q : Party). said_by q ms (made_of (requests_of old) gs ns k ls)) (sym who)) e
