-- The words that name what a line says.
use Rattle.std.proofs.Common.{◌≡◌, Bool, List, ℕ, Some, Decides, refl, arith, rules}
use Rattle.std.proofs.lemmas.Slice.Eq.{bytes_eq-Decides}
use Rattle.std.specs.Str.{bytes_eq}
use Rattle.text.specs.declared.kind.Kind.{Kind}
use Rattle.text.specs.declared.kind.Kind.TheVariants.{Settings, Number, Nonce, Request, Grant, Crash, Restart, InUse, NoAddress, Fault}
use Rattle.text.specs.declared.kind.Verb.TheVariants as verb
use Rattle.text.specs.Kind.{name}
use Rattle.text.specs.Verb.{verb_of}
use Rattle.text.proofs.Spelling.{Fair}

pub tested : (xs ys : List ℕ) (r : Bool) → Decides r (xs ≡ ys) → r ≡ bytes_eq xs ys
tested xs ys r h = search (rules, bytes_eq-Decides)

pub verb_back : (k : Kind) → verb_of (name k) ≡ Some (verb.Say k)
verb_back Settings = refl
verb_back Number = refl
verb_back Nonce = refl
verb_back Request = refl
verb_back Grant = refl
verb_back Crash = refl
verb_back Restart = refl
verb_back InUse = refl
verb_back NoAddress = refl
verb_back Fault = refl

pub fair_name : (k : Kind) → Fair (name k)
fair_name Settings = record { plain = refl; some = omega arith }
fair_name Number = record { plain = refl; some = omega arith }
fair_name Nonce = record { plain = refl; some = omega arith }
fair_name Request = record { plain = refl; some = omega arith }
fair_name Grant = record { plain = refl; some = omega arith }
fair_name Crash = record { plain = refl; some = omega arith }
fair_name Restart = record { plain = refl; some = omega arith }
fair_name InUse = record { plain = refl; some = omega arith }
fair_name NoAddress = record { plain = refl; some = omega arith }
fair_name Fault = record { plain = refl; some = omega arith }
