-- The first entry of some bytes.
use Rattle.std.proofs.Common.{◌≡◌, ℕ, ltb, List, ◌++◌, length, take, drop, refl, ap, ◌∙◌, ap₂, arith, length-append, Err}
use Rattle.std.proofs.lemmas.List.{take_at, drop_at}
use Rattle.std.proofs.lemmas.Bool.{cond-false, le-ltb}
use Rattle.wire.specs.Stream.{framed}
use Rattle.text.specs.declared.fault.Breach.TheVariants.{Short}
use Rattle.text.specs.Entries.{entry, framed_first, whole}

pub framed-whole : (who : ℕ) (s m rest : List ℕ) → s ≡ framed m ++ rest → framed_first who s ≡ whole (entry who m) rest
framed-whole who s m rest e =
    let l = length-append m rest in
    ap (framed_first who) e
    ∙ (cond-false (ltb (length (m ++ rest)) (length m)) (Err Short) (whole (entry who (take (length m) (m ++ rest))) (drop (length m) (m ++ rest))) (le-ltb (length (m ++ rest)) (length m) (omega arith))
    ∙ ap₂ (λ (a b : List ℕ). whole (entry who a) b) (take_at m rest (length m) refl) (drop_at m rest (length m) refl))
