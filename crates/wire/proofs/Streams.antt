-- What a stream holds, from its front.
use Rattle.std.proofs.Common.{◌≡◌, ℕ, zero, suc, ◌<◌, ◌≤◌, cond, ltb, List, [], ◌∷◌, ◌++◌, length, get_or, take, drop, refl, ap, ◌∙◌, ap₂, arith, length-append, length-drop}
use Rattle.std.proofs.lemmas.List.{nil_from_length, take_at, drop_at, append_assoc}
use Rattle.std.proofs.lemmas.Bool.{cond-true, cond-false, lt-ltb, le-ltb}
use Rattle.std.specs.List.{flat_map}
use Rattle.wire.specs.declared.stream.Next.{Next}
use Rattle.wire.specs.declared.stream.Next.TheVariants.{Message, End, Cut}
use Rattle.wire.specs.Stream.{Splits, Reads, Delivered, framed, Held, none, broken, after, held, held_by}

-- more turns than bytes change nothing
enough : (t u : ℕ) (bs : List ℕ) → length bs ≤ t → length bs ≤ u → held_by t bs ≡ held_by u bs
unfolding held_by
enough t u [] h k = refl
enough zero u (n ∷ bs) h k = absurd (omega arith)
enough (suc t) zero (n ∷ bs) h k = absurd (omega arith)
enough (suc t) (suc u) (n ∷ bs) h k =
    let d = length-drop n bs in
    ap (λ (x : Held). cond (ltb (length bs) n) broken (after (take n bs) x)) (enough t u (drop n bs) (omega arith) (omega arith))

pub held_none : held [] ≡ none
unfolding held held_by
held_none = refl

pub held_first : (m bs : List ℕ) → held (framed m ++ bs) ≡ after m (held bs)
unfolding held held_by
held_first m bs =
    let l = length-append m bs in
    let t : take (length m) (m ++ bs) ≡ m = take_at m bs (length m) refl in
    let d : drop (length m) (m ++ bs) ≡ bs = drop_at m bs (length m) refl in
    cond-false (ltb (length (m ++ bs)) (length m)) broken (after (take (length m) (m ++ bs)) (held_by (length (m ++ bs)) (drop (length m) (m ++ bs)))) (le-ltb (length (m ++ bs)) (length m) (omega arith))
    ∙ ap₂ after t (ap (held_by (length (m ++ bs))) d ∙ enough (length (m ++ bs)) (length bs) bs (omega arith) (omega arith))

pub held_cut : (n : ℕ) (bs : List ℕ) → length bs < n → held (n ∷ bs) ≡ broken
unfolding held held_by
held_cut n bs h =
    cond-true (ltb (length bs) n) broken (after (take n bs) (held_by (length bs) (drop n bs))) (lt-ltb (length bs) n h)

pub delivered : Delivered
delivered [] tail = refl
delivered (m ∷ ms) tail =
    ap held (append_assoc (framed m) (flat_map framed ms) tail) ∙ (held_first m (flat_map framed ms ++ tail) ∙ ap (after m) (delivered ms tail))

-- a list that is not empty, by its first
opened : (s : List ℕ) → 0 < length s → s ≡ get_or s 0 0 ∷ drop 1 s
opened [] h = absurd (omega arith)
opened (n ∷ bs) h = refl

pub reads : (s : List ℕ) (next : Next) → Splits s next → Reads s next
reads s (Message bytes rest) e =
    record { splits = e; holds = (ap held e ∙ held_first bytes.now rest.now, omega (arith, ap length e, length-append bytes.now rest.now)) }
reads s End e = record { splits = e; holds = ap held (nil_from_length s e) ∙ held_none }
reads s Cut e =
    let o : s ≡ get_or s 0 0 ∷ drop 1 s = opened s e.0 in
    record { splits = e; holds = ap held o ∙ held_cut (get_or s 0 0) (drop 1 s) (omega (arith, ap length o, e.1)) }
