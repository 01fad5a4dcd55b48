-- Bytes as whole messages with something unfinished behind them.
use Rattle.std.proofs.Common.{◌≡◌, ℕ, zero, suc, ◌<◌, ◌≤◌, Bool, true, false, not, eqb, ltb, List, [], ◌∷◌, ◌++◌, length, get_or, take, drop, sym, refl, ap, ◌∙◌, subst, ap₂, arith, length-append, length-drop}
use Rattle.std.proofs.lemmas.List.{append-nil, append_assoc, drop_at, take_at, take-append-drop, length-take-le}
use Rattle.std.proofs.lemmas.Grind.{flat_map-append}
use Rattle.std.proofs.Math.Seq.{get_or-append_seam}
use Rattle.std.proofs.lemmas.Bool.{ltb-true, ltb-false, ne_eqb}
use Rattle.std.specs.List.{flat_map}
use Rattle.wire.proofs.Streams.{delivered, held_cut, held_first, held_none}
use Rattle.wire.specs.Stream.{Held, framed, held}
use Rattle.stream.specs.Whole.{whole, behind, Fails}
use Rattle.stream.specs.Chunks.{handed, left, same, ChunksDeliver, EndTells}

-- not a whole message yet
pub record Unfinished (r : List ℕ) : Type 0 where
  pub none-whole : whole r ≡ []
  pub tells : not (eqb (length r) 0) ≡ (held r).cut

pub divided : (s : List ℕ) (ms : List (List ℕ)) (r : List ℕ) → s ≡ flat_map framed ms ++ r → whole r ≡ [] → whole s ≡ ms
divided s ms r e n = ap whole e ∙ (ap (λ (h : Held). h.messages) (delivered ms r) ∙ (ap (λ (x : List (List ℕ)). ms ++ x) n ∙ append-nil ms))

pub behind-is : (s : List ℕ) (ms : List (List ℕ)) (r : List ℕ) → s ≡ flat_map framed ms ++ r → whole r ≡ [] → behind s ≡ r
behind-is s ms r e n =
    let w : whole s ≡ ms = divided s ms r e n in
    ap₂ (λ (x : List (List ℕ)) (y : List ℕ). drop (length (flat_map framed x)) y) w e ∙ drop_at (flat_map framed ms) r (length (flat_map framed ms)) refl

-- bytes by their whole messages and the rest
pub record Parts (s : List ℕ) : Type 0 where
  pub messages : List (List ℕ)
  pub rest : List ℕ
  pub split : s ≡ flat_map framed messages ++ rest
  pub open_end : Unfinished rest

unfinished_none : Unfinished []
unfinished_none = record { none-whole = ap (λ (h : Held). h.messages) held_none; tells = sym (ap (λ (h : Held). h.cut) held_none) }

unfinished_cut : (n : ℕ) (bs : List ℕ) → length bs < n → Unfinished (n ∷ bs)
unfinished_cut n bs h =
    let z : eqb (suc (length bs)) 0 ≡ false = ne_eqb (suc (length bs)) 0 (λ e. omega arith) in
    record { none-whole = ap (λ (x : Held). x.messages) (held_cut n bs h); tells = ap not z ∙ sym (ap (λ (x : Held). x.cut) (held_cut n bs h)) }

-- by whether the first message is there
parts-of : (n : ℕ) (bs : List ℕ) (b : Bool) → ltb (length bs) n ≡ b → Parts (drop n bs) → Parts (n ∷ bs)
parts-of n bs true e p =
    record { messages = []; rest = n ∷ bs; split = refl; open_end = unfinished_cut n bs (ltb-true (length bs) n e) }
parts-of n bs false e p =
    let l : length (take n bs) ≡ n = length-take-le n bs (ltb-false (length bs) n e) in
    record {
      messages = take n bs ∷ p.messages;
      rest = p.rest;
      split =
          ap₂ (λ (x : ℕ) (y : List ℕ). x ∷ y) (sym l)
          (sym (take-append-drop n bs) ∙ (ap (λ (x : List ℕ). take n bs ++ x) p.split ∙ sym (append_assoc (take n bs) (flat_map framed p.messages) p.rest)));
      open_end = p.open_end;
    }

parts_by : (t : ℕ) (s : List ℕ) → length s ≤ t → Parts s
parts_by t [] h = record { messages = []; rest = []; split = refl; open_end = unfinished_none }
parts_by zero (n ∷ bs) h = absurd (omega arith)
parts_by (suc t) (n ∷ bs) h =
    let d = length-drop n bs in
    parts-of n bs (ltb (length bs) n) refl (parts_by t (drop n bs) (omega arith))

pub parts : (s : List ℕ) → Parts s
parts s = parts_by (length s) s (omega arith)

pub splits : (s : List ℕ) → s ≡ flat_map framed (whole s) ++ behind s
splits s =
    let p = parts s in
    p.split ∙ sym (ap₂ (λ (x : List (List ℕ)) (y : List ℕ). flat_map framed x ++ y) (divided s p.messages p.rest p.split p.open_end.none-whole) (behind-is s p.messages p.rest p.split p.open_end.none-whole))

pub unfinished : (s : List ℕ) → Unfinished (behind s)
unfinished s =
    let p = parts s in
    subst Unfinished (sym (behind-is s p.messages p.rest p.split p.open_end.none-whole)) p.open_end

-- what follows is read from what stands behind the whole messages
pub more : (s t : List ℕ) → held (s ++ t) ≡ record { messages = whole s ++ whole (behind s ++ t); cut = (held (behind s ++ t)).cut }
more s t =
    ap (λ (x : List ℕ). held (x ++ t)) (splits s)
    ∙ (ap held (append_assoc (flat_map framed (whole s)) (behind s) t) ∙ delivered (whole s) (behind s ++ t))

all-handed : (kept : List ℕ) (cs : List (List ℕ)) → whole kept ≡ [] → handed kept cs ≡ whole (kept ++ flat_map same cs)
unfolding handed
all-handed kept [] n = sym (ap whole (append-nil kept) ∙ n)
all-handed kept (c ∷ cs) n =
    ap (λ (x : List (List ℕ)). whole (kept ++ c) ++ x) (all-handed (behind (kept ++ c)) cs (unfinished (kept ++ c)).none-whole)
    ∙ (sym (ap (λ (h : Held). h.messages) (more (kept ++ c) (flat_map same cs))) ∙ ap whole (append_assoc kept c (flat_map same cs)))

left_cut : (kept : List ℕ) (cs : List (List ℕ)) → Unfinished kept → not (eqb (length (left kept cs)) 0) ≡ (held (kept ++ flat_map same cs)).cut
unfolding left
left_cut kept [] u = u.tells ∙ ap (λ (x : List ℕ). (held x).cut) (sym (append-nil kept))
left_cut kept (c ∷ cs) u =
    left_cut (behind (kept ++ c)) cs (unfinished (kept ++ c))
    ∙ (sym (ap (λ (h : Held). h.cut) (more (kept ++ c) (flat_map same cs))) ∙ ap (λ (x : List ℕ). (held x).cut) (append_assoc kept c (flat_map same cs)))

pub chunks_deliver : ChunksDeliver
chunks_deliver cs = all-handed [] cs unfinished_none.none-whole

pub end_tells : EndTells
end_tells cs = left_cut [] cs unfinished_none

-- these messages were heard, and this is what stands behind them
pub record Handed {S : Type 0} (went : S → List (List ℕ) → S → Type 0) (s : List ℕ) (a : S) (r : List ℕ) (b : S) : Type 0 where
  pub messages : List (List ℕ)
  pub split : s ≡ flat_map framed messages ++ r
  pub heard : went a messages b

pub handed-more : {S : Type 0} (went : S → List (List ℕ) → S → Type 0)
    → ((a b c : S) (ms : List (List ℕ)) (m : List ℕ) → went a ms b → went b (m ∷ []) c → went a (ms ++ (m ∷ [])) c)
    → (s : List ℕ) (a b c : S) (r m rest : List ℕ) → Handed went s a r b → r ≡ framed m ++ rest → went b (m ∷ []) c → Handed went s a rest c
handed-more went goes s a b c r m rest h e w =
    let ms = h.messages in
    record {
      messages = ms ++ (m ∷ []);
      split =
          h.split ∙ (ap (λ (x : List ℕ). flat_map framed ms ++ x) e ∙ sym (simp (flat_map-append, append-nil, append_assoc)));
      heard = goes a b c ms m h.heard w;
    }

pub fails : {S : Type 0} (went : S → List (List ℕ) → S → Type 0) (stopped : S → List ℕ → S → Type 0)
    → (s : List ℕ) (a b c : S) (r m rest : List ℕ) → Handed went s a r b → r ≡ framed m ++ rest → stopped b m c → Fails went stopped s a c
fails went stopped s a b c r m rest h e x =
    let ms = h.messages in
    let w : whole s ≡ ms ++ (m ∷ whole rest) =
    ap whole (h.split ∙ ap (λ (y : List ℕ). flat_map framed ms ++ y) e)
    ∙ (ap (λ (y : Held). y.messages) (delivered ms (framed m ++ rest)) ∙ ap (λ (y : Held). ms ++ y.messages) (held_first m rest)) in
    record {
      count = length ms;
      some = omega (arith, ap length w, length-append ms (m ∷ whole rest));
      between = b;
      heard = subst (λ (y : List (List ℕ)). went a y b) (sym (ap (take (length ms)) w ∙ take_at ms (m ∷ whole rest) (length ms) refl)) h.heard;
      failed = subst (λ (y : List ℕ). stopped b y c) (sym (ap (λ (y : List (List ℕ)). get_or y (length ms) []) w ∙ get_or-append_seam ms m (whole rest) [])) x;
    }
