-- Bytes determine the parts they are written from, and where a bad entry begins.
-- Assumes nothing.
use Rattle.std.proofs.Common.{◌≡◌, ℕ, List, [], ◌∷◌, ◌++◌, length, take, drop, sym, refl, ap, ◌∙◌, subst, inl, inr, append_assoc, arith, length-append}
use Rattle.std.proofs.lemmas.List.{take_at, drop_at}
use Rattle.script.specs.Script.{Bad, Known, Part, Sound, written}
use Rattle.script.specs.Laws.{NeverBoth, OneFault, OneReading}

-- what stands before a part's rest
abbrev pub headed : Part → List ℕ → List ℕ
headed p more = p.who ∷ (length p.message ∷ (p.message ++ more))

pub record Parted (p q : Part) (xs ys : List ℕ) : Type 0 where
  pub part : p ≡ q
  pub rest : xs ≡ ys

same_part : (p q : Part) → p.who ≡ q.who → p.message ≡ q.message → p ≡ q
same_part p q e f =
    ap (λ (w : ℕ). record { who = w; message = p.message }) e ∙ ap (λ (m : List ℕ). record { who = q.who; message = m }) f

cons_head : (x y : ℕ) (xs ys : List ℕ) → x ∷ xs ≡ y ∷ ys → x ≡ y
cons_head x y xs ys e = cc

cons_tail : (x y : ℕ) (xs ys : List ℕ) → x ∷ xs ≡ y ∷ ys → xs ≡ ys
cons_tail x y xs ys e = cc

pub none_cons : (x : ℕ) (xs : List ℕ) → [] ≡ x ∷ xs → ⊥
none_cons x xs e = let z : ◌≡◌ {A = ℕ} 0 1 = cc in omega arith

-- equal bytes begin with equal parts
pub parted : (p q : Part) (xs ys : List ℕ) → headed p xs ≡ headed q ys → Parted p q xs ys
parted p q xs ys e =
    let who = cons_head p.who q.who _ _ e in
    let tail = cons_tail p.who q.who _ _ e in
    let size = cons_head (length p.message) (length q.message) _ _ tail in
    let both : p.message ++ xs ≡ q.message ++ ys = cons_tail (length p.message) (length q.message) _ _ tail in
    record {
      part = same_part p q who
          (sym (take_at p.message xs (length p.message) refl) ∙ ap (λ (zs : List ℕ). take (length p.message) zs) both ∙ take_at q.message ys (length p.message) (sym size));
      rest = sym (drop_at p.message xs (length p.message) refl) ∙ ap (λ (zs : List ℕ). drop (length p.message) zs) both ∙ drop_at q.message ys (length p.message) (sym size);
    }

pub one-reading : OneReading
unfolding written
one-reading [] [] e = refl
one-reading [] (q ∷ qs) e = absurd (none_cons _ _ e)
one-reading (p ∷ ps) [] e = absurd (none_cons _ _ (sym e))
one-reading (p ∷ ps) (q ∷ qs) e =
    let k = parted p q (written ps) (written qs) e in ap (λ (r : Part). r ∷ ps) k.part ∙ ap (λ (rs : List Part). q ∷ rs) (one-reading ps qs k.rest)

-- no sound part begins a bad entry
sound_not_bad : (p : Part) (more : List ℕ) → Sound p → Bad (headed p more) → ⊥
sound_not_bad p more s b =
    let long = length-append p.message more in
    elim b.why [
      | inl h ↦ omega (arith, s.known)
      | inr k ↦ elim k [ inl h ↦ omega arith | inr h ↦ omega arith ]
    ]

bad-some : Bad [] → ⊥
bad-some b = omega (arith, b.some)

bad_moved : (xs ys : List ℕ) → xs ≡ ys → Bad xs → Bad ys
bad_moved xs ys e b = subst (λ (zs : List ℕ). Bad zs) e b

written-more : (p : Part) (ps : List Part) (more : List ℕ) → written (p ∷ ps) ++ more ≡ headed p (written ps ++ more)
unfolding written
written-more p ps more = ap (λ (xs : List ℕ). p.who ∷ (length p.message ∷ xs)) (append_assoc p.message (written ps) more)

none_more : (more : List ℕ) → written [] ++ more ≡ more
unfolding written
none_more more = refl

stuck_length : (ps qs : List Part) (xs ys : List ℕ) → Known ps → Known qs → Bad xs → Bad ys → written ps ++ xs ≡ written qs ++ ys → length (written ps) ≡ length (written qs)
unfolding written
stuck_length [] [] xs ys k l b d e = refl
stuck_length [] (q ∷ qs) xs ys k l b d e = absurd (sound_not_bad q (written qs ++ ys) l.0 (bad_moved xs (headed q (written qs ++ ys)) (e ∙ written-more q qs ys) b))
stuck_length (p ∷ ps) [] xs ys k l b d e = absurd (sound_not_bad p (written ps ++ xs) k.0 (bad_moved ys (headed p (written ps ++ xs)) (sym e ∙ written-more p ps xs) d))
stuck_length (p ∷ ps) (q ∷ qs) xs ys k l b d e =
    let f = parted p q (written ps ++ xs) (written qs ++ ys) (sym (written-more p ps xs) ∙ e ∙ written-more q qs ys) in
    let one : length p.message ≡ length q.message = ap (λ (r : Part). length r.message) f.part in
    let rest : length (written ps) ≡ length (written qs) = stuck_length ps qs xs ys k.1 l.1 b d f.rest in
    omega (arith, length-append p.message (written ps), length-append q.message (written qs))

read_not_stuck : (ps qs : List Part) (xs : List ℕ) → Known qs → Bad xs → written ps ++ xs ≡ written qs → ⊥
unfolding written
read_not_stuck [] [] xs l b e = bad-some (bad_moved xs [] e b)
read_not_stuck [] (q ∷ qs) xs l b e = sound_not_bad q (written qs) l.0 (bad_moved xs (headed q (written qs)) e b)
read_not_stuck (p ∷ ps) [] xs l b e = none_cons _ _ (sym e)
read_not_stuck (p ∷ ps) (q ∷ qs) xs l b e =
    let f = parted p q (written ps ++ xs) (written qs) (sym (written-more p ps xs) ∙ e) in
    read_not_stuck ps qs xs l.1 b f.rest

pub never_both : NeverBoth
never_both bytes parts n r s = read_not_stuck s.parts parts s.rest r.known s.bad (sym s.whole ∙ r.whole)

pub one_fault : OneFault
one_fault bytes m n s t =
    s.place ∙ stuck_length s.parts t.parts s.rest t.rest s.known t.known s.bad t.bad (sym s.whole ∙ t.whole) ∙ sym t.place
