-- Bytes are read back from their hexadecimal digits.
use Rattle.std.proofs.Common.{◌≡◌, ℕ, ◌+◌, ◌-◌, ◌*◌, ◌/◌, ◌%◌, ◌<◌, ◌≤◌, true, false, cond, ◌&&◌, ◌||◌, ltb, leb, List, [], ◌∷◌, length, refl, ◌∙◌, ap₂, ⊎_elim, arith}
use Rattle.std.proofs.lemmas.Bool.{cond-true, cond-false, cases_lt, and_from, and_right, or_left, or_right, le-leb, lt-leb, le-ltb, lt-ltb}
use Rattle.std.specs.List.{AllByRecursion}
use Rattle.text.specs.Hex.{digit, ten, six, nibble, pair, pairs, written, meant}
use Rattle.text.proofs.Spelling.{plainly}

record Nibble (x n : ℕ) : Type 0 where
  value : nibble x ≡ n
  hex : (ten x || six x) ≡ true
  plain : 35 < x

low : (n x : ℕ) → n < 10 → x ≡ 48 + n → Nibble x n
low n x h e =
    let t : ten x ≡ true = and_from (leb 48 x) (leb x 57) (le-leb 48 x (omega arith)) (le-leb x 57 (omega arith)) in
    let v : x - 48 ≡ n = omega arith in
    record { value = cond-true (ten x) (x - 48) (cond (six x) (x - 87) 0) t ∙ v; hex = or_left (ten x) (six x) t; plain = omega arith }

high : (n x : ℕ) → 10 ≤ n → n < 16 → x ≡ 87 + n → Nibble x n
high n x h k e =
    let t : ten x ≡ false = and_right (leb 48 x) (leb x 57) (lt-leb x 57 (omega arith)) in
    let s : six x ≡ true = and_from (leb 97 x) (leb x 102) (le-leb 97 x (omega arith)) (le-leb x 102 (omega arith)) in
    let v : x - 87 ≡ n = omega arith in
    record { value = cond-false (ten x) (x - 48) (cond (six x) (x - 87) 0) t ∙ (cond-true (six x) (x - 87) 0 s ∙ v); hex = or_right (ten x) (six x) s; plain = omega arith }

nib : (n : ℕ) → n < 16 → Nibble (digit n) n
nib n h =
    ⊎_elim (λ (l : n < 10). low n (digit n) l (cond-true (ltb n 10) (48 + n) (87 + n) (lt-ltb n 10 l))) (λ (l : 10 ≤ n). high n (digit n) l h (cond-false (ltb n 10) (48 + n) (87 + n) (le-ltb n 10 l))) (cases_lt n 10)

pub record Hexed (m : List ℕ) : Type 0 where
  pub pairs : pairs (written m) ≡ true
  pub meant : meant (written m) ≡ m
  pub plain : plainly (written m) ≡ true
  pub twice : length (written m) ≡ 2 * length m

pub hexed : (m : List ℕ) → AllByRecursion (λ b. b < 256) m → Hexed m
hexed [] h = record { pairs = refl; meant = refl; plain = refl; twice = refl }
hexed (b ∷ m) h =
    let l : b < 256 = h.0 in
    let p = nib (b / 16) (omega arith) in
    let q = nib (b % 16) (omega arith) in
    let r = hexed m h.1 in
    let e : b / 16 * 16 + b % 16 ≡ b = omega arith in
    let u : nibble (digit (b / 16)) * 16 + nibble (digit (b % 16)) ≡ b = ap₂ (λ (x y : ℕ). x * 16 + y) p.value q.value ∙ e in
    record {
      pairs =
          cond-true (pair (digit (b / 16)) (digit (b % 16))) (pairs (written m)) false (and_from (ten (digit (b / 16)) || six (digit (b / 16))) (ten (digit (b % 16)) || six (digit (b % 16))) p.hex q.hex) ∙ r.pairs;
      meant = ap₂ (λ (x : ℕ) (xs : List ℕ). x ∷ xs) u r.meant;
      plain =
          and_from (ltb 35 (digit (b / 16))) (ltb 35 (digit (b % 16)) && plainly (written m)) (lt-ltb 35 (digit (b / 16)) p.plain) (and_from (ltb 35 (digit (b % 16))) (plainly (written m)) (lt-ltb 35 (digit (b % 16)) q.plain) r.plain);
      twice = let t = r.twice in omega arith;
    }
