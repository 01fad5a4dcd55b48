-- Bytes cut into places of one length.
use Rattle.std.proofs.Common.{◌≡◌, ℕ, zero, suc, ◌+◌, ◌-◌, ◌*◌, ◌<◌, List, [], get_or, take, drop, ap, ◌∙◌, arith}
use Rattle.std.specs.List.{between}
use Rattle.std.specs.Simd.{first_chunks}
use Rattle.std.proofs.lemmas.List.{drop-drop}

chunk-at : (n k i : ℕ) (xs : List ℕ) → i < k → get_or (first_chunks n k xs) i [] ≡ take n (drop (i * n) xs)
chunk-at n zero i xs l = absurd (omega arith)
chunk-at n (suc k) zero xs l = ap (λ (j : ℕ). take {A = ℕ} n (drop j xs)) {x = 0} {y = 0 * n} (omega arith)
chunk-at n (suc k) (suc i) xs l =
    chunk-at n k i (drop n xs) (omega arith) ∙ ap (take n) (drop-drop (i * n) n xs) ∙ ap (λ (j : ℕ). take {A = ℕ} n (drop j xs)) {x = n + i * n} {y = suc i * n} (omega arith)

pub place-between : (n k i : ℕ) (xs : List ℕ) → i < k → get_or (first_chunks n k xs) i [] ≡ between (i * n) (i * n + n) xs
place-between n k i xs l = chunk-at n k i xs l ∙ ap (λ (m : ℕ). take {A = ℕ} m (drop (i * n) xs)) {x = n} {y = i * n + n - i * n} (omega arith)
