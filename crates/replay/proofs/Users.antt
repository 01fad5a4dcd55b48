-- A pass over all places that puts out who uses what.
-- Assumes nothing.
use Rattle.std.proofs.Common.{◌≡◌, ℕ, suc, ◌+◌, ◌-◌, ◌<◌, ◌≤◌, List, [], ◌++◌, sym, refl, ap, ◌∙◌, append_assoc, append-nil, add-one, arith}
use Rattle.client.specs.State.{in_use}
use Rattle.system.specs.declared.line.Line.{Line}
use Rattle.system.specs.Parties.{Parties}
use Rattle.system.specs.Report.{user_line, user_lines}

users_none : (x : Parties) (i : ℕ) → user_lines x i 0 ≡ []
unfolding user_lines
users_none x i = refl

users_more : (x : Parties) (i n : ℕ) → user_lines x i (suc n) ≡ user_line i (in_use (x.clients i).state) ++ user_lines x (suc i) n
unfolding user_lines
users_more x i n = refl

pub users_turn : (x : Parties) (i : ℕ) (out next whole : List Line) → i < 65 → out ++ user_lines x i (65 - i) ≡ whole → next ≡ out ++ user_line i (in_use (x.clients i).state) →
    next ++ user_lines x (i + 1) (65 - (i + 1)) ≡ whole
users_turn x i out next whole h e n =
    let k : 65 - i ≡ suc (65 - (i + 1)) = omega arith in
    ap (λ (l : List Line). l ++ user_lines x (i + 1) (65 - (i + 1))) n
    ∙ append_assoc out (user_line i (in_use (x.clients i).state)) (user_lines x (i + 1) (65 - (i + 1)))
    ∙ ap (λ (j : ℕ). out ++ (user_line i (in_use (x.clients i).state) ++ user_lines x j (65 - (i + 1)))) (add-one i)
    ∙ ap (λ (l : List Line). out ++ l) (sym (users_more x i (65 - (i + 1))))
    ∙ ap (λ (j : ℕ). out ++ user_lines x i j) (sym k) ∙ e

pub users_end : (x : Parties) (i : ℕ) (out whole : List Line) → 65 ≤ i → out ++ user_lines x i (65 - i) ≡ whole → out ≡ whole
users_end x i out whole h e =
    let k : 65 - i ≡ 0 = omega arith in
    sym (append-nil out) ∙ ap (λ (l : List Line). out ++ l) (sym (ap (λ (j : ℕ). user_lines x i j) k ∙ users_none x i)) ∙ e
