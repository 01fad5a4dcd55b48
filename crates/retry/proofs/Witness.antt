-- The runs that reach the bounds, followed tick by tick.
-- Assumes nothing.
use Rattle.std.proofs.Common.{◌≡◌, ℕ, zero, suc, ◌+◌, ◌<◌, ◌≤◌, ltb, ◌++◌, replicate, Some, None, refl, ap, ◌∙◌, add-one, arith}
use Rattle.std.proofs.lemmas.Bool.{cond-false, le-ltb, lt-leb}
use Rattle.retry.specs.declared.schedule.Pause.TheVariants.{Eight}
use Rattle.retry.specs.Schedule.{is_due}
use Rattle.retry.specs.Run.{Client, Ticks, step, client, Lawful}
use Rattle.retry.specs.Pacing.{Never, tarries}
use Rattle.retry.specs.Reached.{lent, Reached}

-- the client `n` ticks after it took the grant
abbrev at : ℕ → Client
at n = record { clock = n; uses = Some 60; waits = None; schedule = record { next = 60; pause = Eight } }

at_tick : (n : ℕ) → n < 60 → step Ticks (at n) ≡ at (suc n)
at_tick n l = cond-false (ltb 60 (n + 1)) _ _ (le-ltb 60 (n + 1) (omega arith)) ∙ ap at (add-one n)

after : (n : ℕ) → n ≤ 60 → client (replicate n Ticks ++ lent) ≡ at n
unfolding client
after zero l = refl
after (suc n) l = ap (step Ticks) (after n (omega arith)) ∙ at_tick n (omega arith)

lawful : (n : ℕ) → Lawful (replicate n Ticks ++ lent)
unfolding client Lawful
lawful zero = ((refl, omega arith), (refl, tt))
lawful (suc n) = (tt, lawful n)

prompt : (n : ℕ) → n ≤ 60 → Never tarries lent (replicate n Ticks)
unfolding Never
prompt zero l = tt
prompt (suc n) l =
    (ap (λ (c : Client). is_due c.schedule c.clock) (after n (omega arith)) ∙ lt-leb 60 n (omega arith), prompt n (omega arith))

pub reached : Reached
unfolding client Lawful Never
reached =
    record {
      retries = (refl, (tt, (tt, (tt, (tt, (refl, tt))))));
      retries_promptly = (refl, (refl, (refl, (refl, (refl, (refl, tt))))));
      retries_at = refl;
      loses = (refl, (tt, (refl, lawful 60)));
      renews_promptly = prompt 60 (omega arith);
      renews_at = refl;
      uses = refl;
      asks_at = refl;
      none = refl;
    }
