-- Messages one after the other, each with its length before it.
-- Assumes nothing: what a message's bytes say does not matter here.
use Rattle.std.specs.Prelude.{◌≡◌, ℕ, zero, suc, ◌<◌, ◌≤◌, Bool, true, false, cond, List, [], ◌∷◌, ◌++◌, length, take, drop, nat_lt, slice_index}
use Rattle.std.specs.List.{flat_map}
use Rattle.wire.specs.declared.stream.Next.{Next}
use Rattle.wire.specs.declared.stream.Next.TheVariants.{Message, End, Cut}

abbrev pub framed : List ℕ → List ℕ
framed m = length m ∷ m

-- a stream's messages, and whether it ends within one more
pub record Held : Type 0 where
  pub messages : List (List ℕ)
  pub cut : Bool

abbrev pub none : Held
none = record { messages = []; cut = false }

abbrev pub broken : Held
broken = record { messages = []; cut = true }

abbrev pub after : List ℕ → Held → Held
after m h = record { messages = m ∷ h.messages; cut = h.cut }

-- by at most so many messages
unfoldable pub held_by : ℕ → List ℕ → Held
held_by turns [] = none
held_by zero (n ∷ bs) = broken
held_by (suc turns) (n ∷ bs) = cond (nat_lt (length bs) n) broken (after (take n bs) (held_by turns (drop n bs)))

-- each message takes a byte at least
unfoldable pub held : List ℕ → Held
held bs = held_by (length bs) bs

-- how a stream begins: with a whole message, not at all, or with a message that it ends within
abbrev pub Splits : List ℕ → Next → Type 0
Splits s (Message bytes rest) = s ≡ framed bytes.now ++ rest.now
Splits s End = length s ≡ 0
Splits s Cut = (0 < length s) × (length s ≤ slice_index s 0)

-- what it holds then
abbrev pub Holds : List ℕ → Next → Type 0
Holds s (Message bytes rest) = (held s ≡ after bytes.now (held rest.now)) × (length rest.now < length s)
Holds s End = held s ≡ none
Holds s Cut = held s ≡ broken

pub record Reads (s : List ℕ) (next : Next) : Type 0 where
  pub splits : Splits s next
  pub holds : Holds s next

-- a stream holds the messages that were put on it, whatever bytes each of them has, and then what stands behind them
abbrev pub Delivered : Type 0
Delivered =
    (ms : List (List ℕ)) (tail : List ℕ)
    → held (flat_map framed ms ++ tail) ≡ record { messages = ms ++ (held tail).messages; cut = (held tail).cut }
