-- Why a message's bytes cannot be mistaken: they are read back as the message, no other message has them, and neither a part of them nor more than them is read as any.
-- Assumes that the fields fit their widths, as those of every value of the program do.
use Rattle.std.specs.Prelude.{◌≡◌, ℕ, ◌^◌, ◌<◌, List, ◌∷◌, ◌++◌, length, take, Ok, Err, Option}
use Rattle.lease.specs.declared.fault.Fault.TheVariants.{Malformed}
use Rattle.wire.specs.declared.message.Message.{Message}
use Rattle.wire.specs.declared.message.Message.TheVariants.{Request, Grant, Settings, Tick, Crash, Restart, OwnNumber, Nonce, InUse, NoAddress, Fault}
use Rattle.wire.specs.declared.reader.Reader.{Reader}
use Rattle.wire.specs.Decode.{decoded, judged}
use Rattle.wire.specs.Meant.{Meant}
use Rattle.wire.specs.Message.{encoded}

abbrev pub Fits : Message → Type 0
Fits (Request r) = (r.client < 2 ^ 32) × (r.nonce < 2 ^ 64) × (r.preferred < 2 ^ 16)
Fits (Grant g) = (g.client < 2 ^ 32) × (g.nonce < 2 ^ 64) × (g.address < 2 ^ 16)
Fits (Settings addresses term skew) = (addresses < 2 ^ 16) × (term < 2 ^ 32) × (skew < 2 ^ 16)
Fits Tick = Unit {0}
Fits Crash = Unit {0}
Fits (Restart clock) = clock < 2 ^ 64
Fits (OwnNumber client) = client < 2 ^ 32
Fits (Nonce nonce) = nonce < 2 ^ 64
Fits (InUse address until) = (address < 2 ^ 16) × (until < 2 ^ 64)
Fits NoAddress = Unit {0}
Fits (Fault f) = Unit {0}

pub record Unmistakable (m : Message) : Type 0 where
  pub read_back : (reader : Reader) (n : Option ℕ) → Meant reader n m → decoded reader n (encoded m) ≡ Ok m
  -- also where it is not meant for the reader, it is judged as the message that it is
  pub judged_as : (reader : Reader) (n : Option ℕ) → decoded reader n (encoded m) ≡ judged reader n m
  pub alone : (other : Message) → Fits other → encoded other ≡ encoded m → other ≡ m
  pub cut_short : (reader : Reader) (n : Option ℕ) (k : ℕ) → k < length (encoded m) → decoded reader n (take k (encoded m)) ≡ Err Malformed
  pub run_on : (reader : Reader) (n : Option ℕ) (b : ℕ) (bs : List ℕ) → decoded reader n (encoded m ++ b ∷ bs) ≡ Err Malformed

-- no bytes but a message's own are taken for it
pub record Taken (reader : Reader) (n : Option ℕ) (bs : List ℕ) (m : Message) : Type 0 where
  pub own_bytes : bs ≡ encoded m
  pub meant : Meant reader n m
