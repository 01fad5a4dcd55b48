-- What a byte string says to its reader: a message, or the first fault met in reading it.
-- Assumes nothing: every byte string has its answer.
use Rattle.std.specs.Prelude.{ℕ, Bool, cond, List, Some, None, Ok, Err, Option, Result, nat_le, nat_lt}
use Rattle.lease.specs.declared.settings.Settings as lease
use Rattle.lease.specs.declared.fault.Fault as fault
use Rattle.lease.specs.declared.fault.Fault.TheVariants.{Malformed, BadAddress, BadSettings}
use Rattle.lease.specs.Settings.{valid}
use Rattle.wire.specs.declared.message.Message.{Message}
use Rattle.wire.specs.declared.message.Message.TheVariants.{Request, Grant, Settings, Tick, Crash, Restart, OwnNumber, Nonce, InUse, NoAddress, Fault}
use Rattle.wire.specs.declared.reader.Reader.{Reader}
use Rattle.wire.specs.declared.reader.Reader.TheVariants.{Server, Client, Tool}
use Rattle.wire.specs.Message.{kind}
use Rattle.wire.specs.Read.{read}
use Rattle.wire.specs.Reader.{takes}

abbrev pub Answer : Type 0
Answer = Result Message fault.Fault

-- how many addresses the pool has, as far as settings are known
abbrev pub pool : Option lease.Settings → Option ℕ
pool None = None
pool (Some s) = Some s.addresses

-- a message that names an address is judged by the pool, which has to be known
abbrev pub addressed : Option ℕ → (ℕ → Bool) → Message → Answer
addressed None admits m = Err BadSettings
addressed (Some n) admits m = cond (admits n) (Ok m) (Err BadAddress)

-- settings are given once
abbrev pub given : Option ℕ → Bool → Message → Answer
given None good m = cond good (Ok m) (Err BadSettings)
given (Some n) good m = Err BadSettings

-- a preferred address equal to the pool's size is none
abbrev pub received : Option ℕ → Message → Answer
received n (Request r) = addressed n (λ size. nat_le r.preferred size) (Request r)
received n (Grant g) = addressed n (λ size. nat_lt g.address size) (Grant g)
received n (Settings addresses term skew) = given n (valid addresses term skew) (Settings addresses term skew)
received n Tick = Ok Tick
received n Crash = Ok Crash
received n (Restart clock) = Ok (Restart clock)
received n (OwnNumber client) = Ok (OwnNumber client)
received n (Nonce nonce) = Ok (Nonce nonce)
received n (InUse address until) = Ok (InUse address until)
received n NoAddress = Ok NoAddress
received n (Fault f) = Ok (Fault f)

-- a tool knows no settings, and takes what stands there
abbrev pub judged_by : Reader → Option ℕ → Message → Answer
judged_by Server n m = received n m
judged_by Client n m = received n m
judged_by Tool n m = Ok m

-- the answer to a message: one of a kind that is not the reader's is unknown to it
abbrev pub judged : Reader → Option ℕ → Message → Answer
judged reader n m = cond (takes reader (kind m)) (judged_by reader n m) (Err Malformed)

abbrev pub answered : Reader → Option ℕ → Option Message → Answer
answered reader n None = Err Malformed
answered reader n (Some m) = judged reader n m

abbrev pub decoded : Reader → Option ℕ → List ℕ → Answer
decoded reader n bs = answered reader n (read bs)
