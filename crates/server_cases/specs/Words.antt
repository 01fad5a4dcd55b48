-- The words that show an effect.
-- Assumes nothing.
use Rattle.std.specs.Prelude.{ℕ, List, ◌++◌, codes, decimal}
use Rattle.lease.specs.Fault.{number}
use Rattle.wire.specs.declared.message.Message.{Message}
use Rattle.wire.specs.declared.message.Message.TheVariants.{Request, Grant, Settings, Tick, Crash, Restart, OwnNumber, Nonce, InUse, NoAddress, Fault}
use Rattle.server.specs.declared.effect.Effect.{Effect}
use Rattle.server.specs.declared.effect.Effect.TheVariants.{Persist, Send}

-- a server sends grants and faults alone
abbrev pub message_words : Message → List ℕ
message_words (Request r) = codes "another message"
message_words (Grant g) = codes "grant " ++ decimal g.client ++ codes " " ++ decimal g.nonce ++ codes " " ++ decimal g.address
message_words (Settings n t e) = codes "another message"
message_words Tick = codes "another message"
message_words Crash = codes "another message"
message_words (Restart clock) = codes "another message"
message_words (OwnNumber n) = codes "another message"
message_words (Nonce n) = codes "another message"
message_words (InUse a u) = codes "another message"
message_words NoAddress = codes "another message"
message_words (Fault f) = codes "fault " ++ decimal (number f)

abbrev pub effect_words : Effect → List ℕ
effect_words (Persist w) = codes "persist " ++ decimal w.first ++ codes " " ++ decimal w.count
effect_words (Send m) = message_words m
