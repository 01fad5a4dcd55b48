-- The effects that a step's reply stands for, in the order in which they are to be done.
-- Assumes nothing.
use Rattle.std.specs.Prelude.{List, [], ◌∷◌, Some, None, Ok, Err, Option, Result}
use Rattle.lease.specs.declared.fault.Fault as lease
use Rattle.wire.specs.declared.message.Message.TheVariants.{Grant, Fault}
use Rattle.server.specs.declared.effect.Effect.{Effect}
use Rattle.server.specs.declared.effect.Effect.TheVariants.{Persist, Send}
use Rattle.server.specs.declared.effect.Lent.{Lent}

-- a lease, nothing, or a refusal
abbrev pub Reply : Type 0
Reply = Result (Option Lent) lease.Fault

abbrev pub effects_of : Reply → List Effect
effects_of (Ok None) = []
effects_of (Ok (Some l)) = Persist l.written ∷ (Send (Grant l.grant) ∷ [])
effects_of (Err f) = Send (Fault f) ∷ []
