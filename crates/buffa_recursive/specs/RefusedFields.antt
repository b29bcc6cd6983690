-- What stands of a message that holds itself, where a field of it is refused.
use Rattle.std.specs.Prelude.{ℕ}
use Rattle.buffa_wire.specs.Message.{FieldRefused}
use Rattle.buffa_fields.specs.RefusedMessage.{IsMemberRefused}
use Rattle.buffa_recursive.specs.RecursiveSchema.{RecursiveSchema}
use Rattle.buffa_recursive.specs.Layers.{IsSound}
use Rattle.buffa_recursive.specs.Fixpoint.{message_schema}

-- the member of the field's number alone may be changed, and it is refused by this error
abbrev pub IsSelfRefused : {X : Type 0} (each : ℕ) (o : RecursiveSchema X) → IsSound o → FieldRefused X
IsSelfRefused each o sound d old n w bs before e new = IsMemberRefused (message_schema each o sound) d (o.out old) n w bs before e (o.out new)
