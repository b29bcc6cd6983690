-- The codec of messages: a length and so many bytes, which are merged into the value one level down.
-- Source: the protobuf encoding guide, "Submessages".
use Rattle.std.specs.Prelude.{ℕ, Bool, false, true, List, Option, Some, None, Result, Ok, Err}
use Rattle.buffa_bytes.specs.PayloadValue.{bytes_in}
use Rattle.buffa_wire.specs.BudgetLeft.{BudgetLeft}
use Rattle.buffa_wire.specs.Message.{cost_in, merged_in}
use Rattle.buffa_bytes.specs.declared.wire_type.WireType.TheVariants.{LengthDelimited}
use Rattle.buffa_bytes.specs.declared.error.DecodeError.{DecodeError}
use Rattle.buffa_bytes.specs.declared.error.DecodeError.TheVariants.{UnexpectedEof}
use Rattle.buffa_map.specs.Codec.{Reading}

-- what bytes mean, which are always declared; where they mean no value, the fault that is read stands for any
abbrev pub merged_value : {V : Type 0} → Option V → Result (V × Bool) DecodeError
merged_value (Some v) = Ok (v, true)
merged_value None = Err UnexpectedEof

abbrev pub message_reading : {V : Type 0} → V → (ℕ → V → List ℕ → Option V) → (ℕ → List ℕ → BudgetLeft) → Reading V
message_reading blank merged cost = record {
  blank = blank;
  wire = LengthDelimited;
  reads = λ d old c. merged_value (merged_in merged d old (bytes_in c));
  nested = true;
  undeclared = false;
  takes_memory = true;
  cost = λ d c. cost_in cost d (bytes_in c);
}
