-- Extensions that hold messages, under the limits of a caller.
-- Source: the protobuf encoding guide, "Last One Wins".
use Rattle.std.specs.Prelude.{◌≡◌, ℕ, List, Option}
use Rattle.buffa_bytes.specs.declared.error.DecodeError.{DecodeError}
use Rattle.buffa_bytes.specs.declared.wire_type.WireType.{WireType}
use Rattle.buffa_wire.specs.BudgetLeft.{BudgetLeft, Pays}
use Rattle.buffa_wire.specs.Records.{FieldData}
use Rattle.buffa_codec.specs.Strict.{IsFaultOrFull}
use Rattle.buffa_ext.specs.Messages.{cost_all, encodings_in, message_of}
use Rattle.buffa_ext.specs.Strict.{MessageRecordFault, ReachesStrictly}

module _ {X : Type 0} (merged : X → List ℕ → Option X) (cost : List ℕ → BudgetLeft) (held : FieldData → Option (List ℕ)) where
  -- records are read as the message of the encodings in them, by what a budget has, and what they cost is spent of it
  abbrev pub ReadsWithin : X → List FieldData → BudgetLeft → Option X → BudgetLeft → Type 0
  ReadsWithin blank ds before o after =
      (o ≡ message_of merged cost blank before (encodings_in held ds)) × Pays before (cost_all cost (encodings_in held ds)) after

  -- the records of number n before one are merged into a blank by what a budget has; and that one holds no encoding, or its
  -- encoding isn't merged, for this fault, or takes memory
  abbrev pub StopsWithin : WireType → ℕ → (FieldData → Type 0) → X → List FieldData → BudgetLeft → DecodeError → Type 0
  StopsWithin w n asks blank ds before e =
      ReachesStrictly merged cost held w n (λ d mid left. IsFaultOrFull (MessageRecordFault merged cost held w n d mid left) (asks d) e) blank before ds
