-- What a call that merges a message, or writes one into a field, did: from what it was passed to what it left.
use Rattle.std.specs.Prelude.{ℕ, List, [], ◌∷◌, length, Option, Result}
use Rattle.buffa_bytes.specs.declared.error.DecodeError.{DecodeError}
use Rattle.buffa_bytes.specs.declared.error.EncodeError.{EncodeError}
use Rattle.buffa_wire.specs.BudgetLeft.{BudgetLeft, budget_left}
use Rattle.buffa_wire.specs.Cache.{Cache}
use Rattle.buffa_wire.specs.Encoding.{records_encoding}
use Rattle.buffa_wire.specs.Passes.{IsWritten, cap}
use Rattle.buffa_wire.specs.Records.{FieldData}
use Rattle.buffa_wire.specs.declared.context.DecodeContext.{DecodeContext}
use Rattle.buffa_fields.specs.ContextAfter.{ContextAfter}
use Rattle.buffa_fields.specs.Framing.{Frame, cost_as, taken_as}
use Rattle.buffa_fields.specs.Lists.{element_records}
use Rattle.buffa_fields.specs.RepeatedMessages.{messages_slots}
use Rattle.buffa_wire.specs.Takes.{IsTaken}
use denote.Ref.{Bor}

-- a message merged the field of a number and the framing's wire type, whose tag was read, and paid for it
abbrev pub MergesFramed : {P X D T : Type 0} → Frame → ℕ → DecodeContext → ContextAfter D → P → P → Bor (List ℕ) → Bor (List ℕ) → Result T DecodeError → (ℕ → X → List ℕ → Option X) → (ℕ → List ℕ → BudgetLeft) → (P → X) → Type 0
MergesFramed f n ctx left old new before after r merged cost says =
    IsTaken (taken_as f.wire (f.makes merged)) (cost_as f.wire (f.cost cost)) ctx.depth (says old) n f.wire before.now ctx.budget.now r (says new) (budget_left left) after.now

-- ---- encodings: what stands in a sink before and after
module _ {T : Type 0} (before : Cache) (put : List ℕ) (r : Result T EncodeError) (after : Cache) (puts : List ℕ) where
  module _ {X : Type 0} (field_data : X → FieldData) (encoding slots : X → List ℕ) (n : ℕ) where
    -- one message
    abbrev pub WritesFramed : X → Type 0
    WritesFramed v = IsWritten (records_encoding ((n, field_data v) ∷ [])) (cap (length (encoding v)) ∷ slots v) before put r after puts

    -- a list of them
    abbrev pub WritesAllFramed : List X → Type 0
    WritesAllFramed vs = IsWritten (records_encoding (element_records field_data n vs)) (messages_slots encoding slots vs) before put r after puts
