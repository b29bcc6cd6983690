-- Lists of messages. Source: the protobuf encoding guide, "Repeated Elements" and "Submessages".
use Rattle.std.specs.Prelude.{◌≡◌, ◌<◌, ℕ, suc, max, List, [], ◌∷◌, ◌++◌, length, Option, IsOk}
use Rattle.buffa_bytes.specs.declared.wire_type.WireType.TheVariants.{LengthDelimited}
use Rattle.buffa_wire.specs.BudgetLeft.{BudgetLeft}
use Rattle.buffa_wire.specs.Message.{cost_of_payload}
use Rattle.buffa_wire.specs.Passes.{cap}
use Rattle.buffa_bytes.specs.Readings.{delimited_at}
use Rattle.buffa_wire.specs.Records.{FieldData, bytes}
use Rattle.buffa_fields.specs.Framing.{each_cost_as}
use Rattle.buffa_fields.specs.Lists.{element_records}
use Rattle.buffa_fields.specs.Submessages.{message_merged, taken_behind}
use Rattle.buffa_wire.specs.Takes.{Asks, Charge, Taker}

-- each payload is merged into a default message, which goes behind the others
abbrev pub messages_taken : {X : Type 0} → X → (ℕ → X → List ℕ → Option X) → Taker (List X)
messages_taken blank merged = taken_behind blank (message_merged merged)

-- at a depth, what it costs: so many units for a message, and what is in it
unfoldable pub messages_cost : ℕ → (ℕ → List ℕ → BudgetLeft) → Charge
unfolding each_cost_as
messages_cost each cost = each_cost_as LengthDelimited each (λ d bs. cost_of_payload cost d (delimited_at bs))

-- it takes memory where a level is left, and a length and so many bytes are there
abbrev pub MessagesTakeMemory : Asks
MessagesTakeMemory d n w bs = (w ≡ LengthDelimited) × (0 < d) × IsOk (delimited_at bs)

module _ {X : Type 0} (encoding : X → List ℕ) where
  -- a record for each message
  abbrev pub messages_records : ℕ → List X → List (ℕ × FieldData)
  messages_records n vs = element_records (λ v. bytes (encoding v)) n vs

  -- for each message in order its length, and then the sizes of those in it
  unfoldable pub messages_slots : (X → List ℕ) → List X → List ℕ
  messages_slots slots [] = []
  messages_slots slots (v ∷ vs) = (cap (length (encoding v)) ∷ slots v) ++ messages_slots slots vs

-- how deep messages and groups nest in the deepest of them
abbrev pub messages_levels : {X : Type 0} → (X → ℕ) → List X → ℕ
messages_levels level [] = 0
messages_levels level (v ∷ vs) = max (suc (level v)) (messages_levels level vs)
