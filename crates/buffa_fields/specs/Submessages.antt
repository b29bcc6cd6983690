-- Messages as members. Source: the protobuf encoding guide, "Submessages".
use Rattle.std.specs.Prelude.{◌≡◌, ◌≢◌, ◌<◌, ℕ, suc, List, [], ◌∷◌, ◌++◌, length, Option, Some, None, Result, Ok, Err}
use Rattle.std.specs.Option.{option_map}
use Rattle.buffa_bytes.specs.declared.error.DecodeError.{DecodeError}
use Rattle.buffa_bytes.specs.declared.wire_type.WireType.TheVariants.{LengthDelimited}
use Rattle.buffa_wire.specs.BudgetLeft.{BudgetLeft}
use Rattle.buffa_wire.specs.Message.{cost_of_payload, merged_in}
use Rattle.buffa_wire.specs.Parse.{Fits}
use Rattle.buffa_wire.specs.Passes.{cap}
use Rattle.buffa_bytes.specs.Readings.{delimited_at}
use Rattle.buffa_wire.specs.Records.{FieldData, bytes, records_of}
use Rattle.buffa_fields.specs.Framing.{cost_as, taken_as}
use Rattle.buffa_fields.specs.MemberRecords.{explicit_records}
use Rattle.buffa_wire.specs.Takes.{Asks, Charge, Taker}

module _ {X : Type 0} (merged : ℕ → X → List ℕ → Option X) where
  -- what a length and so many bytes, which are all, make of the message that stands, one level down
  abbrev pub inside : ℕ → X → Result (List ℕ × List ℕ) DecodeError → Option X
  inside d v (Ok (b, [])) = merged_in merged d v b
  inside d v (Ok (b, x ∷ xs)) = None
  inside d v (Err e) = None

  unfoldable pub message_merged : Taker X
  unfolding taken_as
  message_merged = taken_as LengthDelimited (λ d v p. inside d v (delimited_at p))

-- at a depth, what it costs
unfoldable pub message_cost : (ℕ → List ℕ → BudgetLeft) → Charge
unfolding cost_as
message_cost cost = cost_as LengthDelimited (λ d bs. cost_of_payload cost d (delimited_at bs))

-- it takes memory where a level is left, and a length and so many bytes are there, one at least
abbrev pub MessageTakesMemory : Asks
MessageTakesMemory d n w bs =
    (w ≡ LengthDelimited) × (0 < d) × (b : List ℕ) × (rest : List ℕ) × (delimited_at bs ≡ Ok (b, rest)) × (b ≢ [])

module _ {X : Type 0} (blank : X) where
  -- the message that stands, or a default one
  abbrev pub or_blank : Option X → X
  or_blank None = blank
  or_blank (Some v) = v

  -- it takes each payload
  abbrev pub taken_there : Taker X → Taker (Option X)
  taken_there takes d v n w p = option_map (λ x. Some x) (takes d (or_blank v) n w p)

  -- each payload makes a new value of the default one; it goes behind the others
  abbrev pub taken_behind : Taker X → Taker (List X)
  taken_behind takes d vs n w p = option_map (λ x. vs ++ x ∷ []) (takes d blank n w p)

module _ {X : Type 0} (encoding : X → List ℕ) where
  -- its record, where it is there
  abbrev pub message_records : ℕ → Option X → List (ℕ × FieldData)
  message_records = explicit_records (λ v. bytes (encoding v))

  -- its length, and then the sizes of those in it
  unfoldable pub message_slots : (X → List ℕ) → Option X → List ℕ
  message_slots slots None = []
  message_slots slots (Some v) = cap (length (encoding v)) ∷ slots v

-- how deep messages and groups nest in it
abbrev pub message_levels : {X : Type 0} → (X → ℕ) → Option X → ℕ
message_levels level None = 0
message_levels level (Some v) = suc (level v)

-- a message that reads back from inside another: it is normal, and the lengths in it can be read
abbrev pub FitsInside : {X : Type 0} → (X → Type 0) → (X → List (ℕ × FieldData)) → X → Type 0
FitsInside normal records v = normal v × Fits (records_of (records v))
