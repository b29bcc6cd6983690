-- Optional fields of closed enums whose undeclared numbers are put aside: each is kept as a varint record of the field's number,
-- behind the records that the message keeps. Source: the protobuf language guide, "Enumerations".
use Rattle.std.specs.Prelude.{◌≡◌, ◌≢◌, ◌⊎◌, ℕ, ℤ, false, List, [], ◌∷◌, ◌++◌, length, cond, Option, Some, None, Result, Ok, Err, if◌then◌else◌}
use Rattle.buffa_bytes.specs.declared.error.DecodeError.{DecodeError}
use Rattle.buffa_bytes.specs.declared.error.DecodeError.TheVariants.{OutOfMemory}
use Rattle.buffa_bytes.specs.declared.wire_type.WireType.TheVariants.{Varint}
use Rattle.buffa_bytes.specs.Readings.{check_wire, varint_at, ◌>>=◌, same_wire}
use Rattle.buffa_bytes.specs.Values.{int32_of}
use Rattle.buffa_bytes.specs.declared.tag.Tag.{Tag}
use Rattle.buffa_fields.specs.ContextAfter.{ContextAfter}
use Rattle.buffa_wire.specs.RecordReading.{field_at}
use Rattle.buffa_wire.specs.declared.context.DecodeContext.{DecodeContext}
use Rattle.buffa_fields.specs.UndeclaredFields.{KeepTakesMemory}
use Rattle.std.specs.Option.{option_map}
use denote.Ref.{Bor}
use Rattle.buffa_wire.specs.BudgetLeft.{BudgetLeft, budget_left, nothing, unknown_fields}
use Rattle.buffa_wire.specs.Message.{FieldRefused}
use Rattle.buffa_wire.specs.Enums.{Numbers}
use Rattle.buffa_wire.specs.Records.{FieldData, varint}
use Rattle.buffa_wire.specs.Takes.{Asks, IsTaken, Charge, Taker}
use Rattle.buffa_fields.specs.UnknownsOfMembers.{Kept}

module _ (e : Numbers) where
  -- whether the low 32 bits of a varint are a declared number
  abbrev pub IsUndeclaredNumber : ℕ → Type 0
  IsUndeclaredNumber k = e.declares (int32_of k) ≡ false

  -- what may stand among the records that are kept: a varint with an undeclared number, as it was read
  abbrev pub IsUnknownNumber : FieldData → Type 0
  IsUnknownNumber (varint k) = IsUndeclaredNumber k
  IsUnknownNumber x = ⊥

  -- the record of a number, if it is undeclared
  abbrev pub undeclared_number : ℕ → ℕ → Kept
  undeclared_number n k = cond (e.declares (int32_of k)) [] ((n, varint k) ∷ [])

  -- a varint puts its number so, or goes behind what is kept
  abbrev pub number_put : {X : Type 0} → (X → ℤ → X) → ℕ → X × Kept → ℕ → X × Kept
  number_put puts n x k = (cond (e.declares (int32_of k)) (puts x.0 (int32_of k)) x.0, x.1 ++ undeclared_number n k)

  -- the varint at the front
  abbrev pub number_put_at : {X : Type 0} → (X → ℤ → X) → ℕ → X × Kept → List ℕ → Result ((X × Kept) × List ℕ) DecodeError
  number_put_at {X} puts n x bs = varint_at bs >>= (λ y. let z : (X × Kept) × List ℕ = (number_put puts n x y.0, y.1) in Ok z)

  -- a whole payload: one varint
  abbrev pub one_number : {X : Type 0} → Result ((X × Kept) × List ℕ) DecodeError → Option (X × Kept)
  one_number (Ok (x, [])) = Some x
  one_number (Ok (x, b ∷ bs)) = None
  one_number (Err f) = None

  -- `optional Shade s = 4;`: a declared number takes the place of the one that stood; an undeclared one leaves it
  abbrev pub kept_number_taken : Taker (Option ℤ × Kept)
  kept_number_taken d x n w p = if same_wire Varint w then one_number (number_put_at (λ _ v. Some v) n x p) else None

  -- what it costs: an unknown field for an undeclared number; a malformed one costs nothing
  abbrev pub undeclared_number_cost : {X : Type 0} → Option (X × Kept) → BudgetLeft
  undeclared_number_cost None = nothing
  undeclared_number_cost (Some x) = unknown_fields (length x.1)

  abbrev pub front_number : {X : Type 0} → Result ((X × Kept) × List ℕ) DecodeError → Option (X × Kept)
  front_number (Ok x) = Some x.0
  front_number (Err f) = None

  abbrev pub kept_number_cost : Charge
  kept_number_cost d n w bs = if same_wire Varint w then undeclared_number_cost (front_number (number_put_at (λ _ v. Some v) n (None, []) bs)) else nothing

  -- where it takes memory, with so many unknown fields left: where its number is undeclared, and keeping it does
  abbrev pub KeptNumberTakesMemory : ℕ → Asks
  KeptNumberTakesMemory left d n w bs =
      (w ≡ Varint) × (k : ℕ) × (rest : List ℕ) × (varint_at bs ≡ Ok (k, rest)) × IsUndeclaredNumber k × KeepTakesMemory left d n w bs

  -- what is told of a refused one: the value stays; the wire type, the varint's fault, or, of an undeclared number, that of keeping it
  abbrev pub RefusesKeptNumber : FieldRefused (Option ℤ)
  RefusesKeptNumber d old n w bs left f new =
      (old ≡ new)
      × (f ≢ OutOfMemory → (check_wire n Varint w ≡ Err f) ⊎ ((varint_at bs ≡ Err f)
      ⊎ ((k : ℕ) × (rest : List ℕ) × (varint_at bs ≡ Ok (k, rest)) × IsUndeclaredNumber k × (field_at d left.unknown n w bs ≡ Err f))))

-- ---- a call that took the field whose tag was read: a declared number is the value, an undeclared one went behind these records
abbrev pub TakesKeptNumber : {A D T : Type 0} → Numbers → Tag → DecodeContext → ContextAfter D → Option A → Kept → Option A → Kept → Bor (List ℕ) → Bor (List ℕ) → Result T DecodeError → (A → ℤ) → Type 0
TakesKeptNumber e tag ctx left old kept new keeps before after r says =
    IsTaken (kept_number_taken e) (kept_number_cost e) ctx.depth (option_map says old, kept) tag.number tag.wire_type before.now ctx.budget.now r (option_map says new, keeps) (budget_left left) after.now
