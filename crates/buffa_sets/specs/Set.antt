-- A MessageSet as a message: its Items as records under their type ids, and every other field as it is.
-- Source: the documentation of buffa, "MessageSet wire format helpers"; the protobuf encoding guide, "Groups".
use Rattle.std.specs.Prelude.{◌≡◌, ◌≢◌, ◌⊎◌, ℕ, zero, suc, ◌-◌, ◌==◌, ◌&&◌, ◌^◌, ◌<◌, nat_lt, Bool, List, [], ◌∷◌, ◌++◌, length, Option, Some, Result, Ok, Err, MatchResult, if◌then◌else◌}
use Rattle.buffa_bytes.specs.Field.{SomeField}
use Rattle.buffa_bytes.specs.Join.{Join}
use Rattle.buffa_bytes.specs.declared.wire_type.WireType.{WireType}
use Rattle.buffa_bytes.specs.declared.wire_type.WireType.TheVariants.{StartGroup}
use Rattle.buffa_bytes.specs.declared.error.DecodeError.{DecodeError}
use Rattle.buffa_bytes.specs.declared.error.DecodeError.TheVariants.{OutOfMemory, RecursionLimitExceeded}
use Rattle.buffa_wire.specs.BudgetLeft.{BudgetLeft, Pays, unknown_fields}
use Rattle.buffa_wire.specs.Message.{BeginsField, FieldRefused, MergeFault}
use Rattle.buffa_bytes.specs.Readings.{tag_at, ◌>>=◌, same_wire}
use Rattle.buffa_wire.specs.RecordReading.{field_at}
use Rattle.buffa_wire.specs.Records.{FieldData, bytes, group, height, no_records, one, varint}
use Rattle.buffa_wire.specs.Encoding.{tagged_encoding}
use Rattle.buffa_message_set.specs.Item.{IsTypeId, item_at, item_in, item_encoding}
use Rattle.buffa_wire.specs.ByField.{FieldCharge, FieldReader, cost_by, merged_by, value_of}
use Rattle.buffa_wire.specs.KeptField.{keep_charge}
use Rattle.buffa_fields.specs.UndeclaredFields.{keep_takes}
use Rattle.buffa_wire.specs.Takes.{Taker, framed, taken_by}

-- ---- merging

-- whether a tag begins an Item: number 1, start of group
abbrev pub starts : ℕ → WireType → Bool
starts n w = (n == 1) && same_wire StartGroup w

-- an Item whose start tag was read is a level deeper, and is put behind the records as bytes under its type id
abbrev pub item_field : ℕ → List (ℕ × FieldData) → List ℕ → Result (List (ℕ × FieldData) × List ℕ) DecodeError
item_field zero v bs = Err RecursionLimitExceeded
item_field (suc d) v bs = item_at d bs >>= (λ x. Ok (v ++ (x.0, bytes x.1) ∷ [], x.2))

-- any other field is kept as it is
abbrev pub set_field : ℕ → FieldReader (List (ℕ × FieldData))
set_field d v n w bs = if starts n w then item_field d v bs else framed keep_takes d v n w bs

abbrev pub set_takes : Taker (List (ℕ × FieldData))
set_takes d = taken_by (set_field d)

abbrev pub set_merged : ℕ → List (ℕ × FieldData) → List ℕ → Option (List (ℕ × FieldData))
set_merged d v bs = merged_by (set_field d) v bs

-- an Item costs an unknown field, a malformed one too; any other field costs what keeping it does
abbrev pub set_charge : ℕ → FieldCharge
set_charge d n w bs = if starts n w then unknown_fields 1 else keep_charge d n w bs

abbrev pub set_cost : ℕ → List ℕ → BudgetLeft
set_cost d bs = cost_by (set_charge d) d bs

-- ---- the encoding

abbrev pub is_type_id : ℕ → Bool
is_type_id n = nat_lt 0 n && nat_lt n (2 ^ 31)

-- bytes under a type id are an Item, any other record is a field
abbrev pub set_record_encoding : ℕ → FieldData → List ℕ
set_record_encoding n (bytes b) = if is_type_id n then item_encoding n b else tagged_encoding n (bytes b)
set_record_encoding n x = tagged_encoding n x

abbrev pub set_encoding : List (ℕ × FieldData) → List ℕ
set_encoding [] = []
set_encoding (r ∷ rs) = set_record_encoding r.0 r.1 ++ set_encoding rs

-- the records of that encoding: an Item is a group of number 1, of its type id and its message
abbrev pub item_record : ℕ → List ℕ → ℕ × FieldData
item_record n b = (1, group (one 2 (varint n) (one 3 (bytes b) no_records)))

abbrev pub encoded_record : ℕ → FieldData → ℕ × FieldData
encoded_record n (bytes b) = if is_type_id n then item_record n b else (n, bytes b)
encoded_record n x = (n, x)

abbrev pub set_records : List (ℕ × FieldData) → List (ℕ × FieldData)
set_records [] = []
set_records (r ∷ rs) = encoded_record r.0 r.1 ∷ set_records rs

-- how deep groups nest in it
abbrev pub set_levels : List (ℕ × FieldData) → ℕ
set_levels v = height (set_records v)

-- nothing but Items: what reads back as it was
abbrev pub IsItem : ℕ → FieldData → Type 0
IsItem n (bytes b) = IsTypeId n
IsItem n x = ⊥

abbrev pub AreItems : List (ℕ × FieldData) → Type 0
AreItems [] = Unit {0}
AreItems (r ∷ rs) = IsItem r.0 r.1 × AreItems rs

-- ---- calls

-- the record of the field whose tag was read, where so many unknown fields are left; how many are left then; and what
-- follows it
abbrev pub item_of : ℕ → ℕ → List ℕ → Result ((ℕ × FieldData) × ℕ × List ℕ) DecodeError
item_of zero s bs = Err RecursionLimitExceeded
item_of (suc d) s bs = item_in d s bs >>= (λ x. Ok ((x.0, bytes x.1), s - 1, x.2))

abbrev pub record_of_field : ℕ → ℕ → ℕ → WireType → List ℕ → Result ((ℕ × FieldData) × ℕ × List ℕ) DecodeError
record_of_field d s n w bs = if starts n w then item_of d s bs else (field_at d s n w bs >>= (λ x. Ok ((n, x.0), x.1, x.2)))

-- why the field whose tag was read isn't merged into v: its cost isn't left; or it means nothing, and no limit is told;
-- and what is told is the fault of reading its record with the unknown fields that are left
abbrev pub IsSetFieldRefused : ℕ → List (ℕ × FieldData) → ℕ → WireType → List ℕ → BudgetLeft → DecodeError → Type 0
IsSetFieldRefused d v n w bs left e =
    MergeFault (value_of (set_field d v n w bs)) (set_charge d n w bs) left e × (record_of_field d left.unknown n w bs ≡ Err e)

-- so it leaves the records as they were, and tells that fault, unless memory ran out
abbrev pub IsSetRefused : FieldRefused (List (ℕ × FieldData))
IsSetRefused d old n w bs left e new = (new ≡ old) × (e ≢ OutOfMemory → IsSetFieldRefused d old n w bs left e)

-- that field is merged, and exactly its cost is spent; or it is refused, and nothing is changed or spent
abbrev pub TakesSetField : {T : Type 0} → ℕ → List (ℕ × FieldData) → ℕ → WireType → List ℕ → BudgetLeft → Result T DecodeError → List (ℕ × FieldData) → BudgetLeft → List ℕ → Type 0
TakesSetField d old n w bs before r new after rest =
    MatchResult r
    (λ _. (set_field d old n w bs ≡ Ok (new, rest)) × Pays before (set_charge d n w bs) after)
    (λ e. (new ≡ old) × (after ≡ before) × (e ≢ OutOfMemory → IsSetFieldRefused d old n w bs before e))

-- why the field at the front of bytes isn't merged: they have no tag, or it is refused
abbrev pub NextIsRefused : ℕ → List (ℕ × FieldData) → List ℕ → BudgetLeft → DecodeError → Type 0
NextIsRefused d v bs left e =
    (tag_at bs ≡ Err e) ⊎ ((n : ℕ) × (w : WireType) × (rest : List ℕ) × (tag_at bs ≡ Ok (n, w, rest)) × IsSetFieldRefused d v n w rest left e)

-- after a refusal: some fields begin the bytes, the new value is what they make of the old one, exactly their cost is
-- spent, and the field behind them is the one that is refused, unless memory ran out, at a tag that is no end tag
abbrev pub StopsBehind : ℕ → List (ℕ × FieldData) → List ℕ → BudgetLeft → DecodeError → List (ℕ × FieldData) → BudgetLeft → Type 0
StopsBehind d old bs before e new after =
    (front : List ℕ) × (rest : List ℕ) × Join (SomeField d) front × (bs ≡ front ++ rest) × (0 < length rest)
    × (set_merged d old front ≡ Some new) × Pays before (set_cost d front) after
    × (e ≢ OutOfMemory → NextIsRefused d new rest after e) × (e ≡ OutOfMemory → BeginsField rest)
