-- What bytes mean to the options of a field: field 3 says whether it is deprecated, all others are kept.
-- Source: the protobuf encoding guide, "Message Structure", and the language guide, "Custom Options".
use Rattle.std.specs.Prelude.{◌≡◌, ℕ, ◌==◌, not, Bool, true, false, List, ◌++◌, Option, Some, Result, Ok, Err, MatchResult}
use Rattle.std.specs.Int.{from_bool}
use Rattle.buffa_bytes.specs.Scalars.{bool_of}
use Rattle.buffa_bytes.specs.declared.error.DecodeError.{DecodeError}
use Rattle.buffa_bytes.specs.declared.wire_type.WireType.{WireType}
use Rattle.buffa_bytes.specs.declared.wire_type.WireType.TheVariants.{Varint}
use Rattle.buffa_wire.specs.BudgetLeft.{BudgetLeft}
use Rattle.buffa_wire.specs.KeptField.{keep_charge}
use Rattle.buffa_wire.specs.Message.{FieldTaken}
use Rattle.buffa_wire.specs.Parse.{AreValid}
use Rattle.buffa_wire.specs.Records.{FieldData, records_of, varint}
use Rattle.buffa_wire.specs.Takes.{Charge, Taker}
use Rattle.buffa_map.specs.Codec.{Reading}
use Rattle.buffa_map.specs.Scalars.{number_reading}
use Rattle.buffa_fields.specs.UndeclaredFields.{AllNumbers, keep_takes}
use Rattle.buffa_fields.specs.Schema.{Choice, IsFieldKept, both_charge, both_take}
use Rattle.sample_validator.specs.declared.options.FieldOptions.{FieldOptions}
use Rattle.buffa_fields.specs.Values.{field_value_at, free, some_records, some_taken}

abbrev pub bool_reading : Reading Bool
bool_reading = number_reading Varint false bool_of

abbrev pub options_takes : Taker (Option Bool × List (ℕ × FieldData))
options_takes = both_take 3 (some_taken bool_reading) keep_takes

abbrev pub options_charge : Charge
options_charge = both_charge 3 free keep_charge

-- the declared one is written first
abbrev pub options_records : Option Bool × List (ℕ × FieldData) → List (ℕ × FieldData)
options_records v = some_records (λ b. varint (from_bool b)) 3 v.0 ++ v.1

-- the records that are kept are valid, and none has its number
abbrev pub OthersAreKept : Option Bool × List (ℕ × FieldData) → Type 0
OthersAreKept v = AreValid (records_of v.1) × AllNumbers (λ n. not (n == 3)) v.1

-- the declared field is read by itself, or refused by the fault of its bytes, and then it stays
abbrev pub ReadsDeprecated : ℕ → ℕ → Option Bool → WireType → List ℕ → Result (Unit {0}) DecodeError → Option Bool → List ℕ → Type 0
ReadsDeprecated d n old w bs r new rest =
    let field = field_value_at bool_reading d false n w bs in
    MatchResult r (λ _. (x : Bool) × (new ≡ Some x) × (field ≡ Ok ((x, true), rest))) (λ e. (new ≡ old) × (field ≡ Err e))

-- it is so taken, for nothing, and any other is kept
abbrev pub TakesOptions : FieldTaken FieldOptions → Type 0
TakesOptions taken =
    (d n : ℕ) (old new : FieldOptions) (w : WireType) (bs rest : List ℕ) (a b : BudgetLeft) (r : Result (Unit {0}) DecodeError) → taken d old n w bs a r new b rest →
    Choice (n == 3) (ReadsDeprecated d n old.deprecated w bs r new.deprecated rest × (new.fields.records ≡ old.fields.records) × (b ≡ a))
    (IsFieldKept d old.fields.records n w bs a r new.fields.records b rest × (new.deprecated ≡ old.deprecated))
