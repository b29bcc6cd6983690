-- The records of members are valid: they are of the member's number, and their data are in range.
use Rattle.std.specs.Prelude.{ℕ, ℤ, Bool, true, false, List, [], ◌∷◌, Option, Some, None}
use Rattle.std.specs.Int.{cast_unsigned, w64}
use Rattle.std.specs.List.{AllByRecursion}
use Rattle.buffa_bytes.proofs.IntLemmas.{int32_below}
use Rattle.buffa_bytes.specs.Number.{IsNumber}
use Rattle.buffa_wire.specs.Enums.{Numbers}
use Rattle.buffa_wire.specs.Parse.{AreValid, IsValidFieldData}
use Rattle.buffa_wire.specs.Records.{FieldData, records_of, varint}
use Rattle.buffa_map.specs.Codec.{Writing}
use Rattle.buffa_map.specs.Enums.{ClosedFits}
use Rattle.buffa_map.specs.Scalars.{delimited_writing}
use Rattle.buffa_fields.specs.Lists.{element_records, packed_records}
use Rattle.buffa_fields.specs.MapFields.{entry_records, map_records}
use Rattle.buffa_fields.specs.MemberRecords.{explicit_records, implicit_records}
use Rattle.buffa_fields.specs.MapsOfMessages.{pair_records}
use Rattle.buffa_fields.specs.Values.{IfThere, records_unless}

-- ---- a record for each value, where the data of values are in range
module _ {V : Type 0} (field_data : V → FieldData) (Ok : V → Type 0) (one : (v : V) → Ok v → IsValidFieldData (field_data v)) (k : ℕ) (number : IsNumber k) where
  pub implicit_valid : (test : V → Bool) (v : V) → Ok v → AreValid (records_of (implicit_records test field_data k v))
  unfolding implicit_records
  implicit_valid test v ok = by (test v)
    where
      by : (t : Bool) → AreValid (records_of (records_unless t ((k, field_data v) ∷ [])))
      by true = tt
      by false = (number, one v ok, tt)

  pub explicit_valid : (v : Option V) → IfThere Ok v → AreValid (records_of (explicit_records field_data k v))
  unfolding explicit_records
  explicit_valid None ok = tt
  explicit_valid (Some v) ok = (number, one v ok, tt)

  pub element_valid : (vs : List V) → AllByRecursion Ok vs → AreValid (records_of (element_records field_data k vs))
  unfolding element_records
  element_valid [] ok = tt
  element_valid (v ∷ vs) ok = (number, one v ok.0, element_valid vs ok.1)

-- a number that a closed enum declares is in range
pub number_valid : (e : Numbers) (v : ℤ) → ClosedFits e v × Unit {0} → IsValidFieldData (varint (cast_unsigned w64 v))
number_valid e v ok = int32_below v ok.0.0

-- ---- records of bytes
module _ (k : ℕ) (number : IsNumber k) where
  pub packed_valid : {V : Type 0} (encoding : V → List ℕ) (vs : List V) → AreValid (records_of (packed_records encoding k vs))
  unfolding packed_records
  packed_valid encoding [] = tt
  packed_valid encoding (v ∷ vs) = (number, tt, tt)

  map_valid : {K V : Type 0} (kw : Writing K) (vw : Writing V) (l : List (K × V)) → AreValid (records_of (map_records kw vw k l))
  map_valid kw vw [] = tt
  map_valid kw vw (p ∷ ps) = (number, tt, map_valid kw vw ps)

  pub entry_valid : {K V : Type 0} (kw : Writing K) (vw : Writing V) (l : List (K × V)) → AreValid (records_of (entry_records kw vw k l))
  unfolding entry_records
  entry_valid kw vw l = map_valid kw vw l

  pub pair_valid : {K X : Type 0} (kw : Writing K) (encoding : X → List ℕ) (l : List (K × X)) → AreValid (records_of (pair_records kw encoding k l))
  unfolding pair_records
  pair_valid kw encoding l = map_valid kw (delimited_writing encoding) l
