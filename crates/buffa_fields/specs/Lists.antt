-- Repeated fields. Source: the protobuf encoding guide, "Repeated Elements" and "Packed Repeated Fields".
use Rattle.std.specs.Prelude.{◌≡◌, ◌≢◌, ◌⊎◌, MatchResult, ℕ, List, [], ◌∷◌, ◌++◌, map, Option, None, Result, Ok, Err, IsOk, if◌then◌else◌}
use Rattle.std.specs.Option.{option_map}
use Rattle.buffa_bytes.specs.declared.error.DecodeError.{DecodeError}
use Rattle.buffa_bytes.specs.declared.error.DecodeError.TheVariants.{OutOfMemory}
use Rattle.buffa_bytes.specs.declared.wire_type.WireType.{WireType}
use Rattle.buffa_bytes.specs.declared.wire_type.WireType.TheVariants.{LengthDelimited}
use Rattle.buffa_bytes.specs.PayloadValue.{payload_value_at}
use Rattle.buffa_bytes.specs.Readings.{check_wire, delimited_at, ◌>>=◌, same_wire}
use Rattle.buffa_wire.specs.Records.{FieldData, bytes}
use Rattle.buffa_bytes.specs.Scan.{parse_all}
use Rattle.buffa_map.specs.Codec.{Reading, value_at}
use Rattle.buffa_wire.specs.ByField.{value_of}
use Rattle.buffa_wire.specs.Takes.{Asks, Taker}
use Rattle.buffa_fields.specs.Values.{all_of}
use Rattle.buffa_wire.specs.Encoding.{encodings}

module _ {V : Type 0} (codec : Reading V) (d : ℕ) where
  -- the element whose payload is at the front goes behind the others
  abbrev pub element_at : List V → List ℕ → Result (List V × List ℕ) DecodeError
  element_at vs bs = value_at codec d codec.blank bs >>= (λ x. let y : List V × List ℕ = (vs ++ x.0.0 ∷ [], x.1) in Ok y)

  -- payloads of elements, one after the other, to the end of the bytes
  unfoldable pub elements_in : List V → List ℕ → Result (List V) DecodeError
  elements_in vs b = parse_all element_at vs b

  -- the same of a length and so many bytes, which are all
  abbrev pub packed_in : List V → Result (List ℕ × List ℕ) DecodeError → Option (List V)
  packed_in vs (Ok (b, [])) = value_of (elements_in vs b)
  packed_in vs (Ok (b, x ∷ xs)) = None
  packed_in vs (Err e) = None

-- such a length and such bytes were read, or refused
abbrev pub TakesPacked : {V T : Type 0} → Reading V → ℕ → List V → List ℕ → Result T DecodeError → List V → List ℕ → Type 0
TakesPacked codec d vs bs r new rest =
    MatchResult r
    (λ _. (b : List ℕ) × (delimited_at bs ≡ Ok (b, rest)) × (elements_in codec d vs b ≡ Ok new))
    (λ e. (delimited_at bs ≡ Err e)
    ⊎ ((b after : List ℕ) × (delimited_at bs ≡ Ok (b, after)) × (e ≢ OutOfMemory → elements_in codec d vs b ≡ Err e)))

-- a payload of the elements' own wire type holds one of them; else a delimited one holds any number, packed
unfoldable pub elements_taken : {V : Type 0} → Reading V → Taker (List V)
elements_taken codec d vs n w p =
    if same_wire codec.wire w then option_map (λ x. vs ++ x ∷ []) (all_of (value_at codec d codec.blank p))
    else (if same_wire LengthDelimited w then packed_in codec d vs (delimited_at p) else None)

-- a list takes fields of the elements' wire type, and length-delimited ones, which are packed
abbrev pub check_list_wire : ℕ → WireType → WireType → Result (Unit {0}) DecodeError
check_list_wire n expected w = if same_wire LengthDelimited w then Ok tt else check_wire n expected w

-- packed elements take memory where a length and so many bytes are there, and a whole payload begins these
abbrev pub PackedTakeMemory : {V : Type 0} → Reading V → List ℕ → Type 0
PackedTakeMemory codec bs = (b : List ℕ) × (rest : List ℕ) × (delimited_at bs ≡ Ok (b, rest)) × IsOk (payload_value_at codec.wire b)

-- elements take memory where one has a whole payload, by itself or the first of packed ones
abbrev pub ElementsTakeMemory : {V : Type 0} → Reading V → Asks
ElementsTakeMemory codec d n w bs =
    ((w ≡ codec.wire) × IsOk (payload_value_at codec.wire bs)) ⊎ ((w ≡ LengthDelimited) × PackedTakeMemory codec bs)

-- a record for each element
unfoldable pub element_records : {V : Type 0} → (V → FieldData) → ℕ → List V → List (ℕ × FieldData)
element_records field_data n vs = map (λ v. (n, field_data v)) vs

-- one record of all elements, and none where there are none
unfoldable pub packed_records : {V : Type 0} → (V → List ℕ) → ℕ → List V → List (ℕ × FieldData)
packed_records encoding n [] = []
packed_records encoding n (v ∷ vs) = (n, bytes (encodings encoding (v ∷ vs))) ∷ []
