-- Map fields of messages as members. Source: the protobuf encoding guide, "Maps" and "Submessages".
use Rattle.std.specs.Prelude.{ℕ, suc, max, List, [], ◌∷◌}
use Rattle.buffa_wire.specs.Records.{FieldData}
use Rattle.buffa_map.specs.Codec.{Writing}
use Rattle.buffa_map.specs.MessageField.{field_slots}
use Rattle.buffa_map.specs.Scalars.{delimited_writing}
use Rattle.buffa_fields.specs.MapFields.{map_records}

-- a record for each pair
unfoldable pub pair_records : {K X : Type 0} → Writing K → (X → List ℕ) → ℕ → List (K × X) → List (ℕ × FieldData)
pair_records key encoding n l = map_records key (delimited_writing encoding) n l

-- for each pair in order the length of its message, and then the sizes of those in it
unfoldable pub pair_slots : {K X : Type 0} → (X → List ℕ) → (X → List ℕ) → List (K × X) → List ℕ
pair_slots encoding slots l = field_slots encoding slots l

-- how deep messages and groups nest in the deepest of them
abbrev pub pair_levels : {K X : Type 0} → (X → ℕ) → List (K × X) → ℕ
pair_levels level [] = 0
pair_levels level (p ∷ ps) = max (suc (level p.1)) (pair_levels level ps)
