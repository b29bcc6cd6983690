-- Records in a group nest less deep than the group.
use Rattle.std.specs.Prelude.{◌≡◌, ℕ, ◌≤◌, max, List, [], ◌∷◌, refl}
use Rattle.std.proofs.Common.{arith, ap}
use denote.Param.Weighed.{most}
use Rattle.buffa_wire.specs.Records.{FieldData, records_of, height, records_height, field_data_height}
use Rattle.buffa_wire.specs.RecordsOfValues.{field_data_of, records_in}
use Rattle.buffa_wire.specs.declared.unknown_fields.UnknownField.{UnknownField}
use Rattle.buffa_wire.specs.declared.unknown_fields.UnknownFieldData.{UnknownFieldData}
use Rattle.buffa_wire.specs.declared.unknown_fields.UnknownFieldData.TheVariants.{Varint, Fixed32, Fixed64, LengthDelimited, Group}
use Rattle.buffa_wire.specs.declared.unknown_fields.UnknownFields.TheDeep.{deep-UnknownField, deep-UnknownFieldData}

pub height-records : (rs : List (ℕ × FieldData)) → records_height (records_of rs) ≡ height rs
height-records [] = refl
height-records (r ∷ rs) = ap (λ n. max (field_data_height r.1) n) (height-records rs)

pub deep_field_data : (p : UnknownFieldData) → deep-UnknownFieldData p ≤ field_data_height (field_data_of p)
deep_field_data (Varint v) = omega arith
deep_field_data (Fixed32 v) = omega arith
deep_field_data (Fixed64 v) = omega arith
deep_field_data (LengthDelimited bs) = omega arith
deep_field_data (Group fs) = omega (arith, height-records fs.records)

pub deep_field : (f : UnknownField) → deep-UnknownField f ≤ field_data_height (field_data_of f.payload)
deep_field f = omega (arith, deep_field_data f.payload)

pub deep_fields : (fs : List UnknownField) → most deep-UnknownField fs ≤ height (records_in fs)
deep_fields [] = omega arith
deep_fields (f ∷ fs) = omega (arith, deep_field f, deep_fields fs)
