-- What a census writes, and what bytes make of it: a count for each name. Source: the protobuf encoding guide, "Maps".
use Rattle.std.specs.Prelude.{ℕ, ◌==◌, ℤ, List, String, nat_eq, string_bytes, Option, Ok, if◌then◌else◌}
use Rattle.std.specs.Cmp.Lexicographic.{pointwise}
use Rattle.buffa_bytes.specs.Readings.{check_wire, delimited_at, ◌>>=◌}
use Rattle.buffa_bytes.specs.declared.wire_type.WireType.TheVariants.{LengthDelimited}
use Rattle.buffa_wire.specs.ByField.{FieldReader, merged_by}
use Rattle.buffa_map.specs.EntryReading.{entry_of}
use Rattle.buffa_map.specs.Pairs.{means}
use Rattle.buffa_map.specs.Run.{step}
use Rattle.buffa_map.specs.Scalars.{int32_reading, text_reading}
use Rattle.sample_types.specs.Fields.{skipped_field}

-- the counts, each name as its bytes
abbrev pub counts_by_name : {Z : Type 0} → List (String Z × ℤ) → List (List ℕ × ℤ)
counts_by_name = means string_bytes (λ n. n)

-- a field 5 is an entry, whose count is put at its name; others are passed over
abbrev pub census_field : ℕ → FieldReader (List (List ℕ × ℤ))
census_field d es n w bs =
    if n == 5 then (do
      _ ← check_wire 5 LengthDelimited w
      e ← delimited_at bs
      s ← entry_of text_reading int32_reading d e.0
      Ok (step (pointwise nat_eq) es s, e.1)) else skipped_field d es n w bs

-- what all fields make of the counts
abbrev pub census_merged : ℕ → List (List ℕ × ℤ) → List ℕ → Option (List (List ℕ × ℤ))
census_merged d es bs = merged_by (census_field d) es bs
