-- What reading records gives: the records, the unknown fields that are left, and the bytes that follow; or the
-- first fault.
use Rattle.std.specs.Prelude.{◌≡◌, ◌≢◌, ℕ, zero, suc, ◌-◌, ◌<◌, ◌⊎◌, ◌==◌, ◌&&◌, List, [], ◌∷◌, ◌++◌, IsOk, Result, Ok, Err, if◌then◌else◌}
use Rattle.buffa_bytes.specs.declared.wire_type.WireType.{WireType}
use Rattle.buffa_bytes.specs.declared.wire_type.WireType.TheVariants as wire
use Rattle.buffa_bytes.specs.declared.error.DecodeError.{DecodeError}
use Rattle.buffa_bytes.specs.declared.error.DecodeError.TheVariants.{UnexpectedEof, InvalidWireType, RecursionLimitExceeded, UnknownFieldLimitExceeded, InvalidEndGroup}
use Rattle.buffa_bytes.specs.Readings.{varint_at, delimited_at, same_wire, tag_at, ◌>>=◌}
use Rattle.buffa_bytes.specs.Scan.{Scanned, parsed, scan, parse_all}
use Rattle.buffa_bytes.specs.Scan.Scanned.{ends}
use Rattle.buffa_bytes.specs.Scalars.{fixed32_at, fixed64_at}
use Rattle.buffa_wire.specs.declared.context.DecodeContext.{DecodeContext}
use Rattle.buffa_wire.specs.Records.{FieldData, varint, fixed32, fixed64, bytes, group, Records, list_of, records_of}

-- what reads the rest of a group: of the unknown fields that are left, the group's number, and the bytes
abbrev pub GroupReader : Type 0
GroupReader = ℕ → ℕ → List ℕ → Result (Records × ℕ × List ℕ) DecodeError

-- the payload of a field that is no group; the two wire types that have none are named
abbrev pub plain_at : WireType → List ℕ → Result (FieldData × List ℕ) DecodeError
plain_at wire.Varint bs = varint_at bs >>= (λ v. Ok (varint v.0, v.1))
plain_at wire.Fixed64 bs = fixed64_at bs >>= (λ v. Ok (fixed64 v.0, v.1))
plain_at wire.LengthDelimited bs = delimited_at bs >>= (λ v. Ok (bytes v.0, v.1))
plain_at wire.StartGroup bs = Err (InvalidWireType 3)
plain_at wire.EndGroup bs = Err (InvalidWireType 4)
plain_at wire.Fixed32 bs = fixed32_at bs >>= (λ v. Ok (fixed32 v.0, v.1))

-- the payload of a field for which one of the unknown fields left is spent
abbrev pub payload_by : GroupReader → ℕ → ℕ → WireType → List ℕ → Result (FieldData × ℕ × List ℕ) DecodeError
payload_by inner s n wire.StartGroup bs = inner s n bs >>= (λ v. Ok (group v.0, v.1, v.2))
payload_by inner s n w bs = plain_at w bs >>= (λ v. Ok (v.0, s, v.1))

-- the field after its tag: an end tag is none, then one of the unknown fields left is spent, then the payload
-- is read
unfoldable pub field_by : GroupReader → ℕ → ℕ → WireType → List ℕ → Result (FieldData × ℕ × List ℕ) DecodeError
field_by inner s n w bs =
    if same_wire wire.EndGroup w then Err (InvalidEndGroup n) else
    if s == 0 then Err UnknownFieldLimitExceeded else payload_by inner (s - 1) n w bs

-- records that were read, and the unknown fields that are left
abbrev pub HaveRead : Type 0
HaveRead = List (ℕ × FieldData) × ℕ

-- the record of the field after its tag is put behind those that were read
abbrev pub record_then : GroupReader → HaveRead → ℕ × WireType × List ℕ → Result (HaveRead × List ℕ) DecodeError
record_then inner s t = field_by inner s.1 t.0 t.1 t.2 >>= (λ x. Ok ((s.0 ++ (t.0, x.0) ∷ [], x.1), x.2))

-- a tag in group n: its end tag ends the group, and the field of any other is read
abbrev pub record_step : GroupReader → ℕ → HaveRead → Result (ℕ × WireType × List ℕ) DecodeError → Scanned HaveRead (Result (Records × ℕ × List ℕ) DecodeError)
record_step inner n s (Ok t) = if same_wire wire.EndGroup t.1 && (t.0 == n) then ends (Ok (records_of s.0, s.1, t.2)) else parsed (record_then inner s t)
record_step inner n s (Err e) = ends (Err e)

-- the fields and the end tag of group n, whose records go behind those that were read
unfoldable pub group_records_behind : GroupReader → ℕ → HaveRead → List ℕ → Result (Records × ℕ × List ℕ) DecodeError
group_records_behind inner n s bs = scan (λ t rest. record_step inner n t (tag_at rest)) (Err UnexpectedEof) s bs

-- a group, with groups nested at most d deep
unfoldable pub group_records_at : ℕ → GroupReader
group_records_at zero s n bs = Err RecursionLimitExceeded
group_records_at (suc d) s n bs = group_records_behind (group_records_at d) n ([], s) bs

-- the field after a tag of number n and wire type w
abbrev pub field_at : ℕ → ℕ → ℕ → WireType → List ℕ → Result (FieldData × ℕ × List ℕ) DecodeError
field_at d = field_by (group_records_at d)

-- both in a context, of its depth and its unknown fields left
abbrev pub field_in : DecodeContext → ℕ → WireType → List ℕ → Result (FieldData × ℕ × List ℕ) DecodeError
field_in ctx = field_at ctx.depth ctx.budget.now.unknown

abbrev pub group_in : DecodeContext → ℕ → List ℕ → Result (Records × ℕ × List ℕ) DecodeError
group_in ctx = group_records_at ctx.depth ctx.budget.now.unknown

-- a field with its tag
abbrev pub record_next : GroupReader → HaveRead → List ℕ → Result (HaveRead × List ℕ) DecodeError
record_next inner s bs = tag_at bs >>= record_then inner s

-- fields to the end of the bytes, whose records go behind those that were read
abbrev pub records_behind : GroupReader → HaveRead → List ℕ → Result (Records × ℕ × List ℕ) DecodeError
records_behind inner s bs = parse_all (record_next inner) s bs >>= (λ t. Ok (records_of t.0, t.1, []))

abbrev pub records_at : ℕ → ℕ → List ℕ → Result (Records × ℕ × List ℕ) DecodeError
records_at d s bs = records_behind (group_records_at d) ([], s) bs

-- the records alone
abbrev pub list_at : ℕ → ℕ → List ℕ → Result (List (ℕ × FieldData)) DecodeError
list_at d s bs = records_at d s bs >>= (λ v. Ok (list_of v.0))

-- ---- where reading takes memory

-- a payload takes memory: for its bytes, of which there is one at least; or for a group, where G says so of its fields
abbrev pub PayloadTakesMemory : (ℕ → List ℕ → Type 0) → ℕ → WireType → List ℕ → Type 0
PayloadTakesMemory G s wire.LengthDelimited bs = (b : List ℕ) × (rest : List ℕ) × (delimited_at bs ≡ Ok (b, rest)) × (b ≢ [])
PayloadTakesMemory G s wire.StartGroup bs = G s bs
PayloadTakesMemory G s w bs = ⊥

-- fields take memory: the first one is read, and so kept, or its payload takes memory, where an unknown
-- field is left
abbrev pub FieldsTakeMemory : GroupReader → (ℕ → List ℕ → Type 0) → ℕ → List ℕ → Type 0
FieldsTakeMemory inner G s bs =
    (t : ℕ × WireType × List ℕ) × (tag_at bs ≡ Ok t)
    × (IsOk (field_by inner s t.0 t.1 t.2) ⊎ ((0 < s) × PayloadTakesMemory G (s - 1) t.1 t.2))

-- the same of fields in a group, nested at most d deep
unfoldable pub GroupRecordsTakeMemory : ℕ → ℕ → List ℕ → Type 0
GroupRecordsTakeMemory zero s bs = ⊥
GroupRecordsTakeMemory (suc d) s bs = FieldsTakeMemory (group_records_at d) (GroupRecordsTakeMemory d) s bs

-- a field after its tag takes memory
abbrev pub RecordTakesMemory : ℕ → ℕ → WireType → List ℕ → Type 0
RecordTakesMemory d s w bs = (0 < s) × PayloadTakesMemory (GroupRecordsTakeMemory d) (s - 1) w bs

-- whole bytes take memory
abbrev pub ListTakesMemory : ℕ → ℕ → List ℕ → Type 0
ListTakesMemory d s bs = FieldsTakeMemory (group_records_at d) (GroupRecordsTakeMemory d) s bs
