-- The numbers of a tag: those of fields (source: the protobuf language guide, "Assigning Field Numbers") and those of wire types
-- (source: the protobuf encoding guide, "Message Structure").
use Rattle.std.specs.Prelude.{ℕ, nat_eq, if◌then◌else◌, ◌<◌, ◌≤◌, Option, None, Some}
use Rattle.buffa_bytes.specs.declared.wire_type.WireType.{WireType}
use Rattle.buffa_bytes.specs.declared.wire_type.WireType.TheVariants.{Varint, Fixed64, LengthDelimited, StartGroup, EndGroup, Fixed32}

-- the numbers that a field may have
abbrev pub IsNumber : ℕ → Type 0
IsNumber f = (0 < f) × (f ≤ 536870911)

-- the number of a wire type in a tag
abbrev pub wire_number : WireType → ℕ
wire_number Varint = 0
wire_number Fixed64 = 1
wire_number LengthDelimited = 2
wire_number StartGroup = 3
wire_number EndGroup = 4
wire_number Fixed32 = 5

-- the wire type of a number in a tag
abbrev pub wire_kind : ℕ → Option WireType
wire_kind n =
    if nat_eq n 0 then Some Varint else
    if nat_eq n 1 then Some Fixed64 else
    if nat_eq n 2 then Some LengthDelimited else
    if nat_eq n 3 then Some StartGroup else
    if nat_eq n 4 then Some EndGroup else
    if nat_eq n 5 then Some Fixed32 else None
