-- Fields: a tag and a payload.
use Rattle.std.specs.Prelude.{◌≡◌, ◌≢◌, ℕ, zero, suc, ◌+◌, ◌*◌, ◌%◌, ◌^◌, ◌<◌, ◌≤◌, ◌⊎◌, List, ◌++◌, length}
use Rattle.buffa_bytes.specs.declared.wire_type.WireType.{WireType}
use Rattle.buffa_bytes.specs.declared.wire_type.WireType.TheVariants.{Varint, Fixed64, LengthDelimited, StartGroup, EndGroup, Fixed32}
use Rattle.buffa_bytes.specs.declared.error.DecodeError.{DecodeError}
use Rattle.buffa_bytes.specs.declared.error.DecodeError.TheVariants.{UnexpectedEof, InvalidFieldNumber, InvalidWireType, RecursionLimitExceeded, InvalidEndGroup}
use Rattle.buffa_bytes.specs.Varint.{IsVarint, TakesVarint, VarintFault}
use Rattle.buffa_bytes.specs.Join.{Join}
use Rattle.buffa_bytes.specs.Number.{IsNumber, wire_number}

-- a spelling of the tag of number f and wire type w
abbrev pub IsTag : List ℕ → ℕ → WireType → Type 0
IsTag t f w = IsNumber f × IsVarint t (8 * f + wire_number w)

-- A payload of wire type w in a field of number f, where G says which bytes follow the start of a group.
abbrev pub PayloadOver : (ℕ → List ℕ → Type 0) → ℕ → WireType → List ℕ → Type 0
PayloadOver G f Varint p = (n : ℕ) × IsVarint p n
PayloadOver G f Fixed64 p = length p ≡ 8
PayloadOver G f LengthDelimited p = (t : List ℕ) × (body : List ℕ) × IsVarint t (length body) × (p ≡ t ++ body)
PayloadOver G f StartGroup p = G f p
PayloadOver G f EndGroup p = ⊥
PayloadOver G f Fixed32 p = length p ≡ 4

-- b is a tag of number f and wire type w and a payload
abbrev pub FieldOver : (ℕ → List ℕ → Type 0) → ℕ → WireType → List ℕ → Type 0
FieldOver G f w b = (t : List ℕ) × (p : List ℕ) × IsTag t f w × PayloadOver G f w p × (b ≡ t ++ p)

-- b is a field of some number and wire type
abbrev pub SomeFieldOver : (ℕ → List ℕ → Type 0) → List ℕ → Type 0
SomeFieldOver G b = (f : ℕ) × (w : WireType) × FieldOver G f w b

-- What follows the start of a group of number f, where groups are nested at most d deep: none at 0, else
-- fields nested one less deep and an end tag of number f.
unfoldable pub Group : ℕ → ℕ → List ℕ → Type 0
Group zero f p = ⊥
Group (suc d) f p = (body : List ℕ) × (t : List ℕ) × Join (SomeFieldOver (Group d)) body × IsTag t f EndGroup × (p ≡ body ++ t)

-- the payloads and the fields with groups nested at most d deep
abbrev pub Payload : ℕ → ℕ → WireType → List ℕ → Type 0
Payload d = PayloadOver (Group d)

abbrev pub Field : ℕ → ℕ → WireType → List ℕ → Type 0
Field d = FieldOver (Group d)

abbrev pub SomeField : ℕ → List ℕ → Type 0
SomeField d = SomeFieldOver (Group d)

-- a tag begins old, and new is what follows it
abbrev pub TakesTag : List ℕ → ℕ → WireType → List ℕ → Type 0
TakesTag old f w new = (t : List ℕ) × IsTag t f w × (old ≡ t ++ new)

-- a payload begins old, and new is what follows it
abbrev pub TakesPayload : ℕ → ℕ → WireType → List ℕ → List ℕ → Type 0
TakesPayload d f w old new = (p : List ℕ) × Payload d f w p × (old ≡ p ++ new)

-- a length and the bytes p begin old, and new is what follows them
abbrev pub TakesDelimited : List ℕ → List ℕ → List ℕ → Type 0
TakesDelimited old p new = (t : List ℕ) × IsVarint t (length p) × (old ≡ t ++ (p ++ new))

-- why the varint n is no tag
abbrev pub BadTag : ℕ → DecodeError → Type 0
BadTag n InvalidFieldNumber = (2 ^ 32 ≤ n) ⊎ (n < 8)
BadTag n (InvalidWireType w) = (8 ≤ n) × (n < 2 ^ 32) × (w ≡ n % 8) × (6 ≤ w)
BadTag n _ = ⊥

-- why no tag begins these bytes
abbrev pub TagFault : List ℕ → DecodeError → Type 0
TagFault bytes e = VarintFault bytes e ⊎ ((n : ℕ) × (rest : List ℕ) × TakesVarint bytes n rest × BadTag n e)

-- why no length and so many bytes begin these
abbrev pub LengthFault : List ℕ → DecodeError → Type 0
LengthFault bytes e = VarintFault bytes e ⊎ ((n : ℕ) × (rest : List ℕ) × TakesVarint bytes n rest × (length rest < n) × (e ≡ UnexpectedEof))

-- Why no payload of a field begins these bytes, where G says why nothing follows the start of a group.
abbrev pub PayloadFaultOver : (ℕ → List ℕ → DecodeError → Type 0) → ℕ → WireType → List ℕ → DecodeError → Type 0
PayloadFaultOver G f Varint bytes e = VarintFault bytes e
PayloadFaultOver G f Fixed64 bytes e = (length bytes < 8) × (e ≡ UnexpectedEof)
PayloadFaultOver G f LengthDelimited bytes e = LengthFault bytes e
PayloadFaultOver G f StartGroup bytes e = G f bytes e
PayloadFaultOver G f EndGroup bytes e = e ≡ InvalidEndGroup f
PayloadFaultOver G f Fixed32 bytes e = (length bytes < 4) × (e ≡ UnexpectedEof)

-- Why neither a field nor an end tag of number f begins these bytes: the tag's fault, the number of another
-- group's end tag, or the payload's fault.
abbrev pub FieldFaultOver : (ℕ → List ℕ → DecodeError → Type 0) → ℕ → List ℕ → DecodeError → Type 0
FieldFaultOver G f bytes e =
    TagFault bytes e
    ⊎ (((g : ℕ) × (rest : List ℕ) × TakesTag bytes g EndGroup rest × (g ≢ f) × (e ≡ InvalidEndGroup g))
    ⊎ ((g : ℕ) × (w : WireType) × (rest : List ℕ) × TakesTag bytes g w rest × (w ≢ EndGroup) × PayloadFaultOver G g w rest e))

-- why nothing that follows the start of a group of number f begins these bytes: fields, and then the fault of the next one
unfoldable pub GroupFault : ℕ → ℕ → List ℕ → DecodeError → Type 0
GroupFault zero f bytes e = e ≡ RecursionLimitExceeded
GroupFault (suc d) f bytes e =
    (body : List ℕ) × (rest : List ℕ) × Join (SomeField d) body × (bytes ≡ body ++ rest) × FieldFaultOver (GroupFault d) f rest e

-- why no payload begins these bytes
abbrev pub PayloadFault : ℕ → ℕ → WireType → List ℕ → DecodeError → Type 0
PayloadFault d = PayloadFaultOver (GroupFault d)

-- new is what follows the first n bytes of old
abbrev pub TakesBytes : ℕ → List ℕ → List ℕ → Type 0
TakesBytes n old new = (p : List ℕ) × (length p ≡ n) × (old ≡ p ++ new)
