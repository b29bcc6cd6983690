-- What the payload of a field holds, groups apart: a number or bytes.
-- Source: the protobuf encoding guide, "Message Structure".
use Rattle.std.specs.Prelude.{◌≡◌, ℕ, ◌<◌, List, [], ◌++◌, length, Result, Ok, Err}
use Rattle.std.specs.Int.{from_le_bytes, w32, w64}
use Rattle.buffa_bytes.specs.declared.wire_type.WireType.{WireType}
use Rattle.buffa_bytes.specs.declared.wire_type.WireType.TheVariants.{Varint, Fixed64, LengthDelimited, StartGroup, EndGroup, Fixed32}
use Rattle.buffa_bytes.specs.declared.error.DecodeError.{DecodeError}
use Rattle.buffa_bytes.specs.declared.error.DecodeError.TheVariants.{UnexpectedEof, InvalidWireType}
use Rattle.buffa_bytes.specs.Varint.{IsVarint, VarintFault}
use Rattle.buffa_bytes.specs.Field.{LengthFault}
use Rattle.buffa_bytes.specs.Readings.{varint_at, taken, delimited_at, ◌>>=◌}

pub data PayloadValue : Type 0 where
  number : ℕ → PayloadValue
  bytes : List ℕ → PayloadValue

-- p is a payload of wire type w that holds c: a varint its value, four or eight bytes the number that they
-- spell, lowest byte first, and a length and so many bytes these bytes
abbrev pub HasPayloadValue : WireType → List ℕ → PayloadValue → Type 0
HasPayloadValue Varint p (number n) = IsVarint p n
HasPayloadValue Fixed64 p (number n) = (length p ≡ 8) × (n ≡ from_le_bytes w64 p)
HasPayloadValue LengthDelimited p (bytes b) = (t : List ℕ) × IsVarint t (length b) × (p ≡ t ++ b)
HasPayloadValue Fixed32 p (number n) = (length p ≡ 4) × (n ≡ from_le_bytes w32 p)
HasPayloadValue _ _ _ = ⊥

-- a payload that holds c begins old, and new is what follows it
abbrev pub TakesPayloadValue : WireType → List ℕ → PayloadValue → List ℕ → Type 0
TakesPayloadValue w old c new = (p : List ℕ) × HasPayloadValue w p c × (old ≡ p ++ new)

-- why no payload of wire type w begins these bytes; the two that hold neither a number nor bytes are named
abbrev pub PayloadValueFault : WireType → List ℕ → DecodeError → Type 0
PayloadValueFault Varint bs e = VarintFault bs e
PayloadValueFault Fixed64 bs e = (length bs < 8) × (e ≡ UnexpectedEof)
PayloadValueFault LengthDelimited bs e = LengthFault bs e
PayloadValueFault StartGroup bs e = e ≡ InvalidWireType 3
PayloadValueFault EndGroup bs e = e ≡ InvalidWireType 4
PayloadValueFault Fixed32 bs e = (length bs < 4) × (e ≡ UnexpectedEof)

-- the content of the payload at the front, and what follows it; or the first fault
abbrev pub payload_value_at : WireType → List ℕ → Result (PayloadValue × List ℕ) DecodeError
payload_value_at Varint bs = varint_at bs >>= (λ n. Ok (number n.0, n.1))
payload_value_at Fixed64 bs = taken 8 bs >>= (λ p. Ok (number (from_le_bytes w64 p.0), p.1))
payload_value_at LengthDelimited bs = delimited_at bs >>= (λ p. Ok (bytes p.0, p.1))
payload_value_at StartGroup bs = Err (InvalidWireType 3)
payload_value_at EndGroup bs = Err (InvalidWireType 4)
payload_value_at Fixed32 bs = taken 4 bs >>= (λ p. Ok (number (from_le_bytes w32 p.0), p.1))

-- the number, and the bytes, of a content; 0 and none where it is the other kind
abbrev pub number_in : PayloadValue → ℕ
number_in (number n) = n
number_in (bytes b) = 0

abbrev pub bytes_in : PayloadValue → List ℕ
bytes_in (number n) = []
bytes_in (bytes b) = b

-- what is made of the content of the payload at the front, and what follows the payload
abbrev pub payload_value_by : {A : Type 0} → WireType → (PayloadValue → Result A DecodeError) → List ℕ → Result (A × List ℕ) DecodeError
payload_value_by w reads bs = payload_value_at w bs >>= (λ c. reads c.0 >>= (λ v. Ok (v, c.1)))
