-- What packed numbers are, in the words of the grammar of payloads.
-- Source: the protobuf encoding guide, "Packed Repeated Fields".
use Rattle.std.specs.Prelude.{◌≡◌, ℕ, List, [], ◌∷◌}
use Rattle.buffa_bytes.specs.PayloadValue.{PayloadValue, PayloadValueFault, TakesPayloadValue, number_in}
use Rattle.buffa_bytes.specs.declared.wire_type.WireType.{WireType}
use Rattle.buffa_bytes.specs.declared.error.DecodeError.{DecodeError}

-- payloads of wire type w that hold these numbers begin the bytes, one after the other, and none begins what
-- follows them
abbrev pub ArePacked : WireType → List ℕ → List ℕ → Type 0
ArePacked w [] bs = (e : DecodeError) × PayloadValueFault w bs e
ArePacked w (n ∷ ns) bs = (c : PayloadValue) × (rest : List ℕ) × TakesPayloadValue w bs c rest × (n ≡ number_in c) × ArePacked w ns rest
