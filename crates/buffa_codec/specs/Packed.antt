-- Packed numbers: payloads of one wire type, one after the other.
-- Source: the protobuf encoding guide, "Packed Repeated Fields".
use Rattle.std.specs.Prelude.{ℕ, List, [], ◌∷◌, Result, Ok, Err}
use Rattle.buffa_bytes.specs.PayloadValue.{PayloadValue, payload_value_at, number_in}
use Rattle.buffa_bytes.specs.Scan.{Scanned, scan}
use Rattle.buffa_bytes.specs.Scan.Scanned.{ends, goes}
use Rattle.buffa_bytes.specs.declared.wire_type.WireType.{WireType}
use Rattle.buffa_bytes.specs.declared.error.DecodeError.{DecodeError}

-- the number that was read, before those that follow; none where no payload begins the bytes
abbrev pub number_then : Result (PayloadValue × List ℕ) DecodeError → Scanned (Unit {0}) (List ℕ)
number_then (Ok c) = goes tt c.1 (λ more. number_in c.0 ∷ more)
number_then (Err e) = ends []

-- the numbers of the greatest number of payloads that begin the bytes
unfoldable pub numbers_in : WireType → List ℕ → List ℕ
numbers_in w bs = scan (λ _ rest. number_then (payload_value_at w rest)) [] tt bs
