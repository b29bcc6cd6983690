-- A map field of messages, written by slots. Source: the protobuf encoding guide, "Maps" and "Submessages".
use Rattle.std.specs.Prelude.{◌≡◌, ℕ, List, [], ◌∷◌, ◌++◌, length}
use Rattle.buffa_bytes.specs.declared.wire_type.WireType.TheVariants.{LengthDelimited}
use Rattle.buffa_wire.specs.Passes.{IsSmall}
use Rattle.buffa_bytes.specs.Values.{tag_encoding}
use Rattle.buffa_bytes.specs.Varint.{varint_encoding}
use Rattle.buffa_map.specs.Codec.{Writing}
use Rattle.buffa_map.specs.MessageField.{entry_size, field_slots, key_and_length}
use Rattle.buffa_map.specs.Scalars.{delimited_writing}
use Rattle.buffa_map.specs.Encoding.{field_encoding}

-- no message has more than 2^31 - 1 bytes
abbrev pub AreSmall : {K M : Type 0} → (M → List ℕ) → List (K × M) → Type 0
AreSmall encoding [] = Unit {0}
AreSmall encoding (p ∷ ps) = IsSmall (encoding p.1) × AreSmall encoding ps

module _ {K M : Type 0} (key : Writing K) (encoding slots : M → List ℕ) where
  -- the record of number n of a pair whose message is said to have so many bytes
  abbrev pub record_by : ℕ → K × M → ℕ → List ℕ
  record_by n p inner =
      let head = tag_encoding n LengthDelimited ++ varint_encoding (entry_size key p.0 inner) in
      head ++ (key_and_length key p.0 inner ++ encoding p.1)

  -- Of the pairs in order, the next slot is said to be the length of the message, and the message's own slots
  -- follow it; so the bytes are written, and the rest of the slots is left.
  abbrev pub WrittenBySlots : ℕ → List (K × M) → List ℕ → List ℕ → List ℕ → Type 0
  WrittenBySlots n [] taken bytes rest = (bytes ≡ []) × (taken ≡ rest)
  WrittenBySlots n (p ∷ ps) taken bytes rest =
      (inner : ℕ) × (more : List ℕ) × (out : List ℕ) × (inner ≡ length (encoding p.1)) × (taken ≡ inner ∷ slots p.1 ++ more)
      × (bytes ≡ record_by n p inner ++ out) × WrittenBySlots n ps more out rest

  -- what is so written by the slots of the pairs is the field's encoding, and no slot of another is consumed
  abbrev pub SlotsAreLengths : Type 0
  SlotsAreLengths =
      (n : ℕ) (l : List (K × M)) (rest : List ℕ) → AreSmall encoding l →
      WrittenBySlots n l (field_slots encoding slots l ++ rest) (field_encoding key (delimited_writing encoding) n l) rest
