-- A map field whose values are messages: its size, its encoding and its slots.
-- Source: the protobuf encoding guide, "Maps" and "Submessages".
use Rattle.std.specs.Prelude.{◌≡◌, ℕ, ◌+◌, ◌^◌, ◌<◌, List, [], ◌∷◌, ◌++◌, length, Result, MatchResult}
use Rattle.buffa_bytes.specs.declared.wire_type.WireType.TheVariants.{LengthDelimited}
use Rattle.buffa_bytes.specs.declared.error.EncodeError.{EncodeError}
use Rattle.buffa_bytes.specs.declared.error.EncodeError.TheVariants.{OutOfMemory}
use Rattle.buffa_wire.specs.Cache.{Cache, appended}
use Rattle.buffa_wire.specs.Passes.{IsLonger, IsSmall, WritesIf, cap}
use Rattle.buffa_bytes.specs.Written.{UsesRoom}
use Rattle.buffa_bytes.specs.Values.{tag_encoding}
use Rattle.buffa_bytes.specs.Varint.{varint_encoding}
use Rattle.buffa_map.specs.Codec.{Writing}
use Rattle.buffa_map.specs.Scalars.{delimited_writing}
use Rattle.buffa_map.specs.Encoding.{entry_encoding, field_size, field_encoding, record_encoding, saturated}
use denote.Ref.{Bor, MutBor}

module _ {K : Type 0} (key : Writing K) where
  -- the length of an entry whose message has so many bytes
  abbrev pub entry_size : K → ℕ → ℕ
  entry_size k inner = 2 + (length (key.encoding k) + (length (varint_encoding inner) + inner))

  -- the key field, and the tag and the length of the value
  abbrev pub key_and_length : K → ℕ → List ℕ
  key_and_length k inner = (tag_encoding 1 key.wire ++ key.encoding k) ++ (tag_encoding 2 LengthDelimited ++ varint_encoding inner)

  -- what stands before the message's encoding in its record of number n
  abbrev pub head_encoding : ℕ → K → ℕ → List ℕ
  head_encoding n k inner = (tag_encoding n LengthDelimited ++ varint_encoding (saturated (entry_size k inner))) ++ key_and_length k inner

-- for each pair in order the capped length of the message's encoding, and then its own slots
abbrev pub field_slots : {K M : Type 0} → (M → List ℕ) → (M → List ℕ) → List (K × M) → List ℕ
field_slots encoding slots [] = []
field_slots encoding slots (p ∷ ps) = cap (length (encoding p.1)) ∷ slots p.1 ++ field_slots encoding slots ps

module _ {K M : Type 0} (key : Writing K) (encoding : M → List ℕ) where
  -- the message isn't too large to be written, nor the entry too long for its length to be a varint
  abbrev pub IsSmallPair : K × M → Type 0
  IsSmallPair p = IsSmall (encoding p.1) × (length (entry_encoding key (delimited_writing encoding) p) < 2 ^ 64)

  -- no message is too large to be written, and no entry too long for its length to be a varint
  abbrev pub IsSmallField : List (K × M) → Type 0
  IsSmallField [] = Unit {0}
  IsSmallField (p ∷ ps) = IsSmallPair p × IsSmallField ps

  -- the size, which is exact where messages are small, and else as capped as theirs; the slots are appended
  abbrev pub IsFieldSized : (M → List ℕ) → ℕ → List (K × M) → Cache → Result ℕ EncodeError → Cache → Type 0
  IsFieldSized slots t l old r new =
      MatchResult r
      (λ n. (cap n ≡ cap (field_size key (delimited_writing encoding) t l))
      × (IsSmallField l → n ≡ saturated (field_size key (delimited_writing encoding) t l))
      × (new ≡ appended (field_slots encoding slots l) old))
      (λ e. (e ≡ OutOfMemory) × IsLonger old new)

  -- the encoding, written where messages are small; the slots are consumed
  abbrev pub IsFieldWritten : (M → List ℕ) → ℕ → List (K × M) → Cache → List ℕ → Result (Unit {0}) EncodeError → Cache → List ℕ → Type 0
  IsFieldWritten slots n l old before r new after = WritesIf (IsSmallField l) (field_encoding key (delimited_writing encoding) n l) (field_slots encoding slots l) old before r new after

  -- where messages are small, a field that fits is written, and takes no more room than it has bytes
  abbrev pub UsesFieldRoom : ℕ → List (K × M) → Result (Unit {0}) EncodeError → ℕ → ℕ → Type 0
  UsesFieldRoom n l r room left = IsSmallField l → UsesRoom r room (field_encoding key (delimited_writing encoding) n l) left

  -- the same of the record of one pair
  abbrev pub UsesRecordRoom : ℕ → K × M → Result (Unit {0}) EncodeError → ℕ → ℕ → Type 0
  UsesRecordRoom n p r room left = IsSmallPair p → UsesRoom r room (record_encoding key (delimited_writing encoding) n p) left

  -- the record of one pair
  abbrev pub IsRecordWritten : (M → List ℕ) → ℕ → K × M → Cache → List ℕ → Result (Unit {0}) EncodeError → Cache → List ℕ → Type 0
  IsRecordWritten slots n p old before r new after = WritesIf (IsSmallPair p) (record_encoding key (delimited_writing encoding) n p) (cap (length (encoding p.1)) ∷ slots p.1) old before r new after

-- a function that writes messages writes those that fit, and takes no more room than they have bytes
abbrev pub KeepsMessageRoom : {A C S : Type 0} → (Bor A → MutBor C → MutBor S → Result (Unit {0}) EncodeError → MutBor C → MutBor S → Type 0) → (A → List ℕ) → (S → ℕ) → Type 0
KeepsMessageRoom {A} {C} {S} Gives encoding room = (x : Bor A) (c : MutBor C) (s : MutBor S) (r : Result (Unit {0}) EncodeError) (d : MutBor C) (t : MutBor S) → Gives x c s r d t → UsesRoom r (room s.now) (encoding x.now) (room t.now)
