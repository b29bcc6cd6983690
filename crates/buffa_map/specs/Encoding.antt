-- The encoding of a map field, and its size. Source: the protobuf encoding guide, "Maps".
use Rattle.std.specs.Prelude.{◌≡◌, ℕ, ◌+◌, ◌-◌, ◌^◌, ◌<◌, List, [], ◌∷◌, ◌++◌, length, min, nat_lt, Option, None, Some, if◌then◌else◌, ◌≤◌, Result, MatchResult}
use Rattle.buffa_bytes.specs.Varint.{varint_encoding}
use Rattle.buffa_bytes.specs.Values.{delimited_encoding, tag_encoding}
use Rattle.buffa_bytes.specs.declared.wire_type.WireType.TheVariants.{LengthDelimited}
use Rattle.buffa_bytes.specs.Written.{WritesFront}
use Rattle.buffa_bytes.specs.declared.error.EncodeError.{EncodeError}
use Rattle.buffa_bytes.specs.declared.error.EncodeError.TheVariants.{MessageTooLarge, GroupRefused, OutOfMemory}
use Rattle.buffa_map.specs.Codec.{Writing}

module _ {K W : Type 0} (key : Writing K) (val : Writing W) where
  -- the key field and the value field, blanks too
  abbrev pub entry_encoding : K × W → List ℕ
  entry_encoding p = (tag_encoding 1 key.wire ++ key.encoding p.0) ++ (tag_encoding 2 val.wire ++ val.encoding p.1)

  -- the tag of number n, the entry's length, the entry
  abbrev pub record_encoding : ℕ → K × W → List ℕ
  record_encoding n p = tag_encoding n LengthDelimited ++ delimited_encoding (entry_encoding p)

  -- a record for each pair, in order
  abbrev pub field_encoding : ℕ → List (K × W) → List ℕ
  field_encoding n [] = []
  field_encoding n (p ∷ ps) = record_encoding n p ++ field_encoding n ps

  -- no entry is too long for its length to be a varint
  abbrev pub HasEncoding : List (K × W) → Type 0
  HasEncoding [] = Unit {0}
  HasEncoding (p ∷ ps) = (length (entry_encoding p) < 2 ^ 64) × HasEncoding ps

  -- the sum of the records' lengths, where t is the length of the field's tag
  abbrev pub field_size : ℕ → List (K × W) → ℕ
  field_size t [] = 0
  field_size t (p ∷ ps) = t + (length (varint_encoding (length (entry_encoding p))) + length (entry_encoding p)) + field_size t ps

-- each key is P, and each value is Q
abbrev pub AllHold : {K W : Type 0} → (K → Type 0) → (W → Type 0) → List (K × W) → Type 0
AllHold P Q [] = Unit {0}
AllHold P Q (p ∷ ps) = P p.0 × Q p.1 × AllHold P Q ps

-- what fits never ends in out of memory, and what is written takes no more room than it has bytes
abbrev pub UsesRoomOf : {T : Type 0} → Result T EncodeError → ℕ → List ℕ → ℕ → Type 0
UsesRoomOf r room encoding left = MatchResult r (λ _. room ≤ left + length encoding) (λ e. e ≡ OutOfMemory → room < length encoding)

module _ {K W : Type 0} (key : Writing K) (val : Writing W) (n : ℕ) (old new : List ℕ) where
  -- why the record of p wasn't written: memory ran out after a beginning of it; or its entry is too long, and nothing was written
  abbrev pub RefusesRecord : K × W → EncodeError → Type 0
  RefusesRecord p OutOfMemory = (length (entry_encoding key val p) < 2 ^ 64) × WritesFront old (record_encoding key val n p) new
  RefusesRecord p MessageTooLarge = (2 ^ 64 ≤ length (entry_encoding key val p)) × (new ≡ old)
  RefusesRecord p (GroupRefused e) = ⊥

  abbrev pub WritesRecord : {T : Type 0} → Result T EncodeError → K × W → Type 0
  WritesRecord r p = MatchResult r (λ _. (length (entry_encoding key val p) < 2 ^ 64) × (new ≡ old ++ record_encoding key val n p)) (RefusesRecord p)

  -- why the records of l weren't: memory ran out after those of the pairs of done and a beginning of the next, whose entry isn't
  -- too long; or that is the first entry that is too long, and the records of done were written
  abbrev pub RefusesField : List (K × W) → EncodeError → Type 0
  RefusesField l OutOfMemory =
      (done : List (K × W)) × (p : K × W) × (rest : List (K × W)) × (l ≡ done ++ p ∷ rest) × HasEncoding key val done
      × (length (entry_encoding key val p) < 2 ^ 64) × WritesFront (old ++ field_encoding key val n done) (record_encoding key val n p) new
  RefusesField l MessageTooLarge =
      (done : List (K × W)) × (p : K × W) × (rest : List (K × W)) × (l ≡ done ++ p ∷ rest) × HasEncoding key val done
      × (2 ^ 64 ≤ length (entry_encoding key val p)) × (new ≡ old ++ field_encoding key val n done)
  RefusesField l (GroupRefused e) = ⊥

  abbrev pub WritesField : {T : Type 0} → Result T EncodeError → List (K × W) → Type 0
  WritesField r l = MatchResult r (λ _. HasEncoding key val l × (new ≡ old ++ field_encoding key val n l)) (RefusesField l)

-- a length, if it is a number of 64 bits
abbrev pub as_u64 : ℕ → Option ℕ
as_u64 n = if nat_lt n (2 ^ 64) then Some n else None

-- a length as a number of 64 bits, which a greater one doesn't pass
abbrev pub saturated : ℕ → ℕ
saturated n = min n (2 ^ 64 - 1)
