-- Readings of the wire: each `.._at` says what stands at the front of some bytes, a varint, a tag, a length and so many bytes, a payload or a
-- group, and which bytes follow, or which fault comes first. `Gives`, `GivesUnlessFull` and `FullOnlyIf` say in a contract that a call
-- answered so.
use Rattle.std.specs.Prelude.{ℕ, Bool, true, false, None, Some, if◌then◌else◌, ◌≡◌, ◌≢◌, Result, Ok, Err, IfErr, zero, suc, ◌+◌, ◌*◌, ◌/◌, ◌%◌, ◌^◌, ◌==◌, nat_lt, List, [], ◌∷◌, length, take, drop}
use Rattle.buffa_bytes.specs.declared.wire_type.WireType.{WireType}
use Rattle.buffa_bytes.specs.declared.wire_type.WireType.TheVariants.{Varint, Fixed64, LengthDelimited, StartGroup, EndGroup, Fixed32}
use Rattle.buffa_bytes.specs.declared.error.DecodeError.{DecodeError}
use Rattle.buffa_bytes.specs.declared.error.DecodeError.TheVariants.{OutOfMemory, UnexpectedEof, VarintTooLong, InvalidFieldNumber, InvalidWireType, WireTypeMismatch, RecursionLimitExceeded, InvalidEndGroup}
use Rattle.buffa_bytes.specs.Number.{wire_kind}
use Rattle.buffa_bytes.specs.Scan.{Scanned, scan}
use Rattle.buffa_bytes.specs.Scan.Scanned.{ends, goes}

-- whether two wire types are one
abbrev pub same_wire : WireType → WireType → Bool
same_wire Varint Varint = true
same_wire Fixed64 Fixed64 = true
same_wire LengthDelimited LengthDelimited = true
same_wire StartGroup StartGroup = true
same_wire EndGroup EndGroup = true
same_wire Fixed32 Fixed32 = true
same_wire _ _ = false

-- ---- what a call gives, beside what is read

infixl 10 ◌>>=◌
-- goes on with what the first gives
abbrev pub ◌>>=◌ : {A B : Type 0} → Result A DecodeError → (A → Result B DecodeError) → Result B DecodeError
(Ok x) >>= f = f x
(Err e) >>= f = Err e

-- what a call answered, seen by view, is what is read
abbrev pub Gives : {X Y : Type 0} → (X → Y) → Result X DecodeError → Result Y DecodeError → Type 0
Gives view (Ok x) read = read ≡ Ok (view x)
Gives view (Err e) read = read ≡ Err e

-- the same, unless memory ran out
abbrev pub GivesUnlessFull : {X Y : Type 0} → (X → Y) → Result X DecodeError → Result Y DecodeError → Type 0
GivesUnlessFull view (Ok x) read = read ≡ Ok (view x)
GivesUnlessFull view (Err e) read = e ≢ OutOfMemory → read ≡ Err e

-- memory ran out only where P holds
abbrev pub FullOnlyIf : {X : Type 0} → Result X DecodeError → Type 0 → Type 0
FullOnlyIf r P = IfErr r (λ e. e ≡ OutOfMemory → P)

-- ---- the readings

-- a varint of k bytes at most and one more, which is 0 or 1 where all k come before it
unfoldable pub varint_within : ℕ → List ℕ → Result (ℕ × List ℕ) DecodeError
varint_within k [] = Err UnexpectedEof
varint_within zero (b ∷ bs) = if nat_lt b 2 then Ok (b, bs) else Err VarintTooLong
varint_within (suc k) (b ∷ bs) = if nat_lt b 128 then Ok (b, bs) else (do
  v ← varint_within k bs
  Ok (b % 128 + 128 * v.0, v.1))

unfoldable pub varint_at : List ℕ → Result (ℕ × List ℕ) DecodeError
varint_at bs = varint_within 9 bs

-- the number and the wire type in the value of a tag
unfoldable pub tag_of : ℕ → Result (ℕ × WireType) DecodeError
tag_of n = if nat_lt n (2 ^ 32) then (if nat_lt n 8 then Err InvalidFieldNumber else
    (elim (wire_kind (n % 8)) [ None ↦ Err (InvalidWireType (n % 8)) | Some w ↦ Ok (n / 8, w) ])) else Err InvalidFieldNumber

-- a tag: a number, a wire type, and what follows
unfoldable pub tag_at : List ℕ → Result (ℕ × WireType × List ℕ) DecodeError
tag_at bs = do
  n ← varint_at bs
  t ← tag_of n.0
  Ok (t.0, t.1, n.1)

-- what follows n bytes
unfoldable pub past : ℕ → List ℕ → Result (List ℕ) DecodeError
past n bs = if nat_lt (length bs) n then Err UnexpectedEof else Ok (drop n bs)

-- the first n bytes, and what follows them
unfoldable pub taken : ℕ → List ℕ → Result (List ℕ × List ℕ) DecodeError
taken n bs = if nat_lt (length bs) n then Err UnexpectedEof else Ok (take n bs, drop n bs)

-- a length and so many bytes: these bytes, and what follows them
abbrev pub delimited_at : List ℕ → Result (List ℕ × List ℕ) DecodeError
delimited_at bs = varint_at bs >>= (λ n. taken n.0 n.1)

-- what follows the payload of a field, where inner says what follows the fields and the end tag of a group
abbrev pub skip_by : (ℕ → List ℕ → Result (List ℕ) DecodeError) → ℕ → WireType → List ℕ → Result (List ℕ) DecodeError
skip_by inner f Varint bs = varint_at bs >>= (λ n. Ok n.1)
skip_by inner f Fixed64 bs = past 8 bs
skip_by inner f LengthDelimited bs = varint_at bs >>= (λ n. past n.0 n.1)
skip_by inner f StartGroup bs = inner f bs
skip_by inner f EndGroup bs = Err (InvalidEndGroup f)
skip_by inner f Fixed32 bs = past 4 bs

-- what is behind a payload is scanned next
abbrev pub passed : Result (List ℕ) DecodeError → Scanned (Unit {0}) (Result (List ℕ) DecodeError)
passed (Ok rest) = goes tt rest (λ r. r)
passed (Err e) = ends (Err e)

-- a tag in group f: its end tag ends it, and any other field's payload is passed
abbrev pub fields_step : (ℕ → List ℕ → Result (List ℕ) DecodeError) → ℕ → Result (ℕ × WireType × List ℕ) DecodeError → Scanned (Unit {0}) (Result (List ℕ) DecodeError)
fields_step inner f (Ok t) = if same_wire EndGroup t.1 then ends (if t.0 == f then Ok t.2 else Err (InvalidEndGroup t.0)) else passed (skip_by inner t.0 t.1 t.2)
fields_step inner f (Err e) = ends (Err e)

-- what follows the fields and the end tag of group f
unfoldable pub fields_at : (ℕ → List ℕ → Result (List ℕ) DecodeError) → ℕ → List ℕ → Result (List ℕ) DecodeError
fields_at inner f bs = scan (λ _ rest. fields_step inner f (tag_at rest)) (Err UnexpectedEof) tt bs

-- the same, where groups are nested at most d deep
unfoldable pub group_at : ℕ → ℕ → List ℕ → Result (List ℕ) DecodeError
group_at zero f bs = Err RecursionLimitExceeded
group_at (suc d) f bs = fields_at (group_at d) f bs

-- what follows the payload of a field
abbrev pub skip_at : ℕ → ℕ → WireType → List ℕ → Result (List ℕ) DecodeError
skip_at d = skip_by (group_at d)

-- what follows the rest of group f, where t is what was read of the next tag
abbrev pub group_step : ℕ → ℕ → ℕ × WireType × List ℕ → Result (List ℕ) DecodeError
group_step d f t = if same_wire EndGroup t.1 then (if t.0 == f then Ok t.2 else Err (InvalidEndGroup t.0)) else (skip_at d t.0 t.1 t.2 >>= group_at (suc d) f)

abbrev pub group_by_field : ℕ → ℕ → List ℕ → Result (List ℕ) DecodeError
group_by_field d f bs = tag_at bs >>= group_step d f

-- whether field f has the wire type that is wanted
abbrev pub check_wire : ℕ → WireType → WireType → Result (Unit {0}) DecodeError
check_wire f expected actual = if same_wire expected actual then Ok tt else Err (WireTypeMismatch f expected actual)
