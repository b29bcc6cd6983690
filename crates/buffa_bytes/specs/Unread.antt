-- Bytes that a buffer has left: which of them a chunk shows (`IsChunkOf`, `IsFrontOf`), and how far a call moved in them (`IsTailOf`,
-- `bytes_read`). Then where a reader of a varint, a tag, a length or a payload stops in bytes that it refuses (`past_..`).
use Rattle.std.specs.Prelude.{◌≡◌, ℕ, ◌<◌, ◌≤◌, ◌-◌, List, ◌++◌, length, take, drop, Result, MatchResult, ◌≢◌, nat_lt, Ok, Err, IfErr, if◌then◌else◌}
use Rattle.buffa_bytes.specs.declared.error.DecodeError.{DecodeError}
use Rattle.buffa_bytes.specs.declared.error.DecodeError.TheVariants.{OutOfMemory}
use Rattle.buffa_bytes.specs.declared.wire_type.WireType.{WireType}
use Rattle.buffa_bytes.specs.declared.wire_type.WireType.TheVariants.{Varint, LengthDelimited}
use Rattle.buffa_bytes.specs.Readings.{varint_at}

-- ---- what a buffer shows of the bytes that are left

-- part begins all, and it is empty only if all is
pub record IsChunkOf (part all : List ℕ) : Type 0 where
  pub front : take (length part) all ≡ part
  pub fits : length part ≤ length all
  pub some : 0 < length all → 0 < length part

-- part is the first n of these bytes
pub record IsFrontOf (part : List ℕ) (n : ℕ) (all : List ℕ) : Type 0 where
  pub is : part ≡ take n all
  pub fits : n ≤ length all

-- the first n of these bytes need not lie together: they are two or more, or not all there
abbrev pub MayBeCut : ℕ → List ℕ → Type 0
MayBeCut n all = n ≤ length all → 1 < n

-- tail is what follows some front of all
pub record IsTailOf (tail all : List ℕ) : Type 0 where
  pub past : ℕ
  pub follows : tail ≡ drop past all

-- how many bytes of old were read, where new are left
abbrev pub bytes_read : List ℕ → List ℕ → ℕ
bytes_read old new = length old - length new

-- the first n bytes of old went behind held, unless memory ran out
abbrev pub MovesUnlessFull : Result (Unit {0}) DecodeError → ℕ → List ℕ → List ℕ → List ℕ → List ℕ → Type 0
MovesUnlessFull r n old new held holds = MatchResult r (λ _. (holds ≡ held ++ take n old) × (new ≡ drop n old)) (λ e. e ≡ OutOfMemory)

-- ---- what readers leave unread of bytes that they refuse

-- where no varint begins these bytes: what follows the first ten of them
unfoldable pub past_no_varint : List ℕ → List ℕ
past_no_varint bs = drop 10 bs

-- where no tag begins them: what follows the varint that is there, or the first ten bytes where none is there
unfoldable pub past_no_tag : List ℕ → List ℕ
past_no_tag bs = elim (varint_at bs) [ Ok n ↦ n.1 | Err e ↦ past_no_varint bs ]

-- of a refused length and so many bytes: what follows the first ten bytes where no length is there, what follows the length where
-- that passes the end, else what follows so many bytes
unfoldable pub past_no_delimited : List ℕ → List ℕ
past_no_delimited bs = elim (varint_at bs) [ Ok n ↦ (if nat_lt (length n.1) n.0 then n.1 else drop n.0 n.1) | Err e ↦ past_no_varint bs ]

-- where no payload of this wire type begins them; groups apart
unfoldable pub past_no_payload : WireType → List ℕ → List ℕ
past_no_payload Varint bs = past_no_varint bs
past_no_payload LengthDelimited bs = past_no_delimited bs
past_no_payload _ bs = bs

-- refused bytes leave this rest, and where memory ran out no less of them is left
abbrev pub LeavesUnlessFull : {X : Type 0} → Result X DecodeError → List ℕ → List ℕ → Type 0
LeavesUnlessFull r rest left = IfErr r (λ e. (e ≢ OutOfMemory → left ≡ rest) × IsTailOf rest left)
