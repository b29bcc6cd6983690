-- Out of memory is no fault of the bytes.
use Rattle.std.proofs.Common.{◌≡◌, ℕ, ◌<◌, List, length, Result, Ok, Err}
use Rattle.buffa_bytes.specs.declared.wire_type.WireType.{WireType}
use Rattle.buffa_bytes.specs.declared.error.DecodeError.{DecodeError}
use Rattle.buffa_bytes.specs.declared.error.DecodeError.TheVariants.{OutOfMemory, UnexpectedEof}
use Rattle.buffa_bytes.specs.PayloadValue.{PayloadValueFault, payload_value_at}
use Rattle.buffa_bytes.specs.Field.{TagFault, PayloadFault}
use Rattle.buffa_bytes.specs.Readings.{varint_at, tag_at, taken, delimited_at, skip_at, ◌>>=◌}
use Rattle.buffa_bytes.specs.Scalars.{fixed32_at, fixed64_at}
use Rattle.std.specs.Int.{from_le_bytes, w32, w64}
use Rattle.buffa_bytes.proofs.StepLemmas.{Agrees, agree_bind, agree_err}
use Rattle.buffa_bytes.proofs.VarintLemmas.{varint_sound}
use Rattle.buffa_bytes.proofs.DelimitedLemmas.{delimited_sound, taken_sound}
use Rattle.buffa_bytes.proofs.PayloadValueLemmas.{payload_value_sound}
use Rattle.buffa_bytes.proofs.FieldLemmas.{tag_sound, payload_sound}
use Rattle.buffa_bytes.proofs.FaultLemmas.{payload_value_fault, length_fault, payload_fault, tag_fault}

pub tag_fault_full : (bs : List ℕ) → TagFault bs OutOfMemory → ⊥
tag_fault_full bs h = tag_fault bs OutOfMemory h

pub payload_value_fault_full : (w : WireType) (bs : List ℕ) → PayloadValueFault w bs OutOfMemory → ⊥
payload_value_fault_full w bs h = payload_value_fault w bs OutOfMemory h

pub payload_fault_full : (d f : ℕ) (w : WireType) (bs : List ℕ) → PayloadFault d f w bs OutOfMemory → ⊥
payload_fault_full d f w bs h = payload_fault d f w bs OutOfMemory h

pub varint_full : (bs : List ℕ) → varint_at bs ≡ Err OutOfMemory → ⊥
varint_full bs e = agree_err (varint_at bs) OutOfMemory (varint_sound bs) e

pub tag_full : (bs : List ℕ) → tag_at bs ≡ Err OutOfMemory → ⊥
tag_full bs e = tag_fault_full bs (agree_err (tag_at bs) OutOfMemory (tag_sound bs) e)

pub delimited_full : (bs : List ℕ) → delimited_at bs ≡ Err OutOfMemory → ⊥
delimited_full bs e = length_fault bs OutOfMemory (agree_err (delimited_at bs) OutOfMemory (delimited_sound bs) e)

pub payload_value_full : (w : WireType) (bs : List ℕ) → payload_value_at w bs ≡ Err OutOfMemory → ⊥
payload_value_full w bs e = payload_value_fault_full w bs (agree_err (payload_value_at w bs) OutOfMemory (payload_value_sound w bs) e)

pub payload_full : (d f : ℕ) (w : WireType) (bs : List ℕ) → skip_at d f w bs ≡ Err OutOfMemory → ⊥
payload_full d f w bs e = payload_fault_full d f w bs (agree_err (skip_at d f w bs) OutOfMemory (payload_sound d f w bs) e)

-- a fault of a varint, a tag or a payload, told on, is no out of memory
pub varint_no_full : {P : Type 0} (bs : List ℕ) (e : DecodeError) → varint_at bs ≡ Err e → e ≡ OutOfMemory → P
varint_no_full bs e h k = absurd (varint_full bs (rw k at h))

pub tag_no_full : {P : Type 0} (bs : List ℕ) (e : DecodeError) → tag_at bs ≡ Err e → e ≡ OutOfMemory → P
tag_no_full bs e h k = absurd (tag_full bs (rw k at h))

pub payload_value_no_full : {P : Type 0} (w : WireType) (bs : List ℕ) (e : DecodeError) → payload_value_at w bs ≡ Err e → e ≡ OutOfMemory → P
payload_value_no_full w bs e h k = absurd (payload_value_full w bs (rw k at h))

pub skip_no_full : {P : Type 0} (d f : ℕ) (w : WireType) (bs : List ℕ) (e : DecodeError) → skip_at d f w bs ≡ Err e → e ≡ OutOfMemory → P
skip_no_full d f w bs e h k = absurd (payload_full d f w bs (rw k at h))

-- the same of four and eight bytes
abbrev some_as : {A : Type 0} → ℕ → (List ℕ → A) → List ℕ → Result (A × List ℕ) DecodeError
some_as k of bs = taken k bs >>= (λ p. Ok (of p.0, p.1))

some_bytes_no_full : {A P : Type 0} (k : ℕ) (of : List ℕ → A) (bs : List ℕ) (e : DecodeError) → some_as k of bs ≡ Err e → e ≡ OutOfMemory → P
some_bytes_no_full {A} k of bs e h m =
    let all : Agrees (some_as k of bs) (λ (v : A × List ℕ). Unit {0}) (λ d. (length bs < k) × (d ≡ UnexpectedEof)) =
    agree_bind (taken_sound k bs) (λ p x. record { holds = tt }) (λ d x. x) in
    let f : e ≡ UnexpectedEof = (agree_err (some_as k of bs) e all h).1 in
    cc

pub fixed32_no_full : {P : Type 0} (bs : List ℕ) (e : DecodeError) → fixed32_at bs ≡ Err e → e ≡ OutOfMemory → P
fixed32_no_full bs e h m = some_bytes_no_full 4 (from_le_bytes w32) bs e h m

pub fixed64_no_full : {P : Type 0} (bs : List ℕ) (e : DecodeError) → fixed64_at bs ≡ Err e → e ≡ OutOfMemory → P
fixed64_no_full bs e h m = some_bytes_no_full 8 (from_le_bytes w64) bs e h m
