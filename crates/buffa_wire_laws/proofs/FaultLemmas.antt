-- Out of memory is no fault of records.
use Rattle.std.proofs.Common.{◌≡◌, ℕ, inl, inr, List, Err}
use Rattle.buffa_bytes.specs.declared.wire_type.WireType.{WireType}
use Rattle.buffa_bytes.specs.declared.error.DecodeError.TheVariants.{OutOfMemory}
use Rattle.buffa_bytes.proofs.StepLemmas.{agree_err}
use Rattle.buffa_wire.specs.RecordReading.{field_at, list_at}
use Rattle.buffa_wire.proofs.KeepLemmas.{IsReported, field_reported, records_told}
use Rattle.buffa_wire.proofs.LoopLemmas.{field_is_read, list_is_read}

not_full : {P : Type 0} → IsReported OutOfMemory P → ⊥
not_full (inl h) = h
not_full (inr h) = let e = h.0 in cc

pub field_full : (d s n : ℕ) (w : WireType) (bs : List ℕ) → field_at d s n w bs ≡ Err OutOfMemory → ⊥
field_full d s n w bs e = not_full (field_reported d s n w bs OutOfMemory (agree_err (field_at d s n w bs) OutOfMemory (field_is_read d s n w bs) e))

pub list_full : (d s : ℕ) (bs : List ℕ) → list_at d s bs ≡ Err OutOfMemory → ⊥
list_full d s bs e = not_full (records_told d s bs OutOfMemory (agree_err (list_at d s bs) OutOfMemory (list_is_read d s bs) e))
