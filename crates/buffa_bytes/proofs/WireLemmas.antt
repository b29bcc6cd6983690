-- What the check of a field's wire type says.
use Rattle.std.proofs.Common.{◌≡◌, ◌≢◌, ℕ, Ok, Err, refl, sym, ◌∙◌}
use Rattle.buffa_bytes.proofs.FieldLemmas.{same_differs, same_false, same_refl, same_true}
use Rattle.buffa_bytes.proofs.StepLemmas.{Agrees, agree_err, agree_if, agree_ok}
use Rattle.buffa_bytes.specs.Readings.{check_wire, same_wire}
use Rattle.buffa_bytes.specs.declared.error.DecodeError.{DecodeError}
use Rattle.buffa_bytes.specs.declared.error.DecodeError.TheVariants.{OutOfMemory, WireTypeMismatch}
use Rattle.buffa_bytes.specs.declared.wire_type.WireType.{WireType}

module _ (n : ℕ) (v w : WireType) where
  pub check_sound : Agrees (check_wire n v w) (λ _. w ≡ v) (λ e. (w ≢ v) × (e ≡ WireTypeMismatch n v w))
  check_sound = agree_if (same_wire v w) (λ h. record { holds = sym (same_true v w h) }) (λ h. record { holds = (same_differs v w h, refl) })

  pub check_same : w ≡ v → check_wire n v w ≡ Ok tt
  check_same e = rw e (rw (same_refl v) refl)

  pub check_differs : w ≢ v → check_wire n v w ≡ Err (WireTypeMismatch n v w)
  check_differs other = rw (same_false v w other) refl

  pub checked_same : check_wire n v w ≡ Ok tt → w ≡ v
  checked_same reported = agree_ok (check_wire n v w) tt check_sound reported

  module _ (e : DecodeError) (reported : check_wire n v w ≡ Err e) where
    pub checked_other : (w ≢ v) × (e ≡ WireTypeMismatch n v w)
    checked_other = agree_err (check_wire n v w) e check_sound reported

    -- another one takes no memory
    pub other_not_full : {P : Type 0} → e ≡ OutOfMemory → P
    other_not_full full = let two = sym full ∙ checked_other.1 in cc
