-- Whether a call of a stream failed.
use Rattle.std.specs.Prelude.{◌≡◌, ◌≢◌, ℕ, List, [], Bool, true, false, ◌⊎◌, Result, Ok, Err}

-- a read fails where it says so
abbrev pub ReadFails : {E : Type 0} → Bool → Result ℕ E → Type 0
ReadFails failed (Ok n) = failed ≡ false
ReadFails failed (Err e) = failed ≡ true

-- a write that took n bytes of a text fails where it took none and the text has one
abbrev pub WriteOfFails : Bool → ℕ → List ℕ → Type 0
WriteOfFails failed n text = ((n ≡ 0) × (text ≢ []) × (failed ≡ true)) ⊎ ((n ≡ 0 → text ≡ []) × (failed ≡ false))

-- and where it says so
abbrev pub WriteFails : {E : Type 0} → Bool → Result ℕ E → List ℕ → Type 0
WriteFails failed (Ok n) text = WriteOfFails failed n text
WriteFails failed (Err e) text = failed ≡ true
