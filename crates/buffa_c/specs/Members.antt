-- What a call answers that tells a member of the message that bytes mean, and what it leaves in the caller's memory. The member is
-- one of the message, if the bytes mean one.
use Rattle.std.specs.Prelude.{◌≡◌, ◌≢◌, ◌<◌, ℕ, List, length, Bool, true, false, Option, Some, None}
use Rattle.buffa_wire.specs.BudgetLeft.{BudgetLeft}
use Rattle.buffa_c.specs.declared.limits.Limits.{Limits}
use Rattle.buffa_c.specs.declared.answer.TheConstants.{ACCEPTED, NO_ROOM}
use Rattle.buffa_c.specs.Answers.{AreAccepted, AreRefused}
use Rattle.buffa_c.specs.Encodings.{FillsFront}

-- what `Checks` says, of a call that may lack room besides
pub record ChecksRoom {X : Type 0} (merged : Option X) (cost : BudgetLeft) (limits : Limits) (bytes : List ℕ) (answer : ℕ) : Type 0 where
  pub zero : answer ≡ ACCEPTED → AreAccepted merged cost limits bytes
  pub no_room : answer ≡ NO_ROOM → AreAccepted merged cost limits bytes
  pub other : answer ≢ ACCEPTED → answer ≢ NO_ROOM → AreRefused merged cost limits bytes answer

-- a number, which is told where the bytes are accepted, and else stays as it was
pub record TellsNumber {Y : Type 0} (member : Option Y) (answer : ℕ) (old new : Y) : Type 0 where
  pub answered : answer ≡ ACCEPTED → member ≡ Some new
  pub kept : answer ≢ ACCEPTED → new ≡ old

-- a number that may be absent: whether it is there, and where it is
pub record TellsNumberIf {Y : Type 0} (member : Option (Option Y)) (answer : ℕ) (there : Bool) (old new : Y) : Type 0 where
  pub answered : answer ≡ ACCEPTED → there ≡ true → member ≡ Some (Some new)
  pub absent : answer ≡ ACCEPTED → there ≡ false → (member ≡ Some None) × (new ≡ old)
  pub kept : answer ≢ ACCEPTED → (new ≡ old) × (there ≡ false)

-- bytes, which are copied into the caller's room where they fit
pub record CopiesBytes (member : Option (List ℕ)) (answer : ℕ) (old new : List ℕ) (written : ℕ) : Type 0 where
  pub answered : answer ≡ ACCEPTED → (held : List ℕ) × (member ≡ Some held) × FillsFront held old new written
  pub no_room : answer ≡ NO_ROOM → (held : List ℕ) × (member ≡ Some held) × (length old < length held)
  pub kept : answer ≢ ACCEPTED → (new ≡ old) × (written ≡ 0)

-- bytes that may be absent: whether they are there, and where they are they are copied
pub record CopiesBytesIf (member : Option (Option (List ℕ))) (answer : ℕ) (there : Bool) (old new : List ℕ) (written : ℕ) : Type 0 where
  pub answered : answer ≡ ACCEPTED → there ≡ true → (held : List ℕ) × (member ≡ Some (Some held)) × FillsFront held old new written
  pub absent : answer ≡ ACCEPTED → there ≡ false → (member ≡ Some None) × (new ≡ old) × (written ≡ 0)
  pub no_room : answer ≡ NO_ROOM → (held : List ℕ) × (member ≡ Some (Some held)) × (length old < length held)
  pub kept : answer ≢ ACCEPTED → (new ≡ old) × (written ≡ 0)
  pub refused : answer ≢ ACCEPTED → answer ≢ NO_ROOM → there ≡ false
