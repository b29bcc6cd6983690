-- What the numbers say that a call answers a program in another language. The limits, and what bytes mean and cost, are those of
-- `Message::merge`, for a blank message.
use Rattle.std.specs.Prelude.{◌≡◌, ◌≢◌, ◌<◌, ◌≤◌, ℕ, List, length, Bool, true, false, Option, Some, IsSome}
use Rattle.buffa_bytes.specs.declared.error.DecodeError.{DecodeError}
use Rattle.buffa_bytes.specs.declared.error.DecodeError.TheVariants.{UnexpectedEof, VarintTooLong, InvalidFieldNumber, InvalidWireType, WireTypeMismatch, InvalidUtf8, MessageTooLarge, RecursionLimitExceeded, UnknownFieldLimitExceeded, ElementMemoryLimitExceeded, InvalidEndGroup, InvalidMessageSet, UnexpectedField, OutOfMemory}
use Rattle.buffa_wire.specs.BudgetLeft.{BudgetLeft, Lacks}
use Rattle.buffa_wire.specs.Message.{BeginsField, FieldRefused, MergeFault, PartlyMerged}
use Rattle.buffa_c.specs.declared.limits.Limits.{Limits}
use Rattle.buffa_c.specs.declared.answer.TheConstants.{ACCEPTED, MISSING_REQUIRED, OUT_OF_MEMORY, TOO_LONG}

-- the number of a fault: its place in `DecodeError`
abbrev pub number_of_fault : DecodeError → ℕ
number_of_fault UnexpectedEof = 1
number_of_fault VarintTooLong = 2
number_of_fault InvalidFieldNumber = 3
number_of_fault (InvalidWireType _) = 4
number_of_fault (WireTypeMismatch _ _ _) = 5
number_of_fault InvalidUtf8 = 6
number_of_fault MessageTooLarge = 7
number_of_fault RecursionLimitExceeded = 8
number_of_fault UnknownFieldLimitExceeded = 9
number_of_fault ElementMemoryLimitExceeded = 10
number_of_fault (InvalidEndGroup _) = 11
number_of_fault (InvalidMessageSet _) = 12
number_of_fault (UnexpectedField _) = 13
number_of_fault OutOfMemory = OUT_OF_MEMORY

-- what the limits let reading spend
abbrev pub budget_of : Limits → BudgetLeft
budget_of limits = record { unknown = limits.unknown; memory = limits.units }

-- the bytes are read: they aren't too long, mean something, and cost no more than is allowed
pub record AreAccepted {X : Type 0} (merged : Option X) (cost : BudgetLeft) (limits : Limits) (bytes : List ℕ) : Type 0 where
  pub short : length bytes ≤ limits.longest
  pub means : IsSome merged
  pub left : Lacks (budget_of limits) cost → ⊥

-- the number is that of a fault: one for which merging refuses the bytes, or want of memory, where a field begins them
pub record IsFault {X : Type 0} (merged : Option X) (cost : BudgetLeft) (limits : Limits) (bytes : List ℕ) (answer : ℕ) : Type 0 where
  pub fault : DecodeError
  pub number : answer ≡ number_of_fault fault
  pub why : fault ≢ OutOfMemory → MergeFault merged cost (budget_of limits) fault
  pub full : fault ≡ OutOfMemory → BeginsField bytes

-- the bytes are refused, and the answer says why: they are too long, and this where they are and nowhere else; or it is the
-- number of a fault, and then they aren't accepted, but where memory ran out
pub record AreRefused {X : Type 0} (merged : Option X) (cost : BudgetLeft) (limits : Limits) (bytes : List ℕ) (answer : ℕ) : Type 0 where
  pub positive : ACCEPTED < answer
  pub low : answer ≤ TOO_LONG
  pub long : answer ≡ TOO_LONG → limits.longest < length bytes
  pub too_long : limits.longest < length bytes → answer ≡ TOO_LONG
  pub fault : answer ≢ TOO_LONG → IsFault merged cost limits bytes answer
  pub other : answer ≢ OUT_OF_MEMORY → AreAccepted merged cost limits bytes → ⊥

-- 0 where the bytes are accepted, and nowhere else, memory aside; another answer says why they are refused
pub record Checks {X : Type 0} (merged : Option X) (cost : BudgetLeft) (limits : Limits) (bytes : List ℕ) (answer : ℕ) : Type 0 where
  pub zero : answer ≡ ACCEPTED → AreAccepted merged cost limits bytes
  pub other : answer ≢ ACCEPTED → AreRefused merged cost limits bytes answer

-- the bytes are accepted, and this is whether the message that they mean has all that is required
pub record HasRequired {X M : Type 0} (merged : Option X) (cost : BudgetLeft) (meaning : M → X) (initialized : M → Bool) (limits : Limits) (bytes : List ℕ) (whole : Bool) : Type 0 where
  pub accepted : AreAccepted merged cost limits bytes
  pub message : M
  pub means : merged ≡ Some (meaning message)
  pub required : initialized message ≡ whole

-- the same as `Checks` of a message in which something is required, and which is accepted where all of it is there
pub record ChecksWhole {X M : Type 0} (merged : Option X) (cost : BudgetLeft) (meaning : M → X) (initialized : M → Bool) (limits : Limits) (bytes : List ℕ) (answer : ℕ) : Type 0 where
  pub zero : answer ≡ ACCEPTED → HasRequired merged cost meaning initialized limits bytes true
  pub missing : answer ≡ MISSING_REQUIRED → HasRequired merged cost meaning initialized limits bytes false
  pub other : answer ≢ ACCEPTED → answer ≢ MISSING_REQUIRED → AreRefused merged cost limits bytes answer

-- of which fault the number is, where it is that of a fault: the one at the first field or tag that is refused, as the
-- message's type says of it
pub record NumbersFault {X : Type 0} (merged : ℕ → X → List ℕ → Option X) (cost : ℕ → List ℕ → BudgetLeft) (Refused : FieldRefused X) (blank : X) (limits : Limits) (bytes : List ℕ) (answer : ℕ) : Type 0 where
  pub which :
      answer ≢ ACCEPTED → answer < TOO_LONG →
      (e : DecodeError) × (m : X) × (answer ≡ number_of_fault e) × PartlyMerged merged cost Refused limits.depth blank bytes (budget_of limits) e m
