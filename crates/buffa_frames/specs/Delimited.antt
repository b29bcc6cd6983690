-- A message behind its length.
use Rattle.std.specs.Prelude.{◌≡◌, ℕ, ◌≤◌, ◌^◌, ◌⊎◌, List, length, Option, Some, Ok, Err}
use Rattle.buffa_bytes.specs.Readings.{delimited_at}
use Rattle.buffa_bytes.specs.Values.{delimited_encoding}
use Rattle.buffa_bytes.specs.Written.{WritesFront}
use Rattle.buffa_bytes.specs.declared.error.DecodeError.{DecodeError}
use Rattle.buffa_bytes.specs.declared.error.EncodeError.{EncodeError}
use Rattle.buffa_bytes.specs.declared.error.EncodeError.TheVariants.{MessageTooLarge, OutOfMemory}
use Rattle.buffa_wire.specs.BudgetLeft.{BudgetLeft, Lacks, defaults}
use Rattle.buffa_wire.specs.Message.{MergeFault}

-- why a message of this encoding wasn't written behind its length: it is longer than a message may be, and nothing was written;
-- or memory ran out behind a beginning of them
abbrev pub UnwrittenFrame : List ℕ → List ℕ → List ℕ → EncodeError → Type 0
UnwrittenFrame encoding old new MessageTooLarge = (2 ^ 31 ≤ length encoding) × (new ≡ old)
UnwrittenFrame encoding old new OutOfMemory = WritesFront old (delimited_encoding encoding) new
UnwrittenFrame encoding old new _ = ⊥

-- a length and so many bytes are at the front, which mean m and cost no more than is there by default, and rest follows them
abbrev pub MeansInside : {X : Type 0} → (List ℕ → Option X) → (List ℕ → BudgetLeft) → List ℕ → X → List ℕ → Type 0
MeansInside meant cost bytes m rest = (body : List ℕ) × (delimited_at bytes ≡ Ok (body, rest)) × (meant body ≡ Some m) × (Lacks defaults (cost body) → ⊥)

-- why no message behind its length is at the front: the length's fault, or too few bytes; or the message's
abbrev pub LengthDelimitedFault : {X : Type 0} → (List ℕ → Option X) → (List ℕ → BudgetLeft) → List ℕ → DecodeError → Type 0
LengthDelimitedFault meant cost bytes e =
    (delimited_at bytes ≡ Err e)
    ⊎ ((body : List ℕ) × (rest : List ℕ) × (delimited_at bytes ≡ Ok (body, rest)) × MergeFault (meant body) (cost body) defaults e)
