-- What a call that writes a message again answers, and what it leaves in the caller's memory.
use Rattle.std.specs.Prelude.{◌≡◌, ◌≢◌, ◌<◌, ◌≤◌, ◌^◌, ◌⊎◌, ℕ, List, ◌++◌, drop, length, Option, Some, IsSome}
use Rattle.buffa_wire.specs.BudgetLeft.{BudgetLeft}
use Rattle.buffa_wire.specs.Canonical.{IsCanonical}
use Rattle.buffa_c.specs.declared.limits.Limits.{Limits}
use Rattle.buffa_c.specs.declared.answer.TheConstants.{ACCEPTED, OUT_OF_MEMORY, NOT_CANONICAL, NO_ROOM, TOO_LARGE}
use Rattle.buffa_c.specs.Answers.{AreAccepted, AreRefused}

-- the bytes are at the front of the room, what follows them there is as it was, and so many were written
pub record FillsFront (bytes old new : List ℕ) (written : ℕ) : Type 0 where
  pub fits : length bytes ≤ length old
  pub front : new ≡ bytes ++ drop (length bytes) old
  pub count : written ≡ length bytes

-- bytes are copied into the room; or they don't fit, and nothing is
pub record Puts (bytes : List ℕ) (answer : ℕ) (old new : List ℕ) (written : ℕ) : Type 0 where
  pub done : answer ≡ ACCEPTED → FillsFront bytes old new written
  pub full : answer ≢ ACCEPTED → (answer ≡ NO_ROOM) × (length old < length bytes) × (new ≡ old) × (written ≡ 0)

-- the message that the bytes mean, and whose encoding has fewer than 2^31 bytes
pub record IsWritable {X : Type 0} (merged : Option X) (encoding : X → List ℕ) (value : X) : Type 0 where
  pub means : merged ≡ Some value
  pub small : length (encoding value) < 2 ^ 31

-- memory may run out where it does as the bytes are read, or where they mean a message
abbrev pub IsUnwritten : {X : Type 0} → Option X → BudgetLeft → Limits → List ℕ → ℕ → Type 0
IsUnwritten merged cost limits bytes answer =
    AreRefused merged cost limits bytes answer ⊎ ((answer ≡ OUT_OF_MEMORY) × IsSome merged)

-- The encoding of the message that the bytes mean is written into the caller's room. Each answer is given where its field says,
-- and nowhere else, memory aside.
pub record Rewrites {X : Type 0} (merged : Option X) (cost : BudgetLeft) (encoding : X → List ℕ) (limits : Limits) (bytes : List ℕ) (answer : ℕ) (old new : List ℕ) (written : ℕ) : Type 0 where
  pub done : answer ≡ ACCEPTED → AreAccepted merged cost limits bytes × ((v : X) × IsWritable merged encoding v × FillsFront (encoding v) old new written)
  pub kept : answer ≢ ACCEPTED → (new ≡ old) × (written ≡ 0)
  pub no_room : answer ≡ NO_ROOM → AreAccepted merged cost limits bytes × ((v : X) × IsWritable merged encoding v × (length old < length (encoding v)))
  pub too_large : answer ≡ TOO_LARGE → AreAccepted merged cost limits bytes × ((v : X) × (merged ≡ Some v) × (2 ^ 31 ≤ length (encoding v)))
  pub other : answer ≢ ACCEPTED → answer ≢ NO_ROOM → answer ≢ TOO_LARGE → IsUnwritten merged cost limits bytes answer

-- a message that is left of the one that the bytes mean, when the fields are taken out that aren't declared
pub record IsLeft {X M : Type 0} (merged : Option X) (meaning : M → X) (Discarded : M → M → Type 0) (left : M) : Type 0 where
  pub message : M
  pub means : merged ≡ Some (meaning message)
  pub discarded : Discarded message left

-- The same as `Rewrites` of the encoding of what is left of that message.
pub record RewritesDeclared {X M : Type 0} (merged : Option X) (cost : BudgetLeft) (meaning : M → X) (Discarded : M → M → Type 0) (encoding : X → List ℕ) (limits : Limits) (bytes : List ℕ) (answer : ℕ) (old new : List ℕ) (written : ℕ) : Type 0 where
  pub done : answer ≡ ACCEPTED → AreAccepted merged cost limits bytes × ((m : M) × IsLeft merged meaning Discarded m × (length (encoding (meaning m)) < 2 ^ 31) × FillsFront (encoding (meaning m)) old new written)
  pub kept : answer ≢ ACCEPTED → (new ≡ old) × (written ≡ 0)
  pub no_room : answer ≡ NO_ROOM → AreAccepted merged cost limits bytes × ((m : M) × IsLeft merged meaning Discarded m × (length (encoding (meaning m)) < 2 ^ 31) × (length old < length (encoding (meaning m))))
  pub too_large : answer ≡ TOO_LARGE → AreAccepted merged cost limits bytes × ((m : M) × IsLeft merged meaning Discarded m × (2 ^ 31 ≤ length (encoding (meaning m))))
  pub other : answer ≢ ACCEPTED → answer ≢ NO_ROOM → answer ≢ TOO_LARGE → IsUnwritten merged cost limits bytes answer

-- the same of how many bytes that encoding has
pub record Measures {X : Type 0} (merged : Option X) (cost : BudgetLeft) (encoding : X → List ℕ) (limits : Limits) (bytes : List ℕ) (answer : ℕ) (room : ℕ) : Type 0 where
  pub done : answer ≡ ACCEPTED → AreAccepted merged cost limits bytes × ((v : X) × IsWritable merged encoding v × (room ≡ length (encoding v)))
  pub kept : answer ≢ ACCEPTED → room ≡ 0
  pub too_large : answer ≡ TOO_LARGE → AreAccepted merged cost limits bytes × ((v : X) × (merged ≡ Some v) × (2 ^ 31 ≤ length (encoding v)))
  pub other : answer ≢ ACCEPTED → answer ≢ TOO_LARGE → IsUnwritten merged cost limits bytes answer

-- Whether the bytes are the encoding of the message that they mean.
pub record ChecksCanonical {X : Type 0} (merged : Option X) (cost : BudgetLeft) (encoding : X → List ℕ) (limits : Limits) (bytes : List ℕ) (answer : ℕ) : Type 0 where
  pub done : answer ≡ ACCEPTED → AreAccepted merged cost limits bytes × ((v : X) × IsCanonical merged encoding bytes v)
  pub not_canonical : answer ≡ NOT_CANONICAL → AreAccepted merged cost limits bytes × ((v : X) → IsCanonical merged encoding bytes v → ⊥)
  pub other : answer ≢ ACCEPTED → answer ≢ NOT_CANONICAL → IsUnwritten merged cost limits bytes answer
