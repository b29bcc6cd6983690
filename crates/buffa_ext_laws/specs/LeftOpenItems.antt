-- What the contracts of Items leave open: nothing, but for what is said here.
use Rattle.std.specs.Prelude.{◌≡◌, ◌≢◌, ℕ, ◌^◌, ◌<◌, ◌≤◌, List, length, Result, Ok, Err}
use Rattle.buffa_bytes.specs.declared.error.DecodeError.{DecodeError}
use Rattle.buffa_bytes.specs.declared.error.DecodeError.TheVariants.{OutOfMemory}
use Rattle.buffa_bytes.specs.declared.error.EncodeError.{EncodeError}
use Rattle.buffa_bytes.specs.declared.error.EncodeError.TheVariants.{OutOfMemory as NoMemory}
use Rattle.buffa_wire.specs.BudgetLeft.{BudgetLeft}
use Rattle.buffa_bytes.specs.Readings.{GivesUnlessFull}
use Rattle.buffa_bytes.specs.Written.{UsesRoom, Writes}
use Rattle.buffa_message_set.specs.Item.{IsTypeId, ItemFault, SpendsUnknown, TakesItem, item_in, item_encoding}

-- what reading an Item may answer, where so many unknown fields are left, and what it leaves unread
abbrev pub GivesItem : ℕ → ℕ → List ℕ → Result (ℕ × List ℕ) DecodeError → List ℕ → Type 0
GivesItem d unknown bs r rest = GivesUnlessFull (λ item. (item.0, item.1, rest)) r (item_in d unknown bs)

-- An Item is read in one way only: the one that the grammar has. What is read can't have been refused, memory aside, and
-- there is one fault.
pub record ItemIsPinned : Type 0 where
  pub accepted : (d unknown : ℕ) (bs x y : List ℕ) (a b : ℕ × List ℕ) → GivesItem d unknown bs (Ok a) x → GivesItem d unknown bs (Ok b) y → (a ≡ b) × (x ≡ y)
  pub is_there : (d unknown : ℕ) (bs x : List ℕ) (a : ℕ × List ℕ) → GivesItem d unknown bs (Ok a) x → (0 < unknown) × TakesItem d bs a.0 a.1 x
  pub refused : (d unknown : ℕ) (bs x y : List ℕ) (a : ℕ × List ℕ) (f : DecodeError) → GivesItem d unknown bs (Ok a) x → GivesItem d unknown bs (Err f) y → f ≢ OutOfMemory → ⊥
  pub fault : (d unknown : ℕ) (bs x y : List ℕ) (f g : DecodeError) → GivesItem d unknown bs (Err f) x → GivesItem d unknown bs (Err g) y → f ≢ OutOfMemory → g ≢ OutOfMemory → f ≡ g
  pub is_a_fault : (d unknown : ℕ) (bs x : List ℕ) (f : DecodeError) → GivesItem d unknown bs (Err f) x → f ≢ OutOfMemory → 0 < unknown → ItemFault d bs f
  pub spent : (old a b : BudgetLeft) → SpendsUnknown old a → SpendsUnknown old b → a ≡ b

-- what writing an Item may leave in a sink
abbrev pub WritesItem : ℕ → List ℕ → Result (Unit {0}) EncodeError → List ℕ → List ℕ → Type 0
WritesItem id msg r old new = Writes r old (item_encoding id msg) new

-- An Item is written in one way only, and no other one has its encoding; it is refused for want of memory alone, and
-- never where there is room.
pub record WrittenItemIsPinned : Type 0 where
  pub written : (id : ℕ) (msg old a b : List ℕ) → WritesItem id msg (Ok tt) old a → WritesItem id msg (Ok tt) old b → a ≡ b
  pub refused : (id : ℕ) (msg old a : List ℕ) (f : EncodeError) → WritesItem id msg (Err f) old a → f ≡ NoMemory
  pub fits : (id room left : ℕ) (msg : List ℕ) (f : EncodeError) → UsesRoom {T = Unit {0}} (Err f) room (item_encoding id msg) left → length (item_encoding id msg) ≤ room → ⊥
  pub no_other : (id other : ℕ) (msg bytes : List ℕ) → IsTypeId id → IsTypeId other → length msg < 2 ^ 64 → length bytes < 2 ^ 64 →
      item_encoding id msg ≡ item_encoding other bytes → (id ≡ other) × (msg ≡ bytes)
