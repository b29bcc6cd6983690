-- What a call that reads, writes or rewrites a map field did: from what it was passed to what it left.
use Rattle.std.specs.Prelude.{◌≡◌, ◌+◌, ℕ, Bool, List, OnOk, Option, Result}
use Rattle.buffa_bytes.specs.declared.error.DecodeError.{DecodeError}
use Rattle.buffa_bytes.specs.declared.error.EncodeError.{EncodeError}
use Rattle.buffa_wire.specs.BudgetLeft.{BudgetLeft}
use Rattle.buffa_wire.specs.Cache.{Cache}
use Rattle.buffa_wire.specs.Message.{MergesBytes}
use Rattle.buffa_wire.specs.Passes.{IsSized, IsWritten}
use Rattle.buffa_map.specs.Codec.{Writing}
use Rattle.buffa_map.specs.MessageField.{KeepsMessageRoom, UsesRecordRoom}
use Rattle.buffa_map.specs.Pairs.{ListsOnce}
use Rattle.buffa_map.specs.Encoding.{AllHold, UsesRoomOf, WritesField, field_encoding}
use denote.Ref.{Bor, MutBor}

-- ---- functions that merge, size and write messages, whose values mean so

-- a function merges the bytes of a message one level down, and pays for it
abbrev pub MergesMessages : {M V : Type 0} → (MutBor M → Bor (List ℕ) → ℕ → MutBor BudgetLeft → Result (Unit {0}) DecodeError → MutBor M → MutBor BudgetLeft → Type 0) → (M → V) → (ℕ → V → List ℕ → Option V) → (ℕ → List ℕ → BudgetLeft) → ℕ → Type 0
MergesMessages {M} Gives meaning merged cost depth =
    (x : MutBor M) (b : Bor (List ℕ)) (d : ℕ) (w : MutBor BudgetLeft) (r : Result (Unit {0}) DecodeError) (y : MutBor M) (v : MutBor BudgetLeft) →
    d + 1 ≡ depth → Gives x b d w r y v → MergesBytes merged cost d (meaning x.now) b.now w.now r (meaning y.now) v.now

-- a function sizes the messages that are P
abbrev pub SizesMessages : {M V : Type 0} → (Bor M → MutBor Cache → Result ℕ EncodeError → MutBor Cache → Type 0) → (V → Type 0) → (M → V) → (V → List ℕ) → (V → List ℕ) → Type 0
SizesMessages {M} Gives P meaning encoding slots =
    (x : Bor M) (c : MutBor Cache) (r : Result ℕ EncodeError) (d : MutBor Cache) → P (meaning x.now) → Gives x c r d →
    IsSized (encoding (meaning x.now)) (slots (meaning x.now)) c.now r d.now

-- a function writes the values that are P
abbrev pub WritesMessages : {M V S : Type 0} → (Bor M → MutBor Cache → MutBor S → Result (Unit {0}) EncodeError → MutBor Cache → MutBor S → Type 0) → (M → Type 0) → (M → V) → (V → List ℕ) → (V → List ℕ) → (S → List ℕ) → Type 0
WritesMessages {M} {V} {S} Gives P meaning encoding slots written =
    (x : Bor M) (c : MutBor Cache) (s : MutBor S) (r : Result (Unit {0}) EncodeError) (d : MutBor Cache) (t : MutBor S) → P x.now → Gives x c s r d t →
    IsWritten (encoding (meaning x.now)) (slots (meaning x.now)) c.now (written s.now) r d.now (written t.now)

-- where the function writes each message that fits, a record that fits is written
abbrev pub KeepsRecordRoom : {K M V S : Type 0} → (Bor M → MutBor Cache → MutBor S → Result (Unit {0}) EncodeError → MutBor Cache → MutBor S → Type 0) → (M → V) → (S → ℕ) → Writing K → (V → List ℕ) → ℕ → K × V → Result (Unit {0}) EncodeError → S → S → Type 0
KeepsRecordRoom Gives meaning room key encoding n p r old new =
    KeepsMessageRoom Gives (λ v. encoding (meaning v)) room → UsesRecordRoom key encoding n p r (room old) (room new)

-- ---- a map as a field: its encoding behind what a sink has, by a walk of it

module _ {K V M : Type 0} (eq : K → K → Bool) (Walks : M → List (K × V) → Type 0) (pairs : M → List (K × V)) (map : M) (key : Writing K) (val : Writing V) (KeyFits : K → Type 0) (ValFits : V → Type 0) (n : ℕ) where
  -- it was written, or refused, whole records; what was written is what the types of key and value hold, and what had room
  -- wasn't refused
  abbrev pub WritesMapField : {S T : Type 0} → (S → List ℕ) → (S → ℕ) → S → S → Result T EncodeError → Type 0
  WritesMapField written room old new r =
      (l : List (K × V)) × Walks map l × ListsOnce eq (pairs map) l × WritesField key val n (written old) (written new) r l
      × OnOk r (AllHold KeyFits ValFits l) × UsesRoomOf r (room old) (field_encoding key val n l) (room new)
