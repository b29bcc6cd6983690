-- Members that put aside what they don't understand: into the records that their message keeps, behind those that it has.
-- A field of a closed enum does so with a number that isn't declared, a map of such enums with the whole entry.
-- Source: the protobuf language guide, "Enumerations"; the protobuf encoding guide, "Maps".
use Rattle.std.specs.Prelude.{◌≡◌, ℕ, ◌==◌, ◌≤◌, max, List, [], ◌∷◌, ◌++◌, Some, Result, Err, if◌then◌else◌}
use Rattle.std.specs.List.{AllByRecursion}
use Rattle.std.specs.Option.{option_map}
use Rattle.buffa_bytes.specs.declared.wire_type.WireType.{WireType}
use Rattle.buffa_bytes.specs.declared.error.DecodeError.{DecodeError}
use Rattle.buffa_bytes.specs.Readings.{FullOnlyIf}
use Rattle.buffa_bytes.specs.Number.{IsNumber}
use Rattle.buffa_wire.specs.BudgetLeft.{BudgetLeft}
use Rattle.buffa_wire.specs.Message.{FieldRefused}
use Rattle.buffa_wire.specs.Parse.{AreValid, IsPayload}
use Rattle.buffa_wire.specs.ReadableFacts.{Readable}
use Rattle.buffa_wire.specs.Records.{FieldData, records_of}
use Rattle.buffa_wire.specs.Encoding.{records_encoding, wire_of}
use Rattle.buffa_wire.specs.Takes.{Asks, IsTaken, Charge, ReadsBack, Stays, Taker}
use Rattle.buffa_fields.specs.UndeclaredFields.{AllNumbers}
use Rattle.buffa_fields.specs.Schema.{Choice, Shape}
use Rattle.buffa_fields.specs.Levels.{IsTakenWritten}

-- records that a message keeps
abbrev pub Kept : Type 0
Kept = List (ℕ × FieldData)

-- records put behind those that are kept beside a value; and among those that the others of a message keep
abbrev pub kept_behind : {X : Type 0} → Kept → X × Kept → X × Kept
kept_behind kept x = (x.0, kept ++ x.1)

abbrev pub kept_among : {A B : Type 0} → (B → Kept → B) → B → A × Kept → A × B
kept_among adds b x = (x.0, adds b x.1)

-- What a member puts aside, where its value means an X: what a payload makes of the value and of the records that are
-- kept beside it, where that may ask for memory with so many unknown fields left, and what it costs, an unknown field for each
-- record that is put aside too; what is said of a refused field under a budget, which puts nothing aside; which data may have been put aside
-- under its number, and the levels at which they are again. All else is as the member's shape has it: the value's own records,
-- which alone are written in its place, its slots, its levels.
pub record Unknowns (X : Type 0) : Type 1 where
  pub takes : Taker (X × Kept)
  pub asks : ℕ → Asks
  pub charge : Charge
  pub refuses : FieldRefused X
  pub AreUnknowns : FieldData → Type 0
  pub levels : FieldData → ℕ
  pub stays : Stays charge
  -- records are put behind those that are kept, whatever these are
  pub behind : (d : ℕ) (v : X) (kept : Kept) (n : ℕ) (w : WireType) (p : List ℕ) → takes d (v, kept) n w p ≡ option_map (kept_behind kept) (takes d (v, []) n w p)

-- The records are of the member's number, and all of them are taken only at a depth of the value's levels; and what may have been
-- put aside only at a depth of its own.
pub record IsExactWithUnknowns {P X : Type 0} (s : Shape P X) (a : Unknowns X) : Type 0 where
  pub numbers : (k : ℕ) (v : X) → AllNumbers (λ n. n == k) (s.records k v)
  pub least : (k d : ℕ) (v : X) → s.normal v → AllByRecursion (IsTakenWritten a.takes d) (s.records k v) → s.levels v ≤ d
  pub unknowns : (k d : ℕ) (x : FieldData) → a.AreUnknowns x → IsTakenWritten a.takes d (k, x) → a.levels x ≤ d

-- The records of a normal value are valid. The value's own records read back to it, and nothing of them is put aside; what may have been put aside is so again, and
-- the value stays. Its levels are exact, where those in it are.
pub record ReadsBackWithUnknowns {P X : Type 0} (s : Shape P X) (a : Unknowns X) : Type 0 where
  pub valid : (k : ℕ) → IsNumber k → (v : X) → s.normal v → AreValid (records_of (s.records k v))
  pub back : (k : ℕ) → IsNumber k → (d : ℕ) (v : X) → Readable (records_of (s.records k v)) → s.normal v → s.levels v ≤ d →
      ReadsBack a.takes (λ n. n == k) d (s.blank, []) (records_encoding (s.records k v)) (v, [])
  pub again : (k d : ℕ) (v : X) (x : FieldData) (p : List ℕ) → a.AreUnknowns x → a.levels x ≤ d → IsPayload d k x p →
      a.takes d (v, []) k (wire_of x) p ≡ Some (v, (k, x) ∷ [])
  pub exact : s.Exact → IsExactWithUnknowns s a

-- a member takes the field whose tag was read, beside these records, or tells the fault of its wire type, and then nothing has
-- changed, and the field is unread; memory runs out only where it may be asked for; a field is refused as the member says, and
-- what is kept stays
unfoldable pub TookWithUnknowns : {P X : Type 0} → Shape P X → Unknowns X → ℕ → P → Kept → ℕ → WireType → List ℕ → BudgetLeft → Result (Unit {0}) DecodeError → P → Kept → BudgetLeft → List ℕ → Type 0
TookWithUnknowns s a d old kept n w bs before r new keeps after rest =
    IsTaken a.takes a.charge d (s.meaning old, kept) n w bs before r (s.meaning new, keeps) after rest
    × FullOnlyIf r (a.asks before.unknown d n w bs)
    × ((e : DecodeError) → s.checks n w ≡ Err e → (r ≡ Err e) × (s.meaning old ≡ s.meaning new) × (kept ≡ keeps) × (bs ≡ rest))
    × ((e : DecodeError) → r ≡ Err e → a.refuses d (s.meaning old) n w bs before e (s.meaning new) × (kept ≡ keeps))

-- ---- in a list of members

-- a field, which puts records aside among those that the others keep, and the others
abbrev pub take_with_unknowns : {A B : Type 0} → ℕ → Taker (A × Kept) → (B → Kept → B) → Taker B → Taker (A × B)
take_with_unknowns k f adds g d v n w p =
    if n == k then option_map (kept_among adds v.1) (f d (v.0, []) n w p) else option_map (λ y. (v.0, y)) (g d v.1 n w p)

-- of the records that are kept those of number k may have been put aside
abbrev pub AllUnknowns : ℕ → (FieldData → Type 0) → Kept → Type 0
AllUnknowns k P [] = Unit {0}
AllUnknowns k P (y ∷ ys) = Choice (y.0 == k) (P y.1) (Unit {0}) × AllUnknowns k P ys

-- how many levels these have
abbrev pub unknowns_levels : ℕ → (FieldData → ℕ) → Kept → ℕ
unknowns_levels k levels [] = 0
unknowns_levels k levels (y ∷ ys) = max (if y.0 == k then levels y.1 else 0) (unknowns_levels k levels ys)
