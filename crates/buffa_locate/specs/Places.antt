-- Where merging stops.
use Rattle.std.specs.Prelude.{◌≡◌, ◌≢◌, ◌⊎◌, ℕ, ◌<◌, ◌≤◌, List, [], ◌∷◌, ◌++◌, length, take, drop, Option, None, Some, IsSome, Ok, Err}
use Rattle.buffa_bytes.specs.declared.error.DecodeError.{DecodeError}
use Rattle.buffa_bytes.specs.declared.error.DecodeError.TheVariants.{OutOfMemory}
use Rattle.buffa_bytes.specs.declared.tag.Tag.{Tag}
use Rattle.buffa_bytes.specs.Field.{IsTag}
use Rattle.buffa_bytes.specs.Readings.{tag_at}
use Rattle.buffa_wire.specs.BudgetLeft.{BudgetLeft, Lacks, Pays}
use Rattle.buffa_wire.specs.Message.{FieldRefused, IsJudged, MergeFault}
use Rattle.buffa_locate.specs.declared.place.Place.{Place}
use Rattle.buffa_locate.specs.declared.place.Step.{Step}
use Rattle.buffa_locate.specs.declared.refused.Refused.{Refused}

-- bytes mean something, and what they cost is there
abbrev pub AreAllMerged : {X : Type 0} → Option X → BudgetLeft → BudgetLeft → Type 0
AreAllMerged meant charge before = IsSome meant × (Lacks before charge → ⊥)

-- at an offset, behind fields that made this value and left this much, stands no tag, for this reason, and the payload's
-- offset is the same; or a field, whose payload begins at an offset, and which is refused by this very error, of which
-- its type says so much
abbrev pub RefusesAt : {X : Type 0} → (ℕ → X → List ℕ → Option X) → (ℕ → List ℕ → BudgetLeft) → FieldRefused X → ℕ → X → List ℕ → BudgetLeft → ℕ → Option Tag → ℕ → DecodeError → Type 0
RefusesAt merged cost Says d mid bytes left at None behind e = (tag_at (drop at bytes) ≡ Err e) × (behind ≡ at)
RefusesAt {X} merged cost Says d mid bytes left at (Some tag) behind e =
    (tag_at (drop at bytes) ≡ Ok (tag.number, tag.wire_type, drop behind bytes)) × (at < behind) × (behind ≤ length bytes)
    × ((new : X) × Says d mid tag.number tag.wire_type (drop behind bytes) left e new)
    × ((t p : List ℕ) → IsTag t tag.number tag.wire_type → IsJudged d tag.number tag.wire_type (drop behind bytes) p → MergeFault (merged d mid (t ++ p)) (cost d (t ++ p)) left e)

-- the first record of these bytes that is refused: what is in front of it was merged and paid for, it is refused, and for its fault
-- all of them are
pub record IsFirstRefused {X : Type 0} (merged : ℕ → X → List ℕ → Option X) (cost : ℕ → List ℕ → BudgetLeft) (Says : FieldRefused X) (d : ℕ) (old : X) (bytes : List ℕ) (before : BudgetLeft) (found : Refused) : Type 0 where
  pub within : found.at < length bytes
  pub from : found.at ≤ found.behind
  pub to : found.behind ≤ length bytes
  pub mid : X
  pub means : merged d old (take found.at bytes) ≡ Some mid
  pub pays : Pays before (cost d (take found.at bytes)) (record { unknown = found.unknown; memory = found.memory })
  pub refuses : RefusesAt merged cost Says d mid bytes (record { unknown = found.unknown; memory = found.memory }) found.at found.tag found.behind found.fault
  pub tells : found.fault ≢ OutOfMemory
  pub why : MergeFault (merged d old bytes) (cost d bytes) before found.fault

-- steps went behind a path
abbrev pub Extends : List Step → List Step → Type 0
Extends old new = (more : List Step) × (new ≡ old ++ more)

-- steps went behind a path where something was found; else it is as it was
abbrev pub ExtendsIfFound : Option ℕ → List Step → List Step → Type 0
ExtendsIfFound None old new = new ≡ old
ExtendsIfFound (Some found) old new = Extends old new

-- steps to a refused record went behind a path, the field of its tag first
abbrev pub LeadsTo : Option Tag → List Step → List Step → Type 0
LeadsTo None old new = new ≡ old
LeadsTo (Some tag) old new = (step : Step) × (more : List Step) × (step.number ≡ tag.number) × (new ≡ old ++ (step ∷ more))

-- the place of the first record of these bytes that is refused: its path begins with the record's field, its offset is where the
-- record begins or one behind its tag, and its fault is the record's
pub record IsPlace {X : Type 0} (merged : ℕ → X → List ℕ → Option X) (cost : ℕ → List ℕ → BudgetLeft) (Says : FieldRefused X) (d : ℕ) (old : X) (bytes : List ℕ) (before : BudgetLeft) (place : Place) : Type 0 where
  pub found : Refused
  pub first : IsFirstRefused merged cost Says d old bytes before found
  pub leads : LeadsTo found.tag [] place.path.items
  pub at : (place.offset ≡ found.at) ⊎ (found.behind ≤ place.offset)
  pub within : place.offset < length bytes
  pub fault : place.fault ≡ found.fault
