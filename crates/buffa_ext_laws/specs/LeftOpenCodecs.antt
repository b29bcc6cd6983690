-- What the contracts of codecs leave open: nothing, but for what is said here.
use Rattle.std.specs.Prelude.{◌≡◌, ◌≢◌, ℕ, List, [], ◌∷◌, ◌++◌, map, Option, Some, Ok, Err}
use Rattle.buffa_bytes.specs.declared.error.EncodeError.{EncodeError}
use Rattle.buffa_bytes.specs.declared.error.EncodeError.TheVariants.{OutOfMemory}
use Rattle.buffa_wire.specs.BudgetLeft.{BudgetLeft, defaults, minus}
use Rattle.buffa_wire.specs.Records.{FieldData}
use Rattle.buffa_codec.specs.Decoded.{Adds, AddsSome, AddsValues, Refuses}

-- records are read as one answer at most
abbrev pub OneAnswer : {A : Type 0} → (List FieldData → A → Type 0) → Type 0
OneAnswer {A = A} reads = (ds : List FieldData) (a b : A) → reads ds a → reads ds b → a ≡ b

-- and as one at least
abbrev pub HasAnswer : {A : Type 0} → (List FieldData → A → Type 0) → Type 0
HasAnswer {A = A} reads = (ds : List FieldData) → (a : A) × reads ds a

-- what a record that is read as a value leaves of a budget is one
abbrev pub LeavesOne : {M : Type 0} → (BudgetLeft → FieldData → Option M) → (BudgetLeft → FieldData → BudgetLeft → Type 0) → Type 0
LeavesOne {M = M} one leaves = (b x y : BudgetLeft) (d : FieldData) (v : M) → one b d ≡ Some v → leaves b d x → leaves b d y → x ≡ y

-- the records are read as these values, each from what those before it leave
abbrev pub AreValues : {M : Type 0} → (BudgetLeft → FieldData → Option M) → (FieldData → BudgetLeft) → BudgetLeft → List FieldData → List M → Type 0
AreValues one cost b [] vs = vs ≡ []
AreValues {M = M} one cost b (d ∷ ds) vs = (v : M) × (rest : List M) × (one b d ≡ Some v) × AreValues one cost (minus b (cost d)) ds rest × (vs ≡ v ∷ rest)

-- up to the first record that is no value a list has one answer
abbrev pub BeginsAlike : {M : Type 0} → (List FieldData → List M → Type 0) → (BudgetLeft → FieldData → Option M) → (FieldData → BudgetLeft) → Type 0
BeginsAlike {M = M} reads one cost =
    (front back : List FieldData) (vs out : List M) → AreValues one cost defaults front vs → reads (front ++ back) out → (rest : List M) × (out ≡ vs ++ rest)

-- where all records are values, a list has one answer
abbrev pub OneList : {M : Type 0} → (List FieldData → List M → Type 0) → (BudgetLeft → FieldData → Option M) → (FieldData → BudgetLeft) → Type 0
OneList {M = M} reads one cost = (ds : List FieldData) (vs out : List M) → AreValues one cost defaults ds vs → reads ds out → out ≡ vs

-- memory aside, a value that is written isn't refused, and one that is refused is refused for one reason
pub record RefusalIsPinned (T : Type 0) (refusal : Option EncodeError) : Type 0 where
  pub either : (x : T) (e : EncodeError) → Refuses {T = T} (Ok x) refusal → Refuses {T = T} (Err e) refusal → e ≡ OutOfMemory
  pub reported : (e f : EncodeError) → Refuses {T = T} (Err e) refusal → Refuses {T = T} (Err f) refusal → e ≢ OutOfMemory → f ≢ OutOfMemory → e ≡ f

-- records are written in one way, and where one record is refused nothing is
pub record EncodingIsPinned : Type 0 where
  pub written : (old more a b : List (ℕ × FieldData)) → Adds old more a → Adds old more b → a ≡ b
  pub refused : (old new : List (ℕ × FieldData)) (r : ℕ × FieldData) → AddsSome old (r ∷ []) new → new ≡ old

-- packed values are read in one way
abbrev pub UnpackingIsPinned : {V M : Type 0} → (V → M) → Type 0
UnpackingIsPinned {V = V} {M = M} meaning =
    (old a b : List V) (more : List M) → AddsValues meaning old more a → AddsValues meaning old more b → map meaning a ≡ map meaning b
