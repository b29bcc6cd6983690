-- Sets and clears of numbers, and what they leave.
use Rattle.std.specs.Prelude.{◌≡◌, ◌≢◌, ◌↔◌, ◌≤◌, ◌+◌, ℕ, Bool, true, length, map, List, [], ◌∷◌, ◌++◌, Option, Some, None, drop, unwrap_or, ◌==◌, if◌then◌else◌}
use Rattle.std.specs.List.{filter_map, last_or}
use Rattle.buffa_bytes.specs.declared.error.EncodeError.{EncodeError}
use Rattle.buffa_wire.specs.Records.{FieldData, Held}
use Rattle.buffa_wire.specs.RecordsOfValues.{field_data_of}
use Rattle.buffa_codec.specs.RecordsOfNumber.{sub, without, tagged}
use Rattle.buffa_ext.specs.declared.sets_and_clears.Step.{Step}
use Rattle.buffa_ext.specs.declared.sets_and_clears.Step.TheVariants.{Clear, Set}

-- a step: a set of a number to what its records are to hold, or a clear of a number
pub data NumberStep : Type 0 where
  set : ℕ → List FieldData → NumberStep
  clear : ℕ → NumberStep

-- what a step of the code does
abbrev pub step_of : Step → NumberStep
step_of (Set n ds) = set n (map field_data_of ds.items)
step_of (Clear n) = clear n

-- `==` says that two are equal exactly where they are one step: sets of one number to the same, or clears of one number
abbrev pub SameIsOneStep : (Step → Step → Bool) → Type 0
SameIsOneStep same = (a b : Step) → (same a b ≡ true) ↔ (step_of a ≡ step_of b)

-- the records that one step leaves
abbrev pub after_one : List (ℕ × FieldData) → NumberStep → List (ℕ × FieldData)
after_one rs (set n ds) = without n rs ++ tagged n ds
after_one rs (clear n) = without n rs

-- the records that a step puts in
abbrev pub put_in : NumberStep → List FieldData
put_in (set n ds) = ds
put_in (clear n) = []

-- how many records steps put in
abbrev pub put_count : List NumberStep → ℕ
put_count [] = 0
put_count (c ∷ cs) = length (put_in c) + put_count cs

-- steps take no more room than they put records in
abbrev pub KeepsRoom : List NumberStep → Held → Held → Type 0
KeepsRoom cs old new = old.spare ≤ new.spare + put_count cs

-- the records that steps leave, one after the other
abbrev pub after : List (ℕ × FieldData) → List NumberStep → List (ℕ × FieldData)
after rs [] = rs
after rs (c ∷ cs) = after (after_one rs c) cs

-- a step that takes memory: a set to some records
abbrev pub StepTakesMemory : NumberStep → Type 0
StepTakesMemory (set n ds) = ds ≢ []
StepTakesMemory (clear n) = ⊥

-- the step after so many takes memory
abbrev pub RefusedAt : ℕ → List NumberStep → Type 0
RefusedAt k cs = (c : NumberStep) × (rest : List NumberStep) × (drop k cs ≡ c ∷ rest) × StepTakesMemory c

-- what a step says of a number, where it says something
abbrev pub step_says : ℕ → NumberStep → Option (List FieldData)
step_says n (set m ds) = (if m == n then Some ds else None)
step_says n (clear m) = (if m == n then Some [] else None)

-- what the last step of a number leaves there, or else what was there
abbrev pub history : ℕ → List (ℕ × FieldData) → List NumberStep → List FieldData
history n rs cs = unwrap_or (last_or None (filter_map (step_says n) cs)) (sub n rs)

-- a list of records after a set of a number, or a clear
abbrev pub IsSet : ℕ → List FieldData → Held → Held → Type 0
IsSet n ds old new = new.records ≡ after_one old.records (set n ds)

abbrev pub IsCleared : ℕ → Held → Held → Type 0
IsCleared n old new = new.records ≡ after_one old.records (clear n)

-- a value was set that isn't refused, and reading it takes memory
abbrev pub IsSetUnread : ℕ → List FieldData → Option EncodeError → (List FieldData → Type 0) → Held → Held → Type 0
IsSetUnread n ds refusal asks old new = IsSet n ds old new × (refusal ≡ None) × asks ds

-- a record of the number is there
abbrev pub HoldsRecord : ℕ → Held → Type 0
HoldsRecord n held = sub n held.records ≢ []

-- after a set the records of the number hold what was set, and those of other numbers stand as they were
abbrev pub TakesThePlace : Type 0
TakesThePlace = (n : ℕ) (rs : List (ℕ × FieldData)) (ds : List FieldData) → sub n (after_one rs (set n ds)) ≡ ds

abbrev pub KeepsTheRest : Type 0
KeepsTheRest = (n : ℕ) (rs : List (ℕ × FieldData)) (ds : List FieldData) → without n (after_one rs (set n ds)) ≡ without n rs

-- each other number keeps its records
abbrev pub LeavesOthers : Type 0
LeavesOthers = (n k : ℕ) (rs : List (ℕ × FieldData)) (ds : List FieldData) → n ≢ k → sub k (after_one rs (set n ds)) ≡ sub k rs

-- the records of the number stand behind all others
abbrev pub ComesLast : Type 0
ComesLast = (n : ℕ) (rs : List (ℕ × FieldData)) (ds : List FieldData) → (front : List (ℕ × FieldData)) × (sub n front ≡ []) × (after_one rs (set n ds) ≡ front ++ tagged n ds)

-- a set leaves the one list of which all this is true
abbrev pub IsExactlySet : Type 0
IsExactlySet =
    (n : ℕ) (rs out : List (ℕ × FieldData)) (ds : List FieldData) → (out ≡ after_one rs (set n ds))
    ↔ ((front : List (ℕ × FieldData)) × (sub n front ≡ []) × (without n front ≡ without n rs) × (out ≡ front ++ tagged n ds))

-- a clear leaves the one list without records of the number in which those of other numbers stand as they were
abbrev pub TakesOut : Type 0
TakesOut = (n : ℕ) (rs out : List (ℕ × FieldData)) → (out ≡ after_one rs (clear n)) ↔ ((sub n out ≡ []) × (without n out ≡ without n rs))

-- what a number is read as after steps is what its history is read as
abbrev pub ReadsHistory : {A : Type 0} → (List FieldData → A → Type 0) → Type 0
ReadsHistory {A = A} reads = (n : ℕ) (rs : List (ℕ × FieldData)) (cs : List NumberStep) (a : A) → reads (sub n (after rs cs)) a ↔ reads (history n rs cs) a

-- of two sets of a number the second counts, and two clears are one
abbrev pub SecondCounts : Type 0
SecondCounts = (n : ℕ) (rs : List (ℕ × FieldData)) (ds es : List FieldData) → after_one (after_one rs (set n ds)) (set n es) ≡ after_one rs (set n es)

abbrev pub ClearsAreOne : Type 0
ClearsAreOne = (n : ℕ) (rs : List (ℕ × FieldData)) → after_one (after_one rs (clear n)) (clear n) ≡ after_one rs (clear n)
