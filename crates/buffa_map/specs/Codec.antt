-- What a codec makes of payloads and of values.
use Rattle.std.specs.Prelude.{◌≡◌, ◌↔◌, ℕ, zero, suc, ◌⊎◌, Bool, true, false, List, [], Option, Result, Ok, Err, IsOk, MatchResult}
use Rattle.buffa_bytes.specs.Readings.{◌>>=◌}
use Rattle.buffa_bytes.specs.PayloadValue.{PayloadValue, TakesPayloadValue, PayloadValueFault, payload_value_at}
use Rattle.buffa_bytes.specs.PayloadValue.PayloadValue.{bytes}
use Rattle.buffa_wire.specs.BudgetLeft.{BudgetLeft, Lacks, Pays, PaysAtMost, charge_by, IsLimit}
use Rattle.buffa_bytes.specs.declared.wire_type.WireType.{WireType}
use Rattle.buffa_bytes.specs.declared.error.DecodeError.{DecodeError}
use Rattle.buffa_bytes.specs.declared.error.DecodeError.TheVariants.{RecursionLimitExceeded}
use Rattle.buffa_map.specs.declared.codec.MapValueDecodeStatus.{MapValueDecodeStatus}
use Rattle.buffa_map.specs.declared.codec.MapValueDecodeStatus.TheVariants.{Known, Unknown}

-- How a codec reads: what a value starts with, the wire type of its payloads, and at a depth what a content
-- makes of the value that stood: the new value, and whether the content is a declared one; or the fault.
-- Payloads are plain, or they are nested: messages, of which each opens a level, costs something, and leaves open
-- which fault it has inside. Some payloads may hold a value that is undeclared. Reading some takes memory, which may run out. The
-- trait of codecs adds that plain payloads cost nothing beyond the codec's COST, and that no fault that a reading has is a limit's.
pub record Reading (V : Type 0) : Type 0 where
  pub blank : V
  pub wire : WireType
  pub reads : ℕ → V → PayloadValue → Result (V × Bool) DecodeError
  pub nested : Bool
  pub undeclared : Bool
  pub takes_memory : Bool
  pub cost : ℕ → PayloadValue → BudgetLeft

-- what it reads is always a declared value
abbrev pub AlwaysDeclared : {V : Type 0} → Reading V → Type 0
AlwaysDeclared {V} codec = (d : ℕ) (old : V) (c : PayloadValue) (new : V) (known : Bool) → codec.reads d old c ≡ Ok (new, known) → known ≡ true

-- how a codec writes: the wire type, and the encoding of a value
pub record Writing (V : Type 0) : Type 0 where
  pub wire : WireType
  pub encoding : V → List ℕ

-- whether a level is left at a depth, where payloads are nested or not
abbrev pub level : Bool → ℕ → Result (Unit {0}) DecodeError
level false d = Ok tt
level true zero = Err RecursionLimitExceeded
level true (suc d) = Ok tt

-- the value after the payload at the front, whether that is a declared one, and what follows
abbrev pub value_at : {V : Type 0} → Reading V → ℕ → V → List ℕ → Result ((V × Bool) × List ℕ) DecodeError
value_at codec d old bs = do
  _ ← level codec.nested d
  c ← payload_value_at codec.wire bs
  v ← codec.reads d old c.0
  Ok (v, c.1)

-- where reading the payload at the front takes memory: the codec takes it, a level is left, and a whole payload is there
abbrev pub ReadingTakesMemory : {V : Type 0} → Reading V → ℕ → List ℕ → Type 0
ReadingTakesMemory codec d bs = (codec.takes_memory ≡ true) × (level codec.nested d ≡ Ok tt) × IsOk (payload_value_at codec.wire bs)

-- a level is left, and a whole payload is at the front
abbrev pub IsWhole : {V : Type 0} → Reading V → ℕ → List ℕ → Type 0
IsWhole codec d bs = (level codec.nested d ≡ Ok tt) × IsOk (payload_value_at codec.wire bs)

-- the codec takes memory, a level is left, and a payload of no bytes is at the front
abbrev pub HoldsNothing : {V : Type 0} → Reading V → ℕ → List ℕ → Type 0
HoldsNothing codec d bs = (codec.takes_memory ≡ true) × (level codec.nested d ≡ Ok tt) × (rest : List ℕ) × (payload_value_at codec.wire bs ≡ Ok (bytes [], rest))

-- what the payload at the front costs, if there is one
abbrev pub value_charge : {V : Type 0} → Reading V → ℕ → List ℕ → BudgetLeft
value_charge codec d bs = charge_by (payload_value_at codec.wire bs) (λ c. codec.cost d c.0)

-- the errors that are returned for a fault: itself, and of one inside a nested payload any but the two of a budget (`IsLimit`)
abbrev pub Tells : Bool → DecodeError → DecodeError → Type 0
Tells false x e = e ≡ x
Tells true x e = (e ≡ x) ⊎ (IsLimit e → ⊥)

-- why no payload that the codec takes begins these bytes: no level is left, the payload's fault, or its own
abbrev pub ValueFault : {V : Type 0} → Reading V → ℕ → V → List ℕ → DecodeError → Type 0
ValueFault codec d old bs e =
    (level codec.nested d ≡ Err e)
    ⊎ (((level codec.nested d ≡ Ok tt) × PayloadValueFault codec.wire bs e)
    ⊎ ((level codec.nested d ≡ Ok tt) × (c : PayloadValue) × (rest : List ℕ) × (x : DecodeError)
    × TakesPayloadValue codec.wire bs c rest × (codec.reads d old c ≡ Err x) × Tells codec.nested x e))

-- ---- what merging a payload promises, where payloads are nested or not

-- why it refuses, where left is left
abbrev pub RefusesValue : {V : Type 0} → Bool → Reading V → ℕ → V → List ℕ → BudgetLeft → DecodeError → Type 0
RefusesValue false codec d old bs left e = value_at codec d old bs ≡ Err e
RefusesValue true codec d old bs left e = Lacks left (value_charge codec d bs) ⊎ ValueFault codec d old bs e

-- what it spends: nothing; or exactly the need, and on a refusal at most that
abbrev pub Spends : {T : Type 0} → Bool → Result T DecodeError → BudgetLeft → BudgetLeft → BudgetLeft → Type 0
Spends false r left charge over = over ≡ left
Spends true r left charge over = MatchResult r (λ _. Pays left charge over) (λ _. PaysAtMost left charge over)

abbrev pub is_known : MapValueDecodeStatus → Bool
is_known Known = true
is_known Unknown = false

-- What a codec is: how it reads and writes, what a value costs, whether one may be undeclared, the length of its encodings,
-- if they have one, and which values are read back.
pub record Coded (V : Type 0) : Type 1 where
  pub reading : Reading V
  pub writing : Writing V
  pub cost : ℕ
  pub undeclared : Bool
  pub len : Option ℕ
  pub Normal : V → Type 0

-- each value is read back
abbrev pub Every : {V : Type 0} → V → Type 0
Every v = Unit {0}

-- a codec is this one
abbrev pub Codes : {V : Type 0} → Coded V → Reading V → Writing V → ℕ → Bool → Option ℕ → (V → Type 0) → Type 0
Codes {V} c reads writes costs undeclared fixed Back =
    (c.reading ≡ reads) × (c.writing ≡ writes) × (c.cost ≡ costs) × (c.undeclared ≡ undeclared) × (c.len ≡ fixed)
    × ((v : V) → c.Normal v ↔ Back v)
