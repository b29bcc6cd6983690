-- What the laws say of codecs in the words of bytes: varints, lengths and texts, as the layer below reads them.
use Rattle.std.specs.Prelude.{◌≡◌, ◌↔◌, ℕ, ℤ, suc, true, false, Bool, cond, List, [], Option, None, Some, is_some, Result, Ok, Err, IsOk}
use Rattle.buffa_bytes.specs.Readings.{delimited_at, ◌>>=◌}
use Rattle.buffa_bytes.specs.Values.{int32_at}
use Rattle.buffa_bytes.specs.declared.wire_type.WireType.{WireType}
use Rattle.buffa_bytes.specs.declared.error.DecodeError.{DecodeError}
use Rattle.buffa_bytes.specs.declared.error.DecodeError.TheVariants.{RecursionLimitExceeded}
use Rattle.buffa_wire.specs.BudgetLeft.{BudgetLeft, Lacks, nothing, IsLimit}
use Rattle.buffa_map.specs.declared.codec.MapValueDecodeStatus.{MapValueDecodeStatus}
use Rattle.buffa_map.specs.Codec.{HoldsNothing, IsWhole, Reading, ReadingTakesMemory, RefusesValue, Spends, Writing, value_at, value_charge}

-- What is made of the value that stood and of the bytes at the front: the new value, whether the payload is a declared
-- one, and what follows it.
abbrev pub Reader : Type 0 → Type 0
Reader V = V → List ℕ → Result ((V × Bool) × List ℕ) DecodeError

-- the value at the front takes the place of the one that stood, and is always a declared one
abbrev pub always : {V : Type 0} → (List ℕ → Result (V × List ℕ) DecodeError) → Reader V
always at old bs = at bs >>= (λ v. Ok ((v.0, true), v.1))

-- The int32 at the front, if the enum declares it; for any other the value stays as it was, and the payload isn't a
-- declared one.
abbrev pub declared_number : {E : Type 0} → (ℤ → Option E) → Reader ℤ
declared_number of old bs = int32_at bs >>= (λ n. Ok (cond (is_some (of n.0)) (n.0, true) (old, false), n.1))

-- the int32 at the front, and whether the enum declares it
abbrev pub any_number : {E : Type 0} → (ℤ → Option E) → List ℕ → Result ((Bool × ℤ) × List ℕ) DecodeError
any_number of bs = int32_at bs >>= (λ n. Ok ((is_some (of n.0), n.0), n.1))

-- A codec reads what this reader reads, at each depth, and tells its faults. Memory may run out only where Takes says so,
-- and nothing of a budget is spent.
pub record IsReadAs {V : Type 0} (codec : Reading V) (at : Reader V) (Takes : List ℕ → Type 0) : Type 0 where
  pub value : (d : ℕ) (old : V) (bs : List ℕ) → value_at codec d old bs ≡ at old bs
  pub fault : (d : ℕ) (old : V) (bs : List ℕ) (left : BudgetLeft) (f : DecodeError) → RefusesValue codec.nested codec d old bs left f ↔ (at old bs ≡ Err f)
  pub memory : (d : ℕ) (bs : List ℕ) → ReadingTakesMemory codec d bs → Takes bs
  pub spends : (r : Result MapValueDecodeStatus DecodeError) (d : ℕ) (bs : List ℕ) (left left_after : BudgetLeft) → Spends codec.nested r left (value_charge codec d bs) left_after → left_after ≡ left
  pub whole : (d : ℕ) (bs : List ℕ) (old : V) → IsOk (at old bs) → IsWhole codec d bs

-- no bytes
abbrev pub Never : List ℕ → Type 0
Never bs = ⊥

-- where a length and so many bytes begin them
abbrev pub AtBytes : List ℕ → Type 0
AtBytes bs = IsOk (delimited_at bs)

-- a codec takes no memory where a length of 0 begins the bytes
abbrev pub NothingIsFree : {V : Type 0} → Reading V → Type 0
NothingIsFree codec = (d : ℕ) (bs rest : List ℕ) → delimited_at bs ≡ Ok ([], rest) → HoldsNothing codec d bs

-- a codec writes these bytes of each value, with this wire type
abbrev pub WritesAs : {V : Type 0} → Writing V → WireType → (V → List ℕ) → Type 0
WritesAs {V} codec wire encoding = (codec.wire ≡ wire) × ((v : V) → codec.encoding v ≡ encoding v)

-- A codec reads messages: where a level is left, a length and so many bytes, of which merged makes a new value of the one
-- that stood, one level deeper, and which cost so much. A limit's error is told only where that isn't left. Where no level is left,
-- or no length and so many bytes are there, that is what is told, and nothing is the cost.
pub record MessagesAreReadAs {V : Type 0} (codec : Reading V) (merged : ℕ → V → List ℕ → Option V) (cost : ℕ → List ℕ → BudgetLeft) : Type 0 where
  pub too_deep : (old : V) (bs : List ℕ) → value_at codec 0 old bs ≡ Err RecursionLimitExceeded
  pub no_bytes : (d : ℕ) (old : V) (bs : List ℕ) (f : DecodeError) → delimited_at bs ≡ Err f → value_at codec (suc d) old bs ≡ Err f
  pub merges : (d : ℕ) (old new : V) (bs b rest : List ℕ) → delimited_at bs ≡ Ok (b, rest) → merged d old b ≡ Some new → value_at codec (suc d) old bs ≡ Ok ((new, true), rest)
  pub refuses : (d : ℕ) (old : V) (bs b rest : List ℕ) → delimited_at bs ≡ Ok (b, rest) → merged d old b ≡ None → (f : DecodeError) × (value_at codec (suc d) old bs ≡ Err f)
  pub costs : (d : ℕ) (bs b rest : List ℕ) → delimited_at bs ≡ Ok (b, rest) → value_charge codec (suc d) bs ≡ cost d b
  pub limits : (d : ℕ) (old : V) (bs : List ℕ) (left : BudgetLeft) (f : DecodeError) → RefusesValue codec.nested codec d old bs left f → IsLimit f → Lacks left (value_charge codec d bs)
  pub no_cost : (bs : List ℕ) → value_charge codec 0 bs ≡ nothing
  pub no_bytes_cost : (d : ℕ) (bs : List ℕ) (f : DecodeError) → delimited_at bs ≡ Err f → value_charge codec d bs ≡ nothing
  pub level_reported : (old : V) (bs : List ℕ) (left : BudgetLeft) (f : DecodeError) → RefusesValue codec.nested codec 0 old bs left f → f ≡ RecursionLimitExceeded
  pub bytes_reported : (d : ℕ) (old : V) (bs : List ℕ) (left : BudgetLeft) (f g : DecodeError) → delimited_at bs ≡ Err f → RefusesValue codec.nested codec (suc d) old bs left g → g ≡ f
