-- What fields make of a value, payload by payload, and what follows of whole bytes.
-- Source: the protobuf encoding guide, "Message Structure".
use Rattle.std.specs.Prelude.{◌≡◌, ◌≢◌, ℕ, ◌-◌, ◌⊎◌, Bool, true, List, [], ◌∷◌, ◌++◌, length, take, Option, Some, None, Result, Ok, Err, MatchResult}
use Rattle.std.specs.Option.{option_map}
use Rattle.buffa_bytes.specs.Field.{IsTag, Payload}
use Rattle.buffa_bytes.specs.Readings.{skip_at, ◌>>=◌}
use Rattle.buffa_bytes.specs.declared.wire_type.WireType.{WireType}
use Rattle.buffa_bytes.specs.declared.wire_type.WireType.TheVariants.{EndGroup}
use Rattle.buffa_bytes.specs.declared.error.DecodeError.{DecodeError}
use Rattle.buffa_bytes.specs.declared.error.DecodeError.TheVariants.{OutOfMemory, UnexpectedEof}
use Rattle.buffa_wire.specs.BudgetLeft.{BudgetLeft, Lacks, Pays, PaysAtMost, nothing, IsLimit}
use Rattle.buffa_wire.specs.ByField.{FieldReader, cost_by, merged_by, value_of}

-- At a depth, what a field of a number and a wire type makes of a value by its payload, or none where it is refused.
abbrev pub Taker : Type 0 → Type 0
Taker X = ℕ → X → ℕ → WireType → List ℕ → Option X

-- At a depth, what a field costs, where these bytes follow its tag, a malformed one too.
abbrev pub Charge : Type 0
Charge = ℕ → ℕ → WireType → List ℕ → BudgetLeft

-- what a field costs is known by its payload
abbrev pub Stays : Charge → Type 0
Stays charge = (d n : ℕ) (w : WireType) (p x : List ℕ) → Payload d n w p → charge d n w (p ++ x) ≡ charge d n w p

abbrev pub costs_nothing : Charge
costs_nothing d n w bs = nothing

-- At a depth, where a field of a number and a wire type may ask for memory, if these bytes follow its tag.
abbrev pub Asks : Type 1
Asks = ℕ → ℕ → WireType → List ℕ → Type 0

-- ---- whole bytes

-- the payload at the front of the bytes, where rest follows it
abbrev pub front_of : List ℕ → List ℕ → List ℕ
front_of bs rest = take (length bs - length rest) bs

abbrev pub answer : {X : Type 0} → List ℕ → Option X → Result (X × List ℕ) DecodeError
answer rest (Some x) = Ok (x, rest)
answer rest None = Err UnexpectedEof

-- the payload is cut, and then taken
abbrev pub framed : {X : Type 0} → Taker X → ℕ → FieldReader X
framed takes d v n w bs = skip_at d n w bs >>= (λ rest. answer rest (takes d v n w (front_of bs rest)))

-- what bytes make of a value, and what they cost
unfoldable pub merged_of : {X : Type 0} → Taker X → ℕ → X → List ℕ → Option X
merged_of takes d v bs = merged_by (framed takes d) v bs

unfoldable pub cost_of : Charge → ℕ → List ℕ → BudgetLeft
cost_of charge d bs = cost_by (charge d) d bs

-- what a reader of fields makes of a value by a payload
abbrev pub taken_by : {X : Type 0} → FieldReader X → X → ℕ → WireType → List ℕ → Option X
taken_by field v n w p = option_map (λ x. x.0) (value_of (field v n w p))

-- ---- what a call owes that merges the field whose tag was read

-- no payload at the front is taken
abbrev pub Untaken : {X : Type 0} → Taker X → ℕ → X → ℕ → WireType → List ℕ → Type 0
Untaken takes d v n w bs = (p rest : List ℕ) → Payload d n w p → bs ≡ p ++ rest → takes d v n w p ≡ None

-- Accepted: a payload at the front makes new of old, exactly its need is spent, and rest follows. Refused: at most its need is spent;
-- and memory ran out, not at an end tag; or the need isn't left; or no payload at the front is taken, and the error is none of a budget's.
abbrev pub IsTaken : {X T : Type 0} → Taker X → Charge → ℕ → X → ℕ → WireType → List ℕ → BudgetLeft → Result T DecodeError → X → BudgetLeft → List ℕ → Type 0
IsTaken takes charge d old n w bs before r new after rest =
    MatchResult r
    (λ _. (p : List ℕ) × Payload d n w p × (bs ≡ p ++ rest) × (takes d old n w p ≡ Some new) × Pays before (charge d n w bs) after)
    (λ e. PaysAtMost before (charge d n w bs) after
    × (e ≢ OutOfMemory → Lacks before (charge d n w bs) ⊎ (Untaken takes d old n w bs × (IsLimit e → ⊥)))
    × (e ≡ OutOfMemory → w ≢ EndGroup))

-- ---- encodings that read back

-- a field as it is spelled
pub record Piece : Type 0 where
  pub tag : List ℕ
  pub number : ℕ
  pub wire : WireType
  pub payload : List ℕ

abbrev pub joined_fields : List Piece → List ℕ
joined_fields [] = []
joined_fields (f ∷ fs) = (f.tag ++ f.payload) ++ joined_fields fs

-- the fields, all of numbers of P, lead from s to t
abbrev pub Leads : {X : Type 0} → Taker X → (ℕ → Bool) → ℕ → X → List Piece → X → Type 0
Leads takes P d s [] t = s ≡ t
Leads {X} takes P d s (f ∷ fs) t =
    (P f.number ≡ true) × IsTag f.tag f.number f.wire × Payload d f.number f.wire f.payload
    × (u : X) × (takes d s f.number f.wire f.payload ≡ Some u) × Leads takes P d u fs t

-- the encoding is such fields
pub record ReadsBack {X : Type 0} (takes : Taker X) (P : ℕ → Bool) (d : ℕ) (s : X) (encoding : List ℕ) (t : X) : Type 0 where
  pub pieces : List Piece
  pub spelled : encoding ≡ joined_fields pieces
  pub leads : Leads takes P d s pieces t
