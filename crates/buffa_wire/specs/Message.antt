-- What merging a message promises: what bytes make of a value, and what they cost, is said by the message's type.
use Rattle.std.specs.Prelude.{◌≡◌, ◌≢◌, ◌<◌, ℕ, zero, suc, ◌⊎◌, List, ◌++◌, length, Option, Some, None, Result, Ok, Err, MatchResult}
use Rattle.buffa_bytes.specs.declared.error.DecodeError.{DecodeError}
use Rattle.buffa_bytes.specs.declared.error.DecodeError.TheVariants.{OutOfMemory, RecursionLimitExceeded}
use Rattle.buffa_bytes.specs.declared.wire_type.WireType.{WireType}
use Rattle.buffa_bytes.specs.declared.wire_type.WireType.TheVariants.{EndGroup}
use Rattle.buffa_bytes.specs.Field.{IsTag, Payload, TakesPayload}
use Rattle.buffa_bytes.specs.Readings.{delimited_at, tag_at}
use Rattle.buffa_wire.specs.declared.context.DecodeContext.{DecodeContext}
use Rattle.buffa_wire.specs.BudgetLeft.{BudgetLeft, IsLimit, Lacks, Pays, PaysAtMost, defaults, nothing}

-- why bytes aren't merged that mean so and need so much, where left is left: that isn't left, and then any error may
-- be told; or they mean no value, and then any but a limit's
abbrev pub MergeFault : {X : Type 0} → Option X → BudgetLeft → BudgetLeft → DecodeError → Type 0
MergeFault meant charge left e = Lacks left charge ⊎ ((meant ≡ None) × (IsLimit e → ⊥))

-- merging bytes that mean so and need so much leaves new: exactly the need is spent, and on a refusal at most that
abbrev pub IsMerged : {X T : Type 0} → Option X → BudgetLeft → BudgetLeft → Result T DecodeError → X → BudgetLeft → Type 0
IsMerged meant charge before r new after =
    MatchResult r
    (λ _. (meant ≡ Some new) × Pays before charge after)
    (λ e. PaysAtMost before charge after × (e ≢ OutOfMemory → MergeFault meant charge before e))

-- a tag begins the bytes, and it is no end tag: where merging them may take memory
abbrev pub BeginsField : List ℕ → Type 0
BeginsField bs = (n : ℕ) × (w : WireType) × (rest : List ℕ) × (tag_at bs ≡ Ok (n, w, rest)) × (w ≢ EndGroup)

-- the same of a message, at a depth: what bytes mean to it, and what they cost
abbrev pub MergesBytes : {X T : Type 0} → (ℕ → X → List ℕ → Option X) → (ℕ → List ℕ → BudgetLeft) → ℕ → X → List ℕ → BudgetLeft → Result T DecodeError → X → BudgetLeft → Type 0
MergesBytes merged cost d old bs before r new after = IsMerged (merged d old bs) (cost d bs) before r new after

-- the same from the default budget: what bytes mean is left where their need is there, and else it tells why not
abbrev pub IsMergedAlone : {X T : Type 0} → Option X → BudgetLeft → Result T DecodeError → X → Type 0
IsMergedAlone meant charge r new =
    MatchResult r
    (λ _. (meant ≡ Some new) × (Lacks defaults charge → ⊥))
    (λ e. e ≢ OutOfMemory → MergeFault meant charge defaults e)

-- What a refusal speaks of, where bs follows the tag of a field: a whole payload of the field at the front; or, where
-- none begins bs, all of them.
abbrev pub IsJudged : ℕ → ℕ → WireType → List ℕ → List ℕ → Type 0
IsJudged d n w bs p =
    ((rest : List ℕ) × Payload d n w p × (bs ≡ p ++ rest))
    ⊎ ((p ≡ bs) × ((rest : List ℕ) → TakesPayload d n w bs rest → ⊥))

-- Merging the field whose tag, of number n and wire type w, was read, however it was spelled, where bs follows the tag:
-- what the field means is left, exactly what it costs is spent, and rest follows it; on a refusal at most what the
-- tag and the bytes that are judged cost is spent, and it tells why they aren't merged.
abbrev pub IsFieldMerged : {X T : Type 0} → (ℕ → X → List ℕ → Option X) → (ℕ → List ℕ → BudgetLeft) → ℕ → X → ℕ → WireType → List ℕ → BudgetLeft → Result T DecodeError → X → BudgetLeft → List ℕ → Type 0
IsFieldMerged merged cost d old n w bs before r new after rest =
    MatchResult r
    (λ _. (p : List ℕ) × Payload d n w p × (bs ≡ p ++ rest)
    × ((t : List ℕ) → IsTag t n w → (merged d old (t ++ p) ≡ Some new) × Pays before (cost d (t ++ p)) after))
    (λ e. (t p : List ℕ) → IsTag t n w → IsJudged d n w bs p →
    PaysAtMost before (cost d (t ++ p)) after × (e ≢ OutOfMemory → MergeFault (merged d old (t ++ p)) (cost d (t ++ p)) before e))

-- the same in a context
abbrev pub MergesField : {X T : Type 0} → (ℕ → X → List ℕ → Option X) → (ℕ → List ℕ → BudgetLeft) → DecodeContext → X → ℕ → WireType → List ℕ → Result T DecodeError → X → BudgetLeft → List ℕ → Type 0
MergesField merged cost ctx old n w bs r new after rest = IsFieldMerged merged cost ctx.depth old n w bs ctx.budget.now r new after rest

-- What a type says of a field that was refused, at a depth: of the old value, the number, the wire type, the bytes
-- behind the tag, and the budget; of the error; and of the value that stands then.
abbrev pub FieldRefused : Type 0 → Type 1
FieldRefused X = ℕ → X → ℕ → WireType → List ℕ → BudgetLeft → DecodeError → X → Type 0

-- it leaves the value as it was
abbrev pub Unchanged : {X : Type 0} → FieldRefused X
Unchanged d old n w bs before e new = new ≡ old

-- What stands where merging bytes was refused by an error: fields at the front were merged, and paid for; what follows
-- them begins with no tag, and the value is what they made; or with the tag of a field that is refused by this very
-- error, no end tag where memory ran out, and there stands what that field leaves of it.
pub record PartlyMerged {X : Type 0} (merged : ℕ → X → List ℕ → Option X) (cost : ℕ → List ℕ → BudgetLeft) (Refused : FieldRefused X) (d : ℕ) (old : X) (bytes : List ℕ) (before : BudgetLeft) (e : DecodeError) (new : X) : Type 0 where
  pub front : List ℕ
  pub rest : List ℕ
  pub split : bytes ≡ front ++ rest
  pub some : 0 < length rest
  pub mid : X
  pub means : merged d old front ≡ Some mid
  pub left : BudgetLeft
  pub pays : Pays before (cost d front) left
  pub next :
      ((tag_at rest ≡ Err e) × (new ≡ mid))
      ⊎ ((n : ℕ) × (w : WireType) × (more : List ℕ) × (tag_at rest ≡ Ok (n, w, more)) × Refused d mid n w more left e new × (e ≡ OutOfMemory → w ≢ EndGroup)
      × ((t p : List ℕ) → IsTag t n w → IsJudged d n w more p → e ≢ OutOfMemory → MergeFault (merged d mid (t ++ p)) (cost d (t ++ p)) left e))

-- The same of a message inside a field, one level down, where its length and so many bytes are there; or memory ran out
-- before any of it was merged.
abbrev pub PartlyMergedInside : {X : Type 0} → (ℕ → X → List ℕ → Option X) → (ℕ → List ℕ → BudgetLeft) → FieldRefused X → ℕ → X → List ℕ → BudgetLeft → DecodeError → X → Type 0
PartlyMergedInside merged cost Refused d old bs before e new =
    (c : ℕ) (b rest : List ℕ) → d ≡ suc c → delimited_at bs ≡ Ok (b, rest) →
    PartlyMerged merged cost Refused c old b before e new ⊎ ((e ≡ OutOfMemory) × (new ≡ old))

-- What a type says, besides, of the field that was merged, at a depth: of the message that stood, the number, the wire type,
-- the bytes and the budget; and of the answer, the message, the budget and the bytes that it left.
abbrev pub FieldTaken : Type 0 → Type 1
FieldTaken M = ℕ → M → ℕ → WireType → List ℕ → BudgetLeft → Result (Unit {0}) DecodeError → M → BudgetLeft → List ℕ → Type 0

-- the same in a context
abbrev pub TakesMessageField : {M : Type 0} → FieldTaken M → DecodeContext → M → ℕ → WireType → List ℕ → Result (Unit {0}) DecodeError → M → BudgetLeft → List ℕ → Type 0
TakesMessageField taken ctx old n w bs r new after rest = taken ctx.depth old n w bs ctx.budget.now r new after rest

-- a message inside a field is one level deeper: what its bytes mean, and what they cost
abbrev pub merged_in : {X : Type 0} → (ℕ → X → List ℕ → Option X) → ℕ → X → List ℕ → Option X
merged_in merged zero old b = None
merged_in merged (suc d) old b = merged d old b

abbrev pub cost_in : (ℕ → List ℕ → BudgetLeft) → ℕ → List ℕ → BudgetLeft
cost_in cost zero b = nothing
cost_in cost (suc d) b = cost d b

-- a length and a message are at the front: what the message means is left, what it costs is spent, and rest follows it
abbrev pub IsInside : {X : Type 0} → (ℕ → X → List ℕ → Option X) → (ℕ → List ℕ → BudgetLeft) → ℕ → X → List ℕ → BudgetLeft → X → BudgetLeft → List ℕ → Type 0
IsInside merged cost d old bs before new after rest =
    (b : List ℕ) × (delimited_at bs ≡ Ok (b, rest)) × (merged_in merged d old b ≡ Some new) × Pays before (cost_in cost d b) after

-- the same in a context
abbrev pub MergesInside : {X : Type 0} → (ℕ → X → List ℕ → Option X) → (ℕ → List ℕ → BudgetLeft) → DecodeContext → X → List ℕ → X → BudgetLeft → List ℕ → Type 0
MergesInside merged cost ctx old bs new after rest = IsInside merged cost ctx.depth old bs ctx.budget.now new after rest

-- what the length and the message at the front cost, if a length and so many bytes are there
abbrev pub cost_of_payload : (ℕ → List ℕ → BudgetLeft) → ℕ → Result (List ℕ × List ℕ) DecodeError → BudgetLeft
cost_of_payload cost d (Ok p) = cost_in cost d p.0
cost_of_payload cost d (Err e) = nothing

-- why no length and message at the front are merged, in this order: no level is left; the length's fault, or too few
-- bytes; the message's
abbrev pub MessageFault : {X : Type 0} → (ℕ → X → List ℕ → Option X) → (ℕ → List ℕ → BudgetLeft) → ℕ → X → List ℕ → BudgetLeft → DecodeError → Type 0
MessageFault merged cost zero old bs left e = e ≡ RecursionLimitExceeded
MessageFault merged cost (suc d) old bs left e =
    (delimited_at bs ≡ Err e)
    ⊎ ((b : List ℕ) × (rest : List ℕ) × (delimited_at bs ≡ Ok (b, rest)) × MergeFault (merged d old b) (cost d b) left e)
