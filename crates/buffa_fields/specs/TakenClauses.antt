-- What a message says of a field that it took, as laws tell it. Source: the protobuf encoding guide, "Message Structure".
use Rattle.std.specs.Prelude.{◌≡◌, ◌↔◌, ℕ, ◌==◌, List, [], ◌++◌, length, Some, Result}
use Rattle.buffa_bytes.specs.declared.wire_type.WireType.{WireType}
use Rattle.buffa_bytes.specs.declared.error.DecodeError.{DecodeError}
use Rattle.buffa_bytes.specs.Field.{Payload}
use Rattle.buffa_wire.specs.BudgetLeft.{BudgetLeft, plus, unknown_fields}
use Rattle.buffa_wire.specs.Message.{FieldRefused, FieldTaken}
use Rattle.buffa_wire.specs.Records.{FieldData}
use Rattle.buffa_wire.specs.Takes.{Asks, Charge, Taker}
use Rattle.buffa_fields.specs.UnknownsOfMembers.{Unknowns, Kept, TookWithUnknowns}
use Rattle.buffa_fields.specs.Schema.{Choice, IsFieldKept, Schema, Passed, Shape, Took}

-- two say the same of each field
abbrev pub TakeAlike : {M : Type 0} → FieldTaken M → FieldTaken M → Type 0
TakeAlike {M = M} says tells =
    (d : ℕ) (old : M) (n : ℕ) (w : WireType) (bs : List ℕ) (before : BudgetLeft) (r : Result (Unit {0}) DecodeError) (new : M) (after : BudgetLeft) (rest : List ℕ) →
    says d old n w bs before r new after rest ↔ tells d old n w bs before r new after rest

-- it is kept, among these
abbrev pub AmongKept : {M : Type 0} → (M → List (ℕ × FieldData)) → FieldTaken M
AmongKept get d old n w bs before r new after rest = IsFieldKept d (get old) n w bs before r (get new) after rest

-- it is passed over
abbrev pub PassedOver : {M : Type 0} → FieldTaken M
PassedOver d old n w bs before r new after rest = Passed d n w bs before r after rest

-- the member of the number takes it, and the others stay; or they take it, and the member stays
abbrev pub MemberOrOthers : {M P A B : Type 0} → ℕ → (M → P) → Shape P A → Schema M B → FieldTaken M
MemberOrOthers k get s l d old n w bs before r new after rest =
    Choice (n == k) (Took s d (get old) n w bs before r (get new) after rest × l.Same old new) ((get new ≡ get old) × l.Taken d old n w bs before r new after rest)

-- the same of a member that puts records aside, among those that the others keep
abbrev pub UnknownsOrOthers : {M P A B : Type 0} → ℕ → (M → P) → Shape P A → Unknowns A → Schema M B → FieldTaken M
UnknownsOrOthers k get s a l d old n w bs before r new after rest =
    Choice (n == k) (TookWithUnknowns s a d (get old) (l.kept (l.meaning old)) n w bs before r (get new) (l.kept (l.meaning new)) after rest × l.SameBut old new)
    ((get new ≡ get old) × l.Taken d old n w bs before r new after rest)

-- the same of members of which no more is told than what they mean: where the others take a field, such a member means what it did
abbrev pub MemberByMeaningOrOthers : {M P A B : Type 0} → ℕ → (M → P) → Shape P A → Schema M B → FieldTaken M
MemberByMeaningOrOthers k get s l d old n w bs before r new after rest =
    Choice (n == k) (Took s d (get old) n w bs before r (get new) after rest × l.Same old new)
    ((s.meaning (get new) ≡ s.meaning (get old)) × l.Taken d old n w bs before r new after rest)

abbrev pub UnknownsByMeaningOrOthers : {M P A B : Type 0} → ℕ → (M → P) → Shape P A → Unknowns A → Schema M B → FieldTaken M
UnknownsByMeaningOrOthers k get s a l d old n w bs before r new after rest =
    Choice (n == k) (TookWithUnknowns s a d (get old) (l.kept (l.meaning old)) n w bs before r (get new) (l.kept (l.meaning new)) after rest × l.SameBut old new)
    ((s.meaning (get new) ≡ s.meaning (get old)) × l.Taken d old n w bs before r new after rest)

-- a field that is taken costs what it does where nothing is kept, and an unknown field for each record that is put aside
abbrev pub CostsEach : {P X : Type 0} → Shape P X → Unknowns X → Type 0
CostsEach {X = X} s a =
    (d n : ℕ) (w : WireType) (p more : List ℕ) (v u : X) (rs : Kept) → Payload d n w p → a.takes d (v, []) n w p ≡ Some (u, rs) → a.charge d n w (p ++ more) ≡ plus (s.charge d n w (p ++ more)) (unknown_fields (length rs))

-- Where the member of number k makes u of the value that stands first, and puts rs aside, so much becomes of a message: the member is u, the
-- others' own records stay, and rs are behind the records that were kept.
abbrev pub GoesToUnknowns : {M P A B : Type 0} → Shape P A → Unknowns A → Schema M B → Schema M (A × B) → ℕ → Type 0
GoesToUnknowns {A = A} {B = B} s a others all k =
    (d : ℕ) (x : A × B) (w : WireType) (p : List ℕ) (u : A) (rs : Kept) → a.takes d (x.0, []) k w p ≡ Some (u, rs) →
    (y : A × B) × (all.takes d x k w p ≡ Some y) × (all.records y ≡ s.records k u ++ (others.own x.1 ++ (others.kept x.1 ++ rs))) × (all.kept y ≡ all.kept x ++ rs)

-- a member puts aside so: what a payload makes of its value and of the records beside it, where that may ask for memory, what it costs, what
-- is said of a refused field, and which data may have been put aside, at which levels
abbrev pub PutsToUnknowns : {X : Type 0} → Unknowns X → Taker (X × Kept) → (ℕ → Asks) → Charge → FieldRefused X → (FieldData → Type 0) → (FieldData → ℕ) → Type 0
PutsToUnknowns {X = X} a takes asks charge refuses AreUnknowns levels =
    (a.takes ≡ takes)
    × ((s d n : ℕ) (w : WireType) (bs : List ℕ) → a.asks s d n w bs ↔ asks s d n w bs)
    × (a.charge ≡ charge)
    × ((d : ℕ) (old : X) (n : ℕ) (w : WireType) (bs : List ℕ) (left : BudgetLeft) (e : DecodeError) (new : X) →
    a.refuses d old n w bs left e new ↔ refuses d old n w bs left e new)
    × ((x : FieldData) → a.AreUnknowns x ↔ AreUnknowns x)
    × (a.levels ≡ levels)

-- a field of this number, taken or refused, leaves this part of a message as it is, and not only what it means
abbrev pub LeavesAlone : {M Q : Type 0} → FieldTaken M → ℕ → (M → Q) → Type 0
LeavesAlone {M = M} taken k part =
    (d : ℕ) (old : M) (w : WireType) (bs : List ℕ) (before : BudgetLeft) (r : Result (Unit {0}) DecodeError) (new : M) (after : BudgetLeft) (rest : List ℕ) →
    taken d old k w bs before r new after rest → part new ≡ part old

-- the same member, of which another part means so
abbrev pub meaning_so : {P Q X : Type 0} → (Q → X) → Shape P X → Shape Q X
meaning_so says s = record {
  meaning = says;
  blank = s.blank;
  whole = s.whole;
  takes = s.takes;
  checks = s.checks;
  refuses = s.refuses;
  asks = s.asks;
  charge = s.charge;
  records = s.records;
  slots = s.slots;
  levels = s.levels;
  Exact = s.Exact;
  normal = s.normal;
  stays = s.stays;
}
