-- What a call that takes a field, or writes a member, did: from what it was passed to what it left.
use Rattle.std.specs.Prelude.{◌≡◌, ◌≤◌, ℕ, List, Some, Result, Err}
use Rattle.buffa_bytes.specs.declared.error.DecodeError.{DecodeError}
use Rattle.buffa_bytes.specs.declared.error.EncodeError.{EncodeError}
use Rattle.buffa_bytes.specs.declared.tag.Tag.{Tag}
use Rattle.buffa_bytes.specs.declared.wire_type.WireType.{WireType}
use Rattle.buffa_wire.specs.BudgetLeft.{BudgetLeft, budget_left}
use Rattle.buffa_wire.specs.Cache.{Cache}
use Rattle.buffa_wire.specs.Message.{FieldTaken, IsFieldMerged, MergesBytes}
use Rattle.buffa_wire.specs.Parse.{Fits}
use Rattle.buffa_wire.specs.Passes.{IsWritten}
use Rattle.buffa_bytes.specs.Readings.{check_wire}
use Rattle.buffa_wire.specs.Records.{FieldData, records_of}
use Rattle.buffa_wire.specs.Encoding.{records_encoding}
use Rattle.buffa_wire.specs.declared.context.DecodeContext.{DecodeContext}
use Rattle.buffa_fields.specs.ContextAfter.{ContextAfter}
use Rattle.buffa_map.specs.Codec.{Reading}
use Rattle.buffa_fields.specs.Schema.{IsFieldKept, Schema}
use Rattle.buffa_wire.specs.Takes.{IsTaken, Charge, Taker, cost_of, merged_of}
use Rattle.buffa_fields.specs.Values.{free, value_taken}
use denote.Ref.{Bor}

-- ---- a field whose tag was read: says is what a member means

-- another wire type than the expected one is refused, and both are told; the value is as it was, and the field unread
abbrev pub ChecksWire : {T X : Type 0} → Tag → WireType → Result T DecodeError → X → X → Bor (List ℕ) → Bor (List ℕ) → Type 0
ChecksWire tag expected r old new before after =
    (e : DecodeError) → check_wire tag.number expected tag.wire_type ≡ Err e → (r ≡ Err e) × (old ≡ new) × (before.now ≡ after.now)

module _ {P D T : Type 0} (tag : Tag) (ctx : DecodeContext) (left : ContextAfter D) (old new : P) (before after : Bor (List ℕ)) (r : Result T DecodeError) where
  -- a member took the field, and paid for it
  abbrev pub TakesIn : {X : Type 0} → Taker X → Charge → (P → X) → Type 0
  TakesIn takes charge says =
      IsTaken takes charge ctx.depth (says old) tag.number tag.wire_type before.now ctx.budget.now r (says new) (budget_left left) after.now

  -- the same of one value by its codec
  abbrev pub TakesValue : {X : Type 0} → Reading X → (P → X) → Type 0
  TakesValue codec says = TakesIn (value_taken codec) free says

  -- a message of such members merged the field, and paid for it; or it refused the field
  abbrev pub MergesIn : {X : Type 0} → Taker X → Charge → (P → X) → Type 0
  MergesIn takes charge says =
      IsFieldMerged (merged_of takes) (cost_of charge) ctx.depth (says old) tag.number tag.wire_type before.now ctx.budget.now r (says new) (budget_left left) after.now

-- the member of the field's number took it, and the others stay
abbrev pub MemberTakes : {M X D : Type 0} → Tag → DecodeContext → ContextAfter D → M → M → Bor (List ℕ) → Bor (List ℕ) → Result (Unit {0}) DecodeError → Schema M X → Type 0
MemberTakes tag ctx left old new before after r l =
    l.Taken ctx.depth old tag.number tag.wire_type before.now ctx.budget.now r new (budget_left left) after.now

-- a message keeps each field, behind those that it has
abbrev pub KeepsFields : {M : Type 0} → FieldTaken M → (M → List (ℕ × FieldData)) → Type 0
KeepsFields {M} taken says =
    (d n : ℕ) (old new : M) (w : WireType) (bs rest : List ℕ) (a b : BudgetLeft) (r : Result (Unit {0}) DecodeError) → taken d old n w bs a r new b rest → IsFieldKept d (says old) n w bs a r (says new) b rest

-- a message of such members merged all the fields that the bytes are, and paid for them
abbrev pub MergesAll : {M X D T : Type 0} → DecodeContext → ContextAfter D → M → M → List ℕ → Result T DecodeError → Taker X → Charge → (M → X) → Type 0
MergesAll ctx left old new bs r takes charge says =
    MergesBytes (merged_of takes) (cost_of charge) ctx.depth (says old) bs ctx.budget.now r (says new) (budget_left left)

-- ---- encodings: what stands in a sink before and after

module _ {T : Type 0} (before : Cache) (put : List ℕ) (r : Result T EncodeError) (after : Cache) (puts : List ℕ) where
  -- the members of a message
  abbrev pub WritesMembers : {M X : Type 0} → Schema M X → M → Type 0
  WritesMembers l m = IsWritten (records_encoding (l.records (l.meaning m))) (l.slots (l.meaning m)) before put r after puts

-- the encoding of a normal value reads back to it, where its lengths can be read and it isn't too deep
abbrev pub MembersReadBack : {M X : Type 0} → Schema M X → X → X → Type 0
MembersReadBack l blank v =
    (d : ℕ) → Fits (records_of (l.records v)) → l.normal v → l.levels v ≤ d → merged_of l.takes d blank (records_encoding (l.records v)) ≡ Some v
