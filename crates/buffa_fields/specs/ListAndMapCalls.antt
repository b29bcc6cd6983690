-- What a call that takes a list or a map, or writes messages, did: from what it was passed to what it left.
use Rattle.std.specs.Prelude.{◌≡◌, ℕ, List, Result, Err}
use Rattle.std.specs.BTreeMap.{BTreeMap, insert_entry}
use Rattle.std.specs.HashMap.{HashMap}
use Rattle.std.specs.declared.cmp.Ordering.{Ordering}
use Rattle.buffa_bytes.specs.declared.error.DecodeError.{DecodeError}
use Rattle.buffa_bytes.specs.declared.error.EncodeError.{EncodeError}
use Rattle.buffa_bytes.specs.declared.tag.Tag.{Tag}
use Rattle.buffa_bytes.specs.declared.wire_type.WireType.{WireType}
use Rattle.buffa_wire.specs.BudgetLeft.{BudgetLeft}
use Rattle.buffa_wire.specs.Cache.{Cache}
use Rattle.buffa_wire.specs.Passes.{IsSized, IsWritten}
use Rattle.buffa_wire.specs.Records.{bytes}
use Rattle.buffa_wire.specs.Encoding.{records_encoding}
use Rattle.buffa_wire.specs.declared.context.DecodeContext.{DecodeContext}
use Rattle.buffa_fields.specs.ContextAfter.{ContextAfter}
use Rattle.buffa_fields.specs.FramingCalls.{WritesAllFramed, WritesFramed}
use Rattle.buffa_map.specs.Codec.{Reading, Writing}
use Rattle.buffa_map.specs.Pairs.{means}
use Rattle.buffa_fields.specs.Lists.{check_list_wire, elements_taken}
use Rattle.buffa_fields.specs.MapFields.{pair_cost, pair_taken}
use Rattle.buffa_fields.specs.MapsOfMessages.{pair_records, pair_slots}
use Rattle.buffa_wire.specs.Takes.{IsTaken}
use Rattle.buffa_fields.specs.Values.{free}
use Rattle.buffa_fields.specs.Calls.{TakesIn}
use denote.Ref.{Bor}

-- ---- a field whose tag was read

-- another wire type than an element has is refused, but for packed elements: both are told, the value as it was and the field unread
abbrev pub ChecksListWire : {T X : Type 0} → Tag → WireType → Result T DecodeError → X → X → Bor (List ℕ) → Bor (List ℕ) → Type 0
ChecksListWire tag expected r old new before after =
    (e : DecodeError) → check_list_wire tag.number expected tag.wire_type ≡ Err e → (r ≡ Err e) × (old ≡ new) × (before.now ≡ after.now)

-- a map took an entry, where keys and values mean so, pairs are put so, and a pair costs so many units; a contract sees an
-- IndexMap as a HashMap
abbrev pub TakesEntry : {A B S D T K V : Type 0} → Tag → DecodeContext → ContextAfter D → HashMap A B S → HashMap A B S → Bor (List ℕ) → Bor (List ℕ) → Result T DecodeError → (A → K) → (B → V) → Reading K → Reading V →
    (List (K × V) → K → V → List (K × V)) → ℕ → Type 0
TakesEntry tag ctx left old new before after r key_means val_means key val puts cost =
    TakesIn tag ctx left old new before after r (pair_taken key val puts) (pair_cost key val cost) (λ m. means key_means val_means m.entries)

-- the same of one that is walked in the order of its keys
abbrev pub TakesOrderedEntry : {A B D T K V : Type 0} → Tag → DecodeContext → ContextAfter D → BTreeMap A B → BTreeMap A B → Bor (List ℕ) → Bor (List ℕ) → Result T DecodeError → (A → K) → (B → V) → Reading K → Reading V →
    (K → K → Ordering) → ℕ → Type 0
TakesOrderedEntry tag ctx left old new before after r key_means val_means key val order cost =
    TakesIn tag ctx left old new before after r (pair_taken key val (insert_entry order)) (pair_cost key val cost) (λ m. means key_means val_means m.entries)

-- elements were taken behind the others, at any budget
abbrev pub TakesElements : {P V T : Type 0} → Tag → ℕ → P → P → Bor (List ℕ) → Bor (List ℕ) → Result T DecodeError → Reading V → (P → List V) → Type 0
TakesElements tag d old new before after r codec says =
    (left : BudgetLeft) → IsTaken (elements_taken codec) free d (says old) tag.number tag.wire_type before.now left r (says new) left after.now

-- ---- encodings: what stands in a sink before and after

module _ {T : Type 0} (before : Cache) (put : List ℕ) (r : Result T EncodeError) (after : Cache) (puts : List ℕ) where
  module _ {X : Type 0} (encoding slots : X → List ℕ) (n : ℕ) where
    -- one message
    abbrev pub WritesMessage : X → Type 0
    WritesMessage = WritesFramed before put r after puts (λ v. bytes (encoding v)) encoding slots n

    -- a list of them
    abbrev pub WritesMessageList : List X → Type 0
    WritesMessageList = WritesAllFramed before put r after puts (λ v. bytes (encoding v)) encoding slots n

    -- a map of them
    abbrev pub WritesPairs : {K : Type 0} → Writing K → List (K × X) → Type 0
    WritesPairs key l = IsWritten (records_encoding (pair_records key encoding n l)) (pair_slots encoding slots l) before put r after puts

-- the size pass over a map of messages
abbrev pub SizesPairs : {K X : Type 0} → (X → List ℕ) → (X → List ℕ) → ℕ → Writing K → List (K × X) → Cache → Result ℕ EncodeError → Cache → Type 0
SizesPairs encoding slots n key l before r after = IsSized (records_encoding (pair_records key encoding n l)) (pair_slots encoding slots l) before r after
