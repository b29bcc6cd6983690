-- What the words of entries, runs and rewrites come to.
use Rattle.std.proofs.Common.{arith, ◌≡◌, ◌≢◌, ◌⊎◌, inl, inr, ℕ, zero, suc, ◌+◌, ◌*◌, ◌<◌, ◌≤◌, Bool, true, false, List, [], ◌∷◌, ◌++◌, Option, Result, Ok, Err, refl, sym, ap, ◌∙◌, append-nil}
use Rattle.std.specs.Prelude.{IsOk, cond, if◌then◌else◌, length}
use Rattle.buffa_bytes.specs.PayloadValue.{PayloadValue}
use Rattle.buffa_bytes.specs.PayloadValue.PayloadValue.{bytes}
use Rattle.buffa_bytes.specs.Readings.{delimited_at, ◌>>=◌}
use Rattle.buffa_bytes.specs.Number.{wire_number}
use Rattle.buffa_bytes.specs.Field.{LengthFault, PayloadFault, TagFault, TakesTag}
use Rattle.buffa_bytes.specs.Scan.{join}
use Rattle.buffa_bytes.specs.Values.{tag_encoding}
use Rattle.buffa_bytes.specs.declared.error.DecodeError.{DecodeError}
use Rattle.buffa_bytes.specs.declared.error.DecodeError.TheVariants.{ElementMemoryLimitExceeded, UnknownFieldLimitExceeded, WireTypeMismatch}
use Rattle.buffa_bytes.specs.declared.wire_type.WireType.{WireType}
use Rattle.buffa_bytes.specs.declared.error.EncodeError.{EncodeError}
use Rattle.buffa_bytes.specs.Varint.{IsVarint}
use Rattle.buffa_wire.specs.BudgetLeft.{BudgetLeft, Lacks, Pays, plus, unknown_fields}
use Rattle.buffa_wire.specs.Records as field_data
use Rattle.buffa_wire.specs.Records.{FieldData}
use Rattle.buffa_map.specs.Pairs.{SamePairs, put}
use Rattle.buffa_map.specs.Codec.{HoldsNothing, IsWhole, Reading, ReadingTakesMemory, RefusesValue, ValueFault, Writing}
use Rattle.buffa_map.specs.Encoding.{entry_encoding}
use Rattle.buffa_map.specs.Entry.{EntryFault, EntryFieldFault, FaultOf, IsEntry, EntryFieldsTakeMemory}
use Rattle.buffa_map.specs.EntryReading.{charge_of}
use Rattle.buffa_map.specs.Merge.{MergesEntry, ReadsRun, Rules, State, state}
use Rattle.buffa_map.specs.Message.{message_reading}
use Rattle.buffa_map.specs.Rewrite.{RefusesEncoding, RewritesRun}
use Rattle.buffa_map.specs.declared.map_entry.MapEntry.{MapEntry}
use Rattle.buffa_bytes.proofs.FieldLemmas.{wire_small}
use Rattle.buffa_bytes.proofs.ShortestLemmas.{varint_encoding-last}
use Rattle.buffa_map.proofs.EntryLemmas.{value_faulty}
use Rattle.buffa_map.proofs.MessageLemmas.{reads_nothing}

-- ---- what is written

small_tag : (n : ℕ) (w : WireType) → n < 15 → tag_encoding n w ≡ (8 * n + wire_number w) ∷ []
small_tag n w h = varint_encoding-last (8 * n + wire_number w) (omega (arith, wire_small w))

pub entry_is : {K V : Type 0} (key : Writing K) (val : Writing V) (p : K × V) →
    entry_encoding key val p ≡ ((8 + wire_number key.wire) ∷ key.encoding p.0) ++ ((16 + wire_number val.wire) ∷ val.encoding p.1)
entry_is key val p = rw (small_tag 1 key.wire (omega arith), small_tag 2 val.wire (omega arith)) refl

-- ---- what is told of a payload

value_reported : {V : Type 0} (codec : Reading V) (d : ℕ) (old : V) (bs : List ℕ) (e : DecodeError) → ValueFault codec d old bs e →
    (b : Bool) → codec.nested ≡ b → (left : BudgetLeft) → RefusesValue b codec d old bs left e
value_reported codec d old bs e h true is left = inr h
value_reported codec d old bs e h false is left = let (x, at, same) = value_faulty codec d old bs e h in at ∙ ap (λ z. Err z) (sym (same is))

-- why no key or value is at the front of a payload, or one of another wire type
abbrev pub Told : {V : Type 0} → Reading V → ℕ → V → List ℕ → ℕ → DecodeError → Type 0
Told codec d old more n f =
    (w : WireType) × (p : List ℕ) × TakesTag more n w p
    × (((w ≢ codec.wire) × (f ≡ WireTypeMismatch n codec.wire w))
    ⊎ ((w ≡ codec.wire) × ((left : BudgetLeft) → RefusesValue codec.nested codec d old p left f)))

module _ {K V : Type 0} (key : Reading K) (val : Reading V) (d : ℕ) where
  abbrev pub FieldReported : MapEntry K V → List ℕ → DecodeError → Type 0
  FieldReported s more f =
      TagFault more f
      ⊎ (Told key d s.key more 1 f
      ⊎ (Told val d s.value more 2 f
      ⊎ ((n : ℕ) × (w : WireType) × (p : List ℕ) × (n ≢ 1) × (n ≢ 2) × TakesTag more n w p × PayloadFault d n w p f)))

  field_reported : (s : MapEntry K V) (more : List ℕ) (f : DecodeError) → EntryFieldFault key val d s more f → FieldReported s more f
  field_reported s more f (inl h) = inl h
  field_reported s more f (inr (inl (w, p, t, inl h))) = inr (inl (w, p, t, inl h))
  field_reported s more f (inr (inl (w, p, t, inr (is, h)))) = inr (inl (w, p, t, inr (is, value_reported key d s.key p f h key.nested refl)))
  field_reported s more f (inr (inr (inl (w, p, t, inl h)))) = inr (inr (inl (w, p, t, inl h)))
  field_reported s more f (inr (inr (inl (w, p, t, inr (is, h))))) = inr (inr (inl (w, p, t, inr (is, value_reported val d s.value p f h val.nested refl))))
  field_reported s more f (inr (inr (inr h))) = inr (inr (inr h))

  -- some fields are an entry, and what follows them has the fault
  pub entry_reported : (e : List ℕ) (f : DecodeError) → FaultOf key val d e f →
      (front : List ℕ) × (more : List ℕ) × (s : MapEntry K V) × (e ≡ front ++ more) × IsEntry key val d front s × (more ≢ []) × FieldReported s more f
  entry_reported e f (s, more, (ps, cut, each), some, h) = (join ps, more, s, cut, (ps, sym (append-nil (join ps)), each), some, field_reported s more f h)

  -- where a field takes memory
  pub memory_reported : (e : List ℕ) → EntryFieldsTakeMemory key val d e →
      (front : List ℕ) × (more : List ℕ) × (s : MapEntry K V) × (e ≡ front ++ more) × IsEntry key val d front s
      × (((p : List ℕ) × TakesTag more 1 key.wire p × ReadingTakesMemory key d p) ⊎ ((p : List ℕ) × TakesTag more 2 val.wire p × ReadingTakesMemory val d p))
  memory_reported e (s, more, (ps, cut, each), h) = (join ps, more, s, cut, (ps, sym (append-nil (join ps)), each), h)

-- ---- where messages take memory

payload_value_there : (r : Result (List ℕ × List ℕ) DecodeError) → IsOk (r >>= (λ p. let x : PayloadValue × List ℕ = (bytes p.0, p.1) in Ok x)) → IsOk r
payload_value_there (Ok p) h = refl
payload_value_there (Err e) h = h

there_payload_value : (r : Result (List ℕ × List ℕ) DecodeError) → IsOk r → IsOk (r >>= (λ p. let x : PayloadValue × List ℕ = (bytes p.0, p.1) in Ok x))
there_payload_value (Ok p) h = refl
there_payload_value (Err e) h = h

module _ {V : Type 0} (blank : V) (merged : ℕ → V → List ℕ → Option V) (cost : ℕ → List ℕ → BudgetLeft) where
  pub whole_is : (d : ℕ) (bs : List ℕ) → IsWhole (message_reading blank merged cost) d bs → (0 < d) × IsOk (delimited_at bs)
  whole_is zero bs h = absurd (let no_level = h.0 in cc)
  whole_is (suc d) bs h = (omega arith, payload_value_there (delimited_at bs) h.1)

  pub is_whole : (d : ℕ) (bs : List ℕ) → 0 < d → IsOk (delimited_at bs) → IsWhole (message_reading blank merged cost) d bs
  is_whole zero bs some h = absurd (omega (arith, some))
  is_whole (suc d) bs some h = (refl, there_payload_value (delimited_at bs) h)

  pub takes_is : (d : ℕ) (bs : List ℕ) → ReadingTakesMemory (message_reading blank merged cost) d bs → (0 < d) × IsOk (delimited_at bs)
  takes_is d bs h = whole_is d bs (h.1, h.2)

  pub is_taken : (d : ℕ) (bs : List ℕ) → 0 < d → IsOk (delimited_at bs) → ReadingTakesMemory (message_reading blank merged cost) d bs
  is_taken d bs some h = let w = is_whole d bs some h in (refl, w.0, w.1)

  pub empty_is : (d : ℕ) (bs : List ℕ) → HoldsNothing (message_reading blank merged cost) d bs → (0 < d) × (rest : List ℕ) × (delimited_at bs ≡ Ok ([], rest))
  empty_is d bs h = let (rest, some, at) = reads_nothing blank merged cost d bs h in (some, rest, at)

  pub is_empty : (d : ℕ) (bs rest : List ℕ) → 0 < d → delimited_at bs ≡ Ok ([], rest) → HoldsNothing (message_reading blank merged cost) d bs
  is_empty zero bs rest some h = absurd (omega (arith, some))
  is_empty (suc d) bs rest some h = (refl, refl, rest, rw h refl)

-- ---- what a rewrite reads
module _ {K V : Type 0} (r : Rules K V) (key : Writing K) (val : Writing V) (KeyFits : K → Type 0) (ValFits : V → Type 0) (Walks : List (K × V) → Type 0)
    (left over : BudgetLeft) (bs rest old written : List ℕ) (new : List (K × V)) (room : ℕ) where
  abbrev IsRead : Type 0
  IsRead = (kept : List (ℕ × FieldData)) × ReadsRun r (state [] [] left) bs (state new kept over) rest

  pub rewritten_is : (after : ℕ) → RewritesRun r key val KeyFits ValFits Walks left bs new over rest old written room after → IsRead
  rewritten_is after h = (h.kept, h.read)

  pub refused_is : (e : EncodeError) → RefusesEncoding r key val Walks left bs new over rest old written room e → IsRead
  refused_is e h = (h.kept, h.read)

-- ---- what a merged entry is
pub merged_is : {K V : Type 0} (r : Rules K V) (old new : State K V) (bs rest : List ℕ) → MergesEntry r old bs new rest →
    (e : List ℕ) × (s : MapEntry K V) × ((t : List ℕ) × IsVarint t (length e) × (bs ≡ t ++ (e ++ rest)) × IsEntry r.key r.val r.depth e s)
    × Pays old.left (plus (charge_of r.key r.val r.depth r.cost e) (unknown_fields (cond s.known 0 (if r.keeps_undeclared then 1 else 0)))) new.left
    × SamePairs r.same (cond s.known (put r.same old.pairs s.key s.value) old.pairs) new.pairs
    × (r.keeps_order ≡ true → new.pairs ≡ cond s.known (put r.same old.pairs s.key s.value) old.pairs)
    × (new.records ≡ old.records ++ (if r.keeps_undeclared then cond s.known [] ((r.number, field_data.bytes e) ∷ []) else []))
merged_is r old new bs rest h = let (t, v, is) = h.read.0 in (h.entry, h.says, (t, v, is, h.read.1), h.pays, h.put, h.order, h.keeps)

-- ---- why an entry is refused
module _ {K V : Type 0} (key : Reading K) (val : Reading V) (d cost more : ℕ) (left : BudgetLeft) (bs : List ℕ) (f : DecodeError) where
  abbrev Behind : List ℕ → Type 0
  Behind e =
      ((left.memory < cost) × (f ≡ ElementMemoryLimitExceeded))
      ⊎ ((cost ≤ left.memory) × (Lacks left (charge_of key val d cost e) ⊎ (FaultOf key val d e f
      ⊎ ((s : MapEntry K V) × IsEntry key val d e s × (s.known ≡ false) × (left.unknown < (charge_of key val d cost e).unknown + more) × (f ≡ UnknownFieldLimitExceeded)))))

  abbrev EntryFaults : Type 0
  EntryFaults = LengthFault bs f ⊎ ((t : List ℕ) × (e : List ℕ) × (rest : List ℕ) × IsVarint t (length e) × (bs ≡ t ++ (e ++ rest)) × Behind e)

  pub fault_is : EntryFault key val d cost more left bs f → EntryFaults
  fault_is (inl h) = inl h
  fault_is (inr (e, rest, (t, v, is), h)) = inr (t, e, rest, v, is, h)

  pub is_fault : EntryFaults → EntryFault key val d cost more left bs f
  is_fault (inl h) = inl h
  is_fault (inr (t, e, rest, v, is, h)) = inr (e, rest, (t, v, is), h)
