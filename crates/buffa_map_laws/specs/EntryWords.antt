-- What the laws say of entries, runs and maps in the words of bytes and lists: tags, lengths and payloads, as the layer
-- below reads them, and lists of pairs.
use Rattle.std.specs.Prelude.{◌≡◌, ◌≢◌, ◌↔◌, ◌⊎◌, ℕ, ◌+◌, ◌<◌, ◌≤◌, Bool, true, false, not, List, [], ◌∷◌, ◌++◌, map, None, Ok, Err, if◌then◌else◌}
use Rattle.std.specs.Cmp.{IsEquivalence}
use Rattle.std.specs.List.{IsDistinct, filter}
use Rattle.std.specs.Map.{keys_of, lookup_entry}
use Rattle.buffa_bytes.specs.Readings.{delimited_at, skip_at, tag_at}
use Rattle.buffa_bytes.specs.Unread.{past_no_delimited, past_no_tag, IsTailOf}
use Rattle.buffa_bytes.specs.declared.wire_type.WireType.{WireType}
use Rattle.buffa_bytes.specs.declared.wire_type.WireType.TheVariants.{LengthDelimited}
use Rattle.buffa_bytes.specs.declared.error.DecodeError.{DecodeError}
use Rattle.buffa_bytes.specs.declared.error.DecodeError.TheVariants.{ElementMemoryLimitExceeded, OutOfMemory, UnexpectedField, UnknownFieldLimitExceeded, WireTypeMismatch}
use Rattle.buffa_wire.specs.BudgetLeft.{BudgetLeft, Pays, plus, units, unknown_fields}
use Rattle.buffa_wire.specs.Records.{bytes}
use Rattle.buffa_map.specs.Codec.{Reading, ReadingTakesMemory, value_at, value_charge}
use Rattle.buffa_map.specs.Entry.{FaultOf, IsEntry}
use Rattle.buffa_map.specs.EntryReading.{charge_of}
use Rattle.buffa_map.specs.Merge.{MergesEntry, ReadsRun, RefusesEntry, RefusesRun, Rules, State, state}
use Rattle.buffa_map.specs.Pairs.{InOrder, ListsOnce, SamePairs, put}
use Rattle.buffa_map.specs.Run.{EntryRecord, fold_entries, undeclared}
use Rattle.buffa_map.specs.declared.map_entry.MapEntry.{MapEntry}

module _ {K V : Type 0} (key : Reading K) (val : Reading V) where
  -- An entry of no bytes says the defaults, and is declared. A field behind an entry is one of the key, which takes what the
  -- payload makes of it; one of the value, which does so too, and is declared or not; or one of another number, which is
  -- passed. Else it has a fault: of the tag, of the wire type, or of the payload.
  pub record EntriesAreFields : Type 0 where
    pub empty : (d : ℕ) (s : MapEntry K V) → IsEntry key val d [] s ↔ (s ≡ record { key = key.blank; value = val.blank; known = true })
    pub key_field : (d : ℕ) (e f p : List ℕ) (s : MapEntry K V) (k : K) (known : Bool) → IsEntry key val d e s →
        tag_at f ≡ Ok (1, key.wire, p) → value_at key d s.key p ≡ Ok ((k, known), []) →
        IsEntry key val d (e ++ f) (record { key = k; value = s.value; known = s.known })
    pub value_field : (d : ℕ) (e f p : List ℕ) (s : MapEntry K V) (v : V) (known : Bool) → IsEntry key val d e s →
        tag_at f ≡ Ok (2, val.wire, p) → value_at val d s.value p ≡ Ok ((v, known), []) →
        IsEntry key val d (e ++ f) (record { key = s.key; value = v; known = known })
    pub other_field : (d n : ℕ) (w : WireType) (e f p : List ℕ) (s : MapEntry K V) → IsEntry key val d e s →
        tag_at f ≡ Ok (n, w, p) → n ≢ 1 → n ≢ 2 → skip_at d n w p ≡ Ok [] → IsEntry key val d (e ++ f) s
    pub no_tag : (d : ℕ) (e r : List ℕ) (s : MapEntry K V) (f : DecodeError) → IsEntry key val d e s →
        r ≢ [] → tag_at r ≡ Err f → FaultOf key val d (e ++ r) f
    pub key_wire : (d : ℕ) (w : WireType) (e r p : List ℕ) (s : MapEntry K V) → IsEntry key val d e s →
        tag_at r ≡ Ok (1, w, p) → w ≢ key.wire → FaultOf key val d (e ++ r) (WireTypeMismatch 1 key.wire w)
    pub value_wire : (d : ℕ) (w : WireType) (e r p : List ℕ) (s : MapEntry K V) → IsEntry key val d e s →
        tag_at r ≡ Ok (2, w, p) → w ≢ val.wire → FaultOf key val d (e ++ r) (WireTypeMismatch 2 val.wire w)
    pub key_fault : (d : ℕ) (e r p : List ℕ) (s : MapEntry K V) (f : DecodeError) → IsEntry key val d e s →
        tag_at r ≡ Ok (1, key.wire, p) → value_at key d s.key p ≡ Err f → FaultOf key val d (e ++ r) f
    pub value_fault : (d : ℕ) (e r p : List ℕ) (s : MapEntry K V) (f : DecodeError) → IsEntry key val d e s →
        tag_at r ≡ Ok (2, val.wire, p) → value_at val d s.value p ≡ Err f → FaultOf key val d (e ++ r) f
    pub other_fault : (d n : ℕ) (w : WireType) (e r p : List ℕ) (s : MapEntry K V) (f : DecodeError) → IsEntry key val d e s →
        tag_at r ≡ Ok (n, w, p) → n ≢ 1 → n ≢ 2 → skip_at d n w p ≡ Err f → FaultOf key val d (e ++ r) f

  -- An entry of no bytes needs its units. A field of the key or the value behind an entry needs what its payload does, also
  -- where that is refused, and a field of another number nothing; nor does one of another wire type, nor what is no tag.
  pub record EntriesCharge : Type 0 where
    pub empty : (d cost : ℕ) → charge_of key val d cost [] ≡ units cost
    pub key_field : (d cost : ℕ) (e f p : List ℕ) (s : MapEntry K V) → IsEntry key val d e s → tag_at f ≡ Ok (1, key.wire, p) →
        ((x : (K × Bool) × List ℕ) → value_at key d s.key p ≡ Ok x → x.1 ≡ []) →
        charge_of key val d cost (e ++ f) ≡ plus (charge_of key val d cost e) (value_charge key d p)
    pub value_field : (d cost : ℕ) (e f p : List ℕ) (s : MapEntry K V) → IsEntry key val d e s → tag_at f ≡ Ok (2, val.wire, p) →
        ((x : (V × Bool) × List ℕ) → value_at val d s.value p ≡ Ok x → x.1 ≡ []) →
        charge_of key val d cost (e ++ f) ≡ plus (charge_of key val d cost e) (value_charge val d p)
    pub other_field : (d cost n : ℕ) (w : WireType) (e f p : List ℕ) (s : MapEntry K V) → IsEntry key val d e s → tag_at f ≡ Ok (n, w, p) →
        n ≢ 1 → n ≢ 2 → ((x : List ℕ) → skip_at d n w p ≡ Ok x → x ≡ []) → charge_of key val d cost (e ++ f) ≡ charge_of key val d cost e
    pub key_wire : (d cost : ℕ) (w : WireType) (e f p : List ℕ) (s : MapEntry K V) → IsEntry key val d e s → tag_at f ≡ Ok (1, w, p) →
        w ≢ key.wire → charge_of key val d cost (e ++ f) ≡ charge_of key val d cost e
    pub value_wire : (d cost : ℕ) (w : WireType) (e f p : List ℕ) (s : MapEntry K V) → IsEntry key val d e s → tag_at f ≡ Ok (2, w, p) →
        w ≢ val.wire → charge_of key val d cost (e ++ f) ≡ charge_of key val d cost e
    pub no_tag : (d cost : ℕ) (e r : List ℕ) (s : MapEntry K V) (f : DecodeError) → IsEntry key val d e s → tag_at r ≡ Err f →
        charge_of key val d cost (e ++ r) ≡ charge_of key val d cost e

module _ {K V : Type 0} (r : Rules K V) where
  -- some fields that are an entry are followed by a field of the key or the value that takes memory
  abbrev pub FieldTakesMemory : List ℕ → Type 0
  FieldTakesMemory e =
      (front : List ℕ) × (more : List ℕ) × (s : MapEntry K V) × (p : List ℕ) × (e ≡ front ++ more) × IsEntry r.key r.val r.depth front s
      × (((tag_at more ≡ Ok (1, r.key.wire, p)) × ReadingTakesMemory r.key r.depth p) ⊎ ((tag_at more ≡ Ok (2, r.val.wire, p)) × ReadingTakesMemory r.val r.depth p))

  -- A length and an entry, whose need is spent, are merged: a declared one is put; an undeclared one is kept whole, for an
  -- unknown field more, or dropped. It is refused where these aren't there, where its units aren't left, for its fault, or
  -- for want of an unknown field.
  pub record EntriesAreMerged : Type 0 where
    pub declared : (old : State K V) (bs e rest : List ℕ) (s : MapEntry K V) (left : BudgetLeft) → delimited_at bs ≡ Ok (e, rest) →
        IsEntry r.key r.val r.depth e s → s.known ≡ true → Pays old.left (charge_of r.key r.val r.depth r.cost e) left →
        MergesEntry r old bs (state (put r.same old.pairs s.key s.value) old.records left) rest
    pub kept : (old : State K V) (bs e rest : List ℕ) (s : MapEntry K V) (left : BudgetLeft) → delimited_at bs ≡ Ok (e, rest) →
        IsEntry r.key r.val r.depth e s → s.known ≡ false → r.keeps_undeclared ≡ true →
        Pays old.left (plus (charge_of r.key r.val r.depth r.cost e) (unknown_fields 1)) left →
        MergesEntry r old bs (state old.pairs (old.records ++ (r.number, bytes e) ∷ []) left) rest
    pub dropped : (old : State K V) (bs e rest : List ℕ) (s : MapEntry K V) (left : BudgetLeft) → delimited_at bs ≡ Ok (e, rest) →
        IsEntry r.key r.val r.depth e s → s.known ≡ false → r.keeps_undeclared ≡ false → Pays old.left (charge_of r.key r.val r.depth r.cost e) left →
        MergesEntry r old bs (state old.pairs old.records left) rest
    pub no_bytes : (old : State K V) (bs : List ℕ) (f : DecodeError) → delimited_at bs ≡ Err f → RefusesEntry r old bs old (past_no_delimited bs) f
    pub no_units : (old : State K V) (bs e rest : List ℕ) → delimited_at bs ≡ Ok (e, rest) → old.left.memory < r.cost →
        RefusesEntry r old bs old rest ElementMemoryLimitExceeded
    pub fault : (old : State K V) (bs e rest : List ℕ) (f : DecodeError) (left : BudgetLeft) → delimited_at bs ≡ Ok (e, rest) →
        f ≢ OutOfMemory → FaultOf r.key r.val r.depth e f → Pays old.left (units r.cost) left → RefusesEntry r old bs (state old.pairs old.records left) rest f
    pub no_field : (old : State K V) (bs e rest : List ℕ) (s : MapEntry K V) (left : BudgetLeft) → delimited_at bs ≡ Ok (e, rest) →
        IsEntry r.key r.val r.depth e s → s.known ≡ false → r.keeps_undeclared ≡ true → Pays old.left (charge_of r.key r.val r.depth r.cost e) left →
        left.unknown ≡ 0 → RefusesEntry r old bs (state old.pairs old.records left) rest UnknownFieldLimitExceeded

  -- What a refused entry leaves: the pairs and the records, and an end of the bytes unread. One that is there spends its units, if
  -- they are left, also where its value is a message, and where memory runs out; and a fault of it leaves what follows it unread. Memory
  -- runs out only where a length and so many bytes are there, and the units are left, and where no codec takes memory only where the
  -- pair is put, or the entry kept. No more is spent than the entry needs, and, where undeclared entries are kept and memory runs out, an unknown field; and
  -- nothing where no length and so many bytes are there. Where memory runs out, at least what follows the entry is unread.
  pub record RefusedEntriesStay : Type 0 where
    pub pairs : (old new : State K V) (bs tail : List ℕ) (f : DecodeError) → RefusesEntry r old bs new tail f → new.pairs ≡ old.pairs
    pub records : (old new : State K V) (bs tail : List ℕ) (f : DecodeError) → RefusesEntry r old bs new tail f → new.records ≡ old.records
    pub charged : (old new : State K V) (bs e rest tail : List ℕ) (f : DecodeError) → RefusesEntry r old bs new tail f →
        delimited_at bs ≡ Ok (e, rest) → r.cost ≤ old.left.memory → new.left.memory + r.cost ≤ old.left.memory
    pub unread : (old new : State K V) (bs e rest tail : List ℕ) (f : DecodeError) → RefusesEntry r old bs new tail f → f ≢ OutOfMemory →
        delimited_at bs ≡ Ok (e, rest) → tail ≡ rest
    pub most : (old new : State K V) (bs tail : List ℕ) (f : DecodeError) → RefusesEntry r old bs new tail f →
        (new.left.memory ≤ old.left.memory) × (new.left.unknown ≤ old.left.unknown)
    pub memory : (old new : State K V) (bs tail : List ℕ) → RefusesEntry r old bs new tail OutOfMemory →
        (e : List ℕ) × (rest : List ℕ) × (delimited_at bs ≡ Ok (e, rest))
    pub put : (old new : State K V) (bs tail : List ℕ) → RefusesEntry r old bs new tail OutOfMemory → r.key.takes_memory ≡ false → r.val.takes_memory ≡ false →
        r.keeps_undeclared ≡ false → (e : List ℕ) × (rest : List ℕ) × (s : MapEntry K V) × (delimited_at bs ≡ Ok (e, rest)) × IsEntry r.key r.val r.depth e s × (s.known ≡ true)
    pub units : (old new : State K V) (bs e rest tail : List ℕ) (f : DecodeError) → RefusesEntry r old bs new tail f → delimited_at bs ≡ Ok (e, rest) →
        old.left.memory ≤ new.left.memory + (charge_of r.key r.val r.depth r.cost e).memory
    pub fields : (old new : State K V) (bs e rest tail : List ℕ) (f : DecodeError) → RefusesEntry r old bs new tail f → delimited_at bs ≡ Ok (e, rest) →
        (old.left.unknown ≤ new.left.unknown + ((charge_of r.key r.val r.depth r.cost e).unknown + (if r.keeps_undeclared then 1 else 0)))
        × (f ≢ OutOfMemory → old.left.unknown ≤ new.left.unknown + (charge_of r.key r.val r.depth r.cost e).unknown)
    pub unspent : (old new : State K V) (bs tail : List ℕ) (f g : DecodeError) → RefusesEntry r old bs new tail f → delimited_at bs ≡ Err g →
        (new.left ≡ old.left) × (tail ≡ past_no_delimited bs)
    pub end : (old new : State K V) (bs tail : List ℕ) (f : DecodeError) → RefusesEntry r old bs new tail f → IsTailOf tail bs
    pub all_units : (old new : State K V) (bs tail : List ℕ) (f : DecodeError) → RefusesEntry r old bs new tail f →
        (new.left.memory ≡ old.left.memory) ⊎ (new.left.memory + r.cost ≤ old.left.memory)
    pub behind : (old new : State K V) (bs e rest tail : List ℕ) (f : DecodeError) → RefusesEntry r old bs new tail f → delimited_at bs ≡ Ok (e, rest) → IsTailOf rest tail
    pub taken : (old new : State K V) (bs tail : List ℕ) → RefusesEntry r old bs new tail OutOfMemory → (e : List ℕ) × (rest : List ℕ) × (delimited_at bs ≡ Ok (e, rest))
        × (r.cost ≤ old.left.memory) × (((r.keeps_undeclared ≡ true) × (r.val.undeclared ≡ true) × (e ≢ []))
        ⊎ (FieldTakesMemory e
        ⊎ ((s : MapEntry K V) × IsEntry r.key r.val r.depth e s × ((s.known ≡ true)
        ⊎ ((r.keeps_undeclared ≡ true) × ((charge_of r.key r.val r.depth r.cost e).unknown < old.left.unknown))))))

  -- A run is its entries, each behind a tag of the field's number: no bytes are a run that changes nothing, and a record in
  -- front of a run is merged first. A run is refused at the first record that is: its tag, its number, its wire type, or its
  -- entry.
  pub record RunsAreEntries : Type 0 where
    pub none : (old : State K V) → ReadsRun r old [] old []
    pub more : (old now new : State K V) (bs mid rest : List ℕ) → tag_at bs ≡ Ok (r.number, LengthDelimited, mid) →
        MergesEntry r old mid now rest → ReadsRun r now rest new [] → ReadsRun r old bs new []
    pub no_tag : (old : State K V) (bs : List ℕ) (f : DecodeError) → bs ≢ [] → tag_at bs ≡ Err f → RefusesRun r old bs old (past_no_tag bs) f
    pub number : (old : State K V) (bs mid : List ℕ) (n : ℕ) (w : WireType) → tag_at bs ≡ Ok (n, w, mid) → n ≢ r.number →
        RefusesRun r old bs old mid (UnexpectedField n)
    pub wire : (old : State K V) (bs mid : List ℕ) (w : WireType) → tag_at bs ≡ Ok (r.number, w, mid) → w ≢ LengthDelimited →
        RefusesRun r old bs old mid (WireTypeMismatch r.number LengthDelimited w)
    pub entry : (old new : State K V) (bs mid tail : List ℕ) (f : DecodeError) → tag_at bs ≡ Ok (r.number, LengthDelimited, mid) →
        RefusesEntry r old mid new tail f → RefusesRun r old bs new tail f
    pub later : (old now new : State K V) (bs mid rest tail : List ℕ) (f : DecodeError) → tag_at bs ≡ Ok (r.number, LengthDelimited, mid) →
        MergesEntry r old mid now rest → RefusesRun r now rest new tail f → RefusesRun r old bs new tail f

  -- all of these, where the equality of keys is one
  pub record RulesAreMet : Type 0 where
    pub merged : EntriesAreMerged
    pub refused : RefusedEntriesStay
    pub runs : IsEquivalence r.same → RunsAreEntries

-- the same by these codecs, whatever the rules beside them
abbrev pub RulesAreTheGuides : {K V : Type 0} → Reading K → Reading V → Type 0
RulesAreTheGuides {K} {V} key val =
    (same : K → K → Bool) (ordered : Bool) (d n cost : ℕ) (keeps : Bool) →
    RulesAreMet (record { key = key; val = val; same = same; keeps_order = ordered; depth = d; number = n; cost = cost; keeps_undeclared = keeps })

module _ {K : Type 0} (V : Type 0) (eq : K → K → Bool) where
  -- A new key comes last. A key that is there keeps its place, and stays as it is stored. Declared entries are put, one after
  -- the other, and the bytes of the undeclared ones are listed. Two maps are one where each key finds the same.
  pub record PairsAreLists : Type 0 where
    pub new : (m : List (K × V)) (k : K) (v : V) → lookup_entry (eq k) m ≡ None → put eq m k v ≡ m ++ (k, v) ∷ []
    pub there : (m l : List (K × V)) (e : K × V) (k : K) (v : V) → lookup_entry (eq k) m ≡ None → eq k e.0 ≡ true → put eq (m ++ e ∷ l) k v ≡ m ++ (e.0, v) ∷ l
    pub no_entries : (m : List (K × V)) → fold_entries eq m [] ≡ m
    pub declared : (m : List (K × V)) (x : EntryRecord K V) (es : List (EntryRecord K V)) → x.parts.known ≡ true →
        fold_entries eq m (x ∷ es) ≡ fold_entries eq (put eq m x.parts.key x.parts.value) es
    pub not_declared : (m : List (K × V)) (x : EntryRecord K V) (es : List (EntryRecord K V)) → x.parts.known ≡ false →
        fold_entries eq m (x ∷ es) ≡ fold_entries eq m es
    pub others : (es : List (EntryRecord K V)) → undeclared es ≡ map (λ x. x.bytes) (filter (λ x. not x.parts.known) es)
    pub same : (m n : List (K × V)) → SamePairs eq m n ↔ ((q : K) → lookup_entry (eq q) m ≡ lookup_entry (eq q) n)
    pub once : (m l : List (K × V)) → ListsOnce eq m l ↔ (IsDistinct eq (keys_of l) × ((q : K) → lookup_entry (eq q) m ≡ lookup_entry (eq q) l))
    pub order : (keeps : Bool) (l n : List (K × V)) → InOrder keeps l n ↔ (keeps ≡ true → n ≡ l)
