-- Map entries: a join of fields, of which those of number 1 are the key and those of number 2 the value.
-- Source: the protobuf encoding guide, "Maps".
use Rattle.std.specs.Prelude.{◌≡◌, ◌≢◌, ℕ, ◌+◌, ◌<◌, ◌≤◌, Bool, false, List, [], ◌++◌, ◌⊎◌, Ok}
use Rattle.buffa_bytes.specs.Field.{IsTag, Field, TakesDelimited, TakesTag, TagFault, LengthFault, PayloadFault}
use Rattle.buffa_bytes.specs.PayloadValue.{PayloadValue, HasPayloadValue}
use Rattle.buffa_bytes.specs.Scan.{ParsesTo, ParseStops}
use Rattle.buffa_bytes.specs.declared.wire_type.WireType.{WireType}
use Rattle.buffa_bytes.specs.declared.error.DecodeError.{DecodeError}
use Rattle.buffa_bytes.specs.declared.error.DecodeError.TheVariants.{ElementMemoryLimitExceeded, UnknownFieldLimitExceeded, WireTypeMismatch, OutOfMemory}
use Rattle.buffa_wire.specs.BudgetLeft.{BudgetLeft, Lacks, Pays, PaysAtMost}
use Rattle.buffa_map.specs.Codec.{Reading, ValueFault, level, ReadingTakesMemory}
use Rattle.buffa_map.specs.EntryReading.{blanks, entry_field_at, field_charge, charge_at, charge_of}
use Rattle.buffa_map.specs.declared.map_entry.MapEntry.{MapEntry}

-- what the parts of an entry mean
abbrev pub entry_meaning : {K V A B : Type 0} → (K → A) → (V → B) → MapEntry K V → MapEntry A B
entry_meaning f g s = record { key = f s.key; value = g s.value; known = s.known }

module _ {V : Type 0} (codec : Reading V) (d n : ℕ) (old : V) where
  -- f is a field of number n and the codec's wire type, for which a level is left, and which makes new of old
  abbrev pub IsCodecField : List ℕ → V → Bool → Type 0
  IsCodecField f new known =
      (t : List ℕ) × (p : List ℕ) × (c : PayloadValue) × IsTag t n codec.wire × (level codec.nested d ≡ Ok tt) × HasPayloadValue codec.wire p c
      × (codec.reads d old c ≡ Ok (new, known)) × (f ≡ t ++ p)

  -- why the codec takes no payload of wire type w at the front: another wire type, or the fault of the value
  abbrev pub CodecFault : WireType → List ℕ → DecodeError → Type 0
  CodecFault w bs e =
      ((w ≢ codec.wire) × (e ≡ WireTypeMismatch n codec.wire w))
      ⊎ ((w ≡ codec.wire) × ValueFault codec d old bs e)

module _ {K V : Type 0} (key : Reading K) (val : Reading V) (d : ℕ) where
  -- f is one field of an entry, which takes what was said from s to t: a key field; a value field, which alone says whether the
  -- entry is known; or a field of another number, with groups nested at most d deep
  abbrev pub IsEntryField : MapEntry K V → List ℕ → MapEntry K V → Type 0
  IsEntryField s f t =
      ((k : K) × (known : Bool) × IsCodecField key d 1 s.key f k known × (t ≡ record s { key = k }))
      ⊎ (((v : V) × (known : Bool) × IsCodecField val d 2 s.value f v known × (t ≡ record s { value = v; known = known }))
      ⊎ ((n : ℕ) × (w : WireType) × (n ≢ 1) × (n ≢ 2) × Field d n w f × (t ≡ s)))

  -- why no field of an entry begins these bytes, where s was said
  abbrev pub EntryFieldFault : MapEntry K V → List ℕ → DecodeError → Type 0
  EntryFieldFault s bs e =
      TagFault bs e
      ⊎ (((w : WireType) × (rest : List ℕ) × TakesTag bs 1 w rest × CodecFault key d 1 s.key w rest e)
      ⊎ (((w : WireType) × (rest : List ℕ) × TakesTag bs 2 w rest × CodecFault val d 2 s.value w rest e)
      ⊎ ((n : ℕ) × (w : WireType) × (rest : List ℕ) × (n ≢ 1) × (n ≢ 2) × TakesTag bs n w rest × PayloadFault d n w rest e)))

  -- e is a join of fields, which take the blanks to s
  abbrev pub IsEntry : List ℕ → MapEntry K V → Type 0
  IsEntry e s = ParsesTo IsEntryField (blanks key val d) e s []

  -- f is the first fault of what follows the fields that begin e
  abbrev pub FaultOf : List ℕ → DecodeError → Type 0
  FaultOf e f = ParseStops IsEntryField EntryFieldFault (blanks key val d) e f

  -- a length and the entry e, which says s, begin the bytes, and rest follows
  abbrev pub EntryOf : List ℕ → List ℕ → MapEntry K V → List ℕ → Type 0
  EntryOf bs e s rest = TakesDelimited bs e rest × IsEntry e s

  -- f is the first fault, where an entry costs so many units of element memory and what the messages in it cost, and
  -- one that is undeclared so many of the unknown fields left (none where it is dropped): of the length; of the units;
  -- of the fields; of the unknown fields left. Where the units are left, but not what the messages cost besides, f may be any
  -- error.
  abbrev pub EntryFault : ℕ → ℕ → BudgetLeft → List ℕ → DecodeError → Type 0
  EntryFault cost unknown_cost left bs f =
      LengthFault bs f
      ⊎ ((e : List ℕ) × (rest : List ℕ) × TakesDelimited bs e rest
      × (((left.memory < cost) × (f ≡ ElementMemoryLimitExceeded))
      ⊎ ((cost ≤ left.memory) × (Lacks left (charge_of key val d cost e) ⊎ (FaultOf e f
      ⊎ ((s : MapEntry K V) × IsEntry e s × (s.known ≡ false) × (left.unknown < (charge_of key val d cost e).unknown + unknown_cost)
      × (f ≡ UnknownFieldLimitExceeded)))))))

-- ---- what merging the fields of an entry does to what was said, and to a budget

module _ {K V : Type 0} (key : Reading K) (val : Reading V) (d : ℕ) where
  -- where merging the field at the front takes memory: it is the key's or the value's, and its codec takes it
  abbrev pub EntryFieldTakesMemory : List ℕ → Type 0
  EntryFieldTakesMemory bytes =
      ((rest : List ℕ) × TakesTag bytes 1 key.wire rest × ReadingTakesMemory key d rest)
      ⊎ ((rest : List ℕ) × TakesTag bytes 2 val.wire rest × ReadingTakesMemory val d rest)

  -- some fields that begin the bytes are followed by one that takes memory
  abbrev pub EntryFieldsTakeMemory : List ℕ → Type 0
  EntryFieldsTakeMemory bytes =
      (s : MapEntry K V) × (rest : List ℕ) × ParsesTo (IsEntryField key val d) (blanks key val d) bytes s rest × EntryFieldTakesMemory rest

  -- the field at the front was merged, rest follows it, and what it costs is spent
  pub record MergesEntryField (old : MapEntry K V) (left : BudgetLeft) (bytes : List ℕ) (new : MapEntry K V) (left_after : BudgetLeft) (rest : List ℕ) : Type 0 where
    pub field : entry_field_at key val d old bytes ≡ Ok (new, rest)
    pub pays : Pays left (field_charge key val d bytes) left_after

  -- f is why not, and out of memory only where the field takes memory; at most what the field costs is spent
  pub record RefusesEntryField (old : MapEntry K V) (left : BudgetLeft) (bytes : List ℕ) (left_after : BudgetLeft) (f : DecodeError) : Type 0 where
    pub fault : f ≢ OutOfMemory → Lacks left (field_charge key val d bytes) ⊎ EntryFieldFault key val d old bytes f
    pub full : f ≡ OutOfMemory → EntryFieldTakesMemory bytes
    pub pays : PaysAtMost left (field_charge key val d bytes) left_after

  -- the bytes are an entry that says so, and what its fields cost is spent
  pub record MergesFields (bytes : List ℕ) (left : BudgetLeft) (says : MapEntry K V) (left_after : BudgetLeft) : Type 0 where
    pub entry : IsEntry key val d bytes says
    pub pays : Pays left (charge_at key val d (blanks key val d) bytes) left_after

  -- f is why not, and out of memory only at a field that takes memory; at most what its fields cost is spent
  pub record RefusesFields (bytes : List ℕ) (left left_after : BudgetLeft) (f : DecodeError) : Type 0 where
    pub fault : f ≢ OutOfMemory → Lacks left (charge_at key val d (blanks key val d) bytes) ⊎ FaultOf key val d bytes f
    pub full : f ≡ OutOfMemory → EntryFieldsTakeMemory bytes
    pub pays : PaysAtMost left (charge_at key val d (blanks key val d) bytes) left_after
