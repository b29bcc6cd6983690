-- What is proved of the levels of each kind of members: they are exact, where those of the messages in it are.
use Rattle.std.proofs.Common.{◌≡◌, inl, inr, ℕ, zero, suc, ◌-◌, ◌==◌, ◌^◌, ◌<◌, ◌≤◌, Bool, true, false, List, [], ◌∷◌, ◌++◌, length, length-append, Option, Some, None, Result, Ok, Err, refl, sym, ap, subst, ◌∙◌, arith, append-nil, if◌then◌else◌}
use Rattle.std.specs.Prelude.{is_some}
use Rattle.std.proofs.lemmas.Bool.{cases_lt, eq-eqb}
use Rattle.std.specs.List.{AllByRecursion}
use Rattle.buffa_bytes.proofs.FieldLemmas.{is_tag, tag_some}
use Rattle.buffa_bytes.proofs.VarintLemmas.{IsVarint-varint_encoding}
use Rattle.buffa_bytes.specs.PayloadValue.{HasPayloadValue, bytes as payload_of}
use Rattle.buffa_bytes.specs.Field.{IsTag}
use Rattle.buffa_bytes.specs.Number.{IsNumber}
use Rattle.buffa_bytes.specs.Values.{delimited_encoding, tag_encoding}
use Rattle.buffa_bytes.specs.Varint.{varint_encoding}
use Rattle.buffa_bytes.specs.declared.error.DecodeError.{DecodeError}
use Rattle.buffa_bytes.specs.declared.error.DecodeError.TheVariants.{RecursionLimitExceeded, UnexpectedEof}
use Rattle.buffa_bytes.specs.declared.wire_type.WireType.TheVariants.{EndGroup, LengthDelimited, StartGroup}
use Rattle.buffa_wire.proofs.JoinLemmas.{records_join}
use Rattle.buffa_wire.proofs.ParseLemmas.{encoding_parses}
use Rattle.buffa_wire.specs.BudgetLeft.{BudgetLeft}
use Rattle.buffa_wire.specs.ByField.{value_of}
use Rattle.buffa_wire.specs.Encoding.{payload_encoding, records_encoding, wire_of}
use Rattle.buffa_wire.specs.Message.{merged_in}
use Rattle.buffa_wire.specs.ReadableFacts.{Readable, ReadableFieldData, readable_fits}
use Rattle.buffa_wire.specs.Records.{FieldData, bytes, field_data_height, fixed32, fixed64, group, records_of, varint}
use Rattle.buffa_wire.specs.Takes.{Taker}
use Rattle.buffa_map.proofs.BackLemmas.{IsReadBack}
use Rattle.buffa_map.proofs.EntryLemmas.{entry_faulty}
use Rattle.buffa_map.proofs.SizeLemmas.{length-entry_encoding}
use Rattle.buffa_map.specs.Codec.{Reading, ValueFault, Writing}
use Rattle.buffa_map.specs.Encoding.{AllHold, entry_encoding}
use Rattle.buffa_map.specs.Entry.{FaultOf}
use Rattle.buffa_map.specs.EntryReading.{entry_of}
use Rattle.buffa_map.specs.Message.{merged_value, message_reading}
use Rattle.buffa_map.specs.Scalars.{delimited_writing}
use Rattle.buffa_map.specs.declared.map_entry.MapEntry.{MapEntry}
use Rattle.buffa_fields.specs.UnknownsOfMembers.{Unknowns, IsExactWithUnknowns}
use Rattle.buffa_fields.specs.EntriesTaken.{entry_taken}
use Rattle.buffa_fields.specs.facts.GroupFacts.{body_is}
use Rattle.buffa_fields.specs.Groups.{group_field_data, group_merged}
use Rattle.buffa_fields.specs.UndeclaredFields.{AllNumbers}
use Rattle.buffa_fields.specs.ClosedEnumMaps.{unknown_entry_levels, first_entry_depth, kept_pair_taken, put_or_keep}
use Rattle.buffa_fields.specs.Schema.{IsExactMember, Shape}
use Rattle.buffa_fields.specs.facts.LevelFacts.{some_mapped}
use Rattle.buffa_fields.specs.Levels.{AreExactLevels, IsTakenWritten}
use Rattle.buffa_fields.specs.Lists.{element_records, packed_records}
use Rattle.buffa_fields.specs.MapFields.{entry_records, map_records, pair_taken, stepped}
use Rattle.buffa_fields.specs.MemberRecords.{explicit_records, implicit_records}
use Rattle.buffa_fields.specs.Submessages.{FitsInside, message_merged, or_blank, taken_behind, taken_there}
use Rattle.buffa_fields.specs.MapsOfMessages.{pair_levels, pair_records}
use Rattle.buffa_fields.specs.RepeatedMessages.{messages_levels, messages_records, messages_taken}
use Rattle.buffa_fields.specs.facts.ValueFacts.{delimited_whole}
use Rattle.buffa_fields.specs.Values.{records_unless}

-- ---- records of one number
abbrev pub AllOf : ℕ → List (ℕ × FieldData) → Type 0
AllOf k ys = AllNumbers (λ n. n == k) ys

one_number_alone : (k : ℕ) (x : FieldData) → AllOf k ((k, x) ∷ [])
one_number_alone k x = (eq-eqb k k refl, tt)

pub implicit_numbers : {V : Type 0} (test : V → Bool) (field_data : V → FieldData) (k : ℕ) (v : V) → AllOf k (implicit_records test field_data k v)
unfolding implicit_records
implicit_numbers test field_data k v = by (test v)
  where
    by : (t : Bool) → AllOf k (records_unless t ((k, field_data v) ∷ []))
    by true = tt
    by false = one_number_alone k (field_data v)

pub explicit_numbers : {V : Type 0} (field_data : V → FieldData) (k : ℕ) (v : Option V) → AllOf k (explicit_records field_data k v)
unfolding explicit_records
explicit_numbers field_data k None = tt
explicit_numbers field_data k (Some v) = one_number_alone k (field_data v)

pub element_numbers : {V : Type 0} (field_data : V → FieldData) (k : ℕ) (vs : List V) → AllOf k (element_records field_data k vs)
unfolding element_records
element_numbers field_data k [] = tt
element_numbers field_data k (v ∷ vs) = (eq-eqb k k refl, element_numbers field_data k vs)

pub messages_numbers : {X : Type 0} (encoding : X → List ℕ) (k : ℕ) (vs : List X) → AllOf k (messages_records encoding k vs)
messages_numbers encoding k vs = element_numbers (λ v. bytes (encoding v)) k vs

pub packed_numbers : {V : Type 0} (encoding : V → List ℕ) (k : ℕ) (vs : List V) → AllOf k (packed_records encoding k vs)
unfolding packed_records
packed_numbers encoding k [] = tt
packed_numbers encoding k (v ∷ vs) = (eq-eqb k k refl, tt)

map_numbers : {K V : Type 0} (kw : Writing K) (vw : Writing V) (k : ℕ) (l : List (K × V)) → AllOf k (map_records kw vw k l)
map_numbers kw vw k [] = tt
map_numbers kw vw k (p ∷ ps) = (eq-eqb k k refl, map_numbers kw vw k ps)

pub entry_numbers : {K V : Type 0} (kw : Writing K) (vw : Writing V) (k : ℕ) (l : List (K × V)) → AllOf k (entry_records kw vw k l)
unfolding entry_records
entry_numbers kw vw k l = map_numbers kw vw k l

pub pair_numbers : {K X : Type 0} (kw : Writing K) (encoding : X → List ℕ) (k : ℕ) (l : List (K × X)) → AllOf k (pair_records kw encoding k l)
unfolding pair_records
pair_numbers kw encoding k l = map_numbers kw (delimited_writing encoding) k l

-- ---- members that don't nest
pub exact_flat : {P X : Type 0} (s : Shape P X) → ((k : ℕ) (v : X) → AllOf k (s.records k v)) → ((v : X) → s.levels v ≡ 0) → IsExactMember s
exact_flat s all flat = record { numbers = all; least = λ k d v normal taken. omega (arith, flat v) }

pub exact_flat_unknowns : {P X : Type 0} (s : Shape P X) (a : Unknowns X) → ((k : ℕ) (v : X) → AllOf k (s.records k v)) → ((v : X) → s.levels v ≡ 0) → ((k d : ℕ) (x : FieldData) → IsTakenWritten a.takes d (k, x) → a.levels x ≤ d) → IsExactWithUnknowns s a
exact_flat_unknowns s a all flat low = record { numbers = all; least = λ k d v normal taken. omega (arith, flat v); unknowns = λ k d x is taken. low k d x taken }

-- neither a value nor what is put aside nests
pub exact_numbers : {P X : Type 0} (s : Shape P X) (a : Unknowns X) → ((k : ℕ) (v : X) → AllOf k (s.records k v)) → ((v : X) → s.levels v ≡ 0) → ((x : FieldData) → a.levels x ≡ 0) → IsExactWithUnknowns s a
exact_numbers s a all flat even = exact_flat_unknowns s a all flat (λ k d x taken. omega (arith, even x))

-- ---- messages
-- members whose records are messages, each of which is taken only at a depth of one more than its levels
module _ {X : Type 0} (takes : Taker X) (blank : X) (field_data : X → FieldData) (level : X → ℕ) (Normal : X → Type 0)
    (one : (d n : ℕ) (old v u : X) → IsNumber n → ReadableFieldData (field_data v) → field_data_height (field_data v) ≤ d → Normal v → takes d old n (wire_of (field_data v)) (payload_encoding n (field_data v)) ≡ Some u → suc (level v) ≤ d) (d n : ℕ) where
  pub there_low : (v : X) → Normal v → IsTakenWritten (taken_there blank takes) d (n, field_data v) → suc (level v) ≤ d
  there_low v normal (number, fits, low, old, u, h) =
      let t = some_mapped (λ (x : X). Some x) (takes d (or_blank blank old) n (wire_of (field_data v)) (payload_encoding n (field_data v))) u h in
      one d n (or_blank blank old) v t.0 number fits low normal t.1

  pub behind_low : (vs : List X) → AllByRecursion Normal vs → AllByRecursion (IsTakenWritten (taken_behind blank takes) d) (element_records field_data n vs) → messages_levels level vs ≤ d
  unfolding element_records
  behind_low [] normal h = omega arith
  behind_low (v ∷ vs) normal h =
      let put : List X → X → List X = λ old x. old ++ x ∷ [] in
      let (number, fits, low, old, u, taken) = h.0 in
      let t = some_mapped (put old) (takes d blank n (wire_of (field_data v)) (payload_encoding n (field_data v))) u taken in
      omega (arith, one d n blank v t.0 number fits low normal.0 t.1, behind_low vs normal.1 h.1)

module _ {X : Type 0} (merged : ℕ → X → List ℕ → Option X) (blank : X) (encoding : X → List ℕ) (records : X → List (ℕ × FieldData)) (Normal : X → Type 0) (level : X → ℕ) (exact : AreExactLevels merged encoding records Normal level) where
  -- what is merged one level down has one level less
  inside_low : (d : ℕ) (old v u : X) → FitsInside Normal records v → merged_in merged d old (encoding v) ≡ Some u → suc (level v) ≤ d
  inside_low zero old v u normal h = cc
  inside_low (suc d) old v u normal h = elim (cases_lt d (level v)) [
    | inl less ↦ let bad = sym (exact d old v normal.1 normal.0 less) ∙ h in cc
    | inr more ↦ omega (arith, more)
  ]

  -- ---- as a length and so many bytes
  pub message_low : (d n : ℕ) (old v u : X) → IsNumber n → ReadableFieldData (bytes (encoding v)) → field_data_height (bytes (encoding v)) ≤ d → FitsInside Normal records v →
      message_merged merged d old n LengthDelimited (delimited_encoding (encoding v)) ≡ Some u → suc (level v) ≤ d
  unfolding message_merged
  message_low d n old v u number fits low normal h =
      let is : message_merged merged d old n LengthDelimited (delimited_encoding (encoding v)) ≡ merged_in merged d old (encoding v) = rw (delimited_whole (encoding v) fits) refl in
      inside_low d old v u normal (sym is ∙ h)

  pub messages_low : (k d : ℕ) (vs : List X) → AllByRecursion (FitsInside Normal records) vs → AllByRecursion (IsTakenWritten (messages_taken blank merged) d) (messages_records encoding k vs) → messages_levels level vs ≤ d
  messages_low k d vs normal h = behind_low (message_merged merged) blank (λ v. bytes (encoding v)) level (FitsInside Normal records) message_low d k vs normal h

  -- ---- as a group
  module _ (as_records : (v : X) → encoding v ≡ records_encoding (records v)) where
    pub group_low : (d n : ℕ) (old v u : X) → IsNumber n → Readable (records_of (records v)) → field_data_height (group_field_data records v) ≤ d → Normal v →
        group_merged merged d old n StartGroup (records_encoding (records v) ++ tag_encoding n EndGroup) ≡ Some u → suc (level v) ≤ d
    unfolding group_merged
    group_low zero n old v u number fits low normal h = absurd (omega (arith, low))
    group_low (suc d) n old v u number fits low normal h =
        let j = records_join (records_of (records v)) d (records_encoding (records v)) (encoding_parses (records_of (records v)) d fits (omega (arith, low))) in
        let body = body_is d (records_encoding (records v)) (tag_encoding n EndGroup) n j (is_tag n EndGroup number) in
        let e : suc d - 1 ≡ d = omega arith in
        let is : group_merged merged (suc d) old n StartGroup (records_encoding (records v) ++ tag_encoding n EndGroup) ≡ merged d old (encoding v) = rw e (ap (merged d old) (body ∙ sym (as_records v))) in
        inside_low (suc d) old v u (normal, readable_fits (records_of (records v)) fits) (sym is ∙ h)

-- ---- entries of maps
module _ {K V : Type 0} (key : Reading K) (val : Reading V) where
  -- one that is taken is read
  entry_read : {X : Type 0} (does : X → List ℕ → MapEntry K V → X) (d n : ℕ) (old u : X) (e : List ℕ) → length e < 2 ^ 64 → entry_taken key val does d old n LengthDelimited (delimited_encoding e) ≡ Some u →
      (s : MapEntry K V) × (entry_of key val d e ≡ Ok s)
  unfolding entry_taken
  entry_read does d n old u e short h = by (entry_of key val d e) refl
    where
      by : (r : Result (MapEntry K V) DecodeError) → entry_of key val d e ≡ r → (s : MapEntry K V) × (entry_of key val d e ≡ Ok s)
      by (Ok s) k = (s, k)
      by (Err f) k =
          let none : entry_taken key val does d old n LengthDelimited (delimited_encoding e) ≡ None = rw (delimited_whole e short, k) refl in
          let bad = sym none ∙ h in cc

  -- the first depth at which it is an entry is no greater
  first_low : (k c d : ℕ) (e : List ℕ) → c ≤ d → is_some (value_of (entry_of key val d e)) ≡ true → first_entry_depth key val k c e ≤ d
  first_low zero c d e low h = low
  first_low (suc k) c d e low h = by (is_some (value_of (entry_of key val c e))) refl (λ next. first_low k (suc c) d e next h)
    where
      differs : is_some (value_of (entry_of key val c e)) ≡ false → c ≡ d → ⊥
      differs is same = let bad = sym is ∙ ap (λ z. is_some (value_of (entry_of key val z e))) same ∙ h in cc

      by : (b : Bool) → is_some (value_of (entry_of key val c e)) ≡ b → (suc c ≤ d → first_entry_depth key val k (suc c) e ≤ d) → (if b then c else first_entry_depth key val k (suc c) e) ≤ d
      by true is again = low
      by false is again = again (omega (arith, low, differs is))

  pub kept_pair_low : (puts : List (K × V) → K → V → List (K × V)) (k d : ℕ) (x : FieldData) → IsTakenWritten (kept_pair_taken key val puts) d (k, x) → unknown_entry_levels key val x ≤ d
  kept_pair_low puts k d (bytes e) (number, fits, low, old, u, h) =
      let s = entry_read (put_or_keep key val puts k) d k old u e fits h in
      first_low (length e) 0 d e (omega arith) (rw s.1 refl)
  kept_pair_low puts k d (varint n) h = omega arith
  kept_pair_low puts k d (fixed32 n) h = omega arith
  kept_pair_low puts k d (fixed64 n) h = omega arith
  kept_pair_low puts k d (group rs) h = omega arith

-- ---- maps of messages
module _ {K X : Type 0} (key : Reading K) (kw : Writing K) (same_key : kw.wire ≡ key.wire) (KeyOk : K → Type 0) (key_back : (d : ℕ) (v : K) → KeyOk v → IsReadBack key kw d v)
    (merged : ℕ → X → List ℕ → Option X) (blank : X) (cost : ℕ → List ℕ → BudgetLeft) (encoding : X → List ℕ) (records : X → List (ℕ × FieldData)) (Normal : X → Type 0) (level : X → ℕ) (exact : AreExactLevels merged encoding records Normal level) where
  abbrev val : Reading X
  val = message_reading blank merged cost

  abbrev entry : K × X → List ℕ
  entry p = entry_encoding kw (delimited_writing encoding) p

  -- a fault of the message is one of its entry
  message_fault : (d : ℕ) (p : K × X) (f : DecodeError) → KeyOk p.0 → ValueFault val d blank (delimited_encoding (encoding p.1)) f → FaultOf key val d (entry p) f
  message_fault d p f ok h =
      let head : List ℕ = tag_encoding 1 kw.wire ++ kw.encoding p.0 in
      let tag = is_tag 2 LengthDelimited (omega arith, omega arith) in
      let rest : List ℕ = tag_encoding 2 LengthDelimited ++ delimited_encoding (encoding p.1) in
      let back = key_back d p.0 ok in
      let first : IsTag (tag_encoding 1 kw.wire) 1 key.wire = subst (λ z. IsTag (tag_encoding 1 kw.wire) 1 z) same_key (is_tag 1 kw.wire (omega arith, omega arith)) in
      let has : HasPayloadValue key.wire (kw.encoding p.0) back.1 = subst (λ z. HasPayloadValue z (kw.encoding p.0) back.1) same_key back.2 in
      let s : MapEntry K X = record { key = p.0; value = blank; known = true } in (
        s,
        rest,
        (head ∷ [], ap (λ z. z ++ rest) (sym (append-nil head)), (s, inl (p.0, true, (tag_encoding 1 kw.wire, kw.encoding p.0, back.1, first, back.0, has, back.3, refl), refl), refl)),
        (λ e. omega (arith, tag_some (tag_encoding 2 LengthDelimited) 2 LengthDelimited tag, length-append (tag_encoding 2 LengthDelimited) (delimited_encoding (encoding p.1)), ap length e)),
        inr (inr (inl (LengthDelimited, delimited_encoding (encoding p.1), (tag_encoding 2 LengthDelimited, tag, refl), inr (refl, h)))),
      )

  not_read : (d : ℕ) (p : K × X) (f : DecodeError) (s : MapEntry K X) → KeyOk p.0 → entry_of key val d (entry p) ≡ Ok s → ValueFault val d blank (delimited_encoding (encoding p.1)) f → ⊥
  not_read d p f s ok is h =
      let bad = entry_faulty key val d (entry p) f (message_fault d p f ok h) in
      let both = sym bad.1 ∙ is in cc

  entry_low : (d : ℕ) (p : K × X) (s : MapEntry K X) → KeyOk p.0 → FitsInside Normal records p.1 → length (encoding p.1) < 2 ^ 64 → entry_of key val d (entry p) ≡ Ok s → suc (level p.1) ≤ d
  entry_low zero p s ok normal short is = absurd (not_read zero p RecursionLimitExceeded s ok is (inl refl))
  entry_low (suc d) p s ok normal short is = by (merged d blank (encoding p.1)) refl
    where
      by : (o : Option X) → merged d blank (encoding p.1) ≡ o → suc (level p.1) ≤ suc d
      by (Some u) there = inside_low merged blank encoding records Normal level exact (suc d) blank p.1 u normal there
      by None none =
          absurd (not_read (suc d) p UnexpectedEof s ok is (inr (inr (
            refl,
            payload_of (encoding p.1),
            [],
            UnexpectedEof,
            (delimited_encoding (encoding p.1), (varint_encoding (length (encoding p.1)), IsVarint-varint_encoding (length (encoding p.1)) short, refl), sym (append-nil (delimited_encoding (encoding p.1)))),
            ap merged_value none,
            inl refl,
          ))))

  module _ (puts : List (K × X) → K → X → List (K × X)) (k d : ℕ) where
    all_low : (l : List (K × X)) → AllHold KeyOk (FitsInside Normal records) l → AllByRecursion (IsTakenWritten (pair_taken key val puts) d) (map_records kw (delimited_writing encoding) k l) → pair_levels level l ≤ d
    all_low [] ok h = omega arith
    all_low (p ∷ ps) ok h =
        let (number, fits, low, old, u, taken) = h.0 in
        let s = entry_read key val (λ m e s. stepped puts m s) d k old u (entry p) fits taken in
        let whole = length-entry_encoding kw (delimited_writing encoding) p in
        let both = length-append (varint_encoding (length (encoding p.1))) (encoding p.1) in
        omega (arith, entry_low d p s.0 ok.0 ok.1 (omega (arith, fits, whole, both)) s.1, all_low ps ok.2 h.1)

    pub pairs_low : (l : List (K × X)) → AllHold KeyOk (FitsInside Normal records) l → AllByRecursion (IsTakenWritten (pair_taken key val puts) d) (pair_records kw encoding k l) → pair_levels level l ≤ d
    unfolding pair_records
    pairs_low l ok h = all_low l ok h
