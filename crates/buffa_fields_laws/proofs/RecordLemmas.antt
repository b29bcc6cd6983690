-- What is proved of records and the members that they change, in the words of the laws.
use Rattle.std.proofs.Common.{◌≡◌, ◌≢◌, ℕ, zero, suc, ◌-◌, ◌<◌, Bool, true, false, List, [], ◌∷◌, ◌++◌, length, Option, Some, None, Result, Ok, Err, refl, sym, ap, subst, ◌∙◌, arith, append_assoc, append-nil, if◌then◌else◌}
use Rattle.std.proofs.Common.{◌^◌, ◌⊎◌, inl, inr}
use Rattle.std.proofs.lemmas.Bool.{lt-ltb}
use Rattle.std.specs.List.{concat}
use Rattle.std.specs.Option.{option_map}
use Rattle.std.specs.Prelude.{◌↔◌, map}
use Rattle.buffa_bytes.proofs.PayloadValueLemmas.{payload_value_complete}
use Rattle.buffa_bytes.proofs.DelimitedLemmas.{delimited_complete, delimited_sound}
use Rattle.buffa_bytes.proofs.FieldLemmas.{same_refl, same_false}
use Rattle.buffa_bytes.proofs.SequenceLemmas.{along_err, along_ok, err_same, has_byte, ok_same, parse_leads}
use Rattle.buffa_bytes.proofs.StepLemmas.{agree_ok}
use Rattle.buffa_bytes.proofs.WireLemmas.{checked_same}
use Rattle.buffa_bytes.specs.PayloadValue.{PayloadValue, HasPayloadValue, payload_value_at}
use Rattle.buffa_bytes.specs.Field.{IsTag, SomeField}
use Rattle.buffa_bytes.specs.Readings.{check_wire, delimited_at, ◌>>=◌, same_wire}
use Rattle.buffa_bytes.specs.Join.{Join}
use Rattle.buffa_bytes.specs.Scan.{parse_all}
use Rattle.buffa_bytes.specs.Varint.{IsVarint}
use Rattle.buffa_bytes.specs.declared.error.DecodeError.{DecodeError}
use Rattle.buffa_bytes.specs.declared.wire_type.WireType.{WireType}
use Rattle.buffa_bytes.specs.declared.wire_type.WireType.TheVariants.{EndGroup, LengthDelimited, StartGroup}
use Rattle.buffa_wire.specs.BudgetLeft.{BudgetLeft, charge_by, nothing, plus, units}
use Rattle.buffa_wire.specs.ByField.{value_of}
use Rattle.buffa_wire.specs.Encoding.{encodings}
use Rattle.buffa_wire.specs.Message.{cost_of_payload, merged_in}
use Rattle.buffa_map.proofs.EntryLemmas.{entry_complete, entry_sound, value_complete}
use Rattle.buffa_map.specs.Codec.{Reading, value_at}
use Rattle.buffa_map.specs.Entry.{IsEntry}
use Rattle.buffa_map.specs.EntryReading.{entry_of}
use Rattle.buffa_map.specs.declared.map_entry.MapEntry.{MapEntry}
use Rattle.buffa_fields.proofs.InsideLemmas.{wire_taken}
use Rattle.buffa_fields.specs.EntriesTaken.{entry_cost, entry_taken, whole_entry_in}
use Rattle.buffa_fields.specs.facts.GroupFacts.{body_is}
use Rattle.buffa_fields.specs.Groups.{group_body, group_merged}
use Rattle.buffa_fields.specs.facts.ListFacts.{element_falls, elements_end, elements_next}
use Rattle.buffa_fields.specs.Lists.{element_at, elements_in, elements_taken, packed_in}
use Rattle.buffa_fields.specs.Schema.{is_number}
use Rattle.buffa_fields.specs.Submessages.{inside, message_cost, message_merged}
use Rattle.buffa_fields.specs.facts.FieldAndOthersFacts.{number_of_test}
use Rattle.buffa_fields.specs.RepeatedMessages.{messages_cost}
use Rattle.buffa_fields.specs.facts.ValueFacts.{open_level}
use Rattle.buffa_fields.specs.Values.{all_of, field_value_at, value_taken}

-- ---- payloads
-- what was made of some was made of one
pub made_of : {A B : Type 0} (f : A → B) (r : Option A) (u : B) → option_map f r ≡ Some u → (x : A) × (r ≡ Some x)
made_of f (Some x) u h = (x, refl)
made_of f None u h = cc

some_same : {A : Type 0} {x y : A} → Some x ≡ Some y → x ≡ y
some_same h = cc

-- a length and so many bytes, and no others
pub whole_is : (t b : List ℕ) → IsVarint t (length b) → delimited_at (t ++ b) ≡ Ok (b, [])
whole_is t b h = ap delimited_at (ap (λ (z : List ℕ). t ++ z) (sym (append-nil b))) ∙ delimited_complete t b [] h

whole_of : (p b : List ℕ) → delimited_at p ≡ Ok (b, []) → (t : List ℕ) × IsVarint t (length b) × (p ≡ t ++ b)
whole_of p b is =
    let s = agree_ok (delimited_at p) (b, []) (delimited_sound p) is in (s.0, s.1, s.2 ∙ ap (λ (z : List ℕ). s.0 ++ z) (append-nil b))

-- ---- messages
module _ {X : Type 0} (merged : ℕ → X → List ℕ → Option X) where
  -- so many bytes are merged one level down
  pub bytes_are_merged : (d n : ℕ) (v : X) (t b : List ℕ) → IsVarint t (length b) → message_merged merged (suc d) v n LengthDelimited (t ++ b) ≡ merged d v b
  unfolding message_merged
  bytes_are_merged d n v t b h = rw (whole_is t b h) refl

  -- nothing else is
  pub only_bytes : (d n : ℕ) (v u : X) (w : WireType) (p : List ℕ) → message_merged merged d v n w p ≡ Some u →
      (d ≢ 0) × (w ≡ LengthDelimited) × (t : List ℕ) × (b : List ℕ) × IsVarint t (length b) × (p ≡ t ++ b)
  unfolding message_merged
  only_bytes d n v u w p h =
      let k = wire_taken LengthDelimited w (inside merged d v (delimited_at p)) u h in
      let s = bytes_in d (delimited_at p) refl k.1 in
      (s.0, k.0, s.1, s.2, s.3, s.4)
    where
      bytes_in : (d : ℕ) (r : Result (List ℕ × List ℕ) DecodeError) → delimited_at p ≡ r → inside merged d v r ≡ Some u →
          (d ≢ 0) × (t : List ℕ) × (b : List ℕ) × IsVarint t (length b) × (p ≡ t ++ b)
      bytes_in zero (Ok (b, [])) is k = cc
      bytes_in (suc d) (Ok (b, [])) is k = let s = whole_of p b is in ((λ none. cc), s.0, b, s.1, s.2)
      bytes_in d (Ok (b, x ∷ xs)) is k = cc
      bytes_in d (Err e) is k = cc

  -- ---- groups
  -- the fields in front of an end tag of the number are merged one level down
  pub body_is_merged : (d n : ℕ) (v : X) (b e : List ℕ) → Join (SomeField d) b → IsTag e n EndGroup → group_merged merged (suc d) v n StartGroup (b ++ e) ≡ merged d v b
  unfolding group_merged
  body_is_merged d n v b e j tag = let one : suc d - 1 ≡ d = omega arith in rw one (ap (merged d v) (body_is d b e n j tag))

  pub only_groups : (d n : ℕ) (v u : X) (w : WireType) (p : List ℕ) → group_merged merged d v n w p ≡ Some u → (d ≢ 0) × (w ≡ StartGroup)
  unfolding group_merged
  only_groups zero n v u w p h = let k = wire_taken StartGroup w (merged_in merged zero v (group_body (zero - 1) p)) u h in cc
  only_groups (suc d) n v u w p h = ((λ none. cc), (wire_taken StartGroup w (merged_in merged (suc d) v (group_body (suc d - 1) p)) u h).0)

-- ---- values, and elements of lists
-- a whole payload of the codec's wire type, which holds a content
module _ {V : Type 0} (codec : Reading V) (plain : codec.nested ≡ false) (WIRE : WireType) (wire : codec.wire ≡ WIRE) (d n : ℕ) (p : List ℕ) (c : PayloadValue) (has : HasPayloadValue WIRE p c) (old : V) where
  same : same_wire codec.wire WIRE ≡ true
  same = ap (same_wire codec.wire) (sym wire) ∙ same_refl codec.wire

  held : HasPayloadValue codec.wire p c
  held = subst (λ w. HasPayloadValue w p c) (sym wire) has

  pub value_before : (x : V × Bool) → codec.reads d old c ≡ Ok x → (rest : List ℕ) → value_at codec d old (p ++ rest) ≡ Ok (x, rest)
  value_before x reads rest = value_complete codec d old p rest c x (open_level codec d plain) held reads

  value_is : (x : V × Bool) → codec.reads d old c ≡ Ok x → value_at codec d old p ≡ Ok (x, [])
  value_is x reads = ap (value_at codec d old) (sym (append-nil p)) ∙ value_before x reads []

  no_value : (e : DecodeError) → codec.reads d old c ≡ Err e → value_at codec d old p ≡ Err e
  no_value e reads =
      let is : payload_value_at codec.wire p ≡ Ok (c, []) = ap (payload_value_at codec.wire) (sym (append-nil p)) ∙ payload_value_complete codec.wire p c [] held in
      rw (open_level codec d plain, is, reads) refl

  pub value_is_taken : (x : V × Bool) → codec.reads d old c ≡ Ok x → value_taken codec d old n WIRE p ≡ Some x.0
  value_is_taken x reads = rw (same, value_is x reads) refl

  pub value_is_refused : (e : DecodeError) → codec.reads d old c ≡ Err e → value_taken codec d old n WIRE p ≡ None
  value_is_refused e reads = rw (same, no_value e reads) refl

-- an element of a list starts with the default
module _ {V : Type 0} (codec : Reading V) (plain : codec.nested ≡ false) (WIRE : WireType) (wire : codec.wire ≡ WIRE) (d n : ℕ) (p : List ℕ) (c : PayloadValue) (has : HasPayloadValue WIRE p c) (vs : List V) where
  pub element_is_appended : (x : V × Bool) → codec.reads d codec.blank c ≡ Ok x → elements_taken codec d vs n WIRE p ≡ Some (vs ++ x.0 ∷ [])
  unfolding elements_taken
  element_is_appended x reads = rw (same codec plain WIRE wire d n p c has codec.blank, value_is codec plain WIRE wire d n p c has codec.blank x reads) refl

  pub element_is_refused : (e : DecodeError) → codec.reads d codec.blank c ≡ Err e → elements_taken codec d vs n WIRE p ≡ None
  unfolding elements_taken
  element_is_refused e reads = rw (same codec plain WIRE wire d n p c has codec.blank, no_value codec plain WIRE wire d n p c has codec.blank e reads) refl

module _ {V : Type 0} (codec : Reading V) (d : ℕ) where
  -- ---- what stands in front of elements
  abbrev behind : List V → Result (List V) DecodeError → Result (List V) DecodeError
  behind us (Ok vs) = Ok (us ++ vs)
  behind us (Err e) = Err e

  element_behind : (us vs : List V) (bs : List ℕ) (x : List V × List ℕ) → element_at codec d vs bs ≡ Ok x → element_at codec d (us ++ vs) bs ≡ Ok (us ++ x.0, x.1)
  element_behind us vs bs x h = at (value_at codec d codec.blank bs) h
    where
      at : (r : Result ((V × Bool) × List ℕ) DecodeError) → (r >>= (λ y. let z : List V × List ℕ = (vs ++ y.0.0 ∷ [], y.1) in Ok z)) ≡ Ok x →
          (r >>= (λ y. let z : List V × List ℕ = ((us ++ vs) ++ y.0.0 ∷ [], y.1) in Ok z)) ≡ Ok (us ++ x.0, x.1)
      at (Ok y) h =
          let read : List V → Result (List V × List ℕ) DecodeError = λ z. Ok (z, y.1) in
          let moved : List V × List ℕ → Result (List V × List ℕ) DecodeError = λ z. Ok (us ++ z.0, z.1) in
          ap read (append_assoc us vs (y.0.0 ∷ [])) ∙ ap moved (ok_same h)
      at (Err e) h = cc

  element_refused : (us vs : List V) (bs : List ℕ) (e : DecodeError) → element_at codec d vs bs ≡ Err e → element_at codec d (us ++ vs) bs ≡ Err e
  element_refused us vs bs e h = at (value_at codec d codec.blank bs) h
    where
      at : (r : Result ((V × Bool) × List ℕ) DecodeError) → (r >>= (λ y. let z : List V × List ℕ = (vs ++ y.0.0 ∷ [], y.1) in Ok z)) ≡ Err e →
          (r >>= (λ y. let z : List V × List ℕ = ((us ++ vs) ++ y.0.0 ∷ [], y.1) in Ok z)) ≡ Err e
      at (Ok y) h = cc
      at (Err f) h = ap (λ z. Err z) (err_same h)

  elements_behind : (us vs : List V) (bs : List ℕ) → elements_in codec d (us ++ vs) bs ≡ behind us (elements_in codec d vs bs)
  unfolding elements_in
  elements_behind us vs bs =
      parse_leads (element_at codec d) (λ s b r. parse_all (element_at codec d) (us ++ s) b ≡ behind us r)
      (λ s. elements_end codec d (us ++ s))
      (λ s b bs e h. along_err (element_at codec d) (element_falls codec d) (us ++ s) (b ∷ bs) e (omega arith) (element_refused us s (b ∷ bs) e h))
      (λ s b bs x r h k. along_ok (element_at codec d) (element_falls codec d) (us ++ s) (us ++ x.0) (b ∷ bs) x.1 (omega arith) (element_behind us s (b ∷ bs) x h) ∙ k)
      (element_falls codec d) vs bs

  -- what a record has goes behind the elements that stand
  pub elements_are_appended : (n : ℕ) (vs : List V) (w : WireType) (p : List ℕ) → elements_taken codec d vs n w p ≡ option_map (λ us. vs ++ us) (elements_taken codec d [] n w p)
  unfolding elements_taken
  elements_are_appended n vs w p = at (same_wire codec.wire w) (same_wire LengthDelimited w) (all_of (value_at codec d codec.blank p)) (delimited_at p)
    where
      valued : (r : Result (List V) DecodeError) → value_of (behind vs r) ≡ option_map (λ us. vs ++ us) (value_of r)
      valued (Ok us) = refl
      valued (Err e) = refl

      packed : (r : Result (List ℕ × List ℕ) DecodeError) → packed_in codec d vs r ≡ option_map (λ us. vs ++ us) (packed_in codec d [] r)
      packed (Ok (b, [])) = ap (λ z. value_of (elements_in codec d z b)) (sym (append-nil vs)) ∙ ap value_of (elements_behind vs [] b) ∙ valued (elements_in codec d [] b)
      packed (Ok (b, x ∷ xs)) = refl
      packed (Err e) = refl

      at : (own other : Bool) (o : Option V) (r : Result (List ℕ × List ℕ) DecodeError) →
          (if own then option_map (λ x. vs ++ x ∷ []) o else (if other then packed_in codec d vs r else None))
          ≡ option_map (λ us. vs ++ us) (if own then option_map (λ x. [] ++ x ∷ []) o else (if other then packed_in codec d [] r else None))
      at true other (Some x) r = refl
      at true other None r = refl
      at false true o r = packed r
      at false false o r = refl

  -- ---- packed elements, one after the other
  module _ (differs_only : same_wire codec.wire LengthDelimited ≡ false) (n : ℕ) (vs : List V) where
    pub none_are_packed : (t : List ℕ) → IsVarint t 0 → elements_taken codec d vs n LengthDelimited t ≡ Some vs
    unfolding elements_taken
    none_are_packed t h =
        let is : delimited_at t ≡ Ok ([], []) = ap delimited_at (sym (append-nil t)) ∙ delimited_complete t [] [] h in
        rw (differs_only, is, elements_end codec d vs) refl

    pub more_are_packed : (t s p b : List ℕ) (x : V × Bool) → 0 < length (p ++ b) → value_at codec d codec.blank (p ++ b) ≡ Ok (x, b) → IsVarint t (length (p ++ b)) → IsVarint s (length b) →
        elements_taken codec d vs n LengthDelimited (t ++ (p ++ b)) ≡ elements_taken codec d (vs ++ x.0 ∷ []) n LengthDelimited (s ++ b)
    unfolding elements_taken
    more_are_packed t s p b x some reads h k =
        let one : element_at codec d vs (p ++ b) ≡ Ok (vs ++ x.0 ∷ [], b) = rw reads refl in
        rw (differs_only, whole_is t (p ++ b) h, whole_is s b k) (ap value_of (elements_next codec d vs (vs ++ x.0 ∷ []) (p ++ b) b some one))

    pub broken_is_not_packed : (t b : List ℕ) (e : DecodeError) → b ≢ [] → value_at codec d codec.blank b ≡ Err e → IsVarint t (length b) → elements_taken codec d vs n LengthDelimited (t ++ b) ≡ None
    unfolding elements_taken elements_in
    broken_is_not_packed t b e some bad h =
        let one : element_at codec d vs b ≡ Err e = rw bad refl in
        rw (differs_only, whole_is t b h) (ap value_of (along_err (element_at codec d) (element_falls codec d) vs b e (has_byte b some) one))

  -- an element is refused for its payload
  pub element_fault : (vs : List V) (bs : List ℕ) (e : DecodeError) → element_at codec d vs bs ≡ Err e → value_at codec d codec.blank bs ≡ Err e
  element_fault vs bs e h = at (value_at codec d codec.blank bs) refl h
    where
      at : (r : Result ((V × Bool) × List ℕ) DecodeError) → value_at codec d codec.blank bs ≡ r →
          (r >>= (λ y. let z : List V × List ℕ = (vs ++ y.0.0 ∷ [], y.1) in Ok z)) ≡ Err e → value_at codec d codec.blank bs ≡ Err e
      at (Ok y) is h = cc
      at (Err f) is h = is ∙ ap (λ z. Err z) (err_same h)

-- ---- entries of maps
module _ {K V X : Type 0} (key : Reading K) (val : Reading V) (does : X → List ℕ → MapEntry K V → X) (d n : ℕ) (v : X) where
  -- so many bytes are an entry, which does what it does
  pub entry_is_taken : (t e : List ℕ) (s : MapEntry K V) → IsVarint t (length e) → IsEntry key val d e s → entry_taken key val does d v n LengthDelimited (t ++ e) ≡ Some (does v e s)
  unfolding entry_taken
  entry_is_taken t e s h k = rw (whole_is t e h, entry_complete key val d e s k) refl

  -- nothing else does
  pub only_entries : (u : X) (w : WireType) (p : List ℕ) → entry_taken key val does d v n w p ≡ Some u →
      (w ≡ LengthDelimited) × (t : List ℕ) × (e : List ℕ) × (s : MapEntry K V) × IsVarint t (length e) × (p ≡ t ++ e) × IsEntry key val d e s
  unfolding entry_taken
  only_entries u w p h =
      let k = wire_taken LengthDelimited w (option_map (λ x. does v x.0 x.1) (whole_entry_in key val d (delimited_at p))) u h in
      let x = made_of (λ x. does v x.0 x.1) (whole_entry_in key val d (delimited_at p)) u k.1 in
      let y = at (delimited_at p) refl x.0 x.1 in
      (k.0, y.0, y.1, y.2, y.3, y.4, y.5)
    where
      said : (e : List ℕ) (r : Result (MapEntry K V) DecodeError) → entry_of key val d e ≡ r → (s : MapEntry K V) → value_of r ≡ Some s → IsEntry key val d e s
      said e (Ok z) is s h = agree_ok (entry_of key val d e) s (entry_sound key val d e) (is ∙ ap (λ y. Ok y) (some_same h))
      said e (Err f) is s h = cc

      at : (r : Result (List ℕ × List ℕ) DecodeError) → delimited_at p ≡ r → (x : List ℕ × MapEntry K V) → whole_entry_in key val d r ≡ Some x →
          (t : List ℕ) × (e : List ℕ) × (s : MapEntry K V) × IsVarint t (length e) × (p ≡ t ++ e) × IsEntry key val d e s
      at (Ok (e, [])) is x h =
          let y = made_of (λ s. (e, s)) (value_of (entry_of key val d e)) x h in
          let s = whole_of p e is in
          (s.0, e, y.0, s.1, s.2, said e (entry_of key val d e) refl y.0 y.1)
      at (Ok (e, b ∷ bs)) is x h = cc
      at (Err f) is x h = cc

-- ---- what is written, and what fields cost
-- the encodings of values, joined
pub encodings_joined : {V : Type 0} (encoding : V → List ℕ) (vs : List V) → encodings encoding vs ≡ concat (map encoding vs)
encodings_joined encoding [] = refl
encodings_joined encoding (v ∷ vs) = ap (λ (z : List ℕ). encoding v ++ z) (encodings_joined encoding vs)

module _ (cost : ℕ → List ℕ → BudgetLeft) (d n : ℕ) (t b more : List ℕ) (h : IsVarint t (length b)) where
  is_there : delimited_at ((t ++ b) ++ more) ≡ Ok (b, more)
  is_there = ap delimited_at (append_assoc t b more) ∙ delimited_complete t b more h

  -- a message costs what its bytes cost one level down
  pub bytes_cost : message_cost cost (suc d) n LengthDelimited ((t ++ b) ++ more) ≡ cost d b
  unfolding message_cost
  bytes_cost = rw is_there refl

pub elements_cost : (each : ℕ) (cost : ℕ → List ℕ → BudgetLeft) (d n : ℕ) (t b more : List ℕ) → IsVarint t (length b) →
    messages_cost each cost (suc d) n LengthDelimited ((t ++ b) ++ more) ≡ plus (units each) (cost d b)
unfolding messages_cost
elements_cost each cost d n t b more h = rw (is_there cost d n t b more h) refl

-- it costs nothing where no level is left, where no length and so many bytes are there, and of another wire type; an element costs its units
-- beside that
module _ (cost : ℕ → List ℕ → BudgetLeft) (n : ℕ) where
  pub no_level_cost : (bs : List ℕ) → message_cost cost 0 n LengthDelimited bs ≡ nothing
  unfolding message_cost
  no_level_cost bs = at (delimited_at bs)
    where
      at : (r : Result (List ℕ × List ℕ) DecodeError) → cost_of_payload cost 0 r ≡ nothing
      at (Ok p) = refl
      at (Err e) = refl

  pub no_bytes_cost : (d : ℕ) (bs : List ℕ) (e : DecodeError) → delimited_at bs ≡ Err e → message_cost cost d n LengthDelimited bs ≡ nothing
  unfolding message_cost
  no_bytes_cost d bs e h = ap (cost_of_payload cost d) h

  pub wire_cost : (d : ℕ) (w : WireType) (bs : List ℕ) → w ≢ LengthDelimited → message_cost cost d n w bs ≡ nothing
  unfolding message_cost
  wire_cost d w bs other = rw (same_false LengthDelimited w other) refl

  module _ (each d : ℕ) where
    pub units_beside : (bs : List ℕ) → messages_cost each cost d n LengthDelimited bs ≡ plus (units each) (message_cost cost d n LengthDelimited bs)
    unfolding message_cost messages_cost
    units_beside bs = refl

    pub list_wire_cost : (w : WireType) (bs : List ℕ) → w ≢ LengthDelimited → messages_cost each cost d n w bs ≡ nothing
    unfolding messages_cost
    list_wire_cost w bs other = rw (same_false LengthDelimited w other) refl

-- so does an entry what its bytes cost; fields of other wire types cost nothing
module _ (costs : ℕ → List ℕ → BudgetLeft) (d n : ℕ) where
  pub entry_costs : (t e more : List ℕ) → IsVarint t (length e) → entry_cost costs d n LengthDelimited ((t ++ e) ++ more) ≡ costs d e
  unfolding entry_cost
  entry_costs t e more h = rw (is_there costs d n t e more h) refl

  pub no_entry_costs : (bs : List ℕ) (f : DecodeError) → delimited_at bs ≡ Err f → entry_cost costs d n LengthDelimited bs ≡ nothing
  unfolding entry_cost
  no_entry_costs bs f h = ap (λ r. charge_by r (λ e. costs d e.0)) h

  pub others_are_free : (w : WireType) (bs : List ℕ) → w ≢ LengthDelimited → entry_cost costs d n w bs ≡ nothing
  unfolding entry_cost
  others_are_free w bs other = rw (same_false LengthDelimited w other) refl

-- which numbers a field may have
pub numbers_tested : (k : ℕ) → (is_number k ≡ true) ↔ ((0 < k) × (k < 2 ^ 29))
numbers_tested k = (
  (λ h. let n = number_of_test k h in (n.0, omega (arith, n.1))),
  (λ h. rw (lt-ltb 0 k h.0, lt-ltb k 536870912 (omega (arith, h.1))) refl),
)

-- ---- refusals
-- the error is that of the wire type, or of the payload
pub value_fault : {V : Type 0} (codec : Reading V) (d : ℕ) (old : V) (n : ℕ) (w : WireType) (bs : List ℕ) (e : DecodeError) → field_value_at codec d old n w bs ≡ Err e →
    (check_wire n codec.wire w ≡ Err e) ⊎ ((w ≡ codec.wire) × (value_at codec d old bs ≡ Err e))
value_fault codec d old n w bs e h = at (check_wire n codec.wire w) refl h
  where
    at : (r : Result (Unit {0}) DecodeError) → check_wire n codec.wire w ≡ r → (r >>= (λ _. value_at codec d old bs)) ≡ Err e →
        (check_wire n codec.wire w ≡ Err e) ⊎ ((w ≡ codec.wire) × (value_at codec d old bs ≡ Err e))
    at (Ok tt) is h = inr (checked_same n codec.wire w is, h)
    at (Err f) is h = inl (is ∙ ap (λ z. Err z) (err_same h))
