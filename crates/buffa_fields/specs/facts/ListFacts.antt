-- What is proved of repeated fields.
use Rattle.std.proofs.Common.{◌≡◌, ℕ, ◌^◌, ◌==◌, ◌<◌, Bool, true, false, List, [], ◌∷◌, ◌++◌, length, map, Some, Ok, IsOk, refl, sym, ap, subst, ◌∙◌, arith, append_assoc, append-nil, length-append}
use Rattle.std.specs.List.{AllByRecursion}
use Rattle.std.proofs.lemmas.List.{map-append}
use Rattle.buffa_bytes.proofs.PayloadValueLemmas.{payload_value_complete, has_byte}
use Rattle.buffa_bytes.proofs.StepLemmas.{Agrees, agree_bind, agree_ok}
use Rattle.buffa_bytes.specs.PayloadValue.{PayloadValue, HasPayloadValue, payload_value_at}
use Rattle.buffa_bytes.specs.Readings.{same_wire, ◌>>=◌}
use Rattle.buffa_bytes.specs.declared.wire_type.WireType.{WireType}
use Rattle.buffa_bytes.specs.declared.wire_type.WireType.TheVariants.{LengthDelimited}
use Rattle.buffa_bytes.proofs.SequenceLemmas.{along_none, along_ok}
use Rattle.buffa_bytes.specs.Field.{Payload}
use Rattle.buffa_bytes.specs.Number.{IsNumber}
use Rattle.buffa_wire.specs.ReadableFacts.{Readable}
use Rattle.buffa_wire.specs.Passes.{cap}
use Rattle.buffa_wire.specs.Records.{FieldData, records_of}
use Rattle.buffa_wire.specs.Encoding.{records_encoding, tagged_encoding, encodings}
use Rattle.buffa_bytes.specs.Values.{delimited_encoding, tag_encoding}
use Rattle.buffa_map.proofs.EntryLemmas.{value_sound}
use Rattle.buffa_map.specs.Codec.{Reading, ValueFault, Writing, value_at}
use Rattle.buffa_fields.specs.Lists.{element_at, element_records, elements_in, elements_taken, packed_records}
use Rattle.buffa_wire.specs.Takes.{ReadsBack, Taker}
use Rattle.buffa_fields.specs.facts.ValueFacts.{delimited_payload, delimited_whole, front_back, value_back, wires_agree}
use Rattle.buffa_wire.proofs.ByValueLemmas.{ByValue}
use Rattle.buffa_fields.specs.facts.ReadBackFacts.{all_back, no_pieces, one_back}

-- ---- elements, one after the other
module _ {V : Type 0} (codec : Reading V) (d : ℕ) where
  -- this payload at the front is read as an element
  abbrev pub Reads : List V → List ℕ → List V → List ℕ → Type 0
  Reads vs bs new rest =
      (v : V × Bool) × (p : List ℕ) × (c : PayloadValue) × HasPayloadValue codec.wire p c × (codec.reads d codec.blank c ≡ Ok v) × (new ≡ vs ++ v.0 ∷ []) × (bs ≡ p ++ rest)

  pub element_sound : (vs : List V) (bs : List ℕ) → Agrees (element_at codec d vs bs) (λ x. Reads vs bs x.0 x.1) (ValueFault codec d codec.blank bs)
  element_sound vs bs = agree_bind (value_sound codec d codec.blank bs)
      (λ x u. record { holds = (x.0, u.1, u.2, u.3, u.4, refl, u.5) })
      (λ e h. h)

  pub element_falls : (vs : List V) (bs : List ℕ) (x : List V × List ℕ) → element_at codec d vs bs ≡ Ok x → length x.1 < length bs
  element_falls vs bs x h =
      let u = agree_ok (element_at codec d vs bs) x (element_sound vs bs) h in
      omega (arith, has_byte codec.wire u.1 u.2 u.3, ap length u.6, length-append u.1 x.1)

  pub elements_end : (vs : List V) → elements_in codec d vs [] ≡ Ok vs
  unfolding elements_in
  elements_end vs = along_none (element_at codec d) element_falls vs

  pub elements_next : (vs us : List V) (bs x : List ℕ) → 0 < length bs → element_at codec d vs bs ≡ Ok (us, x) → elements_in codec d vs bs ≡ elements_in codec d us x
  unfolding elements_in
  elements_next vs us bs x some h = along_ok (element_at codec d) element_falls vs us bs x some h

-- ---- the encoding reads back
-- a record for each element, which goes behind the others
module _ {V : Type 0} (takes : Taker (List V)) (field_data : V → FieldData) (n : ℕ) (number : IsNumber n) (wire : WireType) (payload : V → List ℕ) (d : ℕ) (Good : V → Type 0)
    (spelled : (v : V) → tagged_encoding n (field_data v) ≡ tag_encoding n wire ++ payload v)
    (one : (old : List V) (v : V) → Good v → Payload d n wire (payload v) × (takes d old n wire (payload v) ≡ Some (old ++ v ∷ []))) where
  pub records_back : (vs : List V) → AllByRecursion Good vs → ReadsBack takes (λ m. m == n) d [] (records_encoding (element_records field_data n vs)) vs
  unfolding element_records
  records_back vs good =
      all_back takes n number wire payload d Good (λ vs. records_encoding (element_records field_data n vs)) refl (λ v vs. ap (λ (z : List ℕ). z ++ records_encoding (element_records field_data n vs)) (spelled v))
      (λ old vs. old ++ vs) append-nil (λ old v vs. append_assoc old (v ∷ []) vs) one [] vs good

module _ {V : Type 0} (reading : Reading V) (writing : Writing V) (field_data : V → FieldData) (n : ℕ) (is_number : IsNumber n) (d : ℕ) (plain : reading.nested ≡ false)
    (WIRE : WireType) (wire : reading.wire ≡ WIRE) (written : writing.wire ≡ WIRE) (Fit Normal : V → Type 0)
    (reads_back : (d : ℕ) (old v : V) → Fit v → Normal v → (c : PayloadValue) × HasPayloadValue writing.wire (writing.encoding v) c × (reading.reads d old c ≡ Ok (v, true)))
    (field_data_encoding : (n : ℕ) (v : V) → tag_encoding n writing.wire ++ writing.encoding v ≡ tagged_encoding n (field_data v)) where
  element_back : (old : List V) (v : V) → Fit v × Normal v → Payload d n writing.wire (writing.encoding v) × (elements_taken reading d old n writing.wire (writing.encoding v) ≡ Some (old ++ v ∷ []))
  unfolding elements_taken
  element_back old v good =
      let one = value_back reading writing d plain WIRE wire written Fit Normal reads_back n reading.blank v good.0 good.1 in
      (one.0, rw (wires_agree reading writing d plain WIRE wire written Fit Normal reads_back, one.1) refl)

  pub elements_back : (vs : List V) → AllByRecursion (λ v. Fit v × Normal v) vs → ReadsBack (elements_taken reading) (λ m. m == n) d [] (records_encoding (element_records field_data n vs)) vs
  elements_back vs h =
      records_back (elements_taken reading) field_data n is_number writing.wire writing.encoding d (λ v. Fit v × Normal v) (λ v. sym (field_data_encoding n v)) element_back vs h

  -- ---- packed
  unpacks : (acc vs : List V) → AllByRecursion (λ v. Fit v × Normal v) vs → elements_in reading d acc (encodings writing.encoding vs) ≡ Ok (acc ++ vs)
  unpacks acc [] h = elements_end reading d acc ∙ ap (λ z. Ok z) (sym (append-nil acc))
  unpacks acc (v ∷ vs) h =
      let r = reads_back d reading.blank v h.0.0 h.0.1 in
      let rest = encodings writing.encoding vs in
      let some : 0 < length (writing.encoding v ++ rest) = omega (arith, has_byte writing.wire (writing.encoding v) r.0 r.1, length-append (writing.encoding v) rest) in
      elements_next reading d acc (acc ++ v ∷ []) (writing.encoding v ++ rest) rest some (rw (front_back reading writing d plain WIRE wire written Fit Normal reads_back reading.blank v rest h.0.0 h.0.1) refl)
      ∙ unpacks (acc ++ v ∷ []) vs h.1 ∙ ap (λ z. Ok z) (append_assoc acc (v ∷ []) vs)

  pub takes_packed : same_wire reading.wire LengthDelimited ≡ false → (vs : List V) → AllByRecursion (λ v. Fit v × Normal v) vs → length (encodings writing.encoding vs) < 2 ^ 64 →
      elements_taken reading d [] n LengthDelimited (delimited_encoding (encodings writing.encoding vs)) ≡ Some vs
  unfolding elements_taken
  takes_packed off vs h fits = rw (off, delimited_whole (encodings writing.encoding vs) fits, unpacks [] vs h) refl

  pub packed_field_back : same_wire reading.wire LengthDelimited ≡ false → (vs : List V) → Readable (records_of (packed_records writing.encoding n vs)) → AllByRecursion (λ v. Fit v × Normal v) vs →
      ReadsBack (elements_taken reading) (λ m. m == n) d [] (records_encoding (packed_records writing.encoding n vs)) vs
  unfolding packed_records
  packed_field_back differs_only [] fits h = no_pieces (elements_taken reading) (λ m. m == n) d []
  packed_field_back differs_only (v ∷ vs) fits h =
      let b = encodings writing.encoding (v ∷ vs) in
      one_back (elements_taken reading) n is_number LengthDelimited (delimited_encoding b) d [] (v ∷ vs) (records_encoding (packed_records writing.encoding n (v ∷ vs))) refl
      (delimited_payload d n b fits.1) (takes_packed differs_only (v ∷ vs) h fits.1)

-- ---- what calls give
pub element_from : {V : Type 0} (codec : Reading V) (d : ℕ) (vs : List V) (bs : List ℕ) (blank : V) → codec.blank ≡ blank → (x : V) (known : Bool) (rest : List ℕ) →
    value_at codec d blank bs ≡ Ok ((x, known), rest) → element_at codec d vs bs ≡ Ok (vs ++ x ∷ [], rest)
element_from {V} codec d vs bs blank e x known rest h =
    ap (λ z. value_at codec d z bs >>= (λ x. let y : List V × List ℕ = (vs ++ x.0.0 ∷ [], x.1) in Ok y)) e ∙ rw h refl

-- a value that was read and pushed
pub element_pushed : {P V : Type 0} (meaning : P → V) (codec : Reading V) (d : ℕ) (xs ys : List P) (x : P) (bs : List ℕ) (blank : V) → codec.blank ≡ blank → (known : Bool) (rest : List ℕ) →
    value_at codec d blank bs ≡ Ok ((meaning x, known), rest) → ys ≡ xs ++ x ∷ [] → element_at codec d (map meaning xs) bs ≡ Ok (map meaning ys, rest)
element_pushed {V = V} meaning codec d xs ys x bs blank same known rest h e =
    element_from codec d (map meaning xs) bs blank same (meaning x) known rest h
    ∙ ap (λ (z : List V). let y : List V × List ℕ = (z, rest) in Ok y) (sym (ap (map meaning) e ∙ map-append meaning xs (x ∷ [])))

pub payload_value_there : {V : Type 0} (codec : Reading V) (d : ℕ) (v : V) (bs : List ℕ) (x : (V × Bool) × List ℕ) → value_at codec d v bs ≡ Ok x → IsOk (payload_value_at codec.wire bs)
payload_value_there codec d v bs x h =
    let u = agree_ok (value_at codec d v bs) x (value_sound codec d v bs) h in
    subst (λ r. IsOk r) (sym (ap (payload_value_at codec.wire) u.5 ∙ payload_value_complete codec.wire u.1 u.2 x.1 u.3)) refl

-- ---- sizes and encodings, element by element
module _ {V : Type 0} (field_data : V → FieldData) (n : ℕ) where
  pub elements_none : records_encoding (element_records field_data n []) ≡ []
  unfolding element_records
  elements_none = refl

  pub elements_more : (v : V) (vs : List V) → records_encoding (element_records field_data n (v ∷ vs)) ≡ records_encoding ((n, field_data v) ∷ []) ++ records_encoding (element_records field_data n vs)
  unfolding element_records
  elements_more v vs = ap (λ z. z ++ records_encoding (element_records field_data n vs)) (sym (append-nil (tagged_encoding n (field_data v))))

  abbrev pub elements_by_value : ByValue V
  elements_by_value = record { list = λ vs. records_encoding (element_records field_data n vs); value = λ v. records_encoding ((n, field_data v) ∷ []); none = elements_none; next = elements_more }

  pub encoding_none : (old : List ℕ) → old ≡ old ++ records_encoding (element_records field_data n [])
  unfolding element_records
  encoding_none old = sym (append-nil old)

  pub count_none : 0 ≡ cap (length (records_encoding (element_records field_data n [])))
  unfolding element_records
  count_none = refl
