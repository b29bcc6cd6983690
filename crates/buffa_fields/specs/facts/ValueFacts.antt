-- What is proved of fields of one value: their encodings read back.
use Rattle.std.proofs.Common.{◌≡◌, ℕ, ◌^◌, ◌==◌, ◌<◌, Bool, true, false, List, [], ◌∷◌, ◌++◌, length, Option, Some, None, Ok, refl, sym, ap, subst, ◌∙◌, append-nil}
use Rattle.buffa_bytes.specs.PayloadValue.{PayloadValue, HasPayloadValue}
use Rattle.buffa_bytes.specs.PayloadValue.PayloadValue.{number, bytes}
use Rattle.buffa_bytes.specs.declared.wire_type.WireType.{WireType}
use Rattle.buffa_bytes.specs.declared.wire_type.WireType.TheVariants.{Varint, Fixed64, LengthDelimited, StartGroup, EndGroup, Fixed32}
use Rattle.buffa_bytes.specs.Field.{Payload}
use Rattle.buffa_bytes.specs.Number.{IsNumber}
use Rattle.buffa_map.proofs.EntryLemmas.{value_complete}
use Rattle.buffa_map.specs.Codec.{Reading, Writing, level, value_at}
use Rattle.buffa_wire.specs.Takes.{ReadsBack, Taker}
use Rattle.buffa_fields.specs.facts.ReadBackFacts.{no_pieces, one_back}
use Rattle.buffa_fields.specs.Values.{IfThere, some_records, some_taken, records_unless, value_taken}
use Rattle.buffa_bytes.proofs.FieldLemmas.{same_refl}
use Rattle.buffa_wire.specs.Records.{FieldData}
use Rattle.buffa_wire.specs.Encoding.{records_encoding, tagged_encoding}
use Rattle.buffa_bytes.specs.Values.{delimited_encoding, tag_encoding}
use Rattle.buffa_bytes.specs.Varint.{varint_encoding}
use Rattle.buffa_bytes.specs.Readings.{delimited_at, same_wire}
use Rattle.buffa_bytes.proofs.DelimitedLemmas.{delimited_back}
use Rattle.buffa_bytes.proofs.VarintLemmas.{IsVarint-varint_encoding}

-- ---- contents are payloads
pub payload_value_payload : (d n : ℕ) (w : WireType) (p : List ℕ) (c : PayloadValue) → HasPayloadValue w p c → Payload d n w p
payload_value_payload d n Varint p (number k) h = (k, h)
payload_value_payload d n Fixed64 p (number k) h = h.0
payload_value_payload d n LengthDelimited p (bytes b) h = (h.0, b, h.1, h.2)
payload_value_payload d n Fixed32 p (number k) h = h.0
payload_value_payload d n Varint p (bytes b) h = absurd h
payload_value_payload d n Fixed64 p (bytes b) h = absurd h
payload_value_payload d n LengthDelimited p (number k) h = absurd h
payload_value_payload d n Fixed32 p (bytes b) h = absurd h
payload_value_payload d n StartGroup p c h = absurd h
payload_value_payload d n EndGroup p c h = absurd h

-- a length and so many bytes are one, which holds these
pub delimited_payload : (d n : ℕ) (b : List ℕ) → length b < 2 ^ 64 → Payload d n LengthDelimited (delimited_encoding b)
delimited_payload d n b fits = (varint_encoding (length b), b, IsVarint-varint_encoding (length b) fits, refl)

pub delimited_whole : (b : List ℕ) → length b < 2 ^ 64 → delimited_at (delimited_encoding b) ≡ Ok (b, [])
delimited_whole b fits = ap delimited_at (sym (append-nil (delimited_encoding b))) ∙ delimited_back b [] fits

-- a codec without levels is open at each
pub open_level : {V : Type 0} (codec : Reading V) (d : ℕ) → codec.nested ≡ false → level codec.nested d ≡ Ok tt
open_level codec d plain = rw plain refl

-- ---- a value's encoding reads back
module _ {V : Type 0} (reading : Reading V) (writing : Writing V) (d : ℕ) (plain : reading.nested ≡ false)
    (WIRE : WireType) (wire : reading.wire ≡ WIRE) (written : writing.wire ≡ WIRE) (Fit Normal : V → Type 0)
    (reads_back : (d : ℕ) (old v : V) → Fit v → Normal v → (c : PayloadValue) × HasPayloadValue writing.wire (writing.encoding v) c × (reading.reads d old c ≡ Ok (v, true))) where
  same : reading.wire ≡ writing.wire
  same = wire ∙ sym written

  -- it is of the wire type that is read
  pub wires_agree : same_wire reading.wire writing.wire ≡ true
  wires_agree = ap (same_wire reading.wire) (sym same) ∙ same_refl reading.wire

  -- at the front, whatever stood
  pub front_back : (old v : V) (rest : List ℕ) → Fit v → Normal v → value_at reading d old (writing.encoding v ++ rest) ≡ Ok ((v, true), rest)
  front_back old v rest fit normal =
      let r = reads_back d old v fit normal in
      value_complete reading d old (writing.encoding v) rest r.0 (v, true) (open_level reading d plain) (subst (λ z. HasPayloadValue z (writing.encoding v) r.0) (sym same) r.1) r.2

  -- as a whole payload
  pub value_back : (n : ℕ) (old v : V) → Fit v → Normal v → Payload d n writing.wire (writing.encoding v) × (value_at reading d old (writing.encoding v) ≡ Ok ((v, true), []))
  value_back n old v fit normal =
      let r = reads_back d old v fit normal in
      (payload_value_payload d n writing.wire (writing.encoding v) r.0 r.1, ap (value_at reading d old) (sym (append-nil (writing.encoding v))) ∙ front_back old v [] fit normal)

module _ {V : Type 0} (reading : Reading V) (writing : Writing V) (field_data : V → FieldData) (n : ℕ) (number : IsNumber n) (d : ℕ) (plain : reading.nested ≡ false)
    (WIRE : WireType) (wire : reading.wire ≡ WIRE) (written : writing.wire ≡ WIRE) (Fit Normal : V → Type 0)
    (reads_back : (d : ℕ) (old v : V) → Fit v → Normal v → (c : PayloadValue) × HasPayloadValue writing.wire (writing.encoding v) c × (reading.reads d old c ≡ Ok (v, true)))
    (field_data_encoding : (n : ℕ) (v : V) → tag_encoding n writing.wire ++ writing.encoding v ≡ tagged_encoding n (field_data v)) where
  -- one field of the value, whatever stood
  one_piece : (old v : V) → Fit v → Normal v → Payload d n writing.wire (writing.encoding v) × (value_taken reading d old n writing.wire (writing.encoding v) ≡ Some v)
  one_piece old v fit normal =
      let one = value_back reading writing d plain WIRE wire written Fit Normal reads_back n old v fit normal in
      (one.0, rw (wires_agree reading writing d plain WIRE wire written Fit Normal reads_back, one.1) refl)

  -- what it leaves, by what takes it
  field_back : {X : Type 0} (takes : Taker X) (old new : X) (v : V) → Payload d n writing.wire (writing.encoding v) → takes d old n writing.wire (writing.encoding v) ≡ Some new →
      ReadsBack takes (λ m. m == n) d old (records_encoding ((n, field_data v) ∷ [])) new
  field_back takes old new v whole taken =
      one_back takes n number writing.wire (writing.encoding v) d old new (records_encoding ((n, field_data v) ∷ [])) (ap (λ (z : List ℕ). z ++ []) (sym (field_data_encoding n v))) whole taken

  pub some_back : (v : Option V) → IfThere (λ x. Fit x × Normal x) v → ReadsBack (some_taken reading) (λ m. m == n) d None (records_encoding (some_records field_data n v)) v
  some_back None h = no_pieces (some_taken reading) (λ m. m == n) d None
  some_back (Some v) h = let one = one_piece reading.blank v h.0 h.1 in field_back (some_taken reading) None (Some v) v one.0 (rw one.1 refl)

  -- a value that isn't written where it is the default
  pub implicit_back : (blank : V) (test : V → Bool) → ((v : V) → Normal v → test v ≡ true → v ≡ blank) → (v : V) → Fit v → Normal v →
      ReadsBack (value_taken reading) (λ m. m == n) d blank (records_encoding (records_unless (test v) ((n, field_data v) ∷ []))) v
  implicit_back blank test only v fit normal = at (test v) refl
    where
      at : (b : Bool) → test v ≡ b → ReadsBack (value_taken reading) (λ m. m == n) d blank (records_encoding (records_unless b ((n, field_data v) ∷ []))) v
      at true is = subst (λ z. ReadsBack (value_taken reading) (λ m. m == n) d blank [] z) (sym (only v normal is)) (no_pieces (value_taken reading) (λ m. m == n) d blank)
      at false is = let one = one_piece blank v fit normal in field_back (value_taken reading) blank v v one.0 one.1
