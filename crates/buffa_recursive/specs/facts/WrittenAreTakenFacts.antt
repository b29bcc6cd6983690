-- What is proved of records that are merged as they are written: each is taken so.
use Rattle.std.proofs.Common.{◌≡◌, ℕ, ◌-◌, ◌≤◌, Bool, true, List, [], ◌∷◌, ◌++◌, length, Some, refl, sym, ap, ◌∙◌, arith, append_assoc}
use Rattle.std.proofs.lemmas.Nat.{from_le_bytes-to_le_bytes_4, from_le_bytes-to_le_bytes_8}
use Rattle.std.specs.List.{AllByRecursion}
use Rattle.buffa_bytes.proofs.FieldLemmas.{is_tag}
use Rattle.buffa_bytes.proofs.VarintLemmas.{IsVarint-varint_encoding}
use Rattle.buffa_bytes.specs.Number.{IsNumber}
use Rattle.buffa_bytes.specs.Values.{tag_encoding}
use Rattle.buffa_bytes.specs.Varint.{varint_encoding}
use Rattle.buffa_bytes.specs.declared.wire_type.WireType.TheVariants.{EndGroup}
use Rattle.buffa_wire.proofs.JoinLemmas.{payload_of_record}
use Rattle.buffa_wire.proofs.ParseLemmas.{encoding_parses}
use Rattle.buffa_wire.specs.Encoding.{fields_encoding, payload_encoding, records_encoding, wire_of}
use Rattle.buffa_wire.specs.Parse.{IsPayload}
use Rattle.buffa_wire.specs.ReadableFacts.{Readable, ReadableFieldData}
use Rattle.buffa_wire.specs.Records.{FieldData, bytes, field_data_height, fixed32, fixed64, group, height, records_of, varint}
use Rattle.buffa_wire.specs.Takes.{Taker, merged_of}
use Rattle.buffa_map.proofs.LowLemmas.{first_taken, records_taken}
use Rattle.buffa_fields.specs.Levels.{IsTakenWritten}

payload_written : (x : FieldData) (d n : ℕ) → IsNumber n → ReadableFieldData x → field_data_height x ≤ d → IsPayload d n x (payload_encoding n x)
payload_written (varint v) d n i h k = IsVarint-varint_encoding v h
payload_written (fixed32 v) d n i h k = (refl, sym (from_le_bytes-to_le_bytes_4 v h))
payload_written (fixed64 v) d n i h k = (refl, sym (from_le_bytes-to_le_bytes_8 v h))
payload_written (bytes v) d n i h k = (varint_encoding (length v), IsVarint-varint_encoding (length v) h, refl)
payload_written (group rs) d n i h k = (omega (arith, k), fields_encoding rs, tag_encoding n EndGroup, encoding_parses rs (d - 1) h (omega (arith, k)), is_tag n EndGroup i, refl)

module _ {X : Type 0} (takes : Taker X) (d : ℕ) where
  all_written : (rs : List (ℕ × FieldData)) (v w : X) → Readable (records_of rs) → height rs ≤ d → merged_of takes d v (records_encoding rs) ≡ Some w → AllByRecursion (IsTakenWritten takes d) rs
  all_written [] v w fits low h = tt
  all_written (y ∷ ys) v w fits low h =
      let tag = tag_encoding y.0 (wire_of y.1) in
      let payload = payload_encoding y.0 y.1 in
      let small : field_data_height y.1 ≤ d = omega (arith, low) in
      let split : records_encoding (y ∷ ys) ≡ tag ++ (payload ++ records_encoding ys) = append_assoc tag payload (records_encoding ys) in
      let whole = payload_of_record y.1 d y.0 payload (payload_written y.1 d y.0 fits.0 fits.1 small) in
      let first = first_taken takes d v w y.0 (wire_of y.1) tag payload (records_encoding ys) (is_tag y.0 (wire_of y.1) fits.0) whole (takes d v y.0 (wire_of y.1) payload) refl (ap (merged_of takes d v) (sym split) ∙ h) in
      ((fits.0, fits.1, small, v, first.0, first.1), all_written ys first.0 w fits.2 (omega (arith, low)) first.2)

  pub taken_written : (rs : List (ℕ × FieldData)) (v w : X) → Readable (records_of rs) → merged_of takes d v (records_encoding rs) ≡ Some w → AllByRecursion (IsTakenWritten takes d) rs
  taken_written rs v w fits h = all_written rs v w fits (records_taken takes d rs v w fits h).0 h

  pub height_low : (ys : List (ℕ × FieldData)) → AllByRecursion (IsTakenWritten takes d) ys → height ys ≤ d
  height_low [] h = omega arith
  height_low (y ∷ ys) h = omega (arith, h.0.2, height_low ys h.1)

  pub of_any_number : (D : ℕ → Bool) (ys : List (ℕ × FieldData)) → AllByRecursion (IsTakenWritten takes d) ys → AllByRecursion (λ y. D y.0 ≡ true → IsTakenWritten takes d y) ys
  of_any_number D [] h = tt
  of_any_number D (y ∷ ys) h = (λ has. h.0, of_any_number D ys h.1)
