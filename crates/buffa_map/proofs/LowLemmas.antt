-- What is merged isn't too deep: of an encoding that is merged each record is taken.
use Rattle.std.proofs.Common.{◌≡◌, ℕ, ◌-◌, ◌<◌, ◌≤◌, List, [], ◌∷◌, ◌++◌, Option, Some, None, refl, sym, ap, subst, ◌∙◌, arith, append_assoc}
use Rattle.std.specs.List.{AllByRecursion}
use Rattle.buffa_bytes.specs.Field.{IsTag, Payload}
use Rattle.buffa_bytes.specs.declared.error.DecodeError.TheVariants.{UnexpectedEof}
use Rattle.buffa_bytes.specs.declared.wire_type.WireType.{WireType}
use Rattle.buffa_wire.proofs.ByFieldLemmas.{read, refused}
use Rattle.buffa_wire.proofs.JoinLemmas.{join_records, payload_of_record}
use Rattle.buffa_wire.proofs.ParseLemmas.{encoding_parses, one_reading}
use Rattle.buffa_wire.proofs.TakesLemmas.{framed_at, framed_same, framed_sound, merged_of_fields}
use Rattle.buffa_wire.specs.DepthFacts.{height-records}
use Rattle.buffa_wire.specs.Encoding.{records_encoding, wire_of}
use Rattle.buffa_wire.specs.Parse.{IsPayload, Parse}
use Rattle.buffa_wire.specs.ReadableFacts.{Readable}
use Rattle.buffa_wire.specs.Records.{FieldData, Records, bytes, field_data_height, fixed32, fixed64, group, height, no_records, one, records_height, records_of, varint}
use Rattle.buffa_wire.specs.Takes.{Taker, answer, framed, merged_of}

-- ---- records that are read nest no deeper than the depth
mutual
  low_records : (rs : Records) (d : ℕ) (b : List ℕ) → Parse d b rs → records_height rs ≤ d
  low_records no_records d b h = omega arith
  low_records (one n x rs) d b (f, r, (t, p, tag, payload, is), next, all) = omega (arith, low_field_data x d n p payload, low_records rs d r next)

  low_field_data : (x : FieldData) (d n : ℕ) (p : List ℕ) → IsPayload d n x p → field_data_height x ≤ d
  low_field_data (varint v) d n p h = omega arith
  low_field_data (fixed32 v) d n p h = omega arith
  low_field_data (fixed64 v) d n p h = omega arith
  low_field_data (bytes v) d n p h = omega arith
  low_field_data (group rs) d n p (o, b, t, h, tag, is) = omega (arith, o, low_records rs (d - 1) b h)

-- ---- of an encoding that is merged each record is taken
module _ {X : Type 0} (takes : Taker X) (d : ℕ) where
  pub first_taken : (v w : X) (n : ℕ) (k : WireType) (t p r : List ℕ) → IsTag t n k → Payload d n k p → (o : Option X) → takes d v n k p ≡ o → merged_of takes d v (t ++ (p ++ r)) ≡ Some w →
      (u : X) × (takes d v n k p ≡ Some u) × (merged_of takes d u r ≡ Some w)
  unfolding merged_of
  first_taken v w n k t p r tag payload (Some u) is h =
      (u, is, sym (read d (framed takes d) (framed_sound takes d) (framed_same takes d) v n k t tag u (p ++ r) r (framed_at takes d v n k p r payload ∙ ap (answer r) is)) ∙ h)
  first_taken v w n k t p r tag payload None is h =
      let bad = sym (refused d (framed takes d) (framed_sound takes d) (framed_same takes d) v n k t tag (p ++ r) UnexpectedEof (framed_at takes d v n k p r payload ∙ ap (answer r) is)) ∙ h in cc

  -- a record that some value takes, by some payload of it
  abbrev pub IsTakenBySome : ℕ × FieldData → Type 0
  IsTakenBySome y = (v : X) × (u : X) × (p : List ℕ) × IsPayload d y.0 y.1 p × (takes d v y.0 (wire_of y.1) p ≡ Some u)

  each_taken : (rs : List (ℕ × FieldData)) (b : List ℕ) (v w : X) → Parse d b (records_of rs) → merged_of takes d v b ≡ Some w → AllByRecursion IsTakenBySome rs
  each_taken [] b v w parse h = tt
  each_taken (y ∷ ys) b v w (f, r, (t, p, tag, payload, is), next, all) h =
      let split : b ≡ t ++ (p ++ r) = all ∙ ap (λ z. z ++ r) is ∙ append_assoc t p r in
      let first = first_taken v w y.0 (wire_of y.1) t p r tag (payload_of_record y.1 d y.0 p payload) (takes d v y.0 (wire_of y.1) p) refl (ap (merged_of takes d v) (sym split) ∙ h) in
      ((v, first.0, p, payload, first.1), each_taken ys r first.0 w next first.2)

  pub records_taken : (rs : List (ℕ × FieldData)) (v w : X) → Readable (records_of rs) → merged_of takes d v (records_encoding rs) ≡ Some w → (height rs ≤ d) × AllByRecursion IsTakenBySome rs
  records_taken rs v w fits h =
      let own = encoding_parses (records_of rs) (records_height (records_of rs)) fits (omega arith) in
      let there = join_records d (records_encoding rs) (merged_of_fields takes d v w (records_encoding rs) h) in
      let same : records_of rs ≡ there.0 = one_reading (records_encoding rs) (records_height (records_of rs)) d (records_of rs) there.0 own there.1 in
      let here : Parse d (records_encoding rs) (records_of rs) = subst (λ z. Parse d (records_encoding rs) z) (sym same) there.1 in
      (subst (λ k. k ≤ d) (height-records rs) (low_records (records_of rs) d (records_encoding rs) here), each_taken rs (records_encoding rs) v w here h)

  too_high : (rs : List (ℕ × FieldData)) (v : X) → Readable (records_of rs) → d < height rs → (o : Option X) → merged_of takes d v (records_encoding rs) ≡ o → o ≡ None
  too_high rs v fits high None is = refl
  too_high rs v fits high (Some w) is = absurd (omega (arith, high, (records_taken rs v w fits is).0))

  -- records whose groups nest deeper aren't merged
  pub deep_records_are_refused : (rs : List (ℕ × FieldData)) (v : X) → Readable (records_of rs) → d < height rs → merged_of takes d v (records_encoding rs) ≡ None
  deep_records_are_refused rs v fits high = too_high rs v fits high (merged_of takes d v (records_encoding rs)) refl
