-- Records are what fields say.
use Rattle.std.proofs.Common.{◌≡◌, ℕ, zero, suc, ◌-◌, List, refl, sym, subst, arith}
use Rattle.std.specs.Int.{from_le_bytes, w32, w64}
use Rattle.buffa_bytes.specs.declared.wire_type.WireType.{WireType}
use Rattle.buffa_bytes.specs.declared.wire_type.WireType.TheVariants as wire
use Rattle.buffa_bytes.specs.Join.{Join}
use Rattle.buffa_bytes.specs.Join.Join.{none, more}
use Rattle.buffa_bytes.specs.Field.{IsTag, Payload, PayloadOver, SomeFieldOver, SomeField, Group}
use Rattle.buffa_wire.specs.Records.{FieldData, varint, fixed32, fixed64, bytes, group, Records, no_records, one}
use Rattle.buffa_wire.specs.Encoding.{wire_of}
use Rattle.buffa_wire.specs.Parse.{Parse, IsPayload}

pub one_deeper : (d : ℕ) → suc d - 1 ≡ d
one_deeper d = omega arith

module _ (d : ℕ) (G : ℕ → List ℕ → Type 0) (inside : (f : ℕ) (p : List ℕ) → G f p → (rs : Records) × IsPayload d f (group rs) p) where
  payload_record : (f : ℕ) (w : WireType) (p : List ℕ) → PayloadOver G f w p → (x : FieldData) × IsPayload d f x p × (wire_of x ≡ w)
  payload_record f wire.Varint p h = (varint h.0, h.1, refl)
  payload_record f wire.Fixed64 p h = (fixed64 (from_le_bytes w64 p), (h, refl), refl)
  payload_record f wire.LengthDelimited p (t, v, u, is) = (bytes v, (t, u, is), refl)
  payload_record f wire.StartGroup p h = let r = inside f p h in (group r.0, r.1, refl)
  payload_record f wire.EndGroup p h = absurd h
  payload_record f wire.Fixed32 p h = (fixed32 (from_le_bytes w32 p), (h, refl), refl)

  join_records_in : (b : List ℕ) → Join (SomeFieldOver G) b → (rs : Records) × Parse d b rs
  join_records_in b none = (no_records, refl)
  join_records_in b (more first rest (f, w, (t, p, tag, payload, is)) j) =
      let x = payload_record f w p payload in
      let r = join_records_in rest j in
      (one f x.0 r.0, (first, rest, (t, p, subst (λ v. IsTag t f v) (sym x.2) tag, x.1, is), r.1, refl))

group_records : (d f : ℕ) (p : List ℕ) → Group d f p → (rs : Records) × IsPayload d f (group rs) p
unfolding Group
group_records zero f p h = absurd h
group_records (suc d) f p (b, t, j, tag, is) =
    let r = join_records_in d (Group d) (group_records d) b j in
    (r.0, (omega arith, b, t, subst (λ k. Parse k b r.0) (sym (one_deeper d)) r.1, tag, is))

-- payloads are those of records
pub record_of_payload : (d n : ℕ) (w : WireType) (p : List ℕ) → Payload d n w p → (x : FieldData) × IsPayload d n x p × (wire_of x ≡ w)
record_of_payload d n w p h = payload_record d (Group d) (group_records d) n w p h

pub join_records : (d : ℕ) (b : List ℕ) → Join (SomeField d) b → (rs : Records) × Parse d b rs
join_records d b j = join_records_in d (Group d) (group_records d) b j

mutual
  unfolding Group

  pub records_join : (rs : Records) (d : ℕ) (b : List ℕ) → Parse d b rs → Join (SomeField d) b
  records_join no_records d b p = subst (λ z. Join (SomeField d) z) (sym p) none
  records_join (one n x rs) d b (f, r, (t, q, tag, payload, is), next, all) =
      subst (λ z. Join (SomeField d) z) (sym all) (more f r (n, wire_of x, (t, q, tag, payload_of_record x d n q payload, is)) (records_join rs d r next))

  pub payload_of_record : (x : FieldData) (d n : ℕ) (p : List ℕ) → IsPayload d n x p → PayloadOver (Group d) n (wire_of x) p
  payload_of_record (varint v) d n p h = (v, h)
  payload_of_record (fixed32 v) d n p h = h.0
  payload_of_record (fixed64 v) d n p h = h.0
  payload_of_record (bytes v) d n p (t, u, is) = (t, v, u, is)
  payload_of_record (group rs) zero n p (o, b, t, h, tag, is) = absurd (omega arith)
  payload_of_record (group rs) (suc d) n p (o, b, t, h, tag, is) = (b, t, records_join rs d b (subst (λ k. Parse k b rs) (one_deeper d) h), tag, is)
