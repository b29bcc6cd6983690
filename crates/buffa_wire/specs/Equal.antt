-- Equality of records, as a test, and that it decides equality.
use Rattle.std.specs.Prelude.{◌≡◌, ℕ, Bool, true, false, ◌&&◌, nat_eq, refl}
use Rattle.std.specs.Bool.{Decides}
use Rattle.std.specs.Str.{bytes_eq}
use Rattle.std.proofs.Common.{ap}
use Rattle.std.proofs.lemmas.Slice.Eq.{bytes_eq-Decides}
use Rattle.std.proofs.lemmas.Bool.Decides.{Decides-eqb}
use Rattle.std.specs.Cmp.{IsEquivalence, nat_eq_equiv, decided, on_equiv, and_equiv, first_so, second_so}
use Rattle.std.proofs.lemmas.Bool.{and_from, false≢true}
use Rattle.buffa_wire.specs.RecordsOfValues.{field_data_of, record_of}
use Rattle.buffa_wire.specs.declared.unknown_fields.UnknownField.{UnknownField}
use Rattle.buffa_wire.specs.Records.{FieldData, varint, fixed32, fixed64, bytes, group, Records, no_records, one, records_of, Held}

abbrev mutual
  pub field_data_eq : FieldData → FieldData → Bool
  field_data_eq (varint a) (varint b) = nat_eq a b
  field_data_eq (fixed32 a) (fixed32 b) = nat_eq a b
  field_data_eq (fixed64 a) (fixed64 b) = nat_eq a b
  field_data_eq (bytes a) (bytes b) = bytes_eq a b
  field_data_eq (group a) (group b) = records_eq a b
  field_data_eq _ _ = false

  pub records_eq : Records → Records → Bool
  records_eq no_records no_records = true
  records_eq no_records (one m e qs) = false
  records_eq (one n d rs) no_records = false
  records_eq (one n d rs) (one m e qs) = nat_eq n m && (field_data_eq d e && records_eq rs qs)

nat_decides : (m n : ℕ) → Decides (nat_eq m n) (m ≡ n)
nat_decides m n = Decides-eqb m n

mutual
  pub field_data_eq-Decides : (x y : FieldData) → Decides (field_data_eq x y) (x ≡ y)
  field_data_eq-Decides (varint a) (varint b) = (λ h. ap varint ((nat_decides a b).0 h), λ e. (nat_decides a b).1 (cc))
  field_data_eq-Decides (fixed32 a) (fixed32 b) = (λ h. ap fixed32 ((nat_decides a b).0 h), λ e. (nat_decides a b).1 (cc))
  field_data_eq-Decides (fixed64 a) (fixed64 b) = (λ h. ap fixed64 ((nat_decides a b).0 h), λ e. (nat_decides a b).1 (cc))
  field_data_eq-Decides (bytes a) (bytes b) = (λ h. ap bytes ((bytes_eq-Decides a b).0 h), λ e. (bytes_eq-Decides a b).1 (cc))
  field_data_eq-Decides (group a) (group b) = (λ h. ap group ((records_eq-Decides a b).0 h), λ e. (records_eq-Decides a b).1 (cc))
  field_data_eq-Decides _ _ = (λ h. absurd (false≢true h), λ e. cc)

  pub records_eq-Decides : (x y : Records) → Decides (records_eq x y) (x ≡ y)
  records_eq-Decides no_records no_records = (λ h. refl, λ e. refl)
  records_eq-Decides no_records (one m e qs) = (λ h. absurd (false≢true h), λ e. cc)
  records_eq-Decides (one n d rs) no_records = (λ h. absurd (false≢true h), λ e. cc)
  records_eq-Decides (one n d rs) (one m e qs) = (
    λ h. let p = first_so (nat_eq n m) (field_data_eq d e && records_eq rs qs) h in
        let q = second_so (nat_eq n m) (field_data_eq d e && records_eq rs qs) h in
        λ i. one ((nat_decides n m).0 p i) ((field_data_eq-Decides d e).0 (first_so (field_data_eq d e) (records_eq rs qs) q) i) ((records_eq-Decides rs qs).0 (second_so (field_data_eq d e) (records_eq rs qs) q) i),
    λ w. and_from (nat_eq n m) (field_data_eq d e && records_eq rs qs) ((nat_decides n m).1 (cc)) (and_from (field_data_eq d e) (records_eq rs qs) ((field_data_eq-Decides d e).1 (cc)) ((records_eq-Decides rs qs).1 (cc))),
  )

pub records_eq_equiv : IsEquivalence records_eq
records_eq_equiv = decided records_eq records_eq-Decides

abbrev pub held_eq : Held → Held → Bool
held_eq a b = records_eq (records_of a.records) (records_of b.records)

pub held_eq_equiv : IsEquivalence held_eq
held_eq_equiv = on_equiv (λ h. records_of h.records) records_eq_equiv

pub field_data_eq_equiv : IsEquivalence field_data_eq
field_data_eq_equiv = decided field_data_eq field_data_eq-Decides

abbrev pub field_eq : UnknownField → UnknownField → Bool
field_eq a b = nat_eq a.number b.number && field_data_eq (field_data_of a.payload) (field_data_of b.payload)

pub field_eq_equiv : IsEquivalence field_eq
field_eq_equiv = and_equiv (on_equiv (λ (f : UnknownField). f.number) nat_eq_equiv) (on_equiv (λ (f : UnknownField). field_data_of f.payload) field_data_eq_equiv)

pub field_eq-Decides : (a b : UnknownField) → Decides (field_eq a b) (record_of a ≡ record_of b)
field_eq-Decides a b = (
  λ h. λ i. (
    (nat_decides a.number b.number).0 (first_so (nat_eq a.number b.number) (field_data_eq (field_data_of a.payload) (field_data_of b.payload)) h) i,
    (field_data_eq-Decides (field_data_of a.payload) (field_data_of b.payload)).0 (second_so (nat_eq a.number b.number) (field_data_eq (field_data_of a.payload) (field_data_of b.payload)) h) i,
  ),
  λ e. and_from _ _ ((nat_decides a.number b.number).1 (ap (λ (p : ℕ × FieldData). p.0) e)) ((field_data_eq-Decides (field_data_of a.payload) (field_data_of b.payload)).1 (ap (λ (p : ℕ × FieldData). p.1) e)),
)
