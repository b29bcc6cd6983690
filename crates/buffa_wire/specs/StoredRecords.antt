-- How the logic stores records.
use Rattle.std.proofs.Common.{◌≡◌, ℕ, List, refl, ap}
use Rattle.std.specs.Coded.{Coded, code_by, coded×, coded_ℕ, coded_list}
use base.Stored.{Gv, gnil, gnum, gcons}
use Rattle.buffa_wire.specs.Records.{FieldData, varint, fixed32, fixed64, bytes, group, Records, no_records, one, Held}

-- the parts of a stored pair
abbrev pub stored_head : Gv → Gv
stored_head gnil = gnil
stored_head (gnum n) = gnil
stored_head (gcons a b) = a

abbrev pub stored_tail : Gv → Gv
stored_tail gnil = gnil
stored_tail (gnum n) = gnil
stored_tail (gcons a b) = b

abbrev mutual
  pub field_data_code : FieldData → Gv
  field_data_code (varint v) = gcons (gnum 0) (gnum v)
  field_data_code (fixed32 v) = gcons (gnum 1) (gnum v)
  field_data_code (fixed64 v) = gcons (gnum 2) (gnum v)
  field_data_code (bytes bs) = gcons (gnum 3) ((coded_list coded_ℕ).code bs)
  field_data_code (group rs) = gcons (gnum 4) (records_code rs)

  pub records_code : Records → Gv
  records_code no_records = gnil
  records_code (one n d rs) = gcons (gnum n) (gcons (field_data_code d) (records_code rs))

mutual
  pub field_data_inj : (x y : FieldData) → field_data_code x ≡ field_data_code y → x ≡ y
  field_data_inj (varint a) (varint b) p = ap varint (coded_ℕ.inj a b (ap (λ g. stored_tail g) p))
  field_data_inj (fixed32 a) (fixed32 b) p = ap fixed32 (coded_ℕ.inj a b (ap (λ g. stored_tail g) p))
  field_data_inj (fixed64 a) (fixed64 b) p = ap fixed64 (coded_ℕ.inj a b (ap (λ g. stored_tail g) p))
  field_data_inj (bytes a) (bytes b) p = ap bytes ((coded_list coded_ℕ).inj a b (ap (λ g. stored_tail g) p))
  field_data_inj (group a) (group b) p = ap group (records_inj a b (ap (λ g. stored_tail g) p))
  field_data_inj _ _ p = absurd (cc)

  pub records_inj : (x y : Records) → records_code x ≡ records_code y → x ≡ y
  records_inj no_records no_records p = refl
  records_inj no_records (one n d rs) p = cc
  records_inj (one n d rs) no_records p = cc
  records_inj (one n d rs) (one m e qs) p =
      λ i. one (coded_ℕ.inj n m (ap (λ g. stored_head g) p) i) (field_data_inj d e (ap (λ g. stored_head (stored_tail g)) p) i) (records_inj rs qs (ap (λ g. stored_tail (stored_tail g)) p) i)

abbrev pub coded_field_data : Coded FieldData
coded_field_data = record { code = field_data_code; inj = field_data_inj }

abbrev pub coded_held : Coded Held
coded_held =
    code_by (List (ℕ × FieldData) × ℕ) (coded× (coded_list (coded× coded_ℕ coded_field_data)) coded_ℕ)
    (λ h. (h.records, h.spare)) (λ p. record { records = p.0; spare = p.1 }) (λ _. refl)
