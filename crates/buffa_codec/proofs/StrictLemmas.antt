-- One turn of a strict reading over the records of a number.
use Rattle.std.proofs.Common.{◌≡◌, ◌≢◌, ℕ, ◌+◌, ◌<◌, List, [], ◌∷◌, ◌++◌, Option, Some, None, refl, sym, ap, ◌∙◌, take, drop, length, get_or, subst, inl, inr}
use Rattle.buffa_bytes.specs.declared.error.DecodeError.{DecodeError}
use Rattle.buffa_bytes.proofs.ListLemmas.{AllByRecursion-last}
use Rattle.buffa_wire.specs.BudgetLeft.{BudgetLeft}
use Rattle.buffa_wire.specs.Records.{FieldData}
use Rattle.buffa_wire.specs.RecordsOfValues.{records_in, field_data_of}
use Rattle.buffa_wire.specs.declared.unknown_fields.UnknownField.{UnknownField}
use Rattle.buffa_codec.specs.Decoded.{Has}
use Rattle.buffa_codec.specs.Strict.{AreElements, Faultless, FirstElementFault, FirstFault, IsFaultOrFull}
use Rattle.buffa_codec.specs.RecordsOfNumber.{sub}
use Rattle.buffa_codec.proofs.TurnLemmas.{sub-cut, sub-take_other, sub-take_same}

elements_last : (IsElement : BudgetLeft → FieldData → Type 0) (leaves : BudgetLeft → FieldData → BudgetLeft → Type 0) (ds : List FieldData) (d : FieldData) (b mid left : BudgetLeft)
    → AreElements IsElement leaves b ds mid → IsElement mid d → leaves mid d left → AreElements IsElement leaves b (ds ++ d ∷ []) left
elements_last IsElement leaves [] d b mid left h k l = (left, subst (λ m. IsElement m d) h k, subst (λ m. leaves m d left) h l, refl)
elements_last IsElement leaves (x ∷ ds) d b mid left h k l = (h.0, h.1, h.2, elements_last IsElement leaves ds d h.0 mid left h.3 k l)

module _ (n : ℕ) (xs : List UnknownField) (i : ℕ) (x : UnknownField) (lt : i < length xs) (e : x ≡ get_or xs i x) where
  -- a record more has no fault, or it is of another number
  pub faultless_more : (fault : FieldData → Option DecodeError) → x.number ≡ n → Faultless fault (sub n (records_in (take i xs))) → None ≡ fault (field_data_of x.payload)
      → Faultless fault (sub n (records_in (take (i + 1) xs)))
  faultless_more fault same h k =
      subst (Faultless fault) (sym (sub-take_same n xs i x lt e same)) (AllByRecursion-last (λ d. fault d ≡ None) (sub n (records_in (take i xs))) (field_data_of x.payload) h (sym k))

  pub faultless_other : (fault : FieldData → Option DecodeError) → x.number ≢ n → Faultless fault (sub n (records_in (take i xs))) → Faultless fault (sub n (records_in (take (i + 1) xs)))
  faultless_other fault other h = subst (Faultless fault) (sym (sub-take_other n xs i x lt e other)) h

  -- a record has a fault
  pub fault_here : (fault : FieldData → Option DecodeError) (err : DecodeError) (all : List (ℕ × FieldData)) → x.number ≡ n → records_in xs ≡ all → Faultless fault (sub n (records_in (take i xs)))
      → Some err ≡ fault (field_data_of x.payload) → FirstFault fault (sub n all) err
  fault_here fault err all same whole h k =
      (sub n (records_in (take i xs)), field_data_of x.payload, sub n (records_in (drop (i + 1) xs)), ap (sub n) (sym whole) ∙ sub-cut n xs i x lt e same, h, sym k)

  module _ (IsElement : BudgetLeft → FieldData → Type 0) (leaves : BudgetLeft → FieldData → BudgetLeft → Type 0) (b mid : BudgetLeft) (h : AreElements IsElement leaves b (sub n (records_in (take i xs))) mid) where
    -- a record more is an element, or it is of another number
    pub element_more : (left : BudgetLeft) → x.number ≡ n → IsElement mid (field_data_of x.payload) → leaves mid (field_data_of x.payload) left → AreElements IsElement leaves b (sub n (records_in (take (i + 1) xs))) left
    element_more left same k l =
        subst (λ ds. AreElements IsElement leaves b ds left) (sym (sub-take_same n xs i x lt e same)) (elements_last IsElement leaves (sub n (records_in (take i xs))) (field_data_of x.payload) b mid left h k l)

    pub element_other : (left : BudgetLeft) → x.number ≢ n → left ≡ mid → AreElements IsElement leaves b (sub n (records_in (take (i + 1) xs))) left
    element_other left other same = subst (λ ds. AreElements IsElement leaves b ds left) (sym (sub-take_other n xs i x lt e other)) (subst (AreElements IsElement leaves b (sub n (records_in (take i xs)))) (sym same) h)

    -- a record has a fault, or takes memory
    pub element_fault_here : (Fault : BudgetLeft → FieldData → DecodeError → Type 0) (asks : FieldData → Type 0) (err : DecodeError) (all : List (ℕ × FieldData)) → x.number ≡ n → records_in xs ≡ all
        → IsFaultOrFull (Fault mid (field_data_of x.payload)) (asks (field_data_of x.payload)) err → IsFaultOrFull (FirstElementFault IsElement Fault leaves b (sub n all)) (Has asks (sub n all)) err
    element_fault_here Fault asks err all same whole (inl k) =
        inl (sub n (records_in (take i xs)), field_data_of x.payload, sub n (records_in (drop (i + 1) xs)), mid, ap (sub n) (sym whole) ∙ sub-cut n xs i x lt e same, h, k)
    element_fault_here Fault asks err all same whole (inr k) =
        inr (k.0, (sub n (records_in (take i xs)), field_data_of x.payload, sub n (records_in (drop (i + 1) xs)), k.1, ap (sub n) (sym whole) ∙ sub-cut n xs i x lt e same))
