-- What a repeated option is read as.
use Rattle.std.proofs.Common.{◌≡◌, ◌≢◌, inl, inr, ℕ, ℤ, List, [], ◌∷◌, ◌++◌, map, Option, option_map, refl, sym, ◌∙◌, ap}
use Rattle.std.specs.List.{flat_map}
use Rattle.buffa_bytes.proofs.ListLemmas.{nil_first, nil_second}
use Rattle.buffa_bytes.specs.Values.{int32_of}
use Rattle.buffa_bytes.specs.declared.wire_type.WireType.TheVariants.{Varint}
use Rattle.buffa_wire.specs.BudgetLeft.{BudgetLeft, defaults}
use Rattle.buffa_wire.specs.NumberInRecord.{varint_in}
use Rattle.buffa_wire.specs.Records.{FieldData, varint, fixed32, fixed64, bytes, group}
use Rattle.buffa_codec.specs.Packed.{numbers_in}
use Rattle.buffa_codec.specs.Decoded.{AsksInList, Has, ReadsAll, ReadsList, elements}
use Rattle.sample_validator.specs.Options.{int32s_in}

abbrev one : BudgetLeft → FieldData → Option ℤ
one b d = option_map int32_of (varint_in d)

abbrev leaves : BudgetLeft → FieldData → BudgetLeft → Type 0
leaves b d left = left ≡ b

abbrev packed : List ℕ → List ℤ
packed bs = map int32_of (numbers_in Varint bs)

in_record : (b : BudgetLeft) (d : FieldData) → elements packed d (one b d) ≡ int32s_in d
in_record b (varint n) = refl
in_record b (fixed32 n) = refl
in_record b (fixed64 n) = refl
in_record b (bytes bs) = refl
in_record b (group rs) = refl

in_records : (b left : BudgetLeft) (ds : List FieldData) (vs : List ℤ) → ReadsAll one leaves packed b ds vs left → vs ≡ flat_map int32s_in ds
in_records b left [] vs h = h.0
in_records b left (d ∷ ds) vs (mid, rest, l, more, e) = e ∙ ap (λ x. x ++ rest) (in_record b d) ∙ ap (λ x. int32s_in d ++ x) (in_records mid left ds rest more)

pub in_list : (ds : List FieldData) (vs : List ℤ) → ReadsList one leaves packed ds vs → vs ≡ flat_map int32s_in ds
in_list ds vs h = in_records defaults h.0 ds vs h.1

-- ---- a record that has a number

some_there : {X A : Type 0} (f : X → List A) (front : List X) (d : X) (back : List X) → f d ≢ [] → flat_map f (front ++ d ∷ back) ≢ []
some_there f [] d back n e = n (nil_first (f d) (flat_map f back) e)
some_there f (x ∷ front) d back n e = some_there f front d back n (nil_second (f x) (flat_map f (front ++ d ∷ back)) e)

pub has_number : (ds : List FieldData) → Has (AsksInList (λ d. ⊥) one packed) ds → flat_map int32s_in ds ≢ []
has_number ds (front, d, back, inl h, e) none = absurd h
has_number ds (front, d, back, inr (b, n), e) none =
    some_there int32s_in front d back (λ k. n (in_record b d ∙ k)) (ap (flat_map int32s_in) (sym e) ∙ none)
