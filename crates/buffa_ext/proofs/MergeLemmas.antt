-- One turn of a loop that merges the records of a number.
use Rattle.std.proofs.Common.{◌≡◌, ◌≢◌, ℕ, ◌+◌, ◌<◌, Bool, List, [], ◌∷◌, ◌++◌, ◌||◌, Option, Ok, Err, refl, sym, ◌∙◌, ap, take, drop, length, get_or, arith, subst}
use Rattle.std.proofs.lemmas.List.Elements.{filter_map-append}
use Rattle.buffa_bytes.specs.declared.error.DecodeError.{DecodeError}
use Rattle.buffa_bytes.specs.declared.error.DecodeError.TheVariants.{OutOfMemory}
use Rattle.buffa_bytes.proofs.FieldLemmas.{tag_falls}
use Rattle.buffa_wire.specs.RecordReading.{ListTakesMemory}
use Rattle.buffa_wire.specs.BudgetLeft.{BudgetLeft}
use Rattle.buffa_wire.specs.Records.{FieldData}
use Rattle.buffa_wire.specs.RecordsOfValues.{records_in, field_data_of}
use Rattle.buffa_wire.specs.declared.unknown_fields.UnknownField.{UnknownField}
use Rattle.buffa_codec.specs.RecordsOfNumber.{sub}
use Rattle.buffa_codec.proofs.TurnLemmas.{sub-cut, sub-take_other, sub-take_same}
use Rattle.buffa_ext.specs.Messages.{IsAllMerged, StopsAt, StopsPartlyMerged, encodings_in}
use Rattle.buffa_ext.specs.MessageFacts.{merged_more, encoding_refused}

module _ (held : FieldData → Option (List ℕ)) (n : ℕ) (xs : List UnknownField) (i : ℕ) (x : UnknownField) (lt : i < length xs) (e : x ≡ get_or xs i x) where
  encodings_more : x.number ≡ n → encodings_in held (sub n (records_in (take (i + 1) xs))) ≡ encodings_in held (sub n (records_in (take i xs))) ++ encodings_in held (field_data_of x.payload ∷ [])
  encodings_more same = ap (encodings_in held) (sub-take_same n xs i x lt e same) ∙ filter_map-append held (sub n (records_in (take i xs))) (field_data_of x.payload ∷ [])

  encodings_same : x.number ≢ n → encodings_in held (sub n (records_in (take (i + 1) xs))) ≡ encodings_in held (sub n (records_in (take i xs)))
  encodings_same other = ap (encodings_in held) (sub-take_other n xs i x lt e other)

  module _ {X : Type 0} (merged : X → List ℕ → Option X) (cost : List ℕ → BudgetLeft) (old mid : X) (b m : BudgetLeft) (f : Bool)
      (h : IsAllMerged merged cost (encodings_in held (sub n (records_in (take i xs)))) old b (Ok f) mid m) where
    -- a record of the number is merged
    pub one_more : (new newer : X) (a after : BudgetLeft) (g found : Bool) → x.number ≡ n → newer ≡ new → after ≡ a → found ≡ (f || g)
        → IsAllMerged merged cost (encodings_in held (field_data_of x.payload ∷ [])) mid m (Ok g) new a
        → IsAllMerged merged cost (encodings_in held (sub n (records_in (take (i + 1) xs)))) old b (Ok found) newer after
    one_more new newer a after g found same en ea ef k =
        subst (λ l. IsAllMerged merged cost l old b (Ok found) newer after) (sym (encodings_more same))
        (subst (λ y. IsAllMerged merged cost (encodings_in held (sub n (records_in (take i xs))) ++ encodings_in held (field_data_of x.payload ∷ [])) old b (Ok found) y after) (sym en)
        (subst (λ y. IsAllMerged merged cost (encodings_in held (sub n (records_in (take i xs))) ++ encodings_in held (field_data_of x.payload ∷ [])) old b (Ok found) new y) (sym ea)
        (merged_more merged cost (encodings_in held (sub n (records_in (take i xs)))) (encodings_in held (field_data_of x.payload ∷ [])) old mid new f g found b m a ef h k)))

    -- another record is passed over
    pub passed_over : (newer : X) (after : BudgetLeft) (found : Bool) → x.number ≢ n → newer ≡ mid → after ≡ m → found ≡ f
        → IsAllMerged merged cost (encodings_in held (sub n (records_in (take (i + 1) xs)))) old b (Ok found) newer after
    passed_over newer after found other en ea ef =
        subst (λ l. IsAllMerged merged cost l old b (Ok found) newer after) (sym (encodings_same other))
        (subst (λ y. IsAllMerged merged cost (encodings_in held (sub n (records_in (take i xs)))) old b (Ok found) y after) (sym en)
        (subst (λ y. IsAllMerged merged cost (encodings_in held (sub n (records_in (take i xs)))) old b (Ok found) mid y) (sym ea)
        (subst (λ y. IsAllMerged merged cost (encodings_in held (sub n (records_in (take i xs)))) old b (Ok y) mid m) (sym ef) h)))

    -- the encoding in a record of the number is refused
    pub stops_here : (asks : FieldData → Type 0) (new : X) (a : BudgetLeft) (err : DecodeError) (all : List (ℕ × FieldData)) → x.number ≡ n → records_in xs ≡ all
        → IsAllMerged merged cost (encodings_in held (field_data_of x.payload ∷ [])) mid m (Err err) new a → encodings_in held (field_data_of x.payload ∷ []) ≢ [] → (err ≡ OutOfMemory → asks (field_data_of x.payload))
        → StopsAt merged cost held asks (sub n all) old b err a
    stops_here asks new a err all same whole k some full = (
      sub n (records_in (take i xs)),
      field_data_of x.payload,
      sub n (records_in (drop (i + 1) xs)),
      mid,
      m,
      ap (sub n) (sym whole) ∙ sub-cut n xs i x lt e same,
      (h.1, h.2),
      encoding_refused merged cost held asks (field_data_of x.payload) (held (field_data_of x.payload)) mid new m a err refl some full k,
    )

    -- and such stands then
    pub partly_merged_here : (asks : FieldData → Type 0) (PartlyMergedBy : FieldData → X → BudgetLeft → DecodeError → X → Type 0) (new : X) (a : BudgetLeft) (err : DecodeError) (all : List (ℕ × FieldData)) → x.number ≡ n → records_in xs ≡ all
        → IsAllMerged merged cost (encodings_in held (field_data_of x.payload ∷ [])) mid m (Err err) new a → encodings_in held (field_data_of x.payload ∷ []) ≢ [] → (err ≡ OutOfMemory → asks (field_data_of x.payload))
        → PartlyMergedBy (field_data_of x.payload) mid m err new → StopsPartlyMerged merged cost held asks PartlyMergedBy (sub n all) old b err new a
    partly_merged_here asks PartlyMergedBy new a err all same whole k some full s = (
      sub n (records_in (take i xs)),
      field_data_of x.payload,
      sub n (records_in (drop (i + 1) xs)),
      mid,
      m,
      ap (sub n) (sym whole) ∙ sub-cut n xs i x lt e same,
      (h.1, h.2),
      encoding_refused merged cost held asks (field_data_of x.payload) (held (field_data_of x.payload)) mid new m a err refl some full k,
      s,
    )

-- ---- memory

-- bytes that take memory where they are read as records are some
pub list_has_byte : (d s : ℕ) (bs : List ℕ) → ListTakesMemory d s bs → bs ≢ []
list_has_byte d s bs h none = omega (arith, tag_falls bs h.0 h.1, ap length none)
