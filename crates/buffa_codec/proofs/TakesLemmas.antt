-- Records whose reading takes memory.
use Rattle.std.proofs.Common.{◌≡◌, ◌≢◌, ℕ, ◌+◌, ◌<◌, List, [], ◌∷◌, ◌++◌, Option, Some, None, Result, Ok, inl, inr, sym, ◌∙◌, ap, map, take, drop, length, get_or, subst}
use Rattle.std.specs.Result.{OnErr}
use Rattle.std.proofs.lemmas.List.{map-append}
use Rattle.buffa_bytes.proofs.ResultLemmas.{OnErr-always}
use Rattle.buffa_bytes.specs.declared.wire_type.WireType.{WireType}
use Rattle.buffa_wire.specs.BudgetLeft.{BudgetLeft}
use Rattle.buffa_bytes.specs.PayloadValue.{payload_value_at}
use Rattle.buffa_bytes.specs.PayloadValue.PayloadValue.{number}
use Rattle.buffa_wire.specs.Records.{FieldData, bytes}
use Rattle.buffa_wire.specs.RecordsOfValues.{records_in, field_data_of}
use Rattle.buffa_wire.specs.declared.unknown_fields.UnknownField.{UnknownField}
use Rattle.buffa_codec.specs.Packed.{numbers_in}
use Rattle.buffa_codec.specs.PackedFacts.{numbers_step}
use Rattle.buffa_codec.specs.Decoded.{AsksInList, Has, HasByte, elements, string_held, unpacked}
use Rattle.buffa_codec.specs.RecordsOfNumber.{sub}
use Rattle.buffa_codec.proofs.ListLemmas.{some_there}
use Rattle.buffa_codec.proofs.TurnLemmas.{sub-cut}

-- a record of the number that stands somewhere is such
pub has_record : {T E : Type 0} (r : Result T E) (P : FieldData → Type 0) (n : ℕ) (xs : List UnknownField) (i : ℕ) (x : UnknownField) (rs : List (ℕ × FieldData)) → i < length xs → x ≡ get_or xs i x → x.number ≡ n
    → records_in xs ≡ rs → P (field_data_of x.payload) → OnErr r (Has P (sub n rs))
has_record r P n xs i x rs lt e same whole p =
    OnErr-always r (sub n (records_in (take i xs)), field_data_of x.payload, sub n (records_in (drop (i + 1) xs)), p, ap (sub n) (sym whole) ∙ sub-cut n xs i x lt e same)

-- ---- elements of lists

module _ {M T E : Type 0} (r : Result T E) (asks : FieldData → Type 0) (one : BudgetLeft → FieldData → Option M) (packed : List ℕ → List M) (d : FieldData) where
  pub takes_own : asks d → OnErr r (AsksInList asks one packed d)
  takes_own h = OnErr-always r (inl h)

  one_element : (b : BudgetLeft) (v : M) → one b d ≡ Some v → elements packed d (one b d) ≢ []
  one_element b v e h = some_left v (sym (ap (elements packed d) e) ∙ h)
    where
      some_left : (w : M) → w ∷ [] ≡ [] → ⊥
      some_left w k = cc

  pub takes_value : (b : BudgetLeft) (v : M) → one b d ≡ Some v → OnErr r (AsksInList asks one packed d)
  takes_value b v e = OnErr-always r (inr (b, one_element b v e))

  pub takes_packed : (b : BudgetLeft) (bs : List ℕ) → d ≡ bytes bs → one b d ≡ None → packed bs ≢ [] → OnErr r (AsksInList asks one packed d)
  takes_packed b bs same e k = OnErr-always r (inr (b, λ h. k (sym (ap (unpacked packed) same) ∙ sym (ap (elements packed d) e) ∙ h)))

-- ---- packed numbers

pub packs_some : {M T E : Type 0} (r : Result T E) (w : WireType) (of : ℕ → M) (all rest left : List ℕ) (n : ℕ) (done : List ℕ) → payload_value_at w rest ≡ Ok (number n, left)
    → numbers_in w all ≡ done ++ numbers_in w rest → OnErr r (map of (numbers_in w all) ≢ [])
packs_some r w of all rest left n done e h =
    OnErr-always r (λ none. some_there (map of done) (map of (numbers_in w left)) (of n)
    (sym (ap (map of) (h ∙ ap (λ l. done ++ l) (numbers_step w rest (number n) left e)) ∙ map-append of done (n ∷ numbers_in w left)) ∙ none))

-- ---- strings

pub takes_text : {T E : Type 0} (r : Result T E) (d : FieldData) (b : List ℕ) → Some b ≡ string_held d → b ≢ [] → OnErr r (HasByte (string_held d))
takes_text r d b e some = OnErr-always r (subst HasByte e some)
