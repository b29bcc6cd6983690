-- What is proved of lists of closed enums whose undeclared numbers are put aside.
use Rattle.std.proofs.Common.{◌≡◌, ℕ, ℤ, ◌^◌, ◌<◌, ◌≤◌, ◌==◌, true, List, [], ◌∷◌, ◌++◌, length, map, Option, Some, None, Ok, refl, sym, ap, subst, ◌∙◌, append_assoc, append-nil}
use Rattle.std.specs.Int.{cast_unsigned, w64}
use Rattle.std.specs.List.{AllByRecursion}
use Rattle.std.specs.Option.{option_map}
use Rattle.buffa_bytes.proofs.IntLemmas.{int32_below, int32_means}
use Rattle.buffa_bytes.proofs.VarintLemmas.{IsVarint-varint_encoding}
use Rattle.buffa_bytes.specs.PayloadValue.{PayloadValue, HasPayloadValue}
use Rattle.buffa_bytes.specs.PayloadValue.PayloadValue.{number}
use Rattle.buffa_bytes.specs.Field.{Payload}
use Rattle.buffa_bytes.specs.Number.{IsNumber}
use Rattle.buffa_bytes.specs.Values.{delimited_encoding}
use Rattle.buffa_bytes.specs.Varint.{IsVarint, varint_encoding}
use Rattle.buffa_bytes.specs.declared.wire_type.WireType.{WireType}
use Rattle.buffa_bytes.specs.declared.wire_type.WireType.TheVariants.{LengthDelimited, Varint}
use Rattle.buffa_map.proofs.EntryLemmas.{value_complete}
use Rattle.buffa_map.specs.Codec.{value_at}
use Rattle.buffa_map.specs.Enums.{ClosedFits, closed_writing}
use Rattle.buffa_map.specs.Scalars.{varint_writing}
use Rattle.buffa_wire.proofs.TakesLemmas.{framed_at}
use Rattle.buffa_wire.specs.BudgetLeft.{charge_by}
use Rattle.buffa_wire.specs.Encoding.{encodings, records_encoding, wire_of}
use Rattle.buffa_wire.specs.Enums.{Numbers}
use Rattle.buffa_wire.specs.Parse.{IsPayload}
use Rattle.buffa_wire.specs.ReadableFacts.{Readable}
use Rattle.buffa_wire.specs.Records.{FieldData, bytes, fixed32, fixed64, group, records_of, varint}
use Rattle.buffa_wire.specs.Takes.{ReadsBack, Stays, Taker, answer}
use Rattle.buffa_fields.specs.UnknownsOfMembers.{Kept, kept_behind}
use Rattle.buffa_fields.specs.facts.ReadBackFacts.{all_back, no_pieces, one_back}
use Rattle.buffa_fields.specs.ClosedEnumLists.{declared_of, kept_numbers_cost, kept_numbers_taken, numbers_cost, numbers_put, sifted, sifted_cost, undeclared_of, varints}
use Rattle.buffa_fields.specs.ClosedEnumFields.{IsUnknownNumber}
use Rattle.buffa_fields.specs.facts.ListFacts.{takes_packed}
use Rattle.buffa_fields.specs.Lists.{element_records, elements_taken, packed_records}
use Rattle.buffa_fields.specs.facts.ValueFacts.{delimited_payload}

-- a whole varint
pub varint_alone : (d k : ℕ) (p : List ℕ) → IsVarint p k → value_at varints d 0 p ≡ Ok ((k, true), [])
varint_alone d k p h = ap (value_at varints d 0) (sym (append-nil p)) ∙ value_complete varints d 0 p [] (number k) (k, true) refl h refl

module _ (e : Numbers) where
  module _ (reads : Taker (List ℕ)) where
    -- ---- what it costs
    -- is known by the payload
    cost_of_answer : (n : ℕ) (x y : List ℕ) (o : Option (List ℕ)) → charge_by (answer x o) (λ z. numbers_cost e n z.0) ≡ charge_by (answer y o) (λ z. numbers_cost e n z.0)
    cost_of_answer n x y (Some ks) = refl
    cost_of_answer n x y None = refl

    front_cost : (d n : ℕ) (w : WireType) (p x : List ℕ) → Payload d n w p → sifted_cost e reads d n w (p ++ x) ≡ charge_by (answer x (reads d [] n w p)) (λ z. numbers_cost e n z.0)
    front_cost d n w p x h = ap (λ r. charge_by r (λ z. numbers_cost e n z.0)) (framed_at reads d [] n w p x h)

    pub sifted_stays : Stays (sifted_cost e reads)
    sifted_stays d n w p x h =
        front_cost d n w p x h ∙ cost_of_answer n x [] (reads d [] n w p) ∙ sym (ap (sifted_cost e reads d n w) (sym (append-nil p)) ∙ front_cost d n w p [] h)

    -- and is that of its varints
    pub sifted_costs : (d n : ℕ) (w : WireType) (p more ks : List ℕ) → Payload d n w p → reads d [] n w p ≡ Some ks → sifted_cost e reads d n w (p ++ more) ≡ numbers_cost e n ks
    sifted_costs d n w p more ks h is = front_cost d n w p more h ∙ ap (λ o. charge_by (answer more o) (λ z. numbers_cost e n z.0)) is

    -- ---- records are put behind those that are kept
    module _ {X : Type 0} (puts : X → List ℤ → X) where
      pub sifted_behind : (d : ℕ) (v : X) (kept : Kept) (n : ℕ) (w : WireType) (p : List ℕ) → sifted e reads puts d (v, kept) n w p ≡ option_map (kept_behind kept) (sifted e reads puts d (v, []) n w p)
      sifted_behind d v kept n w p = at (reads d [] n w p)
        where
          at : (o : Option (List ℕ)) → option_map (numbers_put e puts n (v, kept)) o ≡ option_map (kept_behind kept) (option_map (numbers_put e puts n (v, [])) o)
          at (Some ks) = refl
          at None = refl

      -- an undeclared number is put aside again
      pub sifted_again : (still : (v : X) → puts v [] ≡ v) (one : (d n k : ℕ) (p : List ℕ) → IsVarint p k → reads d [] n Varint p ≡ Some (k ∷ []))
          (k d : ℕ) (v : X) (x : FieldData) (p : List ℕ) → IsUnknownNumber e x → 0 ≤ d → IsPayload d k x p → sifted e reads puts d (v, []) k (wire_of x) p ≡ Some (v, (k, x) ∷ [])
      sifted_again still one k d v (varint m) p unknowns low h = rw (one d k m p h, unknowns) (ap (λ (z : X). let y : X × Kept = (z, (k, varint m) ∷ []) in Some y) (still v))
      sifted_again still one k d v (fixed32 m) p unknowns low h = absurd unknowns
      sifted_again still one k d v (fixed64 m) p unknowns low h = absurd unknowns
      sifted_again still one k d v (bytes m) p unknowns low h = absurd unknowns
      sifted_again still one k d v (group m) p unknowns low h = absurd unknowns

  -- ---- numbers that are declared
  abbrev pub number_of : ℤ → ℕ
  number_of v = cast_unsigned w64 v

  pub all_declared : (vs : List ℤ) → AllByRecursion (λ v. ClosedFits e v × Unit {0}) vs → declared_of e (map number_of vs) ≡ vs
  all_declared [] h = refl
  all_declared (v ∷ vs) h = rw (int32_means v h.0.0.0, h.0.0.1) (ap (λ (z : List ℤ). v ∷ z) (all_declared vs h.1))

  pub none_undeclared : (n : ℕ) (vs : List ℤ) → AllByRecursion (λ v. ClosedFits e v × Unit {0}) vs → undeclared_of e n (map number_of vs) ≡ []
  none_undeclared n [] h = refl
  none_undeclared n (v ∷ vs) h = rw (int32_means v h.0.0.0, h.0.0.1) (none_undeclared n vs h.1)

  -- ---- lists
  abbrev joins : List ℤ → List ℤ → List ℤ
  joins vs us = vs ++ us

  element_alone : (d n k : ℕ) (p : List ℕ) → IsVarint p k → elements_taken varints d [] n Varint p ≡ Some (k ∷ [])
  unfolding elements_taken
  element_alone d n k p h = rw (varint_alone d k p h) refl

  pub kept_numbers_stays : Stays (kept_numbers_cost e)
  unfolding kept_numbers_cost
  kept_numbers_stays = sifted_stays (elements_taken varints)

  pub kept_numbers_behind : (d : ℕ) (v : List ℤ) (kept : Kept) (n : ℕ) (w : WireType) (p : List ℕ) → kept_numbers_taken e d (v, kept) n w p ≡ option_map (kept_behind kept) (kept_numbers_taken e d (v, []) n w p)
  unfolding kept_numbers_taken
  kept_numbers_behind = sifted_behind (elements_taken varints) joins

  pub kept_numbers_again : (k d : ℕ) (v : List ℤ) (x : FieldData) (p : List ℕ) → IsUnknownNumber e x → 0 ≤ d → IsPayload d k x p → kept_numbers_taken e d (v, []) k (wire_of x) p ≡ Some (v, (k, x) ∷ [])
  unfolding kept_numbers_taken
  kept_numbers_again = sifted_again (elements_taken varints) joins append-nil element_alone

  -- ---- they read back
  module _ (n : ℕ) (is_number : IsNumber n) (d : ℕ) where
    abbrev Good : ℤ → Type 0
    Good v = ClosedFits e v × Unit {0}

    abbrev put_all : List ℤ × Kept → List ℤ → List ℤ × Kept
    put_all x vs = (x.0 ++ vs, x.1)

    one_put : (x : List ℤ × Kept) (v : ℤ) → Good v → Payload d n Varint (varint_encoding (number_of v)) × (kept_numbers_taken e d x n Varint (varint_encoding (number_of v)) ≡ Some (put_all x (v ∷ [])))
    unfolding kept_numbers_taken
    one_put x v good =
        let is = IsVarint-varint_encoding (number_of v) (int32_below v good.0.0) in (
          (number_of v, is),
          rw (element_alone d n (number_of v) (varint_encoding (number_of v)) is, int32_means v good.0.0, good.0.1) (λ i. let y : List ℤ × Kept = (x.0 ++ v ∷ [], append-nil x.1 i) in Some y),
        )

    pub kept_elements_back : (vs : List ℤ) → AllByRecursion Good vs → ReadsBack (kept_numbers_taken e) (λ m. m == n) d ([], []) (records_encoding (element_records (λ v. varint (number_of v)) n vs)) (vs, [])
    unfolding element_records
    kept_elements_back vs good =
        all_back (kept_numbers_taken e) n is_number Varint (λ v. varint_encoding (number_of v)) d Good (λ vs. records_encoding (element_records (λ v. varint (number_of v)) n vs)) refl (λ v vs. refl)
        put_all (λ x. λ i. (append-nil x.0 i, x.1)) (λ x v vs. λ i. (append_assoc x.0 (v ∷ []) vs i, x.1)) one_put ([], []) vs good

    -- ---- packed
    spelled_so : (vs : List ℤ) → encodings varint_encoding (map number_of vs) ≡ encodings closed_writing.encoding vs
    spelled_so [] = refl
    spelled_so (v ∷ vs) = ap (λ (z : List ℕ). varint_encoding (number_of v) ++ z) (spelled_so vs)

    all_fit : (vs : List ℤ) → AllByRecursion Good vs → AllByRecursion (λ k. (k < 2 ^ 64) × Unit {0}) (map number_of vs)
    all_fit [] h = tt
    all_fit (v ∷ vs) h = ((int32_below v h.0.0.0, tt), all_fit vs h.1)

    varint_back : (d : ℕ) (old k : ℕ) → k < 2 ^ 64 → Unit {0} → (c : PayloadValue) × HasPayloadValue Varint (varint_encoding k) c × (varints.reads d old c ≡ Ok (k, true))
    varint_back d old k fits _ = (number k, IsVarint-varint_encoding k fits, refl)

    packed_alone : (vs : List ℤ) → AllByRecursion Good vs → length (encodings closed_writing.encoding vs) < 2 ^ 64 →
        elements_taken varints d [] n LengthDelimited (delimited_encoding (encodings closed_writing.encoding vs)) ≡ Some (map number_of vs)
    packed_alone vs good fits =
        let b = spelled_so vs in
        ap (λ (z : List ℕ). elements_taken varints d [] n LengthDelimited (delimited_encoding z)) (sym b)
        ∙ takes_packed varints (varint_writing (λ k. k)) varint n is_number d refl Varint refl refl (λ k. k < 2 ^ 64) (λ _. Unit {0}) varint_back (λ n v. refl) refl (map number_of vs) (all_fit vs good)
        (subst (λ (z : List ℕ). length z < 2 ^ 64) (sym b) fits)

    pub kept_packed_back : (vs : List ℤ) → Readable (records_of (packed_records closed_writing.encoding n vs)) → AllByRecursion Good vs →
        ReadsBack (kept_numbers_taken e) (λ m. m == n) d ([], []) (records_encoding (packed_records closed_writing.encoding n vs)) (vs, [])
    unfolding packed_records kept_numbers_taken
    kept_packed_back [] fits good = no_pieces (kept_numbers_taken e) (λ m. m == n) d ([], [])
    kept_packed_back (v ∷ vs) fits good =
        let b = encodings closed_writing.encoding (v ∷ vs) in
        one_back (kept_numbers_taken e) n is_number LengthDelimited (delimited_encoding b) d ([], []) (v ∷ vs, []) (records_encoding (packed_records closed_writing.encoding n (v ∷ vs))) refl
        (delimited_payload d n b fits.1)
        (ap (option_map (numbers_put e joins n ([], []))) (packed_alone (v ∷ vs) good fits.1) ∙ (λ i. let y : List ℤ × Kept = (all_declared (v ∷ vs) good i, none_undeclared n (v ∷ vs) good i) in Some y))
