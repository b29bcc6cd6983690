-- What is proved of fields of one wire type, and of messages that are read back from inside another.
use Rattle.std.proofs.Common.{◌≡◌, ℕ, zero, suc, ◌<◌, ◌==◌, ◌≤◌, Bool, true, false, List, [], ◌∷◌, ◌++◌, Option, Some, None, Result, Ok, refl, sym, ap, subst, ◌∙◌, arith, append_assoc, append-nil, if◌then◌else◌}
use Rattle.std.specs.List.{AllByRecursion}
use Rattle.std.specs.Option.{option_map}
use Rattle.buffa_bytes.proofs.DelimitedLemmas.{delimited_complete}
use Rattle.buffa_bytes.proofs.FieldLemmas.{same_true}
use Rattle.buffa_bytes.specs.Field.{Payload}
use Rattle.buffa_bytes.specs.Readings.{delimited_at, same_wire}
use Rattle.buffa_bytes.specs.Number.{IsNumber}
use Rattle.buffa_bytes.specs.Values.{tag_encoding}
use Rattle.buffa_bytes.specs.declared.error.DecodeError.{DecodeError}
use Rattle.buffa_bytes.specs.declared.wire_type.WireType.{WireType}
use Rattle.buffa_bytes.specs.declared.wire_type.WireType.TheVariants.{LengthDelimited}
use Rattle.buffa_wire.specs.BudgetLeft.{BudgetLeft, nothing}
use Rattle.buffa_wire.specs.Encoding.{records_encoding, tagged_encoding}
use Rattle.buffa_wire.specs.Message.{cost_of_payload, merged_in}
use Rattle.buffa_wire.specs.ReadableFacts.{Readable, ReadableFieldData}
use Rattle.buffa_wire.specs.Records.{FieldData, records_of}
use Rattle.buffa_wire.specs.Takes.{ReadsBack, Stays, Taker}
use Rattle.buffa_fields.specs.facts.ReadBackFacts.{one_back}
use Rattle.buffa_fields.specs.facts.ListFacts.{records_back}
use Rattle.buffa_fields.specs.Lists.{element_records}
use Rattle.buffa_fields.specs.Submessages.{taken_behind, taken_there}
use Rattle.buffa_fields.specs.RepeatedMessages.{messages_levels}

-- ---- a payload that is a length and so many bytes
pub delimited_alone : (d n : ℕ) (w : WireType) (p more bs : List ℕ) → w ≡ LengthDelimited → Payload d n w p → bs ≡ p ++ more → (b : List ℕ) × (delimited_at bs ≡ Ok (b, more)) × (delimited_at p ≡ Ok (b, []))
delimited_alone d n w p more bs wire h split =
    let u : Payload d n LengthDelimited p = subst (λ z. Payload d n z p) wire h in
    let whole : delimited_at bs ≡ Ok (u.1, more) = ap delimited_at (split ∙ ap (λ (z : List ℕ). z ++ more) u.3 ∙ append_assoc u.0 u.1 more) ∙ delimited_complete u.0 u.1 more u.2 in
    let alone : delimited_at p ≡ Ok (u.1, []) = ap delimited_at (u.3 ∙ ap (λ (z : List ℕ). u.0 ++ z) (sym (append-nil u.1))) ∙ delimited_complete u.0 u.1 [] u.2 in
    (u.1, whole, alone)

-- what is merged one level down has a level
pub level_there : {X : Type 0} (merged : ℕ → X → List ℕ → Option X) (d : ℕ) (old new : X) (b : List ℕ) → merged_in merged d old b ≡ Some new → 0 < d
level_there merged zero old new b is = cc
level_there merged (suc d) old new b is = omega arith

-- ---- costs
-- where fields of one wire type cost something, and no others, that is known by the payload
pub wire_stays : (WIRE : WireType) (cost : ℕ → List ℕ → BudgetLeft) → ((d n : ℕ) (p x : List ℕ) → Payload d n WIRE p → cost d (p ++ x) ≡ cost d p) → Stays (λ d n w bs. if same_wire WIRE w then cost d bs else nothing)
wire_stays WIRE cost stays d n w p x h = at (same_wire WIRE w) refl
  where
    at : (b : Bool) → same_wire WIRE w ≡ b → (if b then cost d (p ++ x) else nothing) ≡ (if b then cost d p else nothing)
    at true is = stays d n p x (subst (λ z. Payload d n z p) (sym (same_true WIRE w is)) h)
    at false is = refl

-- the same of a length and so many bytes, by these
pub delimited_stays : (cost : ℕ → Result (List ℕ × List ℕ) DecodeError → BudgetLeft) → ((d : ℕ) (b x y : List ℕ) → cost d (Ok (b, x)) ≡ cost d (Ok (b, y))) →
    Stays (λ d n w bs. if same_wire LengthDelimited w then cost d (delimited_at bs) else nothing)
delimited_stays cost stays = wire_stays LengthDelimited (λ d bs. cost d (delimited_at bs)) (λ d n p x h.
    let u = delimited_alone d n LengthDelimited p x (p ++ x) refl h refl in
    ap (cost d) u.1 ∙ stays d u.0 x [] ∙ ap (cost d) (sym u.2))

-- a message behind a length
pub payload_stays : (cost : ℕ → List ℕ → BudgetLeft) (d n : ℕ) (p x : List ℕ) → Payload d n LengthDelimited p → cost_of_payload cost d (delimited_at (p ++ x)) ≡ cost_of_payload cost d (delimited_at p)
payload_stays cost d n p x h =
    let u = delimited_alone d n LengthDelimited p x (p ++ x) refl h refl in
    ap (cost_of_payload cost d) u.1 ∙ ap (cost_of_payload cost d) (sym u.2)

-- ---- messages that read back, whatever their records are
module _ {X : Type 0} (takes : Taker X) (blank : X) (field_data : X → FieldData) (level : X → ℕ) (Normal : X → Type 0) (n : ℕ) (number : IsNumber n) (wire : WireType) (payload : X → List ℕ)
    (spelled : (v : X) → tagged_encoding n (field_data v) ≡ tag_encoding n wire ++ payload v)
    (one : (d : ℕ) (v : X) → ReadableFieldData (field_data v) → Normal v → suc (level v) ≤ d → Payload d n wire (payload v) × (takes d blank n wire (payload v) ≡ Some v)) (d : ℕ) where
  -- one, where none stood
  pub inside_back : (v : X) → ReadableFieldData (field_data v) → Normal v → suc (level v) ≤ d → ReadsBack (taken_there blank takes) (λ m. m == n) d None (records_encoding ((n, field_data v) ∷ [])) (Some v)
  inside_back v fits normal low =
      let first = one d v fits normal low in
      one_back (taken_there blank takes) n number wire (payload v) d None (Some v) (records_encoding ((n, field_data v) ∷ [])) (ap (λ (z : List ℕ). z ++ []) (spelled v)) first.0 (ap (option_map (λ x. Some x)) first.1)

  -- a list of them
  abbrev IsGood : X → Type 0
  IsGood v = ReadableFieldData (field_data v) × Normal v × (suc (level v) ≤ d)

  all_good : (vs : List X) → Readable (records_of (element_records field_data n vs)) → AllByRecursion Normal vs → messages_levels level vs ≤ d → AllByRecursion IsGood vs
  unfolding element_records
  all_good [] fits normal low = tt
  all_good (v ∷ vs) fits normal low = ((fits.1, normal.0, omega (arith, low)), all_good vs fits.2 normal.1 (omega (arith, low)))

  pub all_inside_back : (vs : List X) → Readable (records_of (element_records field_data n vs)) → AllByRecursion Normal vs → messages_levels level vs ≤ d →
      ReadsBack (taken_behind blank takes) (λ m. m == n) d [] (records_encoding (element_records field_data n vs)) vs
  all_inside_back vs fits normal low =
      records_back (taken_behind blank takes) field_data n number wire payload d IsGood spelled
      (λ old v good. let first = one d v good.0 good.1 good.2 in (first.0, ap (option_map (λ x. old ++ x ∷ [])) first.1)) vs (all_good vs fits normal low)
