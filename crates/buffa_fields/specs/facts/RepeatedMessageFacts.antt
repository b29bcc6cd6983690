-- What is proved of lists of messages.
use Rattle.std.proofs.Common.{◌≡◌, ℕ, ◌+◌, ◌==◌, ◌<◌, ◌≤◌, min, List, [], ◌∷◌, ◌++◌, length, map, take, drop, get_or, Option, Some, Result, refl, sym, ap, subst, ◌∙◌, arith, append_assoc, append-nil}
use Rattle.std.specs.List.{AllByRecursion}
use Rattle.buffa_bytes.specs.declared.error.EncodeError.{EncodeError}
use Rattle.buffa_bytes.specs.declared.wire_type.WireType.TheVariants.{LengthDelimited}
use Rattle.buffa_wire.proofs.PassLemmas.{appended_twice, next_front, next_past, written_none, written_short, written_then}
use Rattle.buffa_wire.specs.BudgetLeft.{BudgetLeft, plus, units}
use Rattle.buffa_wire.specs.Cache.{Cache}
use Rattle.buffa_bytes.specs.Number.{IsNumber}
use Rattle.buffa_wire.specs.ReadableFacts.{Readable}
use Rattle.buffa_wire.specs.Passes.{IsNext, IsSized, IsSmall, IsWritten, cap}
use Rattle.buffa_wire.specs.Records.{FieldData, records_of, bytes}
use Rattle.buffa_wire.proofs.ByValueLemmas.{ByValue, length_parts, one_more, parts}
use Rattle.buffa_wire.specs.Encoding.{records_encoding}
use Rattle.buffa_bytes.specs.Values.{delimited_encoding}
use Rattle.buffa_fields.specs.facts.SchemaFacts.{failed, sized_more, small_both, sum}
use Rattle.buffa_fields.specs.facts.ListFacts.{elements_by_value}
use Rattle.buffa_fields.specs.Lists.{element_records}
use Rattle.buffa_fields.specs.Submessages.{message_merged}
use Rattle.buffa_fields.specs.facts.SubmessageFacts.{message_again}
use Rattle.buffa_fields.specs.RepeatedMessages.{messages_cost, messages_levels, messages_records, messages_slots, messages_taken}
use Rattle.buffa_wire.specs.Takes.{ReadsBack, Stays}
use Rattle.buffa_fields.specs.facts.InsideFacts.{all_inside_back, delimited_stays}
use Rattle.buffa_wire.specs.Message.{cost_of_payload}
use Rattle.buffa_wire.specs.Pinned.{done, refusal}

-- ---- costs
pub messages_stay : (each : ℕ) (cost : ℕ → List ℕ → BudgetLeft) → Stays (messages_cost each cost)
unfolding messages_cost
messages_stay each cost = delimited_stays (λ d r. plus (units each) (cost_of_payload cost d r)) (λ d b x y. refl)

-- ---- sizes and encodings, message by message
module _ {X : Type 0} (field_data : X → FieldData) (encoding slots : X → List ℕ) where
  abbrev own : X → List ℕ
  own v = cap (length (encoding v)) ∷ slots v

  slots_none : messages_slots encoding slots [] ≡ []
  unfolding messages_slots
  slots_none = refl

  slots_more : (v : X) (vs : List X) → messages_slots encoding slots (v ∷ vs) ≡ own v ++ messages_slots encoding slots vs
  unfolding messages_slots
  slots_more v vs = refl

  abbrev slots_by_value : ByValue X
  slots_by_value = record { list = messages_slots encoding slots; value = own; none = slots_none; next = slots_more }

  module _ (n : ℕ) where
    -- no messages
    pub sized_none : (c : Cache) → IsSized (records_encoding (element_records field_data n [])) (messages_slots encoding slots []) c (sum 0) c
    unfolding element_records messages_slots
    sized_none c = (refl, λ i. record { slots = sym (append-nil c.slots) i; next = c.next })

    pub written_no : (c : Cache) (b : List ℕ) → IsWritten (records_encoding (element_records field_data n [])) (messages_slots encoding slots []) c b done c b
    unfolding element_records messages_slots
    written_no c b = written_none (IsSmall []) c b

    module _ {P : Type 0} (meaning : P → X) (xs : List P) (i : ℕ) (x : P) (lt : i < length xs) (is : x ≡ get_or xs i x) where
      abbrev encoding_to : ℕ → List ℕ
      encoding_to k = records_encoding (element_records field_data n (map meaning (take k xs)))

      abbrev slots_to : ℕ → List ℕ
      slots_to k = messages_slots encoding slots (map meaning (take k xs))

      abbrev here : List ℕ
      here = records_encoding ((n, field_data (meaning x)) ∷ [])

      abbrev all : List ℕ
      all = records_encoding (element_records field_data n (map meaning xs))

      abbrev all_slots : List ℕ
      all_slots = messages_slots encoding slots (map meaning xs)

      abbrev later : List X
      later = map meaning (drop (i + 1) xs)

      encoding_on : encoding_to (i + 1) ≡ encoding_to i ++ here
      encoding_on = one_more (elements_by_value field_data n) meaning xs i x lt is

      slots_on : slots_to (i + 1) ≡ slots_to i ++ own (meaning x)
      slots_on = one_more slots_by_value meaning xs i x lt is

      slots_cut : all_slots ≡ slots_to i ++ (own (meaning x) ++ messages_slots encoding slots later)
      slots_cut = parts slots_by_value meaning xs i x lt is

      -- a message has a slot
      pub messages_have_slots : all_slots ≡ [] → ⊥
      messages_have_slots none = absurd (omega (arith, ap length none, length_parts slots_by_value meaning xs i x lt is))

      -- the size pass goes on, or stops
      pub size_on : (c0 c1 c2 : Cache) (total len new : ℕ) → IsSized (encoding_to i) (slots_to i) c0 (sum total) c1 → IsSized here (own (meaning x)) c1 (sum len) c2 → new ≡ min (total + len) 4294967295 →
          IsSized (encoding_to (i + 1)) (slots_to (i + 1)) c0 (sum new) c2
      size_on c0 c1 c2 total len new h k e =
          subst (λ (z : List ℕ). IsSized z (slots_to (i + 1)) c0 (sum new) c2) (sym encoding_on)
          (subst (λ (z : List ℕ). IsSized (encoding_to i ++ here) z c0 (sum new) c2) (sym slots_on) (sized_more (encoding_to i) here (slots_to i) (own (meaning x)) c0 c1 c2 total len new h k e))

      pub size_stops : (c0 c1 c2 : Cache) (total : ℕ) (e : EncodeError) → IsSized (encoding_to i) (slots_to i) c0 (sum total) c1 → IsSized here (own (meaning x)) c1 (failed e) c2 → IsSized all all_slots c0 (failed e) c2
      size_stops c0 c1 c2 total e h (which, longer) = (which, (slots_to i ++ longer.0, longer.1 ∙ appended_twice (slots_to i) longer.0 c0 c1 h.1))

      -- the sizes that are next
      pub next_of : (c0 c1 : Cache) (b0 b1 : List ℕ) → IsNext all_slots c0 → IsWritten (encoding_to i) (slots_to i) c0 b0 done c1 b1 → IsNext (own (meaning x)) c1
      next_of c0 c1 b0 b1 h k =
          next_front (own (meaning x)) (messages_slots encoding slots later) c1
          (subst (λ z. IsNext (own (meaning x) ++ messages_slots encoding slots later) z) (sym k.2.0)
          (next_past (slots_to i) (own (meaning x) ++ messages_slots encoding slots later) c0 (subst (λ (z : List ℕ). IsNext z c0) slots_cut h)))

      -- the write pass goes on, or stops
      with_this : (r : Result (Unit {0}) EncodeError) (c0 c1 c2 : Cache) (b0 b1 b2 : List ℕ) → IsWritten (encoding_to i) (slots_to i) c0 b0 done c1 b1 → IsWritten here (own (meaning x)) c1 b1 r c2 b2 →
          IsWritten (encoding_to i ++ here) (slots_to i ++ own (meaning x)) c0 b0 r c2 b2
      with_this r c0 c1 c2 b0 b1 b2 h k =
          written_then (IsSmall (encoding_to i)) (IsSmall here) (IsSmall (encoding_to i ++ here)) (encoding_to i) here (slots_to i) (own (meaning x)) c0 c1 c2 b0 b1 b2 (small_both (encoding_to i) here) r h k

      pub write_on : (c0 c1 c2 : Cache) (b0 b1 b2 : List ℕ) → IsWritten (encoding_to i) (slots_to i) c0 b0 done c1 b1 → IsWritten here (own (meaning x)) c1 b1 done c2 b2 →
          IsWritten (encoding_to (i + 1)) (slots_to (i + 1)) c0 b0 done c2 b2
      write_on c0 c1 c2 b0 b1 b2 h k =
          subst (λ (z : List ℕ). IsWritten z (slots_to (i + 1)) c0 b0 done c2 b2) (sym encoding_on)
          (subst (λ (z : List ℕ). IsWritten (encoding_to i ++ here) z c0 b0 done c2 b2) (sym slots_on) (with_this done c0 c1 c2 b0 b1 b2 h k))

      pub write_stops : (c0 c1 c2 : Cache) (b0 b1 b2 : List ℕ) (e : EncodeError) → IsWritten (encoding_to i) (slots_to i) c0 b0 done c1 b1 → IsWritten here (own (meaning x)) c1 b1 (refusal e) c2 b2 →
          IsWritten all all_slots c0 b0 (refusal e) c2 b2
      write_stops c0 c1 c2 b0 b1 b2 e h k =
          let rest = records_encoding (element_records field_data n later) in
          let more = messages_slots encoding slots later in
          let both = encoding_to i ++ here in
          let slots = slots_to i ++ own (meaning x) in
          subst (λ (z : List ℕ). IsWritten z all_slots c0 b0 (refusal e) c2 b2) (append_assoc (encoding_to i) here rest ∙ sym (parts (elements_by_value field_data n) meaning xs i x lt is))
          (subst (λ (z : List ℕ). IsWritten (both ++ rest) z c0 b0 (refusal e) c2 b2) (append_assoc (slots_to i) (own (meaning x)) more ∙ sym slots_cut)
          (written_short (IsSmall both) (IsSmall rest) (IsSmall (both ++ rest)) both rest slots more c0 c2 c2 b0 b2 b2
          (λ s. (small_both both rest s).0) e (with_this (refusal e) c0 c1 c2 b0 b1 b2 h k)))

-- ---- the encoding reads back
module _ {X : Type 0} (merged : ℕ → X → List ℕ → Option X) (blank : X) (encoding : X → List ℕ) (level : X → ℕ) (Normal : X → Type 0)
    (back : (d : ℕ) (v : X) → Normal v → level v ≤ d → merged d blank (encoding v) ≡ Some v) (n : ℕ) (number : IsNumber n) where
  pub messages_back : (d : ℕ) (vs : List X) → Readable (records_of (messages_records encoding n vs)) → AllByRecursion Normal vs → messages_levels level vs ≤ d →
      ReadsBack (messages_taken blank merged) (λ m. m == n) d [] (records_encoding (messages_records encoding n vs)) vs
  messages_back d vs fits normal low =
      all_inside_back (message_merged merged) blank (λ v. bytes (encoding v)) level Normal n number LengthDelimited (λ v. delimited_encoding (encoding v)) (λ v. refl)
      (message_again merged blank encoding level Normal back n number) d vs fits normal low
