-- What strict readings leave open.
use Rattle.std.proofs.Common.{◌≡◌, ◌≢◌, ◌↔◌, ◌⊎◌, ℕ, Bool, true, false, nat_le, List, [], ◌∷◌, ◌++◌, Option, Some, None, inl, inr, refl, sym, ap, subst, ◌∙◌, arith}
use Rattle.std.specs.List.{cons_option, filter_map, last_or}
use Rattle.std.specs.Option.{option_and_then}
use Rattle.std.proofs.lemmas.Bool.{leb-false}
use Rattle.std.proofs.lemmas.Option.{none-some, same_Some}
use Rattle.buffa_bytes.specs.declared.error.DecodeError.{DecodeError}
use Rattle.buffa_bytes.specs.declared.error.DecodeError.TheVariants.{InvalidUtf8, OutOfMemory, WireTypeMismatch}
use Rattle.buffa_bytes.specs.declared.wire_type.WireType.{WireType}
use Rattle.buffa_codec.specs.Decoded.{last_read}
use Rattle.buffa_codec.specs.Strict.{AreElements, Faultless, FirstElementFault, FirstFault, unless_found}
use Rattle.buffa_codec.specs.StrictFacts.{no_two}
use Rattle.buffa_ext.specs.Messages.{AreMerged, encodings_in, is_left, merged_all, message_of, some_there}
use Rattle.buffa_ext.specs.MessageFacts.{left_true, message_some}
use Rattle.buffa_ext.specs.Strict.{AreMessages, FirstRecordFault, MessageRecordFault}
use Rattle.buffa_wire.specs.BudgetLeft.{BudgetLeft, Covers, Lacks, Pays, defaults, minus}
use Rattle.buffa_wire.specs.Encoding.{wire_of}
use Rattle.buffa_wire.specs.Records.{FieldData}

no_cons : {A : Type 0} (x : A) (xs : List A) → x ∷ xs ≡ [] → ⊥
no_cons x xs h = cc

module _ (fault : FieldData → Option DecodeError) where
  at_first : (d : FieldData) (ds : List FieldData) (o : Option DecodeError) → fault d ≡ o → Faultless fault ds ⊎ ((e : DecodeError) × FirstFault fault ds e) → Faultless fault (d ∷ ds) ⊎ ((e : DecodeError) × FirstFault fault (d ∷ ds) e)
  at_first d ds (Some e) h r = inr (e, ([], d, ds, refl, tt, h))
  at_first d ds None h (inl k) = inl (h, k)
  at_first d ds None h (inr (e, k)) = inr (e, (d ∷ k.0, k.1, k.2, ap (λ l. d ∷ l) k.3, (h, k.4), k.5))

  pub either_way : (ds : List FieldData) → Faultless fault ds ⊎ ((e : DecodeError) × FirstFault fault ds e)
  either_way [] = inl tt
  either_way (d ∷ ds) = at_first d ds (fault d) refl (either_way ds)

  abbrev first_by : Option DecodeError → Option DecodeError → Option DecodeError
  first_by (Some e) r = Some e
  first_by None r = r

  abbrev first_of : List FieldData → Option DecodeError
  first_of [] = None
  first_of (d ∷ ds) = first_by (fault d) (first_of ds)

  first_is : (front : List FieldData) (d : FieldData) (back : List FieldData) (e : DecodeError) → Faultless fault front → fault d ≡ Some e → first_of (front ++ d ∷ back) ≡ Some e
  first_is [] d back e h k = ap (λ o. first_by o (first_of back)) k
  first_is (x ∷ front) d back e h k = ap (λ o. first_by o (first_of (front ++ d ∷ back))) h.0 ∙ first_is front d back e h.1 k

  found_first : (ds : List FieldData) (e : DecodeError) → FirstFault fault ds e → first_of ds ≡ Some e
  found_first ds e h = ap first_of h.3 ∙ first_is h.0 h.1 h.2 e h.4 h.5

  pub one_fault : (ds : List FieldData) (e f : DecodeError) → FirstFault fault ds e → FirstFault fault ds f → e ≡ f
  one_fault ds e f h k = same_Some e f (sym (found_first ds e h) ∙ found_first ds f k)

  last_some : {M : Type 0} (xs : List M) (v : M) → last_or (Some v) xs ≡ None → ⊥
  last_some [] v h = none-some v (sym h)
  last_some (x ∷ xs) v h = last_some xs x h

  -- records that are read are read as none only where there is none
  pub absent_by : {M : Type 0} (one : FieldData → Option M) → ((d : FieldData) → fault d ≡ None → (v : M) × (one d ≡ Some v)) → (ds : List FieldData) (o : Option M) → Faultless fault ds → o ≡ last_read one ds → (o ≡ None) ↔ (ds ≡ [])
  absent_by one read [] o h k = ((λ e. refl), (λ e. k))
  absent_by one read (d ∷ ds) o h k =
      let r = read d h.0 in (
        (λ none. absurd (last_some (filter_map one ds) r.0 (sym (sym none ∙ k ∙ ap (λ z. last_or None (cons_option z (filter_map one ds))) r.1)))),
        (λ e. absurd (no_cons d ds e)),
      )

  -- ---- lists whose elements spend nothing

  pub all_elements : (b : BudgetLeft) (ds : List FieldData) → Faultless fault ds → AreElements (λ _ d. fault d ≡ None) (λ before _ left. left ≡ before) b ds b
  all_elements b [] h = refl
  all_elements b (d ∷ ds) h = (b, h.0, refl, all_elements b ds h.1)

  pub elements_faultless : (b left : BudgetLeft) (ds : List FieldData) → AreElements (λ _ d. fault d ≡ None) (λ before _ left. left ≡ before) b ds left → Faultless fault ds
  elements_faultless b left [] h = tt
  elements_faultless b left (d ∷ ds) h = (h.1, elements_faultless h.0 left ds h.3)

  list_by : (b : BudgetLeft) (ds : List FieldData) → Faultless fault ds ⊎ ((e : DecodeError) × FirstFault fault ds e)
      → ((left : BudgetLeft) × AreElements (λ _ d. fault d ≡ None) (λ before _ left. left ≡ before) b ds left)
      ⊎ ((e : DecodeError) × FirstElementFault (λ _ d. fault d ≡ None) (λ _ d e. fault d ≡ Some e) (λ before _ left. left ≡ before) b ds e)
  list_by b ds (inl k) = inl (b, all_elements b ds k)
  list_by b ds (inr (e, k)) = inr (e, (k.0, k.1, k.2, b, k.3, all_elements b k.0 k.4, k.5))

  pub list_either : (b : BudgetLeft) (ds : List FieldData)
      → ((left : BudgetLeft) × AreElements (λ _ d. fault d ≡ None) (λ before _ left. left ≡ before) b ds left)
      ⊎ ((e : DecodeError) × FirstElementFault (λ _ d. fault d ≡ None) (λ _ d e. fault d ≡ Some e) (λ before _ left. left ≡ before) b ds e)
  list_either b ds = list_by b ds (either_way ds)

  first_of_list : (b : BudgetLeft) (ds : List FieldData) (e : DecodeError) → FirstElementFault (λ _ d. fault d ≡ None) (λ _ d e. fault d ≡ Some e) (λ before _ left. left ≡ before) b ds e → FirstFault fault ds e
  first_of_list b ds e h = (h.0, h.1, h.2, h.4, elements_faultless b h.3 h.0 h.5, h.6)

  pub one_list_fault : (b : BudgetLeft) (ds : List FieldData) (e f : DecodeError) → FirstElementFault (λ _ d. fault d ≡ None) (λ _ d e. fault d ≡ Some e) (λ before _ left. left ≡ before) b ds e
      → FirstElementFault (λ _ d. fault d ≡ None) (λ _ d e. fault d ≡ Some e) (λ before _ left. left ≡ before) b ds f → e ≡ f
  one_list_fault b ds e f h k = one_fault ds e f (first_of_list b ds e h) (first_of_list b ds f k)

true_false : true ≡ false → ⊥
true_false h = cc

-- what isn't left lacks
lacks_by : (b charge : BudgetLeft) (c d : Bool) → nat_le charge.unknown b.unknown ≡ c → nat_le charge.memory b.memory ≡ d → is_left b charge ≡ false → Lacks b charge
lacks_by b charge false d h k none = inl (leb-false charge.unknown b.unknown h)
lacks_by b charge true false h k none = inr (leb-false charge.memory b.memory k)
lacks_by b charge true true h k none = absurd (true_false (sym (rw (h, k) refl) ∙ none))

pays_rest : (b charge : BudgetLeft) → Covers b charge → Pays b charge (minus b charge)
pays_rest b charge h = (omega (arith, h), omega (arith, h))

text_fault_is_none_of_memory : InvalidUtf8 ≢ OutOfMemory
text_fault_is_none_of_memory h = cc

module _ {X : Type 0} (merged : X → List ℕ → Option X) (cost : List ℕ → BudgetLeft) (held : FieldData → Option (List ℕ)) (w : WireType) (n : ℕ) where
  kind_held : (o : Option (List ℕ)) (rest : List (List ℕ)) (d : FieldData) → unless_found o w n d ≡ None → some_there (cons_option o rest) ≡ true
  kind_held (Some t) rest d h = refl
  kind_held None rest d h = absurd (none-some _ (sym h))

  pub message_absent : (blank : X) (ds : List FieldData) (o : Option X) → AreMessages merged cost held w n blank defaults ds → o ≡ message_of merged cost blank defaults (encodings_in held ds) → (o ≡ None) ↔ (ds ≡ [])
  message_absent blank [] o h k = ((λ e. refl), (λ e. k))
  message_absent blank (d ∷ ds) o h k = (
    (λ none. absurd (no_two o h.1 none (k ∙ message_some merged cost blank h.1 defaults h.2 (encodings_in held (d ∷ ds)) (kind_held (held d) (encodings_in held ds) d h.0.0) h.3.0 h.3.1))),
    (λ e. absurd (no_cons d ds e)),
  )

  -- ---- either all records are merged, or one is the first that isn't

  abbrev Told : X → BudgetLeft → List FieldData → Type 0
  Told old before ds = AreMessages merged cost held w n old before ds ⊎ ((e : DecodeError) × FirstRecordFault merged cost held w n old before ds e)

  fault_here : (old : X) (before : BudgetLeft) (d : FieldData) (ds : List FieldData) (e : DecodeError) → MessageRecordFault merged cost held w n d old before e → Told old before (d ∷ ds)
  fault_here old before d ds e f = inr (e, ([], d, ds, old, before, refl, tt, (refl, (omega arith, omega arith)), f))

  merged_on : (old mid new : X) (before left after : BudgetLeft) (t : List ℕ) (bs : List (List ℕ)) → merged old t ≡ Some mid → Pays before (cost t) left → AreMerged merged cost bs mid left new after
      → AreMerged merged cost (t ∷ bs) old before new after
  merged_on old mid new before left after t bs one pay h = (ap (option_and_then (λ v. merged_all merged v bs)) one ∙ h.0, (omega (arith, pay, h.1), omega (arith, pay, h.1)))

  record_on : (old mid new : X) (before left after : BudgetLeft) (d : FieldData) (t : List ℕ) (ds : List FieldData) → held d ≡ Some t → merged old t ≡ Some mid → Pays before (cost t) left
      → AreMerged merged cost (encodings_in held ds) mid left new after → AreMerged merged cost (encodings_in held (d ∷ ds)) old before new after
  record_on old mid new before left after d t ds same one pay h =
      subst (λ o. AreMerged merged cost (cons_option o (encodings_in held ds)) old before new after) (sym same) (merged_on old mid new before left after t (encodings_in held ds) one pay h)

  go_on : (old mid : X) (before left : BudgetLeft) (d : FieldData) (t : List ℕ) (ds : List FieldData) → held d ≡ Some t → merged old t ≡ Some mid → Pays before (cost t) left → Told mid left ds → Told old before (d ∷ ds)
  go_on old mid before left d t ds same one pay (inl k) = inl ((ap (λ o. unless_found o w n d) same, k.0), k.1, k.2, record_on old mid k.1 before left k.2 d t ds same one pay k.3)
  go_on old mid before left d t ds same one pay (inr (e, k)) =
      inr (e, (d ∷ k.0, k.1, k.2, k.3, k.4, ap (λ l. d ∷ l) k.5, (ap (λ o. unless_found o w n d) same, k.6), record_on old mid k.3 before left k.4 d t k.0 same one pay k.7, k.8))

  by_merge : (ds : List FieldData) → ((x : X) (b : BudgetLeft) → Told x b ds) → (old : X) (before : BudgetLeft) (d : FieldData) (t : List ℕ) (o : Option X) → held d ≡ Some t → Covers before (cost t) → merged old t ≡ o
      → Told old before (d ∷ ds)
  by_merge ds again old before d t (Some mid) same room one =
      go_on old mid before (minus before (cost t)) d t ds same one (pays_rest before (cost t) room) (again mid (minus before (cost t)))
  by_merge ds again old before d t None same room none = fault_here old before d ds InvalidUtf8 (inr (text_fault_is_none_of_memory, t, same, inr (none, λ l. l)))

  by_room : (ds : List FieldData) → ((x : X) (b : BudgetLeft) → Told x b ds) → (old : X) (before : BudgetLeft) (d : FieldData) (t : List ℕ) (room : Bool) → held d ≡ Some t → is_left before (cost t) ≡ room → Told old before (d ∷ ds)
  by_room ds again old before d t true same room = by_merge ds again old before d t (merged old t) same (left_true before (cost t) room) refl
  by_room ds again old before d t false same room =
      fault_here old before d ds InvalidUtf8
      (inr (text_fault_is_none_of_memory, t, same, inl (lacks_by before (cost t) (nat_le (cost t).unknown before.unknown) (nat_le (cost t).memory before.memory) refl refl room)))

  by_kind : (ds : List FieldData) → ((x : X) (b : BudgetLeft) → Told x b ds) → (old : X) (before : BudgetLeft) (d : FieldData) (o : Option (List ℕ)) → held d ≡ o → Told old before (d ∷ ds)
  by_kind ds again old before d (Some t) same = by_room ds again old before d t (is_left before (cost t)) same refl
  by_kind ds again old before d None same = fault_here old before d ds (WireTypeMismatch n w (wire_of d)) (inl (ap (λ o. unless_found o w n d) same))

  pub messages_either : (ds : List FieldData) (old : X) (before : BudgetLeft) → AreMessages merged cost held w n old before ds ⊎ ((e : DecodeError) × FirstRecordFault merged cost held w n old before ds e)
  messages_either [] old before = inl (tt, old, before, (refl, (omega arith, omega arith)))
  messages_either (d ∷ ds) old before = by_kind ds (messages_either ds) old before d (held d) refl
