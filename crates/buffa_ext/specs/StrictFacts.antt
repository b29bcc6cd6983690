-- What strict readings of messages come to: a record that is merged has no fault, and one that isn't has one.
use Rattle.std.proofs.Common.{◌≡◌, ◌≢◌, ◌⊎◌, ℕ, Bool, true, false, List, [], ◌∷◌, ◌++◌, Option, Some, None, Ok, Err, inl, inr, refl, sym, ap, subst, ◌∙◌, arith}
use Rattle.std.specs.List.{cons_option}
use Rattle.std.specs.Option.{option_and_then}
use Rattle.std.proofs.lemmas.List.Elements.{filter_map-append}
use Rattle.buffa_bytes.specs.declared.error.DecodeError.{DecodeError}
use Rattle.buffa_bytes.specs.declared.error.DecodeError.TheVariants.{OutOfMemory, WireTypeMismatch}
use Rattle.buffa_bytes.specs.declared.wire_type.WireType.{WireType}
use Rattle.buffa_codec.specs.CodecFacts.{left_over}
use Rattle.buffa_codec.specs.Strict.{Faultless, IsFaultOrFull, unless_found}
use Rattle.buffa_codec.specs.StrictFacts.{no_two, not_both}
use Rattle.buffa_ext.specs.Messages.{AreMerged, IsAllMerged, IsAnswer, LeavesOf, ReachesRecord, cost_all, encodings_in, merged_all, message_of, some_there}
use Rattle.buffa_ext.specs.MessageFacts.{answers, cost-append, encoding_refused, fault_of_one, merged-append, message_none, message_some, spent_cost}
use Rattle.buffa_ext.specs.Strict.{AreMessages, FirstRecordFault, ReachesStrictly, MessageRecordFault, kind_fault}
use Rattle.buffa_wire.specs.BudgetLeft.{BudgetLeft, Pays, defaults}
use Rattle.buffa_wire.specs.Encoding.{wire_of}
use Rattle.buffa_wire.specs.Message.{MergeFault}
use Rattle.buffa_wire.specs.Records.{FieldData}

abbrev is_oom : DecodeError → Bool
is_oom OutOfMemory = true
is_oom _ = false

oom_is : (e : DecodeError) → is_oom e ≡ true → e ≡ OutOfMemory
oom_is OutOfMemory h = refl
oom_is _ h = cc

apart : false ≡ true → ⊥
apart h = cc

by_memory : (b : Bool) (e : DecodeError) → is_oom e ≡ b → (e ≡ OutOfMemory) ⊎ (e ≢ OutOfMemory)
by_memory true e h = inl (oom_is e h)
by_memory false e h = inr (λ k. apart (sym h ∙ ap is_oom k))

-- a record that holds an encoding is of the kind
kind_there : (o : Option (List ℕ)) (w : WireType) (n : ℕ) (d : FieldData) → true ≡ some_there (cons_option o []) → unless_found o w n d ≡ None
kind_there (Some t) w n d h = refl
kind_there None w n d h = absurd (apart (sym h))

-- one that holds none is not
kind_other : (o : Option (List ℕ)) (w : WireType) (n : ℕ) (d : FieldData) → false ≡ some_there (cons_option o []) → unless_found o w n d ≡ unless_found {A = List ℕ} None w n d
kind_other (Some t) w n d h = absurd (apart h)
kind_other None w n d h = refl

pub is_of_kind : (held : FieldData → Option (List ℕ)) (w : WireType) (n : ℕ) (d : FieldData) → true ≡ some_there (encodings_in held (d ∷ [])) → kind_fault held w n d ≡ None
is_of_kind held w n d h = kind_there (held d) w n d h

pub is_of_another : (held : FieldData → Option (List ℕ)) (w : WireType) (n : ℕ) (d : FieldData) → false ≡ some_there (encodings_in held (d ∷ [])) → kind_fault held w n d ≡ unless_found {A = List ℕ} None w n d
is_of_another held w n d h = kind_other (held d) w n d h

module _ {X : Type 0} (merged : X → List ℕ → Option X) (cost : List ℕ → BudgetLeft) (held : FieldData → Option (List ℕ)) (w : WireType) (n : ℕ) where
  reported_by : (asks : FieldData → Type 0) (d : FieldData) (t : List ℕ) (old : X) (left : BudgetLeft) (e : DecodeError) → held d ≡ Some t → (e ≡ OutOfMemory → asks d) → (e ≢ OutOfMemory → MergeFault (merged old t) (cost t) left e)
      → (e ≡ OutOfMemory) ⊎ (e ≢ OutOfMemory) → IsFaultOrFull (MessageRecordFault merged cost held w n d old left) (asks d) e
  reported_by asks d t old left e h full fault (inl k) = inr (k, full k)
  reported_by asks d t old left e h full fault (inr k) = inl (inr (k, t, h, fault k))

  -- a record whose encoding is refused has a fault, or takes memory
  pub refused_record : (asks : FieldData → Type 0) (d : FieldData) (old new : X) (before after : BudgetLeft) (e : DecodeError) → encodings_in held (d ∷ []) ≢ [] → (e ≡ OutOfMemory → asks d)
      → IsAllMerged merged cost (encodings_in held (d ∷ [])) old before (Err e) new after → IsFaultOrFull (MessageRecordFault merged cost held w n d old before) (asks d) e
  refused_record asks d old new before after e some full h =
      let k = encoding_refused merged cost held asks d (held d) old new before after e refl some full h in
      reported_by asks d k.0 old before e k.1 k.3 k.4 (by_memory (is_oom e) e refl)

  -- a record that is merged into a blank is an element, and leaves what one leaves
  pub is_element : (d : FieldData) (old blank new : X) (before after : BudgetLeft) → old ≡ blank → IsAllMerged merged cost (encodings_in held (d ∷ [])) old before (Ok true) new after
      → (v : X) × (message_of merged cost blank before (encodings_in held (d ∷ [])) ≡ Some v)
  is_element d old blank new before after same h =
      (new, message_some merged cost blank new before after (encodings_in held (d ∷ [])) (sym h.0) (subst (λ x. IsAllMerged merged cost (encodings_in held (d ∷ [])) x before (Ok true) new after) same h).1 h.2)

  pub element_leaves : (d : FieldData) (old blank new : X) (before after : BudgetLeft) → old ≡ blank → IsAllMerged merged cost (encodings_in held (d ∷ [])) old before (Ok true) new after
      → LeavesOf (message_of merged cost blank before (encodings_in held (d ∷ []))) before (cost_all cost (encodings_in held (d ∷ []))) after
  element_leaves d old blank new before after same h =
      let k = is_element d old blank new before after same h in
      subst (λ o. LeavesOf o before (cost_all cost (encodings_in held (d ∷ []))) after) (sym k.1) h.2

  pub one_left : (blank v : X) (b x y : BudgetLeft) (d : FieldData) → message_of merged cost blank b (encodings_in held (d ∷ [])) ≡ Some v
      → LeavesOf (message_of merged cost blank b (encodings_in held (d ∷ []))) b (cost_all cost (encodings_in held (d ∷ []))) x
      → LeavesOf (message_of merged cost blank b (encodings_in held (d ∷ []))) b (cost_all cost (encodings_in held (d ∷ []))) y → x ≡ y
  one_left blank v b x y d e h k =
      let c = cost_all cost (encodings_in held (d ∷ [])) in
      left_over b c x (spent_cost merged cost blank v b x (encodings_in held (d ∷ [])) e h) ∙ sym (left_over b c y (spent_cost merged cost blank v b y (encodings_in held (d ∷ [])) e k))

  none_held : (o : Option (List ℕ)) (d : FieldData) (e : DecodeError) (blank v : X) (b : BudgetLeft) → unless_found o w n d ≡ Some e → message_of merged cost blank b (cons_option o []) ≡ Some v → ⊥
  none_held (Some t) d e blank v b h k = no_two (unless_found (Some t) w n d) e refl h
  none_held None d e blank v b h k = no_two (message_of merged cost blank b []) v refl k

  -- an element has no fault
  pub no_fault : (blank v : X) (b : BudgetLeft) (d : FieldData) (e : DecodeError) → message_of merged cost blank b (encodings_in held (d ∷ [])) ≡ Some v → MessageRecordFault merged cost held w n d blank b e → ⊥
  no_fault blank v b d e h (inl k) = none_held (held d) d e blank v b k h
  no_fault blank v b d e h (inr (other, t, same, k)) =
      let one : encodings_in held (d ∷ []) ≡ t ∷ [] = ap (λ z. cons_option z []) same in
      no_two (message_of merged cost blank b (t ∷ [])) v (message_none merged cost blank b (t ∷ []) e (fault_of_one merged cost t blank b e k)) (sym (ap (message_of merged cost blank b) one) ∙ h)

  -- ---- the records of a number

  no_fault_behind : (xs ys : List (List ℕ)) (t : List ℕ) (old mid new : X) (before left after : BudgetLeft) (e : DecodeError) → AreMerged merged cost (xs ++ t ∷ ys) old before new after
      → AreMerged merged cost xs old before mid left → MergeFault (merged mid t) (cost t) left e → ⊥
  no_fault_behind xs ys t old mid new before left after e h k (inl (inl lack)) = omega (arith, subst (λ c. Pays before c after) (cost-append merged cost xs (t ∷ ys)) h.1, k.1, lack)
  no_fault_behind xs ys t old mid new before left after e h k (inl (inr lack)) = omega (arith, subst (λ c. Pays before c after) (cost-append merged cost xs (t ∷ ys)) h.1, k.1, lack)
  no_fault_behind xs ys t old mid new before left after e h k (inr none) =
      no_two (merged_all merged old (xs ++ t ∷ ys)) new
      (merged-append merged cost xs (t ∷ ys) old ∙ ap (option_and_then (λ v. merged_all merged v (t ∷ ys))) k.0 ∙ ap (option_and_then (λ v. merged_all merged v ys)) none.0) h.0

  -- records that are all merged have no first fault
  pub no_first_fault : (old : X) (before : BudgetLeft) (ds : List FieldData) (e : DecodeError) → AreMessages merged cost held w n old before ds → FirstRecordFault merged cost held w n old before ds e → ⊥
  no_first_fault old before ds e h (front, d, back, mid, left, cut, kinds, done, inl k) = not_both (kind_fault held w n) front d back e (subst (Faultless (kind_fault held w n)) cut h.0) k
  no_first_fault old before ds e h (front, d, back, mid, left, cut, kinds, done, inr (other, t, same, k)) =
      no_fault_behind (encodings_in held front) (encodings_in held back) t old mid h.1 before left h.2 e
      (subst (λ l. AreMerged merged cost l old before h.1 h.2)
      (ap (encodings_in held) cut ∙ filter_map-append held front (d ∷ back) ∙ ap (λ o. encodings_in held front ++ cons_option o (encodings_in held back)) same) h.3)
      done k

  reached : (asks : FieldData → Type 0) (blank : X) (ds : List FieldData) (e : DecodeError) → ReachesStrictly merged cost held w n (λ d mid left. IsFaultOrFull (MessageRecordFault merged cost held w n d mid left) (asks d) e) blank defaults ds
      → IsFaultOrFull (FirstRecordFault merged cost held w n blank defaults ds) (ReachesRecord merged cost blank held asks ds) e
  reached asks blank ds e (front, d, back, mid, left, cut, kinds, done, inl k) = inl (front, d, back, mid, left, cut, kinds, done, k)
  reached asks blank ds e (front, d, back, mid, left, cut, kinds, done, inr k) = inr (k.0, (front, d, back, mid, left, cut, done, k.1))

  -- what stops merging into a blank under a default budget is the first fault, or takes memory
  pub found_strictly : (asks : FieldData → Type 0) (old blank : X) (before : BudgetLeft) (ds : List FieldData) (e : DecodeError) → old ≡ blank → before ≡ defaults
      → ReachesStrictly merged cost held w n (λ d mid left. IsFaultOrFull (MessageRecordFault merged cost held w n d mid left) (asks d) e) old before ds
      → IsFaultOrFull (FirstRecordFault merged cost held w n blank defaults ds) (ReachesRecord merged cost blank held asks ds) e
  found_strictly asks old blank before ds e same from h =
      let P : FieldData → X → BudgetLeft → Type 0 = λ d mid left. IsFaultOrFull (MessageRecordFault merged cost held w n d mid left) (asks d) e in
      reached asks blank ds e (subst (λ x. ReachesStrictly merged cost held w n P x defaults ds) same (subst (λ b. ReachesStrictly merged cost held w n P old b ds) from h))

  -- what was merged into a blank under a default budget is what the records are read as
  pub strict_answer : (old blank new : X) (before after : BudgetLeft) (ds : List FieldData) (there : Bool) (o : Option X) → old ≡ blank → before ≡ defaults
      → IsAllMerged merged cost (encodings_in held ds) old before (Ok there) new after → IsAnswer (Ok there) new o → o ≡ message_of merged cost blank defaults (encodings_in held ds)
  strict_answer old blank new before after ds there o same from h a =
      answers merged cost blank new defaults after (encodings_in held ds) (Ok there) o
      (subst (λ x. IsAllMerged merged cost (encodings_in held ds) x defaults (Ok there) new after) same
      (subst (λ b. IsAllMerged merged cost (encodings_in held ds) old b (Ok there) new after) from h)) a

  pub strict_whole : (old blank new : X) (before after : BudgetLeft) (ds : List FieldData) (there : Bool) → old ≡ blank → before ≡ defaults → Faultless (kind_fault held w n) ds
      → IsAllMerged merged cost (encodings_in held ds) old before (Ok there) new after → AreMessages merged cost held w n blank defaults ds
  strict_whole old blank new before after ds there same from kinds h =
      subst (λ x. AreMessages merged cost held w n x defaults ds) same (subst (λ b. AreMessages merged cost held w n old b ds) from (kinds, new, after, (h.1, h.2)))

  -- a record that isn't merged into a blank is no element, or takes memory
  pub found_element : (asks : ℕ → FieldData → Type 0) (k : ℕ) (d : FieldData) (old blank : X) (b : BudgetLeft) (e : DecodeError) → old ≡ blank → IsFaultOrFull (MessageRecordFault merged cost held w n d old b) (asks k d) e
      → IsFaultOrFull (MessageRecordFault merged cost held w n d blank b) ((i : ℕ) × asks i d) e
  found_element asks k d old blank b e same (inl h) = inl (subst (λ x. MessageRecordFault merged cost held w n d x b e) same h)
  found_element asks k d old blank b e same (inr h) = inr (h.0, (k, h.1))

  -- a record of another kind has that fault
  pub found_kind : (asks : FieldData → Type 0) (d : FieldData) (old : X) (b : BudgetLeft) (expected actual : WireType) → expected ≡ w → actual ≡ wire_of d → false ≡ some_there (encodings_in held (d ∷ []))
      → IsFaultOrFull (MessageRecordFault merged cost held w n d old b) (asks d) (WireTypeMismatch n expected actual)
  found_kind asks d old b expected actual own is none =
      inl (inl (is_of_another held w n d none ∙ ap (λ x. Some (WireTypeMismatch n x (wire_of d))) (sym own) ∙ ap (λ a. Some (WireTypeMismatch n expected a)) (sym is)))
