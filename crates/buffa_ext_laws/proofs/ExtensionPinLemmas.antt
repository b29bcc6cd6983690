-- What is read, merged and changed in one way.
use Rattle.std.proofs.Common.{◌≡◌, ◌≢◌, ◌⊎◌, inl, inr, ℕ, Bool, List, [], ◌∷◌, ◌++◌, Option, Some, None, Result, Ok, Err, IsOk, refl, sym, ap, subst, ◌∙◌, option_map, arith, if◌then◌else◌}
use Rattle.std.specs.Option.{option_and_then}
use Rattle.std.specs.List.{cons_option, filter_map}
use Rattle.buffa_bytes.specs.declared.error.DecodeError.{DecodeError}
use Rattle.buffa_bytes.specs.declared.error.DecodeError.TheVariants.{OutOfMemory}
use Rattle.buffa_wire.specs.BudgetLeft.{BudgetLeft, Covers, Lacks, Pays, PaysAtMost, defaults, minus, nothing, plus}
use Rattle.buffa_wire.specs.Message.{MergeFault}
use Rattle.buffa_wire.specs.Records.{FieldData, varint, fixed32, fixed64, bytes, group}
use Rattle.buffa_codec.specs.Decoded.{ReadsAll, ReadsList, elements, unpacked}
use Rattle.buffa_codec.specs.CodecFacts.{left_over, minus_nothing}
use Rattle.buffa_ext.specs.Defaults.{IsDefaulted}
use Rattle.buffa_ext.specs.Messages.{AreMerged, IsEncodingRefused, LeavesOf, MergesRecords, cost_all, merged_all, message_of, encodings_in}
use Rattle.buffa_ext.specs.MessageFacts.{all_merged, left_yes}
use Rattle.buffa_ext_laws.specs.LeftOpenExtensions.{ListIsExact, MergingIsPinned, RecordMergeIsPinned}
use Rattle.std.proofs.lemmas.Option.{none-some, same_Some}
use Rattle.std.proofs.lemmas.Bool.{false≢true}
use Rattle.buffa_bytes.proofs.SequenceLemmas.{heads, tails}
use Rattle.buffa_wire.proofs.SpentLemmas.{not_lacked}

-- ---- records that are merged

module _ {X : Type 0} (merged : X → List ℕ → Option X) (cost : List ℕ → BudgetLeft) (held : FieldData → Option (List ℕ)) (asks : FieldData → Type 0) where
  paid_all_not_lacked : (before charge more left : BudgetLeft) → Pays before (plus charge more) left → Lacks before charge → ⊥
  paid_all_not_lacked before charge more left p (inl h) = omega (arith, p, h)
  paid_all_not_lacked before charge more left p (inr h) = omega (arith, p, h)

  no_fault : (o : Option X) (charge before left : BudgetLeft) (new : X) (e : DecodeError) → o ≡ Some new → Pays before charge left → MergeFault o charge before e → ⊥
  no_fault o charge before left new e h p (inl k) = not_lacked before charge left p k
  no_fault o charge before left new e h p (inr k) = absurd (none-some new (sym k.0 ∙ h))

  -- the encoding in a record means no value, or isn't covered
  abbrev Stuck : FieldData → X → BudgetLeft → Type 0
  Stuck d old before = (t : List ℕ) × (e : DecodeError) × (held d ≡ Some t) × MergeFault (merged old t) (cost t) before e

  abbrev Done : List FieldData → X → BudgetLeft → X → BudgetLeft → Type 0
  Done ds old before mid left = AreMerged merged cost (encodings_in held ds) old before mid left

  not_then : (o : Option X) (ts : List (List ℕ)) (mid : X) (charge before left : BudgetLeft) (e : DecodeError) → option_and_then (λ w. merged_all merged w ts) o ≡ Some mid
      → Pays before (plus charge (cost_all cost ts)) left → MergeFault o charge before e → ⊥
  not_then o ts mid charge before left e h p (inl k) = paid_all_not_lacked before charge (cost_all cost ts) left p k
  not_then o ts mid charge before left e h p (inr k) = absurd (none-some mid (sym (ap (option_and_then (λ w. merged_all merged w ts)) k.0) ∙ h))

  encodings_on : (d : FieldData) (ds : List FieldData) (o : Option (List ℕ)) → held d ≡ o → encodings_in held (d ∷ ds) ≡ cons_option o (encodings_in held ds)
  encodings_on d ds o h = ap (λ z. cons_option z (encodings_in held ds)) h

  -- what is stuck isn't done
  stuck_not_done : (d : FieldData) (ds : List FieldData) (old mid : X) (before left : BudgetLeft) → Stuck d old before → Done (d ∷ ds) old before mid left → ⊥
  stuck_not_done d ds old mid before left (t, e, h, fault) done =
      let k = subst (λ l. AreMerged merged cost l old before mid left) (encodings_on d ds (Some t) h) done in
      not_then (merged old t) (encodings_in held ds) mid (cost t) before left e k.0 k.1 fault

  stuck_from : (d : FieldData) (old mid : X) (before left : BudgetLeft) → Done [] old before mid left → Stuck d mid left → Stuck d old before
  stuck_from d old mid before left done stuck =
      let same : left ≡ before = left_over before nothing left done.1 ∙ sym (minus_nothing before) in
      subst (λ b. Stuck d old b) same (subst (λ x. Stuck d x left) (sym (same_Some old mid done.0)) stuck)

  -- what follows the first record goes on from what it leaves
  module _ (f g : List FieldData) (mid mid' : X) (left left' : BudgetLeft) (again : (w : X) (b : BudgetLeft) → Done f w b mid left → Done g w b mid' left' → f ≡ g) where
    over_encoding : (o : Option X) (c before : BudgetLeft) → option_and_then (λ w. merged_all merged w (encodings_in held f)) o ≡ Some mid → Pays before (plus c (cost_all cost (encodings_in held f))) left
        → option_and_then (λ w. merged_all merged w (encodings_in held g)) o ≡ Some mid' → Pays before (plus c (cost_all cost (encodings_in held g))) left' → f ≡ g
    over_encoding None c before h p k q = absurd (none-some mid h)
    over_encoding (Some w) c before h p k q = again w (minus before c) (h, (omega (arith, p), omega (arith, p))) (k, (omega (arith, q), omega (arith, q)))

    over_record : (d : FieldData) (o : Option (List ℕ)) (old : X) (before : BudgetLeft) → held d ≡ o → Done (d ∷ f) old before mid left → Done (d ∷ g) old before mid' left' → f ≡ g
    over_record d None old before e h k =
        again old before (subst (λ l. AreMerged merged cost l old before mid left) (encodings_on d f None e) h) (subst (λ l. AreMerged merged cost l old before mid' left') (encodings_on d g None e) k)
    over_record d (Some t) old before e h k =
        let p = subst (λ l. AreMerged merged cost l old before mid left) (encodings_on d f (Some t) e) h in
        let q = subst (λ l. AreMerged merged cost l old before mid' left') (encodings_on d g (Some t) e) k in
        over_encoding (merged old t) (cost t) before p.0 p.1 q.0 q.1

  -- merging stops at one record
  one_stop : (f g : List FieldData) (d c : FieldData) (fb gb : List FieldData) (old mid mid' : X) (before left left' : BudgetLeft) → f ++ d ∷ fb ≡ g ++ c ∷ gb
      → Done f old before mid left → Stuck d mid left → Done g old before mid' left' → Stuck c mid' left' → f ≡ g
  one_stop [] [] d c fb gb old mid mid' before left left' cut h s k r = refl
  one_stop [] (y ∷ g) d c fb gb old mid mid' before left left' cut h s k r =
      absurd (stuck_not_done y g old mid' before left' (subst (λ z. Stuck z old before) (heads cut) (stuck_from d old mid before left h s)) k)
  one_stop (x ∷ f) [] d c fb gb old mid mid' before left left' cut h s k r =
      absurd (stuck_not_done x f old mid before left (subst (λ z. Stuck z old before) (sym (heads cut)) (stuck_from c old mid' before left' k r)) h)
  one_stop (x ∷ f) (y ∷ g) d c fb gb old mid mid' before left left' cut h s k r =
      let head = heads cut in
      let rest = over_record f g mid mid' left left'
      (λ w b p q. one_stop f g d c fb gb w mid mid' b left left' (tails cut) p s q r)
      x (held x) old before refl h (subst (λ z. Done (z ∷ g) old before mid' left') (sym head) k) in
      ap (λ z. z ∷ f) head ∙ ap (λ l. y ∷ l) rest

  stuck_by : (d : FieldData) (mid : X) (left after : BudgetLeft) (e : DecodeError) → e ≢ OutOfMemory → IsEncodingRefused merged cost held asks d mid left e after → Stuck d mid left
  stuck_by d mid left after e ne r = (r.0, e, r.1, r.4 ne)

  pub record_merge_is_pinned : RecordMergeIsPinned merged cost held
  record_merge_is_pinned = record {
    alike = λ d old new newer before left over f g h k.
        let charge = cost_all cost (encodings_in held (d ∷ [])) in
        (h.0 ∙ sym k.0, same_Some new newer (sym h.1 ∙ k.1), left_over before charge left h.2 ∙ sym (left_over before charge over k.2));
    refused = λ d old new newer before left over f e h k ne.
        no_fault (merged_all merged old (encodings_in held (d ∷ []))) (cost_all cost (encodings_in held (d ∷ []))) before left new e h.1 h.2 (k.1 ne);
  }

  pub merging_is_pinned : MergingIsPinned merged cost held asks
  merging_is_pinned = record {
    alike = λ ds old new newer before left over f g h k. (
      h.0 ∙ sym k.0,
      same_Some new newer (sym h.1.0 ∙ k.1.0),
      left_over before (cost_all cost (encodings_in held ds)) left h.1.1 ∙ sym (left_over before (cost_all cost (encodings_in held ds)) over k.1.1),
    );
    refused = λ ds old new newer before left over f e h k kept.
        no_fault (merged_all merged old (encodings_in held ds)) (cost_all cost (encodings_in held ds)) before left new e h.1.0 h.1.1 ((all_merged merged cost held asks ds old newer before over (Err e) k).1 kept);
    stopped = λ ds old before left over e f h k kept also.
        one_stop h.0 k.0 h.1 k.1 h.2 k.2 old h.3 k.3 before h.4 k.4 (sym h.5 ∙ k.5) h.6 (stuck_by h.1 h.3 h.4 left e kept h.7) k.6 (stuck_by k.1 k.3 k.4 over f also k.7);
  }

  -- and spends no more than there is to spend
  pub merging_stays_within : (ds : List FieldData) (old new : X) (before after : BudgetLeft) (r : Result Bool DecodeError) → MergesRecords merged cost held asks ds old before r new after
      → PaysAtMost before (cost_all cost (encodings_in held ds)) after × (IsOk r → Covers before (cost_all cost (encodings_in held ds)))
  merging_stays_within ds old new before after (Ok f) h = ((omega (arith, h.1.1), omega (arith, h.1.1), omega (arith, h.1.1), omega (arith, h.1.1)), λ t. (omega (arith, h.1.1), omega (arith, h.1.1)))
  merging_stays_within ds old new before after (Err e) h = ((all_merged merged cost held asks ds old new before after (Err e) h).0, λ f. absurd (false≢true f))

-- ---- lists of messages

no_elements : (X : Type 0) (d : FieldData) → unpacked {M = X} (λ bs. []) d ≡ []
no_elements X (varint n) = refl
no_elements X (fixed32 n) = refl
no_elements X (fixed64 n) = refl
no_elements X (bytes b) = refl
no_elements X (group rs) = refl

module _ {X : Type 0} (merged : X → List ℕ → Option X) (cost : List ℕ → BudgetLeft) (blank : X) (held : FieldData → Option (List ℕ)) where
  abbrev one : BudgetLeft → FieldData → Option X
  one b d = message_of merged cost blank b (encodings_in held (d ∷ []))

  abbrev leaves : BudgetLeft → FieldData → BudgetLeft → Type 0
  leaves b d left = LeavesOf (message_of merged cost blank b (encodings_in held (d ∷ []))) b (cost_all cost (encodings_in held (d ∷ []))) left

  abbrev none : List ℕ → List X
  none bs = []

  abbrev values : List (List ℕ) → List X
  values ts = filter_map (merged blank) ts

  read_by : (b : BudgetLeft) (t : List ℕ) (o : Option X) → merged blank t ≡ o → Covers b (plus (cost t) nothing) → message_of merged cost blank b (t ∷ []) ≡ o
  read_by b t (Some v) e k = ap (λ c. if c then merged_all merged blank (t ∷ []) else None) (left_yes b (plus (cost t) nothing) k) ∙ ap (option_and_then (λ w. merged_all merged w [])) e
  read_by b t None e k = ap (λ c. if c then merged_all merged blank (t ∷ []) else None) (left_yes b (plus (cost t) nothing) k) ∙ ap (option_and_then (λ w. merged_all merged w [])) e

  small : (b a c : BudgetLeft) → Covers b (plus a c) → Covers b (plus a nothing)
  small b a c k = (omega (arith, k), omega (arith, k))

  over_paid : (b a c mid : BudgetLeft) → Covers b (plus a c) → Pays b (plus a nothing) mid → Covers mid c
  over_paid b a c mid k p = (omega (arith, k, p), omega (arith, k, p))

  over_most : (b a c mid : BudgetLeft) → Covers b (plus a c) → PaysAtMost b (plus a nothing) mid → Covers mid c
  over_most b a c mid k p = (omega (arith, k, p), omega (arith, k, p))

  over_none : (b c mid : BudgetLeft) → Covers b c → PaysAtMost b nothing mid → Covers mid c
  over_none b c mid k p = (omega (arith, k, p), omega (arith, k, p))

  encoding_step : (b mid : BudgetLeft) (d : FieldData) (t : List ℕ) (ts : List (List ℕ)) (o : Option X) → merged blank t ≡ o → encodings_in held (d ∷ []) ≡ t ∷ [] → Covers b (plus (cost t) (cost_all cost ts)) → leaves b d mid
      → Covers mid (cost_all cost ts) × (elements none d (one b d) ++ values ts ≡ cons_option o (values ts))
  encoding_step b mid d t ts (Some v) e same k h =
      let read = read_by b t (Some v) e (small b (cost t) (cost_all cost ts) k) in
      let left = subst (λ l. LeavesOf (message_of merged cost blank b l) b (cost_all cost l) mid) same h in (
        over_paid b (cost t) (cost_all cost ts) mid k (subst (λ z. LeavesOf z b (plus (cost t) nothing) mid) read left),
        ap (λ l. elements none d (message_of merged cost blank b l) ++ values ts) same ∙ ap (λ z. elements none d z ++ values ts) read,
      )
  encoding_step b mid d t ts None e same k h =
      let read = read_by b t None e (small b (cost t) (cost_all cost ts) k) in
      let left = subst (λ l. LeavesOf (message_of merged cost blank b l) b (cost_all cost l) mid) same h in (
        over_most b (cost t) (cost_all cost ts) mid k (subst (λ z. LeavesOf z b (plus (cost t) nothing) mid) read left),
        ap (λ l. elements none d (message_of merged cost blank b l) ++ values ts) same ∙ ap (λ z. elements none d z ++ values ts) read
            ∙ ap (λ l. l ++ values ts) (no_elements X d),
      )

  step : (b mid : BudgetLeft) (d : FieldData) (ts : List (List ℕ)) (o : Option (List ℕ)) → held d ≡ o → Covers b (cost_all cost (cons_option o ts)) → leaves b d mid
      → Covers mid (cost_all cost ts) × (elements none d (one b d) ++ values ts ≡ values (cons_option o ts))
  step b mid d ts None e k h =
      let same : encodings_in held (d ∷ []) ≡ [] = ap (λ z. cons_option z []) e in (
        over_none b (cost_all cost ts) mid k (subst (λ l. LeavesOf (message_of merged cost blank b l) b (cost_all cost l) mid) same h),
        ap (λ l. elements none d (message_of merged cost blank b l) ++ values ts) same ∙ ap (λ l. l ++ values ts) (no_elements X d),
      )
  step b mid d ts (Some t) e k h = encoding_step b mid d t ts (merged blank t) refl (ap (λ z. cons_option z []) e) k h

  list_by : (b left : BudgetLeft) (ds : List FieldData) (vs : List X) → Covers b (cost_all cost (encodings_in held ds)) → ReadsAll one leaves none b ds vs left → vs ≡ values (encodings_in held ds)
  list_by b left [] vs k h = h.0
  list_by b left (d ∷ ds) vs k h =
      let t = step b h.0 d (encodings_in held ds) (held d) refl k h.2 in
      h.4 ∙ ap (λ l. elements none d (one b d) ++ l) (list_by h.0 left ds h.1 t.0 h.3) ∙ t.1

  pub list_is_exact : ListIsExact (ReadsList one leaves none) merged cost blank held
  list_is_exact ds vs k h = list_by defaults h.0 ds vs k h.1

-- ---- defaults

module _ {V M : Type 0} (read : Option M) (meaning : V → M) (blank : M) (declared : Option V → Type 0)
    (one : (o p : Option V) → declared o → declared p → option_map meaning o ≡ option_map meaning p) (v w : V) where
  two_defaults : (declared (Some v) ⊎ (declared None × (meaning v ≡ blank))) → (declared (Some w) ⊎ (declared None × (meaning w ≡ blank))) → meaning v ≡ meaning w
  two_defaults (inl h) (inl k) = same_Some (meaning v) (meaning w) (one (Some v) (Some w) h k)
  two_defaults (inl h) (inr k) = absurd (none-some (meaning v) (sym (one (Some v) None h k.0)))
  two_defaults (inr h) (inl k) = absurd (none-some (meaning w) (sym (one (Some w) None k h.0)))
  two_defaults (inr h) (inr k) = h.1 ∙ sym k.1

  pub one_default : IsDefaulted (λ o. option_map meaning o ≡ read) declared (meaning v ≡ blank) v
      → IsDefaulted (λ o. option_map meaning o ≡ read) declared (meaning w ≡ blank) w → meaning v ≡ meaning w
  one_default (inl h) (inl k) = same_Some (meaning v) (meaning w) (h ∙ sym k)
  one_default (inl h) (inr k) = absurd (none-some (meaning v) (k.0 ∙ sym h))
  one_default (inr h) (inl k) = absurd (none-some (meaning w) (h.0 ∙ sym k))
  one_default (inr h) (inr k) = two_defaults h.1 k.1
