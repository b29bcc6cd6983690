-- What merging the encodings in records comes to.
use Rattle.std.proofs.Common.{◌≡◌, ◌≢◌, ℕ, ◌<◌, ◌≤◌, ◌^◌, Bool, true, false, List, [], ◌∷◌, ◌++◌, ◌||◌, nat_le, nat_lt, length, Option, Some, None, Result, Ok, Err, IfOk, inl, inr, refl, sym, ap, subst, ◌∙◌, arith, if◌then◌else◌}
use Rattle.std.specs.Option.{option_and_then}
use Rattle.std.specs.List.{cons_option}
use Rattle.std.proofs.lemmas.List.Elements.{filter_map-append}
use Rattle.std.proofs.lemmas.Bool.{and_parts, and_right, le-leb, le-ltb, leb-true, lt-leb, lt-ltb}
use Rattle.std.proofs.lemmas.Option.{none-some}
use Rattle.buffa_bytes.specs.declared.error.DecodeError.{DecodeError}
use Rattle.buffa_bytes.specs.declared.error.DecodeError.TheVariants.{OutOfMemory}
use Rattle.buffa_bytes.specs.declared.error.EncodeError.{EncodeError}
use Rattle.buffa_bytes.specs.declared.error.EncodeError.TheVariants.{GroupRefused, MessageTooLarge}
use Rattle.buffa_bytes.proofs.StepLemmas.{agree_ok}
use Rattle.buffa_wire.specs.BudgetLeft.{BudgetLeft, Covers, Lacks, Pays, PaysAtMost, defaults, nothing, plus}
use Rattle.buffa_wire.specs.Message.{MergeFault}
use Rattle.buffa_wire.specs.Parse.{AreValid, Fits}
use Rattle.buffa_wire.specs.ReadableFacts.{Readable, readable}
use Rattle.buffa_wire.specs.RecordReading.{list_at}
use Rattle.buffa_wire.specs.Records.{FieldData, group, records_of, records_height}
use Rattle.buffa_wire.specs.Encoding.{records_encoding, fields_encoding}
use Rattle.buffa_wire.proofs.ByPayloadLemmas.{nothing_plus, plus_assoc}
use Rattle.buffa_wire.proofs.LoopLemmas.{list_is_read}
use Rattle.buffa_wire.proofs.ParseLemmas.{one_reading, encoding_parses}
use Rattle.buffa_ext.specs.Messages.{LeavesOf, IsAllMerged, IsAnswer, IsEncodingRefused, MergesRecords, cost_all, group_held, group_of, group_refusal, is_left, merged_all, message_of, or_none, some_there, encoding_refusal, encodings_in, why_refused}

pub left_yes : (b charge : BudgetLeft) → Covers b charge → is_left b charge ≡ true
left_yes b charge h = rw (le-leb charge.unknown b.unknown h.0, le-leb charge.memory b.memory h.1) refl

pub left_no : (b charge : BudgetLeft) → Lacks b charge → is_left b charge ≡ false
left_no b charge (inl h) = rw (lt-leb charge.unknown b.unknown h) refl
left_no b charge (inr h) = rw (lt-leb charge.memory b.memory h) (and_right (nat_le charge.unknown b.unknown) false refl)

pub left_true : (b charge : BudgetLeft) → is_left b charge ≡ true → Covers b charge
left_true b charge h =
    let t = and_parts (nat_le charge.unknown b.unknown) (nat_le charge.memory b.memory) h in
    (leb-true charge.unknown b.unknown t.0, leb-true charge.memory b.memory t.1)

-- the default budget
pub is_full : (b : BudgetLeft) → b.unknown ≡ 1000000 → b.memory ≡ 268435456 → b ≡ defaults
is_full b h k = rw (h, k) refl

some_if : {X : Type 0} (b : Bool) (o : Option X) (v : X) → (if b then o else None) ≡ Some v → b ≡ true
some_if true o v h = refl
some_if false o v h = cc

pub pays_covers : (b charge over : BudgetLeft) → Pays b charge over → Covers b charge
pays_covers b charge over h = (omega (arith, h.0), omega (arith, h.1))

none_either : {X : Type 0} (b : Bool) (o : Option X) → o ≡ None → (if b then o else None) ≡ None
none_either true o h = h
none_either false o h = refl

there-append : (xs ys : List (List ℕ)) → some_there (xs ++ ys) ≡ (some_there xs || some_there ys)
there-append [] ys = refl
there-append (x ∷ xs) ys = refl

module _ {X : Type 0} (merged : X → List ℕ → Option X) (cost : List ℕ → BudgetLeft) where
  pub message_some : (blank new : X) (left after : BudgetLeft) (bs : List (List ℕ)) → some_there bs ≡ true → merged_all merged blank bs ≡ Some new → Pays left (cost_all cost bs) after
      → message_of merged cost blank left bs ≡ Some new
  message_some blank new left after [] t e p = cc
  message_some blank new left after (b ∷ bs) t e p = rw (left_yes left (cost_all cost (b ∷ bs)) (pays_covers left (cost_all cost (b ∷ bs)) after p)) e

  pub message_none : (blank : X) (left : BudgetLeft) (bs : List (List ℕ)) (e : DecodeError) → MergeFault (merged_all merged blank bs) (cost_all cost bs) left e → message_of merged cost blank left bs ≡ None
  message_none blank left [] e h = refl
  message_none blank left (b ∷ bs) e (inl h) = rw (left_no left (cost_all cost (b ∷ bs)) h) refl
  message_none blank left (b ∷ bs) e (inr h) = none_either (is_left left (cost_all cost (b ∷ bs))) (merged_all merged blank (b ∷ bs)) h.0

  no_encoding : (blank : X) (left : BudgetLeft) (bs : List (List ℕ)) → false ≡ some_there bs → message_of merged cost blank left bs ≡ None
  no_encoding blank left [] h = refl
  no_encoding blank left (b ∷ bs) h = cc

  -- the answer after merging is the message of the encodings
  pub answers : (blank new : X) (left after : BudgetLeft) (bs : List (List ℕ)) (r : Result Bool DecodeError) (o : Option X)
      → IsAllMerged merged cost bs blank left r new after → IsAnswer r new o → o ≡ message_of merged cost blank left bs
  answers blank new left after bs (Ok true) o m a = a ∙ sym (message_some blank new left after bs (sym m.0) m.1 m.2)
  answers blank new left after bs (Ok false) o m a = a ∙ sym (no_encoding blank left bs m.0)
  answers blank new left after bs (Err e) o m a = a.0 ∙ sym (message_none blank left bs e (m.1 a.1))

  spent_by : (o : Option X) (b charge left : BudgetLeft) → LeavesOf o b charge left → Covers b left
  spent_by (Some v) b charge left h = (omega (arith, h), omega (arith, h))
  spent_by None b charge left h = (omega (arith, h), omega (arith, h))

  pub spent : (blank : X) (b left : BudgetLeft) (bs : List (List ℕ)) → LeavesOf (message_of merged cost blank b bs) b (cost_all cost bs) left → Covers b left
  spent blank b left bs h = spent_by (message_of merged cost blank b bs) b (cost_all cost bs) left h

  pub spent_cost : (blank v : X) (b left : BudgetLeft) (bs : List (List ℕ)) → message_of merged cost blank b bs ≡ Some v → LeavesOf (message_of merged cost blank b bs) b (cost_all cost bs) left → Pays b (cost_all cost bs) left
  spent_cost blank v b left bs e h = subst (λ x. LeavesOf x b (cost_all cost bs) left) e h

  -- what is read as a message costs no more than is left
  pub within : (blank v : X) (left : BudgetLeft) (bs : List (List ℕ)) → message_of merged cost blank left bs ≡ Some v → Covers left (cost_all cost bs)
  within blank v left [] e = cc
  within blank v left (b ∷ bs) e = left_true left (cost_all cost (b ∷ bs)) (some_if (is_left left (cost_all cost (b ∷ bs))) (merged_all merged blank (b ∷ bs)) v e)

  -- ---- encodings one after the other

  then_merged : (ys : List (List ℕ)) (xs : List (List ℕ)) (o : Option X)
      → ((w : X) → merged_all merged w (xs ++ ys) ≡ option_and_then (λ v. merged_all merged v ys) (merged_all merged w xs))
      → option_and_then (λ w. merged_all merged w (xs ++ ys)) o ≡ option_and_then (λ v. merged_all merged v ys) (option_and_then (λ w. merged_all merged w xs) o)
  then_merged ys xs None again = refl
  then_merged ys xs (Some w) again = again w

  pub merged-append : (xs ys : List (List ℕ)) (old : X) → merged_all merged old (xs ++ ys) ≡ option_and_then (λ v. merged_all merged v ys) (merged_all merged old xs)
  merged-append [] ys old = refl
  merged-append (x ∷ xs) ys old = then_merged ys xs (merged old x) (merged-append xs ys)

  pub cost-append : (xs ys : List (List ℕ)) → cost_all cost (xs ++ ys) ≡ plus (cost_all cost xs) (cost_all cost ys)
  cost-append [] ys = sym (nothing_plus (cost_all cost ys))
  cost-append (x ∷ xs) ys = ap (plus (cost x)) (cost-append xs ys) ∙ plus_assoc (cost x) (cost_all cost xs) (cost_all cost ys)

  merged_both : (xs ys : List (List ℕ)) (old mid : X) → merged_all merged old xs ≡ Some mid → merged_all merged old (xs ++ ys) ≡ merged_all merged mid ys
  merged_both xs ys old mid e = merged-append xs ys old ∙ ap (option_and_then (λ v. merged_all merged v ys)) e

  -- more encodings after those that are merged
  pub merged_more : (xs ys : List (List ℕ)) (old mid new : X) (f g h : Bool) (b m a : BudgetLeft) → h ≡ (f || g)
      → IsAllMerged merged cost xs old b (Ok f) mid m → IsAllMerged merged cost ys mid m (Ok g) new a → IsAllMerged merged cost (xs ++ ys) old b (Ok h) new a
  merged_more xs ys old mid new f g h b m a e p q = (
    e ∙ ap (λ x. x || g) p.0 ∙ ap (λ y. some_there xs || y) q.0 ∙ sym (there-append xs ys),
    merged_both xs ys old mid p.1 ∙ q.1,
    subst (λ c. Pays b c a) (sym (cost-append xs ys)) (omega (arith, p.2, q.2), omega (arith, p.2, q.2)),
  )

  none_then : (zs : List (List ℕ)) (o : Option X) → o ≡ None → option_and_then (λ v. merged_all merged v zs) o ≡ None
  none_then zs o h = ap (option_and_then (λ v. merged_all merged v zs)) h

  still : (xs ys zs : List (List ℕ)) (old mid : X) (b m : BudgetLeft) (err : DecodeError) → merged_all merged old xs ≡ Some mid → Pays b (cost_all cost xs) m
      → MergeFault (merged_all merged mid ys) (cost_all cost ys) m err
      → MergeFault (merged_all merged old (xs ++ (ys ++ zs))) (plus (cost_all cost xs) (plus (cost_all cost ys) (cost_all cost zs))) b err
  still xs ys zs old mid b m err e p (inl (inl h)) = inl (inl (omega (arith, p, h)))
  still xs ys zs old mid b m err e p (inl (inr h)) = inl (inr (omega (arith, p, h)))
  still xs ys zs old mid b m err e p (inr h) =
      inr (merged_both xs (ys ++ zs) old mid e ∙ merged-append ys zs mid ∙ none_then zs (merged_all merged mid ys) h.0, h.1)

  -- a fault after those that are merged, whatever follows
  pub merged_fault : (xs ys zs all : List (List ℕ)) (old mid new : X) (f : Bool) (e : DecodeError) (b m a : BudgetLeft) → all ≡ xs ++ (ys ++ zs)
      → IsAllMerged merged cost xs old b (Ok f) mid m → IsAllMerged merged cost ys mid m (Err e) new a → IsAllMerged merged cost all old b (Err e) new a
  merged_fault xs ys zs all old mid new f e b m a cut p q =
      let costs : cost_all cost all ≡ plus (cost_all cost xs) (plus (cost_all cost ys) (cost_all cost zs)) =
      ap (cost_all cost) cut ∙ cost-append xs (ys ++ zs) ∙ ap (plus (cost_all cost xs)) (cost-append ys zs) in (
        subst (λ c. PaysAtMost b c a) (sym costs) (omega (arith, p.2, q.0), omega (arith, p.2, q.0), omega (arith, p.2, q.0), omega (arith, p.2, q.0)),
        λ ne. subst (λ c. MergeFault (merged_all merged old all) c b e) (sym costs)
            (subst (λ l. MergeFault (merged_all merged old l) (plus (cost_all cost xs) (plus (cost_all cost ys) (cost_all cost zs))) b e) (sym cut)
            (still xs ys zs old mid b m e p.1 p.2 (q.1 ne))),
      )

  -- ---- records that are merged, or refused

  alone : (o : Option X) → option_and_then (λ w. merged_all merged w []) o ≡ None → o ≡ None
  alone None h = refl
  alone (Some w) h = cc

  alone_too : (o : Option X) → o ≡ None → option_and_then (λ w. merged_all merged w []) o ≡ None
  alone_too o h = ap (option_and_then (λ w. merged_all merged w [])) h

  fault_alone : (t : List ℕ) (mid : X) (m : BudgetLeft) (err : DecodeError) → MergeFault (merged_all merged mid (t ∷ [])) (plus (cost t) nothing) m err → MergeFault (merged mid t) (cost t) m err
  fault_alone t mid m err (inl (inl h)) = inl (inl (omega (arith, h)))
  fault_alone t mid m err (inl (inr h)) = inl (inr (omega (arith, h)))
  fault_alone t mid m err (inr h) = inr (alone (merged mid t) h.0, h.1)

  pub fault_of_one : (t : List ℕ) (mid : X) (m : BudgetLeft) (err : DecodeError) → MergeFault (merged mid t) (cost t) m err → MergeFault (merged_all merged mid (t ∷ [])) (plus (cost t) nothing) m err
  fault_of_one t mid m err (inl (inl h)) = inl (inl (omega (arith, h)))
  fault_of_one t mid m err (inl (inr h)) = inl (inr (omega (arith, h)))
  fault_of_one t mid m err (inr h) = inr (alone_too (merged mid t) h.0, h.1)

  -- the encoding in one record is refused
  pub encoding_refused : (held : FieldData → Option (List ℕ)) (asks : FieldData → Type 0) (d : FieldData) (o : Option (List ℕ)) (mid new : X) (m a : BudgetLeft) (err : DecodeError) → held d ≡ o → encodings_in held (d ∷ []) ≢ []
      → (err ≡ OutOfMemory → asks d) → IsAllMerged merged cost (encodings_in held (d ∷ [])) mid m (Err err) new a → IsEncodingRefused merged cost held asks d mid m err a
  encoding_refused held asks d None mid new m a err e some full k = absurd (some (ap (λ z. cons_option z []) e))
  encoding_refused held asks d (Some t) mid new m a err e some full k =
      let same : encodings_in held (d ∷ []) ≡ t ∷ [] = ap (λ z. cons_option z []) e in
      let q = subst (λ l. IsAllMerged merged cost l mid m (Err err) new a) same k in
      (t, e, (omega (arith, q.0), omega (arith, q.0), omega (arith, q.0), omega (arith, q.0)), full, λ ne. fault_alone t mid m err (q.1 ne))

  one_of_all : (held : FieldData → Option (List ℕ)) (asks : FieldData → Type 0) (d : FieldData) (mid new : X) (m a : BudgetLeft) (err : DecodeError) → IsEncodingRefused merged cost held asks d mid m err a
      → IsAllMerged merged cost (encodings_in held (d ∷ [])) mid m (Err err) new a
  one_of_all held asks d mid new m a err h =
      subst (λ l. IsAllMerged merged cost l mid m (Err err) new a) (sym (ap (λ z. cons_option z []) h.1))
      ((omega (arith, h.2), omega (arith, h.2), omega (arith, h.2), omega (arith, h.2)), λ ne. fault_of_one h.0 mid m err (h.4 ne))

  -- so the encodings in all records are merged, or refused
  pub all_merged : (held : FieldData → Option (List ℕ)) (asks : FieldData → Type 0) (ds : List FieldData) (old new : X) (before after : BudgetLeft) (r : Result Bool DecodeError)
      → MergesRecords merged cost held asks ds old before r new after → IsAllMerged merged cost (encodings_in held ds) old before r new after
  all_merged held asks ds old new before after (Ok f) h = (h.0, h.1.0, h.1.1)
  all_merged held asks ds old new before after (Err e) (front, d, back, mid, left, cut, done, refused) =
      merged_fault (encodings_in held front) (encodings_in held (d ∷ [])) (encodings_in held back) (encodings_in held ds) old mid new (some_there (encodings_in held front)) e before left after
      (ap (encodings_in held) cut ∙ filter_map-append held front (d ∷ back) ∙ ap (λ l. encodings_in held front ++ l) (filter_map-append held (d ∷ []) back))
      (refl, done.0, done.1) (one_of_all held asks d mid new left after e refused)

  -- the answer after merging records into a blank is the message of the encodings in them
  pub records_answer : {V E : Type 0} (held : FieldData → Option (List ℕ)) (asks : FieldData → Type 0) (ds : List FieldData) (old blank new : X) (before left after : BudgetLeft) (r : Result Bool DecodeError) (x : Result V E) (f : V → Option X)
      → old ≡ blank → before ≡ left → MergesRecords merged cost held asks ds old before r new after → IfOk x (λ o. IsAnswer r new (f o)) → IfOk x (λ o. f o ≡ message_of merged cost blank left (encodings_in held ds))
  records_answer held asks ds old blank new before left after r (Ok o) f s b m a =
      let whole = all_merged held asks ds old new before after r m in
      answers blank new left after (encodings_in held ds) r (f o)
      (subst (λ y. IsAllMerged merged cost (encodings_in held ds) blank y r new after) b (subst (λ y. IsAllMerged merged cost (encodings_in held ds) y before r new after) s whole)) a
  records_answer held asks ds old blank new before left after r (Err e) f s b m a = tt

  -- one record, read back
  pub one_message_back : (held : FieldData → Option (List ℕ)) (blank v : X) (b : BudgetLeft) (d : FieldData) (t : List ℕ) → held d ≡ Some t → merged blank t ≡ Some v
      → Covers b (cost_all cost (encodings_in held (d ∷ []))) → message_of merged cost blank b (encodings_in held (d ∷ [])) ≡ Some v
  one_message_back held blank v b d t h e k =
      let same : encodings_in held (d ∷ []) ≡ t ∷ [] = ap (λ o. cons_option o []) h in
      ap (message_of merged cost blank b) same
      ∙ ap (λ c. if c then merged_all merged blank (t ∷ []) else None) (left_yes b (cost_all cost (t ∷ [])) (subst (λ l. Covers b (cost_all cost l)) same k))
      ∙ ap (option_and_then (λ w. merged_all merged w [])) e

-- ---- encodings

refusal_by : {A : Type 0} (b : Bool) (o : Option A) (e : A) → (if b then o else Some e) ≡ None → o ≡ None
refusal_by true o e h = h
refusal_by false o e h = cc

pub held_too : (refusal : List ℕ → Option EncodeError) (t : List ℕ) → encoding_refusal refusal t ≡ None → refusal t ≡ None
held_too refusal t h = refusal_by (nat_lt (length t) (2 ^ 31)) (refusal t) MessageTooLarge h

pub small_refusal : (refusal : List ℕ → Option EncodeError) (t : List ℕ) → length t < 2 ^ 31 → encoding_refusal refusal t ≡ refusal t
small_refusal refusal t h = ap (λ c. if c then refusal t else Some MessageTooLarge) (lt-ltb (length t) (2 ^ 31) h)

pub large_refusal : (refusal : List ℕ → Option EncodeError) (t : List ℕ) → 2 ^ 31 ≤ length t → encoding_refusal refusal t ≡ Some MessageTooLarge
large_refusal refusal t h = ap (λ c. if c then refusal t else Some MessageTooLarge) (le-ltb (length t) (2 ^ 31) h)

-- ---- groups

group_by : (rs : List (ℕ × FieldData)) (r : Result (List (ℕ × FieldData)) DecodeError) → list_at 100 1000000 (records_encoding rs) ≡ r → Readable (records_of rs) → why_refused r ≡ None
    → group_held (group (records_of (or_none r))) ≡ Some (records_encoding rs)
group_by rs (Ok qs) e f h =
    let read = agree_ok (list_at 100 1000000 (records_encoding rs)) qs (list_is_read 100 1000000 (records_encoding rs)) e in
    let parse = encoding_parses (records_of rs) (records_height (records_of rs)) f (omega arith) in
    ap (λ x. Some (fields_encoding x)) (sym (one_reading (records_encoding rs) (records_height (records_of rs)) 100 (records_of rs) (records_of qs) parse read.0))
group_by rs (Err g) e f h = absurd (none-some (GroupRefused g) (sym h))

-- the group of an encoding holds it
pub group_back : (rs : List (ℕ × FieldData)) → AreValid (records_of rs) → Fits (records_of rs) → group_refusal (records_encoding rs) ≡ None → group_held (group_of (records_encoding rs)) ≡ Some (records_encoding rs)
group_back rs v f h = group_by rs (list_at 100 1000000 (records_encoding rs)) refl (readable (records_of rs) v f) h

-- what a message's record is read as
pub message_back : {X : Type 0} (merged : ℕ → X → List ℕ → Option X) (cost : ℕ → List ℕ → BudgetLeft) (held : FieldData → Option (List ℕ)) (holder : List ℕ → FieldData) (refusal : List ℕ → Option EncodeError)
    (blank : X) (encoding : X → List ℕ) (records : X → List (ℕ × FieldData)) (levels : X → ℕ) (normal : X → Type 0)
    → ((v : X) → encoding v ≡ records_encoding (records v))
    → ((v : X) → normal v → AreValid (records_of (records v)))
    → ((d : ℕ) (v : X) → Fits (records_of (records v)) → normal v → levels v ≤ d → merged d blank (encoding v) ≡ Some v)
    → ((rs : List (ℕ × FieldData)) → AreValid (records_of rs) → Fits (records_of rs) → refusal (records_encoding rs) ≡ None → held (holder (records_encoding rs)) ≡ Some (records_encoding rs))
    → (v : X) (b : BudgetLeft) → encoding_refusal refusal (encoding v) ≡ None → normal v × (levels v ≤ 100) × Fits (records_of (records v))
    → Covers b (cost_all (cost 100) (encodings_in held (holder (encoding v) ∷ []))) → message_of (merged 100) (cost 100) blank b (encodings_in held (holder (encoding v) ∷ [])) ≡ Some v
message_back merged cost held holder refusal blank encoding records levels normal is_text valid back kept v b f n k =
    let same = is_text v in
    one_message_back (merged 100) (cost 100) held blank v b (holder (encoding v)) (encoding v)
    (subst (λ t. held (holder t) ≡ Some t) (sym same) (kept (records v) (valid v n.0) n.2 (subst (λ t. refusal t ≡ None) same (held_too refusal (encoding v) f))))
    (back 100 v n.2 n.0 n.1) k
