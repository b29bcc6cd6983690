-- What is said of a refused field of a tree is what the type's own form says of it.
use Rattle.std.proofs.Common.{◌≡◌, ◌≢◌, ◌⊎◌, inl, inr, ℕ, ◌==◌, ◌+◌, ℤ, Bool, true, false, List, Result, Ok, Err, refl, sym, ap, subst, ◌∙◌, arith}
use Rattle.std.proofs.lemmas.Bool.{eqb-false, eqb-true}
use Rattle.std.specs.BTreeMap.{insert_entry}
use Rattle.std.specs.Map.{keys_of}
use Rattle.std.specs.Ordering.{int_cmp}
use Rattle.buffa_bytes.proofs.DelimitedLemmas.{delimited_faulty, delimited_taken}
use Rattle.buffa_bytes.proofs.FullLemmas.{varint_full}
use Rattle.buffa_bytes.proofs.SequenceLemmas.{err_same}
use Rattle.buffa_bytes.proofs.WireLemmas.{checked_other, checked_same}
use Rattle.buffa_bytes.specs.PayloadValue.{PayloadValue, bytes_in, number, number_in}
use Rattle.buffa_bytes.specs.Readings.{check_wire, delimited_at, skip_at, varint_at, ◌>>=◌, FullOnlyIf}
use Rattle.buffa_bytes.specs.Unread.{past_no_payload}
use Rattle.buffa_bytes.specs.Values.{int32_of}
use Rattle.buffa_bytes.specs.declared.error.DecodeError.{DecodeError}
use Rattle.buffa_bytes.specs.declared.error.DecodeError.TheVariants as error
use Rattle.buffa_bytes.specs.declared.wire_type.WireType.{WireType}
use Rattle.buffa_bytes.specs.declared.wire_type.WireType.TheVariants.{Varint, Fixed64, LengthDelimited, StartGroup, EndGroup, Fixed32}
use Rattle.buffa_wire.proofs.MessageLemmas.{NoLimit}
use Rattle.buffa_wire.specs.BudgetLeft.{BudgetLeft, Lacks, IsLimit}
use Rattle.buffa_wire.specs.Message.{merged_in}
use Rattle.buffa_wire.specs.Pinned.{refusal}
use Rattle.buffa_wire.specs.Takes.{IsTaken, Untaken}
use Rattle.buffa_map.proofs.EntryLemmas.{entry_faulty}
use Rattle.buffa_map.proofs.ChargeLemmas.{entry_limited}
use Rattle.buffa_map.specs.Codec.{Reading, value_at}
use Rattle.buffa_map.specs.Entry.{EntryFault, FaultOf}
use Rattle.buffa_map.specs.EntryReading.{charge_of}
use Rattle.buffa_map.specs.Laws.{LimitsAreTrue}
use Rattle.buffa_map.specs.MessageFacts.{merged_no_limit}
use Rattle.buffa_map.specs.ScalarFacts.{never_faulty}
use Rattle.buffa_map.specs.Scalars.{int32_reading}
use Rattle.buffa_fields.proofs.EntriesLemmas.{entry_wire_err}
use Rattle.buffa_fields.proofs.InsideLemmas.{alone_is, no_payload}
use Rattle.buffa_fields.proofs.ValueLemmas.{value_err, wire_err}
use Rattle.buffa_recursive.specs.TakenByAnother.{taken_through}
use Rattle.buffa_recursive.specs.facts.TakenByAnotherFacts.{is_taken_through}
use Rattle.buffa_fields.specs.EntriesTaken.{entry_cost, entry_taken}
use Rattle.buffa_recursive.specs.MessageTree.{TreeList}
use Rattle.buffa_fields.specs.Schema.{Choice, Schema, Passed, AsksAsSaid, RefusesAsSaid, TakesAsSaid, TellsWrongType}
use Rattle.buffa_fields.specs.facts.SchemaFacts.{choose}
use Rattle.buffa_fields.specs.MapFields.{PairTakesMemory, pair_cost, pair_taken, stepped}
use Rattle.buffa_recursive.specs.MapShape.{reading_by}
use Rattle.buffa_recursive.specs.MapTree.{child_pairs, pairs_in}
use Rattle.buffa_fields.specs.Refusals.{RefusesPair}
use Rattle.buffa_recursive.specs.RefusedFields.{IsSelfRefused}
use Rattle.buffa_recursive.specs.facts.FixpointFacts.{each_is}
use Rattle.buffa_fields.specs.Values.{RefusesAlone, ValueTakesMemory, field_value_at, free, value_taken}
use Rattle.sample_types.proofs.NumberLemmas.{member_read}
use Rattle.sample_types.proofs.TreeLemmas.{Meant, children_again, inside, keys_same, reading_is, rows_same, tree_schema, tree_words}
use Rattle.sample_types.specs.Fields.{int32_field}
use Rattle.sample_types.specs.Trees.{Children, Grown, HasChildFault, HasTreeFault, Own, grown, row}
use Rattle.sample_types.specs.contracts.tree.TreeRecursiveType.TheImpl.{ghosts}

-- how a child is read, and what its entry costs, as the type says it
abbrev reads : Reading Grown
reads = reading_by tree_words

abbrev each : ℕ
each = 4 + tree_words.each

each_same : each ≡ 36
each_same = ap (λ k. 4 + k) (each_is ghosts.COST tree_schema ghosts.sound)

abbrev tree_members_schema : Schema Grown Meant
tree_members_schema = tree_schema.schema tree_words

abbrev mean : Grown → Meant
mean t = tree_members_schema.meaning t

abbrev pub TreeRefuses : ℕ → Grown → ℕ → WireType → List ℕ → BudgetLeft → DecodeError → Grown → Type 0
TreeRefuses = IsSelfRefused ghosts.COST tree_schema ghosts.sound

abbrev ChildrenOf : Type 0
ChildrenOf = List ℤ × TreeList Own

abbrev children_of : ChildrenOf → Children
children_of a = child_pairs a.0 a.1

-- ---- what a member says of a refused field
module _ (d n : ℕ) (w : WireType) (bs : List ℕ) (before : BudgetLeft) (e : DecodeError) where
  abbrev LabelRefused : ℤ → ℤ → BudgetLeft → List ℕ → Type 0
  LabelRefused a b after rest =
      IsTaken (value_taken int32_reading) free d a n w bs before (refusal e) b after rest
      × FullOnlyIf (refusal e) (ValueTakesMemory int32_reading d n w bs)
      × ((f : DecodeError) → check_wire n Varint w ≡ Err f → (refusal e ≡ Err f) × (a ≡ b) × (bs ≡ rest))
      × ((f : DecodeError) → refusal e ≡ Err f → RefusesAlone int32_reading (λ v. v) d a n w bs f b)

  abbrev ChildrenRefused : ChildrenOf → ChildrenOf → BudgetLeft → List ℕ → Type 0
  ChildrenRefused a b after rest =
      IsTaken (taken_through pairs_in children_of (pair_taken int32_reading reads (insert_entry int_cmp))) (pair_cost int32_reading reads each) d a n w bs before (refusal e) b after rest
      × FullOnlyIf (refusal e) (PairTakesMemory int32_reading reads d n w bs)
      × ((f : DecodeError) → check_wire n LengthDelimited w ≡ Err f → (refusal e ≡ Err f) × (a ≡ b) × (bs ≡ rest))
      × ((f : DecodeError) → refusal e ≡ Err f → RefusesPair int32_reading reads each d (children_of a) n w bs before f (children_of b))

module _ (d : ℕ) (bs : List ℕ) (left : BudgetLeft) (e : DecodeError) where
  here : EntryFault int32_reading reads d each 0 left bs e → EntryFault int32_reading inside d 36 0 left bs e
  here h = subst (λ (z : Reading Grown × ℕ). EntryFault int32_reading z.0 d z.1 0 left bs e) (λ i. (reading_is i, each_same i)) h

  there : EntryFault int32_reading inside d 36 0 left bs e → EntryFault int32_reading reads d each 0 left bs e
  there h = subst (λ (z : Reading Grown × ℕ). EntryFault int32_reading z.0 d z.1 0 left bs e) (λ i. (sym reading_is i, sym each_same i)) h

-- ---- of a refused field the form says no more
module _ (d n : ℕ) (w : WireType) (bs : List ℕ) (left : BudgetLeft) (e : DecodeError) where
  -- a field of the children
  child_fault : n ≡ 2 → (a b : ChildrenOf) (after : BudgetLeft) (rest : List ℕ) → ChildrenRefused d n w bs left e a b after rest → HasChildFault tree_words.merged tree_words.cost d w bs left e
  child_fault two a b after rest took = by (check_wire 2 LengthDelimited w) refl
    where
      by : (r : Result (Unit {0}) DecodeError) → check_wire 2 LengthDelimited w ≡ r → HasChildFault tree_words.merged tree_words.cost d w bs left e
      by (Err f) is =
          let semantics : (let r : Result (Unit {0}) DecodeError = Err e in r ≡ Err f) = (took.2 f (subst (λ z. check_wire z LengthDelimited w ≡ Err f) (sym two) is)).0 in
          inl (is ∙ sym semantics)
      by (Ok _) is = inr (
        checked_same 2 LengthDelimited w is,
        λ some. elim ((took.3 e refl).1 some) [
          | inl bad ↦ let other = sym is ∙ subst (λ z. check_wire z LengthDelimited w ≡ Err e) two bad in cc
          | inr fault ↦ here d bs left e fault.1
        ],
        λ full. subst (λ (z : Reading Grown). PairTakesMemory int32_reading z d 2 w bs) reading_is (took.1 full),
      )

  module _ (l : ℤ) (es : Children) (m : ℤ) (fs : Children) where
    pub tree_refused : TreeRefuses d (grown l es) n w bs left e (grown m fs) → (grown m fs ≡ grown l es) × HasTreeFault tree_words.merged tree_words.cost d n w bs left e
    unfolding AsksAsSaid Passed RefusesAsSaid TakesAsSaid TellsWrongType
    tree_refused (differs_only, (a, b, after, rest, was, is, taken)) = choose (n == 1) taken
        (λ hit both.
        let one = eqb-true n 1 hit in
        let read = member_read (λ v. v) d n (mean a).0 w bs left (refusal e) (mean b).0 after rest both.0.0 both.0.1 both.0.3 in (
          same read.1 (ap children_of both.1.0),
          record {
            label = λ _. subst (λ z. int32_field z (λ v. v) w bs ≡ Err e) one read.0;
            child = λ two. absurd (omega (arith, one, two));
            other = λ none _. absurd (none one);
          },
        ))
        (λ miss both.
        let no_one = eqb-false n 1 miss in
        choose (n == 2) both.1
        (λ hit again.
        let two = eqb-true n 2 hit in (
          same both.0 (sym (again.0.3 e refl).0),
          record {
            label = λ one. absurd (no_one one);
            child = λ _. child_fault two (mean a).1.0 (mean b).1.0 after rest again.0;
            other = λ _ none. absurd (none two);
          },
        ))
        (λ others again.
        let no_two = eqb-false n 2 others in (
          same both.0 (ap children_of again.0),
          record {
            label = λ one. absurd (no_one one);
            child = λ two. absurd (no_two two);
            other = λ _ _. again.1.0;
          },
        )))
      where
        same : (mean b).0 ≡ (mean a).0 → children_of (mean b).1.0 ≡ children_of (mean a).1.0 → grown m fs ≡ grown l es
        same one two =
            let labels : m ≡ l = sym (ap (λ (y : Meant). y.0) is) ∙ one ∙ ap (λ (y : Meant). y.0) was in
            let inner_messages : fs ≡ es = sym (children_again fs) ∙ sym (ap (λ (y : Meant). children_of y.1.0) is) ∙ two ∙ ap (λ (y : Meant). children_of y.1.0) was ∙ children_again es in
            λ i. grown (labels i) (inner_messages i)

-- ---- and no less
pick : {A B : Type 0} (t : Bool) → (t ≡ true → A) → (t ≡ false → B) → Choice t A B
pick true f g = f refl
pick false f g = g refl

-- ---- a label
abbrev content : ℕ × List ℕ → Result (PayloadValue × List ℕ) DecodeError
content x = Ok (number x.0, x.1)

abbrev value : PayloadValue × List ℕ → Result ((ℤ × Bool) × List ℕ) DecodeError
value x = Ok ((int32_of (number_in x.0), true), x.1)

abbrev int32 : ℕ × List ℕ → Result (ℤ × List ℕ) DecodeError
int32 x = Ok (int32_of x.0, x.1)

abbrev same_value : ℤ × List ℕ → Result (ℤ × List ℕ) DecodeError
same_value x = Ok (x.0, x.1)

same_fault : (c : Result (Unit {0}) DecodeError) (r : Result (ℕ × List ℕ) DecodeError) (e : DecodeError) →
    (c >>= (λ _. (r >>= int32) >>= same_value)) ≡ Err e → (c >>= (λ _. (r >>= content) >>= value)) ≡ Err e
same_fault (Err f) r e h = let same : f ≡ e = err_same h in ap (λ z. Err z) same
same_fault (Ok _) (Err f) e h = let same : f ≡ e = err_same h in ap (λ z. Err z) same
same_fault (Ok _) (Ok x) e h = cc

module _ (d n : ℕ) (l : ℤ) (w : WireType) (bs : List ℕ) (left : BudgetLeft) (e : DecodeError) (semantics : int32_field n (λ l. l) w bs ≡ Err e) where
  read_told : field_value_at int32_reading d l n w bs ≡ Err e
  read_told = same_fault (check_wire n Varint w) (varint_at bs) e semantics

  abbrev IsFull : Type 0
  IsFull = e ≡ error.OutOfMemory

  mismatch : (f : DecodeError) → check_wire n Varint w ≡ Err f → f ≡ e
  mismatch f is = let both : (let r : Result ((ℤ × Bool) × List ℕ) DecodeError = Err f in r ≡ Err e) = rw is at read_told in err_same both

  value_reported : check_wire n Varint w ≡ Ok tt → value_at int32_reading d l bs ≡ Err e
  value_reported is = rw is at read_told

  not_full : IsFull → ⊥
  not_full full = by (check_wire n Varint w) refl
    where
      no_varint : (r : Result (ℕ × List ℕ) DecodeError) → varint_at bs ≡ r → ((r >>= content) >>= value) ≡ Err e → ⊥
      no_varint (Err f) is h = let same : f ≡ e = err_same h in varint_full bs (is ∙ ap (λ z. Err z) (same ∙ full))
      no_varint (Ok x) is h = cc

      by : (r : Result (Unit {0}) DecodeError) → check_wire n Varint w ≡ r → ⊥
      by (Err f) is = let two = sym (checked_other n Varint w f is).1 ∙ mismatch f is ∙ full in cc
      by (Ok _) is = no_varint (varint_at bs) refl (value_reported is)

  label_taken : IsTaken (value_taken int32_reading) free d l n w bs left (refusal e) l left bs
  label_taken = by (check_wire n Varint w) refl
    where
      by : (r : Result (Unit {0}) DecodeError) → check_wire n Varint w ≡ r → IsTaken (value_taken int32_reading) free d l n w bs left (refusal e) l left bs
      by (Err f) is = wire_err int32_reading refl (λ d v c x h. never_faulty x h) d l n w bs left e (is ∙ ap (λ z. Err z) (mismatch f is))
      by (Ok _) is = value_err int32_reading refl (λ d v c x h. never_faulty x h) d l n w bs left e l bs left (checked_same n Varint w is) refl (λ _. value_reported is) (λ full. absurd (not_full full))

  refused_label : LabelRefused d n w bs left e l l left bs
  refused_label = (
    label_taken,
    (λ full. absurd (not_full full)),
    (λ f is. (ap (λ z. Err z) (sym (mismatch f is)), refl, refl)),
    λ f is. (refl, λ some. read_told ∙ ap (λ z. Err z) (err_same is)),
  )

-- ---- an entry of a child
limited : LimitsAreTrue int32_reading reads
limited d = entry_limited int32_reading reads d (λ k old c x h. never_faulty x h) (λ k old c x q. merged_no_limit (merged_in tree_words.merged k old (bytes_in c)) x q)

limit_or_not : (f : DecodeError) → IsLimit f ⊎ NoLimit f
limit_or_not error.UnknownFieldLimitExceeded = inl tt
limit_or_not error.ElementMemoryLimitExceeded = inl tt
limit_or_not _ = inr (λ h. h)

module _ (d n : ℕ) (w : WireType) (bs : List ℕ) (left : BudgetLeft) (e : DecodeError) (es : Children) where
  abbrev NotTaken : Type 0
  NotTaken = Untaken (pair_taken int32_reading reads (insert_entry int_cmp)) d es n w bs

  abbrev Why : Type 0
  Why = Lacks left (pair_cost int32_reading reads each d n w bs) ⊎ (NotTaken × NoLimit e)

  module _ (wire : w ≡ LengthDelimited) where
    lacking : (b more : List ℕ) → delimited_at bs ≡ Ok (b, more) → Lacks left (charge_of int32_reading reads d each b) → Lacks left (pair_cost int32_reading reads each d n w bs)
    unfolding entry_cost
    lacking b more is few = rw (wire, is) few

    faulty : (b more : List ℕ) → delimited_at bs ≡ Ok (b, more) → FaultOf int32_reading reads d b e → NotTaken
    unfolding entry_taken
    faulty b more is fault p behind payload split =
        rw (wire, alone_is d n w p behind bs b more is wire payload split, (entry_faulty int32_reading reads d b e fault).1) refl

    at_limit : IsLimit e → EntryFault int32_reading reads d each 0 left bs e → Why
    at_limit limit fault =
        let (b, more, is, which) = limited d each 0 left bs e fault limit in
        inl (lacking b more (delimited_taken bs b more is) (elim which [
          | inl few ↦ few
          | inr (s, entry, unknown, inl few) ↦ inl (omega (arith, few))
          | inr (s, entry, unknown, inr few) ↦ inr (omega (arith, few))
        ]))

    at_fault : NoLimit e → EntryFault int32_reading reads d each 0 left bs e → Why
    at_fault unlimited (inl bad) = inr ((λ p more payload split. absurd (no_payload d n w p more bs e (delimited_faulty bs e bad) wire payload split)), unlimited)
    at_fault unlimited (inr (b, more, t, inl (few, is))) = absurd (unlimited (subst (λ z. IsLimit z) (sym is) tt))
    at_fault unlimited (inr (b, more, t, inr (enough, inl few))) = inl (lacking b more (delimited_taken bs b more t) few)
    at_fault unlimited (inr (b, more, t, inr (enough, inr (inl fault)))) = inr (faulty b more (delimited_taken bs b more t) fault, unlimited)
    at_fault unlimited (inr (b, more, t, inr (enough, inr (inr (s, entry, unknown, few, is))))) = absurd (unlimited (subst (λ z. IsLimit z) (sym is) tt))

    why : EntryFault int32_reading reads d each 0 left bs e → Why
    why fault = elim (limit_or_not e) [
      | inl limit ↦ at_limit limit fault
      | inr unlimited ↦ at_fault unlimited fault
    ]

-- ---- a field
abbrev rest_of : WireType → List ℕ → List ℕ
rest_of StartGroup bs = bs
rest_of w bs = past_no_payload w bs

module _ (d n : ℕ) (w : WireType) (bs : List ℕ) (left : BudgetLeft) (e : DecodeError) where
  module _ (es : Children) where
    abbrev inner_messages : ChildrenOf
    inner_messages = (keys_of es, row es)

    pairs_taken : (two : n ≡ 2) → HasChildFault tree_words.merged tree_words.cost d w bs left e →
        IsTaken (pair_taken int32_reading reads (insert_entry int_cmp)) (pair_cost int32_reading reads each) d (children_of inner_messages) n w bs left (refusal e) (children_of inner_messages) left bs
    pairs_taken two (inl bad) =
        entry_wire_err int32_reading reads (λ m _ s. stepped (insert_entry int_cmp) m s) d n (λ d b. charge_of int32_reading reads d each b) w (children_of inner_messages) bs bs left e
        (subst (λ z. check_wire z LengthDelimited w ≡ Err e) (sym two) bad)
    pairs_taken two (inr (wire, fault, full)) =
        ((omega arith, omega arith, omega arith, omega arith), (λ some. why d n w bs left e (children_of inner_messages) wire (there d bs left e (fault some))), λ no end. let both = sym wire ∙ end in cc)

    refused_child : n ≡ 2 → HasChildFault tree_words.merged tree_words.cost d w bs left e → ChildrenRefused d n w bs left e inner_messages inner_messages left bs
    refused_child two why_not = (
      is_taken_through pairs_in children_of (pair_taken int32_reading reads (insert_entry int_cmp)) (pair_cost int32_reading reads each) d n w inner_messages inner_messages bs bs left left (refusal e)
          (ap pairs_in (children_again es) ∙ (λ i. (sym (keys_same es) i, sym (rows_same es) i))) (pairs_taken two why_not),
      full why_not,
      other why_not,
      said why_not,
    )
      where
        full : HasChildFault tree_words.merged tree_words.cost d w bs left e → FullOnlyIf (refusal e) (PairTakesMemory int32_reading reads d n w bs)
        full (inl bad) = λ none. let both = sym (checked_other 2 LengthDelimited w e bad).1 ∙ none in cc
        full (inr (wire, fault, asks)) = λ none. subst (λ (z : Reading Grown). PairTakesMemory int32_reading z d 2 w bs) (sym reading_is) (asks none)

        other : HasChildFault tree_words.merged tree_words.cost d w bs left e → (f : DecodeError) → check_wire n LengthDelimited w ≡ Err f → (refusal e ≡ Err f) × (inner_messages ≡ inner_messages) × (bs ≡ bs)
        other (inl bad) = λ f is. (ap (λ z. Err z) (err_same (sym (subst (λ z. check_wire z LengthDelimited w ≡ Err e) (sym two) bad) ∙ is)), refl, refl)
        other (inr (wire, fault, asks)) = λ f is. absurd ((checked_other n LengthDelimited w f is).0 wire)

        said : HasChildFault tree_words.merged tree_words.cost d w bs left e → (f : DecodeError) → refusal e ≡ Err f → RefusesPair int32_reading reads each d (children_of inner_messages) n w bs left f (children_of inner_messages)
        said (inl bad) = λ f is. (refl, λ some. inl (subst (λ z. check_wire z LengthDelimited w ≡ Err e) (sym two) bad ∙ ap (λ z. Err z) (err_same is)))
        said (inr (wire, fault, asks)) = λ f is.
            (refl, λ some. inr (wire, subst (λ z. EntryFault int32_reading reads d each 0 left bs z) (err_same is) (there d bs left e (fault (λ none. some (sym (err_same is) ∙ none))))))

  passed : skip_at d n w bs ≡ Err e → Passed d n w bs left (refusal e) left (rest_of w bs)
  unfolding Passed
  passed semantics = (semantics, refl, starts w, ends w)
    where
      starts : (w : WireType) → w ≡ StartGroup → d ≡ 0 → rest_of w bs ≡ bs
      starts StartGroup is none = refl
      starts Varint is none = cc
      starts Fixed64 is none = cc
      starts LengthDelimited is none = cc
      starts EndGroup is none = cc
      starts Fixed32 is none = cc

      ends : (w : WireType) → w ≢ StartGroup → rest_of w bs ≡ past_no_payload w bs
      ends StartGroup other = absurd (other refl)
      ends Varint other = refl
      ends Fixed64 other = refl
      ends LengthDelimited other = refl
      ends EndGroup other = refl
      ends Fixed32 other = refl

  module _ (l : ℤ) (es : Children) (m : ℤ) (fs : Children) (stays : grown m fs ≡ grown l es) (h : HasTreeFault tree_words.merged tree_words.cost d n w bs left e) where
    abbrev old : Grown
    old = grown l es

    alike : tree_schema.out old ≡ tree_schema.out (grown m fs)
    alike = ap tree_schema.out (sym stays)

    differs_only : tree_members_schema.DiffersOnlyAt n (tree_schema.out old) (tree_schema.out (grown m fs))
    differs_only = pick (n == 1) (λ _. ap (λ (y : Meant). y.1) alike)
        (λ _. (ap (λ (y : Meant). y.0) alike, pick (n == 2) (λ _. ap (λ (y : Meant). y.1.1) alike) (λ _. (ap (λ (y : Meant). y.1.0) alike, tt))))

    at_number : (i j : Bool) → (n == 1) ≡ i → (n == 2) ≡ j → TreeRefuses d old n w bs left e (grown m fs)
    unfolding AsksAsSaid RefusesAsSaid TakesAsSaid TellsWrongType
    at_number true j one two =
        let semantics : int32_field n (λ v. v) w bs ≡ Err e = subst (λ z. int32_field z (λ v. v) w bs ≡ Err e) (sym (eqb-true n 1 one)) (h.label (eqb-true n 1 one)) in
        (differs_only, (old, old, left, bs, refl, alike, rw one (refused_label d n l w bs left e semantics, (refl, tt))))
    at_number false true one two = (differs_only, (old, old, left, bs, refl, alike, rw one (refl, rw two (refused_child es (eqb-true n 2 two) (h.child (eqb-true n 2 two)), tt))))
    at_number false false one two = (differs_only, (old, old, left, rest_of w bs, refl, alike, rw one (refl, rw two (refl, passed (h.other (eqb-false n 1 one) (eqb-false n 2 two))))))

    pub tree_semantics : TreeRefuses d old n w bs left e (grown m fs)
    tree_semantics = at_number (n == 1) (n == 2) refl refl
