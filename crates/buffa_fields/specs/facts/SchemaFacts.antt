-- What is proved of lists of members, whatever the members.
use Rattle.std.proofs.Common.{◌≡◌, ◌≢◌, ℕ, ◌+◌, ◌==◌, ◌≤◌, min, Bool, true, false, List, [], ◌∷◌, ◌++◌, length, Some, Result, Ok, Err, IsOk, refl, sym, ap, subst, ◌∙◌, arith, append_assoc, append-nil, length-append}
use Rattle.std.proofs.lemmas.Bool.{eq-eqb, ne_eqb}
use Rattle.std.specs.List.{AllByRecursion}
use Rattle.std.specs.Prelude.{IfErr}
use Rattle.buffa_bytes.proofs.ListLemmas.{nil_first, nil_second}
use Rattle.buffa_bytes.specs.declared.wire_type.WireType.{WireType}
use Rattle.buffa_bytes.specs.declared.wire_type.WireType.TheVariants.{EndGroup}
use Rattle.buffa_bytes.specs.declared.error.DecodeError.{DecodeError}
use Rattle.buffa_bytes.specs.declared.error.EncodeError.{EncodeError}
use Rattle.buffa_wire.specs.BudgetLeft.{BudgetLeft}
use Rattle.buffa_bytes.specs.Readings.{FullOnlyIf}
use Rattle.buffa_wire.specs.Message.{IsFieldMerged}
use Rattle.buffa_wire.proofs.ParseLemmas.{encoding_parses}
use Rattle.buffa_wire.specs.DepthFacts.{height-records}
use Rattle.buffa_wire.specs.Parse.{Fits, Parse}
use Rattle.buffa_wire.specs.ReadableFacts.{Readable, readable}
use Rattle.buffa_wire.specs.Passes.{IsNext, IsSized, IsSmall, IsWritten, cap}
use Rattle.buffa_wire.specs.Cache.{Cache, left}
use Rattle.buffa_wire.proofs.PassLemmas.{appended_none, appended_twice, next_front, next_past, written_none, written_short, written_then}
use Rattle.buffa_wire.specs.Records.{FieldData, records_height, records_of}
use Rattle.buffa_wire.specs.Encoding.{records_encoding}
use Rattle.buffa_fields.specs.Schema.{Choice, Comes, Follow, IsCounted, IsPut, IsFieldKept, IsPutBehind, Schema, Passed, Seen, Shape, more, passes, visited}
use Rattle.buffa_wire.specs.KeptField.{keep_charge}
use Rattle.buffa_fields.specs.UndeclaredFields.{KeepTakesMemory, keep_takes}
use Rattle.buffa_fields.specs.RefusedMessage.{IsMemberRefused}
use Rattle.buffa_fields.specs.facts.UndeclaredFieldFacts.{records_lead}
use Rattle.buffa_fields.specs.facts.FieldAndOthersFacts.{readable_both, joined_back}
use Rattle.buffa_wire.specs.Takes.{IsTaken, Leads, Piece, ReadsBack, cost_of, costs_nothing, joined_fields, merged_of}
use Rattle.buffa_wire.proofs.TakesLemmas.{back as leads_back, skipped, skipped_full, taken_full, taken_merges}
use Rattle.buffa_wire.proofs.EncodingLemmas.{records_encoding-append}
use Rattle.buffa_wire.specs.Pinned.{done, refusal}

-- ---- one of two
pub choose : {A B C : Type 0} (t : Bool) → Choice t A B → (t ≡ true → A → C) → (t ≡ false → B → C) → C
choose true h f g = f refl h
choose false h f g = g refl h

-- by a number: the first of the two is taken, or passed over
pub chosen : {A : Type 0} (B : Type 0) (n k : ℕ) → n ≡ k → A → Choice (n == k) A B
chosen B n k is a = rw (eq-eqb n k is) a

pub not_chosen : (A : Type 0) {B : Type 0} (n k : ℕ) → n ≢ k → B → Choice (n == k) A B
not_chosen A n k other b = rw (ne_eqb n k other) b

-- ---- fields that aren't declared
-- what isn't so says anything
pub none_keep : {A : Type 0} → false ≡ true → A
none_keep h = cc

pub is_kept : (d : ℕ) (old : List (ℕ × FieldData)) (n : ℕ) (w : WireType) (bs : List ℕ) (before : BudgetLeft) (r : Result (Unit {0}) DecodeError) (new : List (ℕ × FieldData)) (after : BudgetLeft) (rest : List ℕ) →
    IsFieldKept d old n w bs before r new after rest → IsTaken keep_takes keep_charge d old n w bs before r new after rest
unfolding IsFieldKept
is_kept d old n w bs before r new after rest h = h.0

pub kept_stays : (d : ℕ) (old : List (ℕ × FieldData)) (n : ℕ) (w : WireType) (bs : List ℕ) (before : BudgetLeft) (e : DecodeError) (new : List (ℕ × FieldData)) (after : BudgetLeft) (rest : List ℕ) →
    IsFieldKept d old n w bs before (let r : Result (Unit {0}) DecodeError = Err e in r) new after rest → old ≡ new
unfolding IsFieldKept
kept_stays d old n w bs before e new after rest h = h.1

pub kept_asks : (d : ℕ) (old : List (ℕ × FieldData)) (n : ℕ) (w : WireType) (bs : List ℕ) (before : BudgetLeft) (r : Result (Unit {0}) DecodeError) (new : List (ℕ × FieldData)) (after : BudgetLeft) (rest : List ℕ) →
    IsFieldKept d old n w bs before r new after rest → FullOnlyIf r (KeepTakesMemory before.unknown d n w bs)
unfolding IsFieldKept
kept_asks d old n w bs before r new after rest h = h.2

pub is_passed : (d n : ℕ) (w : WireType) (bs : List ℕ) (before : BudgetLeft) (r : Result (Unit {0}) DecodeError) (after : BudgetLeft) (rest : List ℕ) →
    Passed d n w bs before r after rest → IsTaken passes costs_nothing d tt n w bs before r tt after rest
unfolding Passed
is_passed d n w bs before r after rest (gives, kept, _, _) =
    subst (λ z. IsTaken passes costs_nothing d tt n w bs before r tt z rest) kept (skipped passes d tt n w bs rest before r (λ p. refl) gives)

pub passed_asks : (d n : ℕ) (w : WireType) (bs : List ℕ) (before : BudgetLeft) (r : Result (Unit {0}) DecodeError) (after : BudgetLeft) (rest : List ℕ) → Passed d n w bs before r after rest → FullOnlyIf r ⊥
unfolding Passed
passed_asks d n w bs before r after rest (gives, kept, _, _) = skipped_full d n w bs rest r gives

-- ---- what was seen
pub more_none : (z : Seen) → z ≡ more [] [] z
unfolding more
more_none z = λ i. record { sink = z.sink; before = z.before; cache = z.cache; first = z.first; records = sym (append-nil z.records) i; slots = sym (append-nil z.slots) i }

pub more_twice : (a b : List (ℕ × FieldData)) (x y : List ℕ) (z : Seen) → more b y (more a x z) ≡ more (a ++ b) (x ++ y) z
unfolding more
more_twice a b x y z = λ i. record { sink = z.sink; before = z.before; cache = z.cache; first = z.first; records = append_assoc z.records a b i; slots = append_assoc z.slots x y i }

-- what was seen first, and then more
pub part_seen : (y x z : Seen) (a b : List (ℕ × FieldData)) (s t : List ℕ) → y ≡ more b t x → x ≡ more a s z → y ≡ more (a ++ b) (s ++ t) z
part_seen y x z a b s t h j = h ∙ ap (more b t) j ∙ more_twice a b s t z

pub seen_field : {P X : Type 0} (s : Shape P X) (k : ℕ) (p : P) (b : List (ℕ × FieldData)) (x : List ℕ) (z y : Seen) → y ≡ more b x (visited s k p z) →
    y ≡ more (s.records k (s.meaning p) ++ b) (s.slots (s.meaning p) ++ x) z
seen_field s k p b x z y h = h ∙ more_twice (s.records k (s.meaning p)) b (s.slots (s.meaning p)) x z

-- ---- sizes
abbrev pub sum : ℕ → Result ℕ EncodeError
sum total = Ok total

abbrev pub failed : EncodeError → Result ℕ EncodeError
failed e = Err e

-- an encoding that needs no slot
pub sized_free : (encoding : List ℕ) (n : ℕ) (c : Cache) → n ≡ cap (length encoding) → IsSized encoding [] c (sum n) c
sized_free encoding n c h = (h, sym (appended_none c))

pub cap_more : (a b total len new : ℕ) → total ≡ cap a → len ≡ cap b → new ≡ min (total + len) 4294967295 → new ≡ cap (a + b)
cap_more a b total len new h k e = omega (arith, h, k, e)

-- encodings one behind the other
pub sized_more : (t u s x : List ℕ) (c0 c1 c2 : Cache) (total len new : ℕ) → IsSized t s c0 (sum total) c1 → IsSized u x c1 (sum len) c2 → new ≡ min (total + len) 4294967295 → IsSized (t ++ u) (s ++ x) c0 (sum new) c2
sized_more t u s x c0 c1 c2 total len new h k e =
    (cap_more (length t) (length u) total len new h.0 k.0 e ∙ ap cap (sym (length-append t u)), k.1 ∙ appended_twice s x c0 c1 h.1)

pub is_counted : (rs : List (ℕ × FieldData)) (ss : List ℕ) (z : Seen) (cache : ℕ) (c1 c2 : Cache) (total len new : ℕ) → IsCounted cache (sum total) c1 z →
    IsSized (records_encoding rs) ss c1 (sum len) c2 → new ≡ min (total + len) 4294967295 → IsCounted cache (sum new) c2 (more rs ss z)
unfolding IsCounted more
is_counted rs ss z cache c1 c2 total len new (is, h, _) k e = (
  is,
  subst (λ (l : List ℕ). IsSized l (z.slots ++ ss) z.first (sum new) c2) (sym (records_encoding-append z.records rs)) (sized_more (records_encoding z.records) (records_encoding rs) z.slots ss z.first c1 c2 total len new h k e),
  λ none. refl,
)

pub counted_err : (rs : List (ℕ × FieldData)) (ss : List ℕ) (z : Seen) (cache : ℕ) (c1 c2 : Cache) (total : ℕ) (e : EncodeError) → IsCounted cache (sum total) c1 z →
    IsSized (records_encoding rs) ss c1 (failed e) c2 → (ss ≡ [] → IsOk (failed e)) → IsCounted cache (failed e) c2 (more rs ss z)
unfolding IsCounted more
counted_err rs ss z cache c1 c2 total e (is, h, _) (which, longer) always =
    (is, (which, (z.slots ++ longer.0, longer.1 ∙ appended_twice z.slots longer.0 z.first c1 h.1)), λ none. always (nil_second z.slots ss none))

-- nothing is counted, once memory ran out
pub counted_none : (rs : List (ℕ × FieldData)) (ss : List ℕ) (z : Seen) (cache : ℕ) (c : Cache) (e : EncodeError) → IsCounted cache (failed e) c z → IsCounted cache (failed e) c (more rs ss z)
unfolding IsCounted more
counted_none rs ss z cache c e (is, h, always) = (is, h, λ none. always (nil_first z.slots ss none))

-- ---- encodings
pub small_both : (t u : List ℕ) → IsSmall (t ++ u) → IsSmall t × IsSmall u
small_both t u h = (omega (arith, h, length-append t u), omega (arith, h, length-append t u))

-- the next records are written behind the others
pub is_put : (rs : List (ℕ × FieldData)) (ss : List ℕ) (z : Seen) (sink cache : ℕ) (old new : List ℕ) (c1 c2 : Cache) (r : Result (Unit {0}) EncodeError) → IsPut sink cache old c1 done z →
    IsWritten (records_encoding rs) ss c1 old r c2 new → IsPut sink cache new c2 r (more rs ss z)
unfolding IsPut more
is_put rs ss z sink cache old new c1 c2 r (is, same, h) k = (
  is,
  same,
  subst (λ (l : List ℕ). IsWritten l (z.slots ++ ss) z.first z.before r c2 new) (sym (records_encoding-append z.records rs))
      (written_then (IsSmall (records_encoding z.records)) (IsSmall (records_encoding rs)) (IsSmall (records_encoding z.records ++ records_encoding rs)) (records_encoding z.records) (records_encoding rs) z.slots ss z.first c1 c2 z.before old new
      (small_both (records_encoding z.records) (records_encoding rs)) r h k),
)

-- nothing is, once memory ran out
pub put_none : (rs : List (ℕ × FieldData)) (ss : List ℕ) (z : Seen) (sink cache : ℕ) (new : List ℕ) (c : Cache) (e : EncodeError) → IsPut sink cache new c (refusal e) z → IsPut sink cache new c (refusal e) (more rs ss z)
unfolding IsPut more
put_none rs ss z sink cache new c e (is, same, h) = (
  is,
  same,
  subst (λ (l : List ℕ). IsWritten l (z.slots ++ ss) z.first z.before (refusal e) c new) (sym (records_encoding-append z.records rs))
      (written_short (IsSmall (records_encoding z.records)) (IsSmall (records_encoding rs)) (IsSmall (records_encoding z.records ++ records_encoding rs)) (records_encoding z.records) (records_encoding rs) z.slots ss z.first c c z.before new new
      (λ h. (small_both (records_encoding z.records) (records_encoding rs) h).0) e h),
)

-- no records, an empty encoding
pub unwritten : (rs : List (ℕ × FieldData)) (c : Cache) (b : List ℕ) → rs ≡ [] → IsWritten (records_encoding rs) [] c b done c b
unwritten rs c b is = subst (λ z. IsWritten (records_encoding z) [] c b done c b) (sym is) (written_none (IsSmall []) c b)

-- ---- the sizes that are next
pub follow_first : (ss rest : List ℕ) (c : Cache) → Follow (ss ++ rest) done c → IsNext ss c
unfolding Follow
follow_first ss rest c h = next_front ss rest c h

pub follow_rest : (encoding ss rest : List ℕ) (old new : List ℕ) (c1 c2 : Cache) (r : Result (Unit {0}) EncodeError) → IsWritten encoding ss c1 old r c2 new → Follow (ss ++ rest) done c1 → Follow rest r c2
unfolding Follow
follow_rest encoding ss rest old new c1 c2 (Ok _) (bs, p, q) h = subst (λ z. IsNext rest z) (sym q.0) (next_past ss rest c1 h)
follow_rest encoding ss rest old new c1 c2 (Err e) k h = tt

-- the same, where it is known that memory hasn't run out
pub follow_on : (encoding ss rest : List ℕ) (old new : List ℕ) (c1 c2 : Cache) (q r : Result (Unit {0}) EncodeError) → IsOk q → IsWritten encoding ss c1 old r c2 new → Follow (ss ++ rest) q c1 → Follow rest r c2
unfolding Follow
follow_on encoding ss rest old new c1 c2 (Ok _) r ok h k = follow_rest encoding ss rest old new c1 c2 r h k
follow_on encoding ss rest old new c1 c2 (Err e) r ok h k = cc

pub follow_front : (ss rest : List ℕ) (c : Cache) (q : Result (Unit {0}) EncodeError) → Follow (ss ++ rest) q c → Follow ss q c
unfolding Follow
follow_front ss rest c (Ok _) h = next_front ss rest c h
follow_front ss rest c (Err e) h = tt

pub follow_ok : (ss : List ℕ) (c : Cache) (q : Result (Unit {0}) EncodeError) → IsOk q → Follow ss q c → IsNext ss c
unfolding Follow
follow_ok ss c (Ok _) ok h = h
follow_ok ss c (Err e) ok h = cc

pub follow_none : (ss rest : List ℕ) (c : Cache) (e : EncodeError) → Follow rest (refusal e) c
unfolding Follow
follow_none ss rest c e = tt

pub follows : (ss : List ℕ) (c : Cache) → IsNext ss c → Follow ss done c
unfolding Follow
follows ss c h = h

-- sizes that begin those that are next come next
pub comes_front : {V : Type 0} (result : V → Result (Unit {0}) EncodeError) (cache : V → Cache) (ss rest : List ℕ) (v : V) →
    Follow (ss ++ rest) (result v) (cache v) → Comes (λ xs w. Follow xs (result w) (cache w)) ss v
comes_front result cache [] rest v h = tt
comes_front result cache (s ∷ ss) rest v h = follow_front (s ∷ ss) rest (cache v) (result v) h

-- what waits for nothing
pub comes_free : {V : Type 0} (ss : List ℕ) (v : V) → Comes (λ xs w. Unit {0}) ss v
comes_free [] v = tt
comes_free (s ∷ ss) v = tt

-- the sizes that come are next, where memory hasn't run out
pub came : {V : Type 0} (result : V → Result (Unit {0}) EncodeError) (cache : V → Cache) (ss : List ℕ) (v : V) → IsOk (result v) →
    Comes (λ xs w. Follow xs (result w) (cache w)) ss v → IsNext ss (cache v)
came result cache [] v ok h = (left (cache v), refl)
came result cache (s ∷ ss) v ok h = follow_ok (s ∷ ss) (cache v) (result v) ok h

-- ---- what a message owes
unfoldable pub start : ℕ → List ℕ → ℕ → Cache → Seen
start sink before cache first = record { sink = sink; before = before; cache = cache; first = first; records = []; slots = [] }

pub counts_none : (sink : ℕ) (before : List ℕ) (cache : ℕ) (c : Cache) → IsCounted cache (sum 0) c (start sink before cache c)
unfolding IsCounted start
counts_none sink before cache c = (refl, sized_free [] 0 c refl, λ none. refl)

pub puts_none : (sink : ℕ) (before : List ℕ) (cache : ℕ) (c : Cache) → IsPut sink cache before c done (start sink before cache c)
unfolding IsPut start
puts_none sink before cache c = (refl, refl, written_none (IsSmall []) c before)

pub was_put : (rs : List (ℕ × FieldData)) (ss : List ℕ) (sink from : ℕ) (before : List ℕ) (cache of : ℕ) (first now : Cache) (new : List ℕ) (r : Result (Unit {0}) EncodeError) →
    IsPut sink cache new now r (more rs ss (start from before of first)) → (sink ≡ from) × (cache ≡ of) × IsWritten (records_encoding rs) ss first before r now new
unfolding IsPut start more
was_put rs ss sink from before cache of first now new r h = (sym h.0, sym h.1, h.2)

pub was_counted : (rs : List (ℕ × FieldData)) (ss : List ℕ) (sink : ℕ) (before : List ℕ) (cache of : ℕ) (first now : Cache) (r : Result ℕ EncodeError) →
    IsCounted cache r now (more rs ss (start sink before of first)) → (cache ≡ of) × IsSized (records_encoding rs) ss first r now × (ss ≡ [] → IsOk r)
unfolding IsCounted start more
was_counted rs ss sink before cache of first now r h = (sym h.0, h.1, h.2)

module _ {M X : Type 0} (l : Schema M X) where
  -- the size pass
  pub sizes : (m : M) (sink : ℕ) (before : List ℕ) (cache of : ℕ) (first now : Cache) (r : Result ℕ EncodeError) → IsCounted cache r now (l.seen m (start sink before of first)) →
      (cache ≡ of) × IsSized (records_encoding (l.records (l.meaning m))) (l.slots (l.meaning m)) first r now × (l.slots (l.meaning m) ≡ [] → IsOk r)
  sizes m sink before cache of first now r h =
      was_counted (l.records (l.meaning m)) (l.slots (l.meaning m)) sink before cache of first now r (subst (λ z. IsCounted cache r now z) (l.seen_is m (start sink before of first)) h)

  -- the write pass
  pub puts : (m : M) (from sink : ℕ) (before : List ℕ) (of cache : ℕ) (first now : Cache) (new : List ℕ) (r : Result (Unit {0}) EncodeError) → IsPut sink cache new now r (l.seen m (start from before of first)) →
      (sink ≡ from) × (cache ≡ of) × IsWritten (records_encoding (l.records (l.meaning m))) (l.slots (l.meaning m)) first before r now new
  puts m from sink before of cache first now new r h =
      was_put (l.records (l.meaning m)) (l.slots (l.meaning m)) sink from before cache of first now new r (subst (λ z. IsPut sink cache new now r z) (l.seen_is m (start from before of first)) h)

  -- one field
  pub merges : (d : ℕ) (old new : M) (n : ℕ) (wire : WireType) (bs rest : List ℕ) (before after : BudgetLeft) (r : Result (Unit {0}) DecodeError) →
      l.Taken d old n wire bs before r new after rest → IsFieldMerged (merged_of l.takes) (cost_of l.charge) d (l.meaning old) n wire bs before r (l.meaning new) after rest
  merges d old new n wire bs rest before after r h =
      taken_merges l.takes d l.charge l.stays r (l.meaning old) (l.meaning new) n wire bs rest before after (l.taken_is d old n wire bs before r new after rest h)

  pub full_of : (d : ℕ) (old new : M) (n : ℕ) (wire : WireType) (bs rest : List ℕ) (before after : BudgetLeft) (r : Result (Unit {0}) DecodeError) →
      l.Taken d old n wire bs before r new after rest → FullOnlyIf r (wire ≢ EndGroup)
  full_of d old new n wire bs rest before after r h =
      taken_full l.takes l.charge d (l.meaning old) (l.meaning new) n wire bs rest before after r (l.taken_is d old n wire bs before r new after rest h)

  pub refused_of : (d : ℕ) (old new : M) (n : ℕ) (wire : WireType) (bs rest : List ℕ) (before after : BudgetLeft) (r : Result (Unit {0}) DecodeError) →
      l.Taken d old n wire bs before r new after rest → IfErr r (λ e. IsMemberRefused l d (l.meaning old) n wire bs before e (l.meaning new))
  refused_of d old new n wire bs rest before after (Ok _) h = tt
  refused_of d old new n wire bs rest before after (Err e) h =
      (l.differs_only d old n wire bs before e new after rest h, (old, new, after, rest, refl, refl, h))

  -- the encoding reads back: first the members' own records, and then those that are kept
  abbrev put_behind : X → List (ℕ × FieldData) → X
  put_behind v rs = l.adds (l.bare v) rs

  kept_lead : (d : ℕ) (v : X) → AllByRecursion (IsPutBehind l.takes l.adds d) (l.kept v) → Parse d (records_encoding (l.kept v)) (records_of (l.kept v)) →
      (fs : List Piece) × (records_encoding (l.kept v) ≡ joined_fields fs) × Leads l.takes (λ n. true) d (put_behind v []) fs (put_behind v (l.kept v))
  kept_lead d v all parse =
      records_lead l.takes (λ n. true) d (put_behind v) (AllByRecursion (IsPutBehind l.takes l.adds d)) (λ y ys h. h.1) (λ y ys h. refl)
      (λ done y ys p h payload. h.0 (put_behind v done) p payload ∙ ap (λ z. Some z) (l.adds_twice (l.bare v) done (y ∷ []))) (l.kept v) [] (records_encoding (l.kept v)) all parse

  any_number : (d : ℕ) (s t : X) (fs : List Piece) → Leads l.takes l.declares d s fs t → Leads l.takes (λ n. true) d s fs t
  any_number d s t [] h = h
  any_number d s t (f ∷ fs) (is, tag, payload, u, h, rest) = (refl, tag, payload, u, h, any_number d u t fs rest)

  two_back : l.Owes → l.sound ≡ true → (d : ℕ) (v : X) → Readable (records_of (l.own v)) → Readable (records_of (l.kept v)) → l.normal v → l.levels v ≤ d → ReadsBack l.takes (λ n. true) d l.blank (records_encoding (l.own v ++ l.kept v)) v
  two_back owes sound d v own kept normal low =
      let one = l.back owes sound d v own normal low in
      let height_low : records_height (records_of (l.kept v)) ≤ d = omega (arith, height-records (l.kept v), l.kept_low v, low) in
      let two = kept_lead d v (l.again owes sound d v normal low) (encoding_parses (records_of (l.kept v)) d kept height_low) in
      joined_back l.takes (λ n. true) d l.blank (l.bare v) v (l.own v) (l.kept v) one.pieces two.0 one.spelled two.1 (any_number d l.blank (l.bare v) one.pieces one.leads)
      (subst (λ z. Leads l.takes (λ n. true) d (l.bare v) two.0 z) (l.whole v) (subst (λ z. Leads l.takes (λ n. true) d z two.0 (put_behind v (l.kept v))) (l.adds_none (l.bare v)) two.2))

  pub reads_back : l.Owes → l.sound ≡ true → (d : ℕ) (v : X) → Fits (records_of (l.records v)) → l.normal v → l.levels v ≤ d → merged_of l.takes d l.blank (records_encoding (l.records v)) ≡ Some v
  reads_back owes sound d v fits normal low =
      let all = readable (records_of (l.records v)) (l.valid owes sound v normal) fits in
      let parts = readable_both (l.own v) (l.kept v) (subst (λ z. Readable (records_of z)) (l.in_two v) all) in
      leads_back l.takes d (λ n. true) l.blank (records_encoding (l.records v)) v
      (subst (λ z. ReadsBack l.takes (λ n. true) d l.blank (records_encoding z) v) (sym (l.in_two v)) (two_back owes sound d v parts.0 parts.1 normal low))
