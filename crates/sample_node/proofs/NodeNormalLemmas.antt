-- What bytes make of a normal node is one.
use Rattle.std.proofs.Common.{◌≡◌, inl, inr, ℕ, zero, suc, ℤ, ◌==◌, ◌<◌, FitsSigned, Bool, true, false, cond, List, [], ◌∷◌, ◌++◌, Option, None, Some, Result, Ok, Err, refl, sym, ap, subst, ◌∙◌, arith, append-nil, true≢false, if◌then◌else◌}
use Rattle.std.proofs.lemmas.Bool.{eqb-false, eqb-true}
use Rattle.std.proofs.lemmas.Str.{IsUtf8-nil, is_utf8-from_IsUtf8}
use Rattle.std.specs.BTreeMap.{insert_entry}
use Rattle.std.specs.Cmp.{int_cmp_total}
use Rattle.std.specs.Cmp.Lexicographic.{nat_list_cmp_total}
use Rattle.std.specs.Int.{w32}
use Rattle.std.specs.List.{AllByRecursion}
use Rattle.std.specs.List.Sorted.{IsStrictlySortedBy}
use Rattle.std.specs.Map.{keys_of}
use Rattle.std.specs.Option.{option_map}
use Rattle.std.specs.Ordering.{int_cmp, match_ordering}
use Rattle.std.specs.Str.{is_utf8}
use Rattle.std.specs.declared.cmp.Ordering.{Ordering}
use Rattle.std.specs.declared.cmp.Ordering.TheVariants.{Less, Equal, Greater}
use Rattle.buffa_bytes.proofs.ListLemmas.{AllByRecursion-last}
use Rattle.buffa_bytes.proofs.DelimitedLemmas.{delimited_taken}
use Rattle.buffa_bytes.proofs.ScalarLemmas.{int32_fits}
use Rattle.buffa_bytes.proofs.StepLemmas.{agree_ok}
use Rattle.buffa_bytes.specs.PayloadValue.{PayloadValue, HasPayloadValue, bytes as content, bytes_in, number, number_in}
use Rattle.buffa_bytes.specs.Readings.{delimited_at, ◌>>=◌}
use Rattle.buffa_bytes.specs.Number.{IsNumber}
use Rattle.buffa_bytes.specs.Values.{int32_of}
use Rattle.buffa_bytes.specs.Varint.{IsByte}
use Rattle.buffa_bytes.specs.declared.error.DecodeError.{DecodeError}
use Rattle.buffa_bytes.specs.declared.error.DecodeError.TheVariants.{InvalidUtf8}
use Rattle.buffa_bytes.specs.declared.wire_type.WireType.TheVariants.{LengthDelimited}
use Rattle.buffa_wire.proofs.ValidLemmas.{AreBytes, all_before, all_behind, as_bytes, payload_valid}
use Rattle.buffa_bytes.proofs.SequenceLemmas.{ok_same}
use Rattle.buffa_wire.specs.BudgetLeft.{nothing}
use Rattle.buffa_wire.specs.Encoding.{wire_of}
use Rattle.buffa_wire.specs.Message.{merged_in}
use Rattle.buffa_wire.specs.Parse.{IsPayload}
use Rattle.buffa_wire.specs.Records.{FieldData, bytes, fixed32, fixed64, group, varint}
use Rattle.buffa_bytes.specs.Scan.{ParsesEach, join}
use Rattle.buffa_map.proofs.EntryLemmas.{entry_sound}
use Rattle.buffa_map.proofs.StayLemmas.{all_keep}
use Rattle.buffa_map.proofs.SortedLemmas.{sorted_put}
use Rattle.buffa_map.specs.Codec.{Reading}
use Rattle.buffa_map.specs.Encoding.{AllHold}
use Rattle.buffa_map.specs.Entry.{IsEntry, IsEntryField}
use Rattle.buffa_map.specs.EntryReading.{blanks, entry_of}
use Rattle.buffa_map.specs.Enums.{ClosedFits}
use Rattle.buffa_map.specs.Message.{merged_value}
use Rattle.buffa_map.specs.Run.{undeclared_record}
use Rattle.buffa_map.specs.Scalars.{IsText, int32_reading, text_reading}
use Rattle.buffa_map.specs.declared.map_entry.MapEntry.{MapEntry}
use Rattle.buffa_fields.specs.EntriesTaken.{entry_taken}
use Rattle.buffa_fields.specs.facts.EntryDepthFacts.{undeclared_among_unknowns}
use Rattle.buffa_fields.specs.UndeclaredFields.{keep_takes}
use Rattle.buffa_fields.specs.facts.UndeclaredFieldFacts.{kept_record}
use Rattle.buffa_fields.specs.ClosedEnumMaps.{put_or_keep}
use Rattle.buffa_fields.specs.MapFields.{stepped}
use Rattle.buffa_recursive.specs.MessageTree.{TreeList}
use Rattle.buffa_recursive.specs.MapTree.{child_pairs, keys_in, values_in}
use Rattle.sample_node.proofs.NodeBackLemmas.{are_paired, keys_paired, keys_same}
use Rattle.sample_node.specs.Branch.{Branch, NodeKept, NodeOwn, Scores, Shades, blank_node, branch, shade_numbers}
use Rattle.sample_node.specs.NodeEncoding.{AreNormalNodes, IsKept, IsNormalNode}
use Rattle.sample_node.specs.NodeMeaning.{LevelMeaning, children_take, node_field_takes, node_merged, node_reading, scores_take, shade_reading, shades_take, text_cmp}

-- ---- what an entry says
module _ {K V : Type 0} (key : Reading K) (val : Reading V) (d : ℕ) (Q : MapEntry K V → Type 0)
    (on_key : (s : MapEntry K V) (k : K) (known : Bool) (p : List ℕ) (c : PayloadValue) → AreBytes p → HasPayloadValue key.wire p c → key.reads d s.key c ≡ Ok (k, known) → Q s → Q (record s { key = k }))
    (on_value : (s : MapEntry K V) (v : V) (known : Bool) (p : List ℕ) (c : PayloadValue) → AreBytes p → HasPayloadValue val.wire p c → val.reads d s.value c ≡ Ok (v, known) → Q s → Q (record s { value = v; known = known })) where
  part_is : (s t : MapEntry K V) (f : List ℕ) → AreBytes f → IsEntryField key val d s f t → Q s → Q t
  part_is s t f b (inl (k, known, (tag, p, c, is_tag, l, has, reads, split), is)) h = subst (λ z. Q z) (sym is) (on_key s k known p c (all_behind IsByte tag p (as_bytes f (tag ++ p) split b)) has reads h)
  part_is s t f b (inr (inl (v, known, (tag, p, c, is_tag, l, has, reads, split), is))) h = subst (λ z. Q z) (sym is) (on_value s v known p c (all_behind IsByte tag p (as_bytes f (tag ++ p) split b)) has reads h)
  part_is s t f b (inr (inr (n, w, not_one, not_two, field, is))) h = subst (λ z. Q z) (sym is) h

  parts_are : (ps : List (List ℕ)) (s t : MapEntry K V) → AreBytes (join ps) → ParsesEach (IsEntryField key val d) s ps t → Q s → Q t
  parts_are [] s t b e h = subst (λ z. Q z) e h
  parts_are (p ∷ ps) s t b (u, step, more) h = parts_are ps u t (all_behind IsByte p (join ps) b) more (part_is s u p (all_before IsByte p (join ps) b) step h)

  entry_is : (e : List ℕ) (s : MapEntry K V) → AreBytes e → Q (blanks key val d) → IsEntry key val d e s → Q s
  entry_is e s b q (ps, is, m) = parts_are ps (blanks key val d) s (all_before IsByte (join ps) [] (as_bytes e (join ps ++ []) is b)) m q

-- ---- the entry that was taken
module _ {K V X : Type 0} (key : Reading K) (val : Reading V) (does : X → List ℕ → MapEntry K V → X) (d : ℕ) (v u : X) (n : ℕ) where
  entry_there : (e p : List ℕ) → IsPayload d n (bytes e) p → entry_taken key val does d v n LengthDelimited p ≡ Some u → (s : MapEntry K V) × (entry_of key val d e ≡ Ok s) × (u ≡ does v e s)
  unfolding entry_taken
  entry_there e p (t, var, is) taken = by (entry_of key val d e) refl
    where
      alone : delimited_at p ≡ Ok (e, [])
      alone = delimited_taken p e [] (t, var, is ∙ ap (λ z. t ++ z) (sym (append-nil e)))

      by : (r : Result (MapEntry K V) DecodeError) → entry_of key val d e ≡ r → (s : MapEntry K V) × (entry_of key val d e ≡ Ok s) × (u ≡ does v e s)
      by (Ok s) k =
          let q : entry_taken key val does d v n LengthDelimited p ≡ Some (does v e s) = rw (alone, k) refl in
          let same : (let o : Option X = Some u in o ≡ Some (does v e s)) = sym taken ∙ q in
          (s, k, cc)
      by (Err f) k =
          let none : entry_taken key val does d v n LengthDelimited p ≡ None = rw (alone, k) refl in
          let bad = sym none ∙ taken in cc

  taken_entry : (x : FieldData) (p : List ℕ) → AreBytes p → IsPayload d n x p → entry_taken key val does d v n (wire_of x) p ≡ Some u →
      (e : List ℕ) × (s : MapEntry K V) × AreBytes e × IsEntry key val d e s × (u ≡ does v e s)
  unfolding entry_taken
  taken_entry (varint y) p b h taken = cc
  taken_entry (fixed32 y) p b h taken = cc
  taken_entry (fixed64 y) p b h taken = cc
  taken_entry (group y) p b h taken = cc
  taken_entry (bytes e) p b h taken =
      let s = entry_there e p h taken in
      (e, s.0, all_behind IsByte h.0 e (as_bytes p (h.0 ++ e) h.2 b), agree_ok (entry_of key val d e) s.0 (entry_sound key val d e) s.1, s.2)

mapped : {A B : Type 0} (f : A → B) (o : Option A) (u : B) → option_map f o ≡ Some u → (x : A) × (o ≡ Some x) × (u ≡ f x)
mapped f None u h = cc
mapped f (Some x) u h = (x, refl, cc)

-- ---- a pair that is put
insert_holds : {K V : Type 0} (cmp : K → K → Ordering) (P : K → Type 0) (Q : V → Type 0) (m : List (K × V)) (k : K) (v : V) → AllHold P Q m → P k → Q v → AllHold P Q (insert_entry cmp m k v)
insert_holds cmp P Q [] k v h a b = (a, b, tt)
insert_holds {K} {V} cmp P Q (e ∷ es) k v h a b = by (cmp k e.0) (insert_holds cmp P Q es k v h.2 a b)
  where
    by : (r : Ordering) → AllHold P Q (insert_entry cmp es k v) → AllHold P Q (match_ordering r ((k, v) ∷ e ∷ es) ((e.0, v) ∷ es) (e ∷ insert_entry cmp es k v))
    by Less i = (a, b, h)
    by Equal i = (h.0, b, h.2)
    by Greater i = (h.0, h.1, i)

abbrev AreNormalPairs : List (ℤ × Branch) → Type 0
AreNormalPairs es = AreNormalNodes (keys_in es) (values_in es)

put_normal : (es : List (ℤ × Branch)) (k : ℤ) (t : Branch) → AreNormalPairs es → FitsSigned w32 k → IsNormalNode t → AreNormalPairs (insert_entry int_cmp es k t)
put_normal [] k t a f n = (f, n, tt)
put_normal (e ∷ es) k t a f n = by (int_cmp k e.0) (put_normal es k t a.2 f n)
  where
    by : (r : Ordering) → AreNormalPairs (insert_entry int_cmp es k t) → AreNormalPairs (match_ordering r ((k, t) ∷ e ∷ es) ((e.0, t) ∷ es) (e ∷ insert_entry int_cmp es k t))
    by Less i = (f, n, a)
    by Equal i = (a.0, n, a.2)
    by Greater i = (a.0, a.1, i)

-- ---- scores
abbrev IsScore : MapEntry (List ℕ) ℤ → Type 0
IsScore s = IsText s.key × FitsSigned w32 s.value

text_is : (p : List ℕ) (c : PayloadValue) (k : List ℕ) (known : Bool) → HasPayloadValue LengthDelimited p c → (b : Bool) → is_utf8 (bytes_in c) ≡ b →
    ((let r : Result (List ℕ) DecodeError = if b then Ok (bytes_in c) else Err InvalidUtf8 in r) >>= (λ v. let x : List ℕ × Bool = (v, true) in Ok x)) ≡ Ok (k, known) → IsText k
text_is p (number n) k known has b is reads = absurd has
text_is p (content v) k known has true is reads =
    let e : v ≡ k = ap (λ z. z.0) (ok_same reads) in
    subst (λ z. IsText z) e (is, has.1.fits)
text_is p (content v) k known has false is reads = cc

score_is : (d : ℕ) (e : List ℕ) (s : MapEntry (List ℕ) ℤ) → AreBytes e → IsEntry text_reading int32_reading d e s → IsScore s
score_is d e s b h = entry_is text_reading int32_reading d IsScore
    (λ s k known p c b has reads h. (text_is p c k known has (is_utf8 (bytes_in c)) refl reads, h.1))
    (λ s v known p c b has reads h. let e : int32_of (number_in c) ≡ v = ap (λ z. z.0) (ok_same reads) in (h.0, subst (λ z. FitsSigned w32 z) e (int32_fits (number_in c))))
    e s b ((is_utf8-from_IsUtf8 [] IsUtf8-nil, omega arith), int32_fits 0) h

-- ---- shades
abbrev IsShadeEntry : MapEntry ℤ ℤ → Type 0
IsShadeEntry s = FitsSigned w32 s.key × (s.known ≡ true → ClosedFits shade_numbers s.value)

known_shade : (n old v : ℤ) (known : Bool) → FitsSigned w32 n → (b : Bool) → shade_numbers.declares n ≡ b → ◌≡◌ {A = ℤ × Bool} (cond b (n, true) (old, false)) (v, known) → known ≡ true → ClosedFits shade_numbers v
known_shade n old v known fits true is e k = subst (ClosedFits shade_numbers) (ap (λ (x : ℤ × Bool). x.0) e) (fits, is)
known_shade n old v known fits false is e k = absurd (true≢false (sym k ∙ sym (ap (λ (x : ℤ × Bool). x.1) e)))

shade_is : (d : ℕ) (e : List ℕ) (s : MapEntry ℤ ℤ) → AreBytes e → IsEntry int32_reading shade_reading d e s → IsShadeEntry s
shade_is d e s b h = entry_is int32_reading shade_reading d IsShadeEntry
    (λ s k known p c b has reads h. let e : int32_of (number_in c) ≡ k = ap (λ z. z.0) (ok_same reads) in (subst (λ z. FitsSigned w32 z) e (int32_fits (number_in c)), h.1))
    (λ s v known p c b has reads h. (h.0, known_shade (int32_of (number_in c)) s.value v known (int32_fits (number_in c)) (shade_numbers.declares (int32_of (number_in c))) refl (ok_same reads)))
    e s b (int32_fits 0, λ _. (int32_fits 0, refl)) h

-- ---- children, where what the level below makes of a normal node is one
abbrev KeepsNormal : LevelMeaning → Type 0
KeepsNormal m = (t u : Branch) (bs : List ℕ) → AreBytes bs → IsNormalNode t → m t bs ≡ Some u → IsNormalNode u

pub blank_is_normal : IsNormalNode blank_node
unfolding IsStrictlySortedBy
blank_is_normal = (((tt, tt), (tt, tt), tt), tt, tt)

module _ (m : LevelMeaning) (stays : KeepsNormal m) (d : ℕ) where
  abbrev IsChildEntry : MapEntry ℤ Branch → Type 0
  IsChildEntry s = FitsSigned w32 s.key × IsNormalNode s.value

  normal_by_meaning : (c : ℕ) (old v : Branch) (bs : List ℕ) (known : Bool) → AreBytes bs → IsNormalNode old → merged_value (merged_in (λ _. m) c old bs) ≡ Ok (v, known) → IsNormalNode v
  normal_by_meaning zero old v bs known b n h = cc
  normal_by_meaning (suc c) old v bs known b n h = by (m old bs) refl h
    where
      by : (o : Option Branch) → m old bs ≡ o → merged_value o ≡ Ok (v, known) → IsNormalNode v
      by None is h = cc
      by (Some x) is h = let e : x ≡ v = ap (λ z. z.0) (ok_same h) in subst (λ z. IsNormalNode z) e (stays old x bs b n is)

  payload_value_bytes : (p : List ℕ) (c : PayloadValue) → AreBytes p → HasPayloadValue LengthDelimited p c → AreBytes (bytes_in c)
  payload_value_bytes p (number n) b has = tt
  payload_value_bytes p (content v) b (t, var, is) = all_behind IsByte t v (as_bytes p (t ++ v) is b)

  child_is : (e : List ℕ) (s : MapEntry ℤ Branch) → AreBytes e → IsEntry int32_reading (node_reading m (λ _. nothing)) d e s → IsChildEntry s
  child_is e s b h = entry_is int32_reading (node_reading m (λ _. nothing)) d IsChildEntry
      (λ s k known p c b has reads h. let e : int32_of (number_in c) ≡ k = ap (λ z. z.0) (ok_same reads) in (subst (λ z. FitsSigned w32 z) e (int32_fits (number_in c)), h.1))
      (λ s v known p c b has reads h. (h.0, normal_by_meaning d s.value v (bytes_in c) known (payload_value_bytes p c b has) h.1 reads))
      e s b (int32_fits 0, blank_is_normal) h

  -- ---- a field
  module _ (a : Scores) (ks : List ℤ) (cs : TreeList NodeOwn) (h : Shades) (r : NodeKept) (normal : IsNormalNode (branch a ks cs h r)) where
    with_score : (s : MapEntry (List ℕ) ℤ) → IsScore s → (known : Bool) → IsNormalNode (branch (cond known (insert_entry text_cmp a s.key s.value) a) ks cs h r)
    with_score s is true = (((insert_holds text_cmp IsText (FitsSigned w32) a s.key s.value normal.0.0.0 is.0 is.1, sorted_put nat_list_cmp_total a s.key s.value normal.0.0.1), normal.0.1, normal.0.2), normal.1, normal.2)
    with_score s is false = normal

    with_child : (s : MapEntry ℤ Branch) → IsChildEntry s → (known : Bool) → let es = cond known (insert_entry int_cmp (child_pairs ks cs) s.key s.value) (child_pairs ks cs) in IsNormalNode (branch a (keys_in es) (values_in es) h r)
    with_child s is known =
        let paired = are_paired ks cs normal.2 in
        let es = child_pairs ks cs in
        let inside : AreNormalPairs es = subst (λ (x : List ℤ × TreeList NodeOwn). AreNormalNodes x.0 x.1) (sym paired) normal.2 in
        let ascend : IsStrictlySortedBy int_cmp (keys_of es) = subst (IsStrictlySortedBy int_cmp) (sym (keys_paired ks cs paired)) normal.1 in
        by known inside ascend
      where
        by : (known : Bool) → AreNormalPairs (child_pairs ks cs) → IsStrictlySortedBy int_cmp (keys_of (child_pairs ks cs)) → let es = cond known (insert_entry int_cmp (child_pairs ks cs) s.key s.value) (child_pairs ks cs) in IsNormalNode (branch a (keys_in es) (values_in es) h r)
        by true inside ascend = let es = insert_entry int_cmp (child_pairs ks cs) s.key s.value in
            (normal.0, subst (IsStrictlySortedBy int_cmp) (keys_same es) (sorted_put int_cmp_total (child_pairs ks cs) s.key s.value ascend), put_normal (child_pairs ks cs) s.key s.value inside is.0 is.1)
        by false inside ascend = (normal.0, subst (IsStrictlySortedBy int_cmp) (keys_same (child_pairs ks cs)) ascend, inside)

    with_shade : (n : ℕ) → n ≡ 3 → (e : List ℕ) (s : MapEntry ℤ ℤ) → IsEntry int32_reading shade_reading d e s → FitsSigned w32 s.key → (known : Bool) → s.known ≡ known → (known ≡ true → ClosedFits shade_numbers s.value) →
        IsNormalNode (branch a ks cs (cond known (insert_entry int_cmp h s.key s.value) h) (r ++ undeclared_record n e known))
    with_shade n three e s entry key true is fits = (
      (
        normal.0.0,
        (insert_holds int_cmp (FitsSigned w32) (ClosedFits shade_numbers) h s.key s.value normal.0.1.0 key (fits refl), sorted_put int_cmp_total h s.key s.value normal.0.1.1),
        subst (λ z. AllByRecursion IsKept z) (sym (append-nil r)) normal.0.2,
      ),
      normal.1,
      normal.2,
    )
    with_shade n three e s entry key false is fits =
        let unknowns = undeclared_among_unknowns int32_reading shade_reading (refl, λ k d old c. refl) (refl, λ k d old c. refl) d e (s, entry, is) in
        ((normal.0.0, normal.0.1, AllByRecursion-last IsKept r (n, bytes e) normal.0.2 (inr (three, unknowns))), normal.1, normal.2)

    module _ (u : Branch) (n : ℕ) (x : FieldData) (p : List ℕ) (some : IsNumber n) (b : AreBytes p) (payload : IsPayload d n x p) where
      score_put : option_map (λ z. branch z ks cs h r) (scores_take d a n (wire_of x) p) ≡ Some u → IsNormalNode u
      score_put taken =
          let m = mapped (λ z. branch z ks cs h r) (scores_take d a n (wire_of x) p) u taken in
          let t = taken_entry text_reading int32_reading (λ v e s. stepped (insert_entry text_cmp) v s) d a m.0 n x p b payload m.1 in
          subst (λ z. IsNormalNode z) (sym (m.2 ∙ ap (λ z. branch z ks cs h r) t.4)) (with_score t.1 (score_is d t.0 t.1 t.2 t.3) t.1.known)

      child_put : option_map (λ es. branch a (keys_in es) (values_in es) h r) (children_take m d (child_pairs ks cs) n (wire_of x) p) ≡ Some u → IsNormalNode u
      child_put taken =
          let o = mapped (λ es. branch a (keys_in es) (values_in es) h r) (children_take m d (child_pairs ks cs) n (wire_of x) p) u taken in
          let t = taken_entry int32_reading (node_reading m (λ _. nothing)) (λ v e s. stepped (insert_entry int_cmp) v s) d (child_pairs ks cs) o.0 n x p b payload o.1 in
          subst (λ z. IsNormalNode z) (sym (o.2 ∙ ap (λ es. branch a (keys_in es) (values_in es) h r) t.4)) (with_child t.1 (child_is t.0 t.1 t.2 t.3) t.1.known)

      shade_put : n ≡ 3 → option_map (λ (z : Shades × NodeKept). branch a ks cs z.0 z.1) (shades_take d (h, r) n (wire_of x) p) ≡ Some u → IsNormalNode u
      shade_put three taken =
          let o = mapped (λ (z : Shades × NodeKept). branch a ks cs z.0 z.1) (shades_take d (h, r) n (wire_of x) p) u taken in
          let t = taken_entry int32_reading shade_reading (put_or_keep int32_reading shade_reading (insert_entry int_cmp) n) d (h, r) o.0 n x p b payload o.1 in
          let is = shade_is d t.0 t.1 t.2 t.3 in
          subst (λ z. IsNormalNode z) (sym (o.2 ∙ ap (λ (z : Shades × NodeKept). branch a ks cs z.0 z.1) t.4)) (with_shade n three t.0 t.1 t.3 is.0 t.1.known refl is.1)

      other_put : 3 < n → option_map (λ z. branch a ks cs h z) (keep_takes d r n (wire_of x) p) ≡ Some u → IsNormalNode u
      other_put high taken =
          let o = mapped (λ z. branch a ks cs h z) (keep_takes d r n (wire_of x) p) u taken in
          let same : (let q : Option NodeKept = Some o.0 in q ≡ Some (r ++ (n, x) ∷ [])) = sym o.1 ∙ kept_record d n x p r payload in
          let more : o.0 ≡ r ++ (n, x) ∷ [] = cc in
          subst (λ z. IsNormalNode z) (sym (o.2 ∙ ap (λ z. branch a ks cs h z) more)) ((normal.0.0, normal.0.1, AllByRecursion-last IsKept r (n, x) normal.0.2 (inl (high, (some, payload_valid x d n p b payload, tt)))), normal.1, normal.2)

      by_number : (i j k : Bool) → (n == 1) ≡ i → (n == 2) ≡ j → (n == 3) ≡ k →
          (if i then option_map (λ z. branch z ks cs h r) (scores_take d a n (wire_of x) p)
          else if j then option_map (λ es. branch a (keys_in es) (values_in es) h r) (children_take m d (child_pairs ks cs) n (wire_of x) p)
          else if k then option_map (λ (z : Shades × NodeKept). branch a ks cs z.0 z.1) (shades_take d (h, r) n (wire_of x) p)
          else option_map (λ z. branch a ks cs h z) (keep_takes d r n (wire_of x) p)) ≡ Some u → IsNormalNode u
      by_number true j k is_one is_two is_three taken = score_put taken
      by_number false true k is_one is_two is_three taken = child_put taken
      by_number false false true is_one is_two is_three taken = shade_put (eqb-true n 3 is_three) taken
      by_number false false false no_one no_two no_three taken = other_put (omega (arith, some, eqb-false n 1 no_one, eqb-false n 2 no_two, eqb-false n 3 no_three)) taken

  field_keeps : (v u : Branch) (n : ℕ) (x : FieldData) (p : List ℕ) → IsNormalNode v → IsNumber n → AreBytes p → IsPayload d n x p → node_field_takes m d v n (wire_of x) p ≡ Some u → IsNormalNode u
  field_keeps (branch a ks cs h r) u n x p normal some b payload taken = by_number a ks cs h r normal u n x p some b payload (n == 1) (n == 2) (n == 3) refl refl refl taken
  field_keeps _ u n x p normal some b payload taken = absurd normal

-- ---- all bytes
none_keeps : KeepsNormal (λ _ _. None)
none_keeps t u bs b n h = cc

pub node_stays_normal : (d : ℕ) → KeepsNormal (node_merged d)
node_stays_normal zero t u bs b n h = all_keep (node_field_takes (λ _ _. None)) zero IsNormalNode (field_keeps (λ _ _. None) none_keeps zero) bs t u b n h
node_stays_normal (suc d) t u bs b n h = all_keep (node_field_takes (node_merged d)) (suc d) IsNormalNode (field_keeps (node_merged d) (node_stays_normal d) (suc d)) bs t u b n h
