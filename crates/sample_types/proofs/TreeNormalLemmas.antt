-- Which trees read back, and that what bytes make of one does.
use Rattle.std.proofs.Common.{◌≡◌, inl, inr, ℕ, zero, suc, ℤ, pos, negsuc, ◌^◌, ◌<◌, ◌==◌, FitsSigned, Bool, true, false, cond, List, [], ◌∷◌, ◌++◌, length, length-append, Option, None, Some, Result, Ok, Err, refl, sym, ap, subst, ◌∙◌, arith, if◌then◌else◌}
use Rattle.std.specs.BTreeMap.{insert_entry}
use Rattle.std.specs.Cmp.{int_cmp_total}
use Rattle.std.specs.Int.{cast_unsigned, w32, w64}
use Rattle.std.specs.List.{AllByRecursion}
use Rattle.std.specs.List.Sorted.{IsStrictlySortedBy}
use Rattle.std.specs.Option.{option_map}
use Rattle.std.specs.Ordering.{int_cmp, match_ordering}
use Rattle.std.specs.declared.cmp.Ordering.{Ordering}
use Rattle.std.specs.declared.cmp.Ordering.TheVariants.{Less, Equal, Greater}
use Rattle.buffa_bytes.proofs.ListLemmas.{AllByRecursion-weaker}
use Rattle.buffa_bytes.proofs.ScalarLemmas.{int32_fits}
use Rattle.buffa_bytes.proofs.SequenceLemmas.{ok_same}
use Rattle.buffa_bytes.proofs.StepLemmas.{agree_ok}
use Rattle.buffa_bytes.specs.PayloadValue.{bytes_in, number_in}
use Rattle.buffa_bytes.specs.Readings.{delimited_at, skip_at, varint_at, ◌>>=◌, same_wire}
use Rattle.buffa_bytes.specs.Scan.{ParsesEach}
use Rattle.buffa_bytes.specs.Values.{delimited_encoding, int32_of, tag_encoding}
use Rattle.buffa_bytes.specs.Varint.{varint_encoding}
use Rattle.buffa_bytes.specs.declared.error.DecodeError.{DecodeError}
use Rattle.buffa_bytes.specs.declared.wire_type.WireType.{WireType}
use Rattle.buffa_bytes.specs.declared.wire_type.WireType.TheVariants.{LengthDelimited, Varint}
use Rattle.buffa_wire.proofs.ParseLemmas.{short_fits}
use Rattle.buffa_wire.specs.BudgetLeft.{BudgetLeft}
use Rattle.buffa_wire.specs.ByField.{value_of}
use Rattle.buffa_wire.specs.Message.{merged_in}
use Rattle.buffa_wire.specs.Parse.{Fits}
use Rattle.buffa_wire.specs.Records.{FieldData, records_of}
use Rattle.buffa_wire.specs.Takes.{Taker, answer, framed, front_of, merged_of}
use Rattle.buffa_map.proofs.EntryLemmas.{entry_sound}
use Rattle.buffa_map.proofs.SortedLemmas.{sorted_put}
use Rattle.buffa_map.specs.Encoding.{AllHold}
use Rattle.buffa_map.specs.Entry.{IsEntryField}
use Rattle.buffa_map.specs.EntryReading.{blanks, entry_of}
use Rattle.buffa_map.specs.Message.{merged_value}
use Rattle.buffa_map.specs.Scalars.{int32_reading}
use Rattle.buffa_map.specs.declared.map_entry.MapEntry.{MapEntry}
use Rattle.buffa_fields.specs.Submessages.{FitsInside}
use Rattle.buffa_fields.specs.OrderedMaps.{KeysAscend}
use Rattle.buffa_recursive.specs.MapTree.{child_pairs, pairs_again, pairs_in}
use Rattle.buffa_recursive.specs.facts.FixpointFacts.{is_normal, normal_is}
use Rattle.buffa_recursive.specs.InnerMessages.{encoding_by}
use Rattle.sample_types.proofs.TreeLemmas.{Meant, grown_of, into_is, by_their_meaning, out_is, tree_schema, tree_merged_is, tree_records_are, tree_words}
use Rattle.sample_types.specs.FieldsFacts.{Keeps, merged_keeps}
use Rattle.sample_types.specs.Fields.{value_records}
use Rattle.sample_types.specs.Trees.{Children, Grown, IsTreeOf, child_entry, child_reading, entry_by, tree_entry_in, grown, label_in, tree_records, tree_takes, whole_of}
use Rattle.sample_types.specs.contracts.tree.TreeRecursiveType.TheImpl.{ghosts}

-- ---- which trees are normal
abbrev pub IsInside : Grown → Type 0
IsInside t = tree_words.normal t × Fits (records_of (tree_words.records t))

abbrev IsKey : ℤ → Type 0
IsKey k = FitsSigned w32 k × Unit {0}

each_of : (es : Children) → AllHold IsKey (FitsInside tree_words.normal tree_words.records) es → AllByRecursion (λ (e : ℤ × Grown). FitsSigned w32 e.0 × IsInside e.1) es
each_of [] h = tt
each_of (e ∷ es) h = ((h.0.0, h.1), each_of es h.2)

of_each : (es : Children) → AllByRecursion (λ (e : ℤ × Grown). FitsSigned w32 e.0 × IsInside e.1) es → AllHold IsKey (FitsInside tree_words.normal tree_words.records) es
of_each [] h = tt
of_each (e ∷ es) h = ((h.0.0, tt), h.0.1, of_each es h.1)

abbrev schema_normal : Meant → Type 0
schema_normal y = (tree_schema.schema tree_words).normal y

pub normal_says : (l : ℤ) (es : Children) → tree_words.normal (grown l es) → IsTreeOf IsInside l es
normal_says l es h =
    let schema_of = subst schema_normal (out_is l es) (normal_is ghosts.COST tree_schema ghosts.sound (grown l es) h).2 in
    let pairs = subst (λ (ps : Children). AllHold IsKey (FitsInside tree_words.normal tree_words.records) ps × KeysAscend int_cmp ps) (pairs_again es) schema_of.1.0.1 in
    record { label = schema_of.0.0; ascend = pairs.1; children = each_of es pairs.0 }

pub says_normal : tree_schema.Owes → (l : ℤ) (es : Children) → IsTreeOf IsInside l es → tree_words.normal (grown l es)
says_normal owes l es h =
    let pairs = subst (λ (ps : Children). AllHold IsKey (FitsInside tree_words.normal tree_words.records) ps × KeysAscend int_cmp ps) (sym (pairs_again es)) (of_each es h.children, h.ascend) in
    let schema_of : schema_normal (by_their_meaning l es) = ((h.label, tt), ((ap pairs_in (pairs_again es), pairs), tt, tt), tt) in
    is_normal ghosts.COST tree_schema ghosts.sound (grown l es) (owes, refl, subst schema_normal (sym (out_is l es)) schema_of)

pub only_grown : (t : Grown) → tree_words.normal t → (l : ℤ) × (es : Children) × (t ≡ grown l es)
only_grown t h =
    let schema_of = normal_is ghosts.COST tree_schema ghosts.sound t h in
    let y : Meant = tree_schema.out t in
    let es : Children = child_pairs y.1.0.0 y.1.0.1 in
    (y.0, es, sym schema_of.1 ∙ (λ i. tree_schema.into (y.0, (sym schema_of.2.1.0.0 i, tt))) ∙ into_is y.0 es)

-- ---- where the records of a tree fit, so do those of its children
behind_label : (l : ℤ) (rs : List (ℕ × FieldData)) → Fits (records_of (value_records l ++ rs)) → Fits (records_of rs)
behind_label (pos zero) rs h = h
behind_label (pos (suc k)) rs h = h.1
behind_label (negsuc k) rs h = h.1

-- the encoding of a child is shorter than its entry
shorter : (k : ℤ) (b : List ℕ) → length (child_entry k b) < 2 ^ 64 → length b < 2 ^ 64
shorter k b h =
    omega (arith, h, length-append (tag_encoding 1 Varint ++ varint_encoding (cast_unsigned w64 k)) (tag_encoding 2 LengthDelimited ++ delimited_encoding b), length-append (tag_encoding 2 LengthDelimited) (delimited_encoding b), length-append (varint_encoding (length b)) b)

module _ (P : Grown → Type 0) where
  fit_each : (es : Children) → Fits (records_of (tree_records (encoding_by tree_words) (pos 0) es)) → AllByRecursion (λ (e : ℤ × Grown). FitsSigned w32 e.0 × P e.1) es →
      AllByRecursion (λ (e : ℤ × Grown). FitsSigned w32 e.0 × (P e.1 × Fits (records_of (tree_words.records e.1)))) es
  fit_each [] fits h = tt
  fit_each (e ∷ es) fits h =
      ((h.0.0, (h.0.1, short_fits (records_of (tree_words.records e.1)) (shorter e.0 (encoding_by tree_words e.1) fits.0))), fit_each es fits.1 h.1)

  pub fit_inside : (l : ℤ) (es : Children) → Fits (records_of (tree_words.records (grown l es))) → IsTreeOf P l es → IsTreeOf (λ t. P t × Fits (records_of (tree_words.records t))) l es
  fit_inside l es fits h =
      let all = subst (λ (rs : List (ℕ × FieldData)). Fits (records_of rs)) (tree_records_are l es) fits in
      record { label = h.label; ascend = h.ascend; children = fit_each es (behind_label l _ all) h.children }

pub tree_of_more : {P Q : Grown → Type 0} → ((t : Grown) → P t → Q t) → (l : ℤ) (es : Children) → IsTreeOf P l es → IsTreeOf Q l es
tree_of_more {P} {Q} more l es h =
    record { label = h.label; ascend = h.ascend; children = AllByRecursion-weaker (λ (e : ℤ × Grown). FitsSigned w32 e.0 × P e.1) (λ e. FitsSigned w32 e.0 × Q e.1) (λ e is. (is.0, more e.1 is.1)) es h.children }

-- ---- what each field keeps all bytes keep
module _ {X : Type 0} (takes : Taker X) (d : ℕ) (P : X → Type 0) (keeps : (v u : X) (n : ℕ) (w : WireType) (p : List ℕ) → P v → takes d v n w p ≡ Some u → P u) where
  framed_keeps : Keeps (framed takes d) P
  framed_keeps v n w bs x h is = by (skip_at d n w bs) is
    where
      taken : (rest : List ℕ) (o : Option X) → takes d v n w (front_of bs rest) ≡ o → answer rest o ≡ Ok x → P x.0
      taken rest None q k = cc
      taken rest (Some u) q k = subst P (ap (λ (z : X × List ℕ). z.0) (ok_same k)) (keeps v u n w (front_of bs rest) h q)

      by : (r : Result (List ℕ) DecodeError) → (r >>= (λ rest. answer rest (takes d v n w (front_of bs rest)))) ≡ Ok x → P x.0
      by (Err e) k = cc
      by (Ok rest) k = taken rest (takes d v n w (front_of bs rest)) refl k

  all_keep : (v : X) (bs : List ℕ) (u : X) → P v → merged_of takes d v bs ≡ Some u → P u
  unfolding merged_of
  all_keep v bs u h is = merged_keeps (framed takes d) P framed_keeps v bs u h is

mapped : {A B : Type 0} (f : A → B) (o : Option A) (u : B) → option_map f o ≡ Some u → (x : A) × (o ≡ Some x) × (f x ≡ u)
mapped f None u h = cc
mapped f (Some x) u h = (x, refl, cc)

-- ---- a label
read_fits : (r : Result (ℕ × List ℕ) DecodeError) (u : ℤ) → whole_of (r >>= (λ n. let x : ℤ × List ℕ = (int32_of n.0, n.1) in Ok x)) ≡ Some u → FitsSigned w32 u
read_fits (Ok (k, [])) u h = let e : int32_of k ≡ u = cc in subst (λ z. FitsSigned w32 z) e (int32_fits k)
read_fits (Ok (k, b ∷ bs)) u h = cc
read_fits (Err e) u h = cc

label_fits : (w : WireType) (p : List ℕ) (u : ℤ) → label_in w p ≡ Some u → FitsSigned w32 u
label_fits w p u h = by (same_wire Varint w) h
  where
    by : (b : Bool) → (if b then whole_of (varint_at p >>= (λ n. let x : ℤ × List ℕ = (int32_of n.0, n.1) in Ok x)) else None) ≡ Some u → FitsSigned w32 u
    by true k = read_fits (varint_at p) u k
    by false k = cc

pub empty : (P : Grown → Type 0) → IsTreeOf P (pos 0) []
unfolding IsStrictlySortedBy
empty P = record { label = int32_fits 0; ascend = tt; children = tt }

-- ---- what holds of each tree of which it holds of each child
module _ (P : Grown → Type 0) (closed : (l : ℤ) (es : Children) → IsTreeOf P l es → P (grown l es)) where
  abbrev pub IsSo : Grown → Type 0
  IsSo t = (l : ℤ) × (es : Children) × (t ≡ grown l es) × IsTreeOf P l es

  pub is_so : (t : Grown) → IsSo t → P t
  is_so t (l, es, is, h) = subst P (sym is) (closed l es h)

  -- a child is put
  put_so : (es : Children) (k : ℤ) (t : Grown) → AllByRecursion (λ (e : ℤ × Grown). FitsSigned w32 e.0 × P e.1) es → FitsSigned w32 k → P t → AllByRecursion (λ (e : ℤ × Grown). FitsSigned w32 e.0 × P e.1) (insert_entry int_cmp es k t)
  put_so [] k t a f n = ((f, n), tt)
  put_so (e ∷ es) k t a f n = by (int_cmp k e.0) (put_so es k t a.1 f n)
    where
      by : (r : Ordering) → AllByRecursion (λ (e : ℤ × Grown). FitsSigned w32 e.0 × P e.1) (insert_entry int_cmp es k t) →
          AllByRecursion (λ (e : ℤ × Grown). FitsSigned w32 e.0 × P e.1) (match_ordering r ((k, t) ∷ e ∷ es) ((e.0, t) ∷ es) (e ∷ insert_entry int_cmp es k t))
      by Less i = ((f, n), a)
      by Equal i = ((a.0.0, n), a.1)
      by Greater i = (a.0, i)

  -- an entry, where what a level below makes of such a tree is one
  module _ (m : ℕ → Grown → List ℕ → Option Grown) (c : ℕ → List ℕ → BudgetLeft) (d : ℕ) (stays : (t u : Grown) (bs : List ℕ) → IsSo t → merged_in m d t bs ≡ Some u → IsSo u) where
    abbrev Said : MapEntry ℤ Grown → Type 0
    Said s = FitsSigned w32 s.key × IsSo s.value

    value_so : (old v : Grown) (bs : List ℕ) (known : Bool) → IsSo old → merged_value (merged_in m d old bs) ≡ Ok (v, known) → IsSo v
    value_so old v bs known n h = by (merged_in m d old bs) refl h
      where
        by : (o : Option Grown) → merged_in m d old bs ≡ o → merged_value o ≡ Ok (v, known) → IsSo v
        by None is h = cc
        by (Some x) is h = let e : x ≡ v = ap (λ z. z.0) (ok_same h) in subst (λ z. IsSo z) e (stays old x bs n is)

    one : (s t : MapEntry ℤ Grown) (f : List ℕ) → IsEntryField int32_reading (child_reading m c) d s f t → Said s → Said t
    one s t f (inl (k, known, (tag, p, c, is_tag, l, has, reads, split), is)) h =
        let e : int32_of (number_in c) ≡ k = ap (λ z. z.0) (ok_same reads) in
        subst (λ z. Said z) (sym is) (subst (λ z. FitsSigned w32 z) e (int32_fits (number_in c)), h.1)
    one s t f (inr (inl (v, known, (tag, p, c, is_tag, l, has, reads, split), is))) h =
        subst (λ z. Said z) (sym is) (h.0, value_so s.value v (bytes_in c) known h.1 reads)
    one s t f (inr (inr (n, w, no_key, no_value, field, is))) h = subst (λ z. Said z) (sym is) h

    each : (ps : List (List ℕ)) (s t : MapEntry ℤ Grown) → ParsesEach (IsEntryField int32_reading (child_reading m c) d) s ps t → Said s → Said t
    each [] s t h said = subst (λ z. Said z) h said
    each (p ∷ ps) s t (u, h, k) said = each ps u t k (one s u p h said)

    said : (e : List ℕ) (s : MapEntry ℤ Grown) → entry_of int32_reading (child_reading m c) d e ≡ Ok s → Said s
    said e s is =
        let (ps, split, h) = agree_ok (entry_of int32_reading (child_reading m c) d e) s (entry_sound int32_reading (child_reading m c) d e) is in
        each ps (blanks int32_reading (child_reading m c) d) s h (int32_fits 0, (pos 0, [], refl, empty P))

    entry_so : (o : Option (List ℕ)) (s : MapEntry ℤ Grown) → entry_by m c d o ≡ Some s → Said s
    entry_so None s h = cc
    entry_so (Some b) s h = by (entry_of int32_reading (child_reading m c) d b) refl h
      where
        by : (r : Result (MapEntry ℤ Grown) DecodeError) → entry_of int32_reading (child_reading m c) d b ≡ r → value_of r ≡ Some s → Said s
        by (Err e) is h = cc
        by (Ok t) is h = let same : t ≡ s = cc in subst (λ z. Said z) same (said b t is)

    field_so : (w : WireType) (p : List ℕ) (s : MapEntry ℤ Grown) → tree_entry_in m c d w p ≡ Some s → Said s
    field_so w p s h = by (same_wire LengthDelimited w) h
      where
        by : (b : Bool) → (if b then entry_by m c d (whole_of (delimited_at p)) else None) ≡ Some s → Said s
        by true k = entry_so (whole_of (delimited_at p)) s k
        by false k = cc

    with_child : (l : ℤ) (es : Children) (s : MapEntry ℤ Grown) → Said s → (known : Bool) → IsTreeOf P l es → IsTreeOf P l (cond known (insert_entry int_cmp es s.key s.value) es)
    with_child l es s is true h = record {
      label = h.label;
      ascend = sorted_put int_cmp_total es s.key s.value h.ascend;
      children = put_so es s.key s.value h.children is.0 (is_so s.value is.1);
    }
    with_child l es s is false h = h

    keeps : (x u : ℤ × Children) (n : ℕ) (w : WireType) (p : List ℕ) → IsTreeOf P x.0 x.1 → tree_takes m c d x n w p ≡ Some u → IsTreeOf P u.0 u.1
    keeps x u n w p h is = by (n == 1) (n == 2) is
      where
        by : (i j : Bool) → (if i then option_map (λ (l : ℤ). (l, x.1)) (label_in w p)
            else if j then option_map (λ (s : MapEntry ℤ Grown). (x.0, cond s.known (insert_entry int_cmp x.1 s.key s.value) x.1)) (tree_entry_in m c d w p) else Some x) ≡ Some u → IsTreeOf P u.0 u.1
        by true j k =
            let y = mapped (λ (l : ℤ). (l, x.1)) (label_in w p) u k in
            subst (λ (z : ℤ × Children). IsTreeOf P z.0 z.1) y.2 (record { label = label_fits w p y.0 y.1; ascend = h.ascend; children = h.children })
        by false true k =
            let y = mapped (λ (s : MapEntry ℤ Grown). (x.0, cond s.known (insert_entry int_cmp x.1 s.key s.value) x.1)) (tree_entry_in m c d w p) u k in
            subst (λ (z : ℤ × Children). IsTreeOf P z.0 z.1) y.2 (with_child x.0 x.1 y.0 (field_so w p y.0 y.1) y.0.known h)
        by false false k = let e : x ≡ u = cc in subst (λ (z : ℤ × Children). IsTreeOf P z.0 z.1) e h

  -- all bytes
  at_depth : (d : ℕ) → ((t u : Grown) (bs : List ℕ) → IsSo t → merged_in tree_words.merged d t bs ≡ Some u → IsSo u) →
      (l : ℤ) (es : Children) (u : Grown) (bs : List ℕ) → IsTreeOf P l es → tree_words.merged d (grown l es) bs ≡ Some u → IsSo u
  at_depth d stays l es u bs so h =
      let takes = tree_takes tree_words.merged tree_words.cost in
      let x = mapped grown_of (merged_of takes d (l, es) bs) u (sym (tree_merged_is d l es bs) ∙ h) in
      (x.0.0, x.0.1, sym x.2, all_keep takes d (λ (z : ℤ × Children). IsTreeOf P z.0 z.1) (keeps tree_words.merged tree_words.cost d stays) (l, es) bs x.0 so x.1)

  pub tree_stays : (d : ℕ) (l : ℤ) (es : Children) (u : Grown) (bs : List ℕ) → IsTreeOf P l es → tree_words.merged d (grown l es) bs ≡ Some u → IsSo u
  tree_stays zero l es u bs so h = at_depth zero (λ t u bs s k. cc) l es u bs so h
  tree_stays (suc d) l es u bs so h =
      at_depth (suc d) (λ t v cs s k. tree_stays d s.0 s.1 v cs s.3 (ap (λ z. tree_words.merged d z cs) (sym s.2) ∙ k)) l es u bs so h

-- ---- what bytes make of a normal tree is normal, where its records fit
abbrev IsBack : Grown → Type 0
IsBack t = Fits (records_of (tree_words.records t)) → tree_words.normal t

pub tree_stays_normal : tree_schema.Owes → (d : ℕ) (t u : Grown) (bs : List ℕ) → tree_words.normal t → tree_words.merged d t bs ≡ Some u → Fits (records_of (tree_words.records u)) → tree_words.normal u
tree_stays_normal owes d t u bs normal h fits =
    let t_is = only_grown t normal in
    let all = normal_says t_is.0 t_is.1 (subst (λ z. tree_words.normal z) t_is.2 normal) in
    let stays = tree_stays IsBack back d t_is.0 t_is.1 u bs (tree_of_more (λ x in_it _. in_it.0) t_is.0 t_is.1 all) (ap (λ z. tree_words.merged d z bs) (sym t_is.2) ∙ h) in
    is_so IsBack back u stays fits
  where
    back : (l : ℤ) (es : Children) → IsTreeOf IsBack l es → IsBack (grown l es)
    back l es so fit = says_normal owes l es (tree_of_more (λ x in_it. (in_it.0 in_it.1, in_it.1)) l es (fit_inside IsBack l es fit so))
