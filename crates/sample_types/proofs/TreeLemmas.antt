-- What a tree is by what its type says of itself: what is told of messages that hold themselves, of one level.
use Rattle.std.proofs.Common.{◌≡◌, ℕ, suc, max, ◌==◌, ◌&&◌, ◌+◌, ℤ, Bool, true, false, List, [], ◌∷◌, ◌++◌, length, map, Option, None, Some, Result, Ok, Err, cond, refl, sym, ap, ◌∙◌, arith, append-nil, if◌then◌else◌}
use Rattle.std.proofs.lemmas.Bool.{eqb-true}
use Rattle.std.specs.BTreeMap.{insert_entry}
use Rattle.std.specs.Map.{keys_of}
use Rattle.std.specs.Option.{option_map}
use Rattle.std.specs.Ordering.{int_cmp}
use Rattle.buffa_bytes.specs.PayloadValue.{PayloadValue, number, number_in}
use Rattle.buffa_bytes.specs.Readings.{delimited_at, varint_at, ◌>>=◌, same_wire}
use Rattle.buffa_bytes.specs.Values.{int32_of}
use Rattle.buffa_bytes.specs.declared.error.DecodeError.{DecodeError}
use Rattle.buffa_bytes.specs.declared.wire_type.WireType.{WireType}
use Rattle.buffa_bytes.specs.declared.wire_type.WireType.TheVariants.{LengthDelimited, Varint}
use Rattle.buffa_wire.specs.BudgetLeft.{BudgetLeft, charge_by, nothing}
use Rattle.buffa_wire.specs.ByField.{value_of}
use Rattle.buffa_wire.specs.Passes.{cap}
use Rattle.buffa_wire.specs.Records.{FieldData, bytes}
use Rattle.buffa_wire.specs.Takes.{cost_of, merged_of}
use Rattle.buffa_map.specs.Codec.{Reading}
use Rattle.buffa_map.specs.EntryReading.{entry_of, charge_of}
use Rattle.buffa_map.specs.Message.{message_reading}
use Rattle.buffa_map.specs.Pairs.{means}
use Rattle.buffa_map.specs.Scalars.{int32_reading, int32_writing}
use Rattle.buffa_map.specs.declared.map_entry.MapEntry.{MapEntry}
use Rattle.buffa_fields.specs.EntriesTaken.{entry_cost, entry_taken, whole_entry_in}
use Rattle.buffa_recursive.specs.MessageTree.{TreeList, first_tree, message_tree, many, no_inner}
use Rattle.buffa_recursive.specs.RecursiveSchema.{RecursiveSchema, whole_takes}
use Rattle.buffa_fields.specs.MapFields.{pair_taken, stepped}
use Rattle.buffa_fields.specs.MapsOfMessages.{pair_levels, pair_records, pair_slots}
use Rattle.buffa_recursive.specs.MapShape.{reading_by}
use Rattle.buffa_recursive.specs.MapTree.{child_pairs, keys_in, pairs_again, pairs_in, values_in}
use Rattle.buffa_recursive.specs.facts.LayerFacts.{costs_alike}
use Rattle.buffa_recursive.specs.Fixpoint.{semantics}
use Rattle.buffa_recursive.specs.facts.FixpointFacts.{blank_is, cost_by_is, each_is, levels_are, merged_by_is, records_are, slots_are}
use Rattle.buffa_fields.specs.Values.{all_of, value_taken}
use Rattle.buffa_recursive.specs.InnerMessages.{Semantics, encoding_by}
use Rattle.sample_types.proofs.AlikeLemmas.{merged_by_semantics}
use Rattle.sample_types.proofs.NumberLemmas.{plain_is}
use Rattle.sample_types.specs.Trees.{Children, Grown, Own, child_entry, child_reading, entry_by, tree_entry_in, grown, label_in, row, tree_levels, tree_charge, tree_records, tree_slots, tree_takes, whole_of}
use Rattle.sample_types.specs.contracts.tree.TreeRecursiveType.TheImpl.{ghosts}

abbrev pub tree_schema : RecursiveSchema Grown
tree_schema = ghosts.schema

abbrev pub tree_words : Semantics Grown
tree_words = semantics ghosts.COST tree_schema ghosts.sound

-- ---- a tree by what its members mean
abbrev pub Meant : Type 0
Meant = ℤ × ((List ℤ × TreeList Own) × Unit {0})

abbrev pub by_their_meaning : ℤ → Children → Meant
by_their_meaning l es = (l, (pairs_in es, tt))

pub keys_same : (es : Children) → keys_of es ≡ keys_in es
keys_same [] = refl
keys_same (e ∷ es) = ap (λ (ks : List ℤ). e.0 ∷ ks) (keys_same es)

pub rows_same : (es : Children) → row es ≡ values_in es
rows_same [] = refl
rows_same (e ∷ es) = ap (first_tree e.1) (rows_same es)

pub out_is : (l : ℤ) (es : Children) → tree_schema.out (grown l es) ≡ by_their_meaning l es
out_is l es = λ i. (l, ((keys_same es i, rows_same es i), tt))

pub into_is : (l : ℤ) (es : Children) → tree_schema.into (by_their_meaning l es) ≡ grown l es
into_is l es = λ i. message_tree (l, (sym (keys_same es) i, tt)) (many (sym (rows_same es) i) no_inner)

pub children_again : (es : Children) → child_pairs (keys_of es) (row es) ≡ es
children_again es = (λ i. child_pairs (keys_same es i) (rows_same es i)) ∙ pairs_again es

means_same : (es : Children) → means (λ (k : ℤ). k) (λ (m : Grown). m) es ≡ es
means_same [] = refl
means_same (e ∷ es) = ap (λ (fs : Children). e ∷ fs) (means_same es)

-- what contracts see of a tree is its label and its children
pub seen_is : (l : ℤ) (es : Children) → (let ps = means (λ (k : ℤ). k) (λ (m : Grown). m) es in message_tree (l, (keys_in ps, tt)) (many (values_in ps) no_inner)) ≡ grown l es
seen_is l es = ap (λ (ps : Children). tree_schema.into (by_their_meaning l ps)) (means_same es) ∙ into_is l es

-- ---- written
entries_are : (es : Children) → pair_records int32_writing (encoding_by tree_words) 2 es ≡ map (λ (e : ℤ × Grown). (2, bytes (child_entry e.0 (encoding_by tree_words e.1)))) es
unfolding pair_records
entries_are [] = refl
entries_are (e ∷ es) = ap (λ (rs : List (ℕ × FieldData)). (2, bytes (child_entry e.0 (encoding_by tree_words e.1))) ∷ rs) (entries_are es)

pub tree_records_are : (l : ℤ) (es : Children) → tree_words.records (grown l es) ≡ tree_records (encoding_by tree_words) l es
tree_records_are l es =
    records_are ghosts.COST tree_schema ghosts.sound (grown l es)
    ∙ ap (tree_schema.schema tree_words).records (out_is l es)
    ∙ (λ i. plain_is 1 l i ++ (append-nil (pair_records int32_writing (encoding_by tree_words) 2 (child_pairs (keys_in es) (values_in es)))
    ∙ ap (pair_records int32_writing (encoding_by tree_words) 2) (pairs_again es) ∙ entries_are es) i)

slots_in_a_row : (es : Children) → pair_slots (encoding_by tree_words) tree_words.slots es ≡ tree_slots (encoding_by tree_words) tree_words.slots es
unfolding pair_slots
slots_in_a_row [] = refl
slots_in_a_row (e ∷ es) = ap (λ (ss : List ℕ). cap (length (encoding_by tree_words e.1)) ∷ tree_words.slots e.1 ++ ss) (slots_in_a_row es)

pub tree_slots_are : (l : ℤ) (es : Children) → tree_words.slots (grown l es) ≡ tree_slots (encoding_by tree_words) tree_words.slots es
tree_slots_are l es =
    slots_are ghosts.COST tree_schema ghosts.sound (grown l es)
    ∙ ap (tree_schema.schema tree_words).slots (out_is l es)
    ∙ append-nil (pair_slots (encoding_by tree_words) tree_words.slots (child_pairs (keys_in es) (values_in es)))
    ∙ ap (pair_slots (encoding_by tree_words) tree_words.slots) (pairs_again es)
    ∙ slots_in_a_row es

levels_in_a_row : (es : Children) → pair_levels tree_words.levels es ≡ tree_levels tree_words.levels es
levels_in_a_row [] = refl
levels_in_a_row (e ∷ es) = ap (λ k. max (suc (tree_words.levels e.1)) k) (levels_in_a_row es)

pub tree_levels_are : (l : ℤ) (es : Children) → tree_words.levels (grown l es) ≡ tree_levels tree_words.levels es
tree_levels_are l es =
    levels_are ghosts.COST tree_schema ghosts.sound (grown l es)
    ∙ ap (tree_schema.schema tree_words).levels (out_is l es)
    ∙ no_more (pair_levels tree_words.levels (child_pairs (keys_in es) (values_in es)))
    ∙ ap (pair_levels tree_words.levels) (pairs_again es)
    ∙ levels_in_a_row es
  where
    no_more : (n : ℕ) → max 0 (max n 0) ≡ n
    no_more n = omega arith

-- ---- read
abbrev pub inside : Reading Grown
inside = child_reading tree_words.merged tree_words.cost

pub reading_is : reading_by tree_words ≡ inside
reading_is = λ i. message_reading (blank_is ghosts.COST tree_schema ghosts.sound i) tree_words.merged tree_words.cost

abbrev content : ℕ × List ℕ → Result (PayloadValue × List ℕ) DecodeError
content x = Ok (number x.0, x.1)

abbrev value : PayloadValue × List ℕ → Result ((ℤ × Bool) × List ℕ) DecodeError
value x = Ok ((int32_of (number_in x.0), true), x.1)

abbrev int32 : ℕ × List ℕ → Result (ℤ × List ℕ) DecodeError
int32 x = Ok (int32_of x.0, x.1)

number_same : (r : Result (ℕ × List ℕ) DecodeError) → all_of ((r >>= content) >>= value) ≡ whole_of (r >>= int32)
number_same (Ok (k, [])) = refl
number_same (Ok (k, b ∷ bs)) = refl
number_same (Err e) = refl

label_same : (d : ℕ) (l : ℤ) (n : ℕ) (wt : WireType) (p : List ℕ) → value_taken int32_reading d l n wt p ≡ label_in wt p
label_same d l n wt p = λ i. if same_wire Varint wt then number_same (varint_at p) i else None

module _ (d : ℕ) (es : Children) where
  abbrev put : MapEntry ℤ Grown → Children
  put s = cond s.known (insert_entry int_cmp es s.key s.value) es

  put_same : (b : List ℕ) (o : Option (MapEntry ℤ Grown)) → option_map (λ (x : List ℕ × MapEntry ℤ Grown). stepped (insert_entry int_cmp) es x.1) (option_map (λ s. (b, s)) o) ≡ option_map put o
  put_same b None = refl
  put_same b (Some s) = refl

  whole_same : (r : Result (List ℕ × List ℕ) DecodeError) →
      option_map (λ (x : List ℕ × MapEntry ℤ Grown). stepped (insert_entry int_cmp) es x.1) (whole_entry_in int32_reading inside d r) ≡ option_map put (entry_by tree_words.merged tree_words.cost d (whole_of r))
  whole_same (Ok (b, [])) = put_same b (value_of (entry_of int32_reading inside d b))
  whole_same (Ok (b, c ∷ cs)) = refl
  whole_same (Err e) = refl

  entry_same : (n : ℕ) (wt : WireType) (p : List ℕ) → pair_taken int32_reading inside (insert_entry int_cmp) d es n wt p ≡ option_map put (tree_entry_in tree_words.merged tree_words.cost d wt p)
  unfolding entry_taken
  entry_same n wt p = by (same_wire LengthDelimited wt)
    where
      by : (b : Bool) → (if b then option_map (λ (x : List ℕ × MapEntry ℤ Grown). stepped (insert_entry int_cmp) es x.1) (whole_entry_in int32_reading inside d (delimited_at p)) else None)
          ≡ option_map put (if b then entry_by tree_words.merged tree_words.cost d (whole_of (delimited_at p)) else None)
      by true = whole_same (delimited_at p)
      by false = refl

abbrev pub grown_of : ℤ × Children → Grown
grown_of x = grown x.0 x.1

abbrev with_label : Children → ℤ → ℤ × Children
with_label es l = (l, es)

abbrev with_children : ℤ → Children → ℤ × Children
with_children l es = (l, es)

one_field : (i j : Bool) (a : Option ℤ) (fs : Option Children) (l : ℤ) (es : Children) →
    option_map tree_schema.into (let o : Option Meant = if i then option_map (λ (x : ℤ). (x, (pairs_in es, tt))) a
    else option_map (λ (y : (List ℤ × TreeList Own) × Unit {0}). (l, y)) (if j then option_map (λ (x : List ℤ × TreeList Own). (x, tt)) (option_map pairs_in fs)
    else option_map (λ (y : Unit {0}). (pairs_in es, y)) (Some tt)) in o)
    ≡ option_map grown_of (if i then option_map (with_label es) a else if j then option_map (with_children l) fs else Some (l, es))
one_field true j None fs l es = refl
one_field true j (Some x) fs l es = ap (λ z. Some z) (into_is x es)
one_field false true a None l es = refl
one_field false true a (Some gs) l es = ap (λ z. Some z) (into_is l gs)
one_field false false a fs l es = ap (λ z. Some z) (into_is l es)

takes_are : (d : ℕ) (x : ℤ × Children) (n : ℕ) (wt : WireType) (p : List ℕ) →
    whole_takes tree_schema tree_words d (grown_of x) n wt p ≡ option_map grown_of (tree_takes tree_words.merged tree_words.cost d x n wt p)
takes_are d (l, es) n wt p =
    let taken : Reading Grown → Children → Option Children = λ val ps. pair_taken int32_reading val (insert_entry int_cmp) d ps n wt p in
    ap (λ (y : Meant). option_map tree_schema.into ((tree_schema.schema tree_words).takes d y n wt p)) (out_is l es)
    ∙ one_field (n == 1) (n == 2) (value_taken int32_reading d l n wt p) (taken (reading_by tree_words) (child_pairs (keys_in es) (values_in es))) l es
    ∙ (λ i. option_map grown_of (if n == 1 then option_map (with_label es) (label_same d l n wt p i)
    else if n == 2 then option_map (with_children l) (taken (reading_is i) (pairs_again es i)) else Some (l, es)))
    ∙ (λ i. option_map grown_of (if n == 1 then option_map (with_label es) (label_in wt p)
    else if n == 2 then option_map (with_children l) (entry_same d es n wt p i) else Some (l, es)))
    ∙ put_there (n == 1) (n == 2) (option_map (with_label es) (label_in wt p)) (tree_entry_in tree_words.merged tree_words.cost d wt p)
  where
    twice : (o : Option (MapEntry ℤ Grown)) → option_map (with_children l) (option_map (put d es) o) ≡ option_map (λ s. with_children l (put d es s)) o
    twice None = refl
    twice (Some s) = refl

    put_there : (i j : Bool) (a : Option (ℤ × Children)) (o : Option (MapEntry ℤ Grown)) →
        option_map grown_of (if i then a else if j then option_map (with_children l) (option_map (put d es) o) else Some (l, es))
        ≡ option_map grown_of (if i then a else if j then option_map (λ s. with_children l (put d es s)) o else Some (l, es))
    put_there i j a o = λ k. option_map grown_of (if i then a else if j then twice o k else Some (l, es))

pub tree_merged_is : (d : ℕ) (l : ℤ) (es : Children) (b : List ℕ) → tree_words.merged d (grown l es) b ≡ option_map grown_of (merged_of (tree_takes tree_words.merged tree_words.cost) d (l, es) b)
tree_merged_is d l es b =
    merged_by_is ghosts.COST tree_schema ghosts.sound d (grown l es) b
    ∙ merged_by_semantics grown_of (tree_takes tree_words.merged tree_words.cost) (whole_takes tree_schema tree_words) d (takes_are d) (l, es) b

-- ---- what it costs
one_charge : (i j s : Bool) (a : BudgetLeft) → (i ≡ true → j ≡ true → ⊥) → (let z : BudgetLeft = if i then nothing else if j then (if s then a else nothing) else nothing in z) ≡ (if j && s then a else nothing)
one_charge true true s a differs_only = absurd (differs_only refl refl)
one_charge true false s a differs_only = refl
one_charge false true true a differs_only = refl
one_charge false true false a differs_only = refl
one_charge false false s a differs_only = refl

-- what an entry costs, where a child does so much
abbrev paid : Reading Grown → ℕ → ℕ → List ℕ → BudgetLeft
paid val each d bs = charge_by (delimited_at bs) (λ e. charge_of int32_reading val d (4 + each) e.0)

pub tree_cost_is : (d : ℕ) (b : List ℕ) → tree_words.cost d b ≡ cost_of (tree_charge tree_words.merged tree_words.cost) d b
unfolding entry_cost
tree_cost_is d b =
    cost_by_is ghosts.COST tree_schema ghosts.sound d b
    ∙ (λ i. costs_alike (tree_schema.schema tree_words).charge (tree_charge tree_words.merged tree_words.cost) d needs i b)
  where
    needs : (tree_schema.schema tree_words).charge d ≡ tree_charge tree_words.merged tree_words.cost d
    needs = (λ i n wt bs. if n == 1 then nothing else if n == 2 then (if same_wire LengthDelimited wt then paid (reading_is i) (each_is ghosts.COST tree_schema ghosts.sound i) d bs else nothing) else nothing)
        ∙ (λ i n wt bs. one_charge (n == 1) (n == 2) (same_wire LengthDelimited wt) (paid inside 32 d bs) (λ one two. omega (arith, eqb-true n 1 one, eqb-true n 2 two)) i)
