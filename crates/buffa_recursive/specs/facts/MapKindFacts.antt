-- What is proved of members that are maps of the message's own type.
use Rattle.std.proofs.Common.{◌≡◌, ℕ, zero, suc, ◌+◌, ◌≤◌, ◌==◌, max, List, [], ◌∷◌, ◌++◌, length, Option, None, Result, Ok, Err, refl, ap, subst, ◌∙◌, arith, if◌then◌else◌}
use Rattle.std.specs.BTreeMap.{insert_entry}
use Rattle.std.specs.Option.{option_map}
use Rattle.buffa_bytes.specs.Readings.{delimited_at, same_wire}
use Rattle.buffa_bytes.specs.declared.error.DecodeError.{DecodeError}
use Rattle.buffa_bytes.specs.declared.wire_type.WireType.TheVariants.{LengthDelimited}
use Rattle.buffa_map.specs.Codec.{Reading}
use Rattle.buffa_map.specs.Encoding.{AllHold, entry_encoding}
use Rattle.buffa_map.specs.EntryReading.{charge_at, charge_of}
use Rattle.buffa_map.specs.Message.{message_reading}
use Rattle.buffa_map.specs.Scalars.{delimited_writing}
use Rattle.buffa_wire.specs.BudgetLeft.{BudgetLeft, charge_by, nothing}
use Rattle.buffa_wire.specs.Encoding.{records_encoding}
use Rattle.buffa_wire.specs.Parse.{Fits}
use Rattle.buffa_wire.specs.Passes.{cap}
use Rattle.buffa_wire.specs.Records.{bytes, records_of}
use Rattle.buffa_wire.specs.Takes.{ReadsBack}
use Rattle.buffa_fields.specs.EntriesTaken.{entry_cost, entry_taken, whole_entry_in}
use Rattle.buffa_recursive.specs.MapKeys.{Keys, KeysReadBack}
use Rattle.buffa_fields.specs.Schema.{ReadsBackTo}
use Rattle.buffa_fields.specs.facts.LevelKindFacts.{pair_numbers, pairs_low}
use Rattle.buffa_fields.specs.MapFields.{pair_cost, pair_taken, stepped}
use Rattle.buffa_fields.specs.Submessages.{FitsInside}
use Rattle.buffa_fields.specs.facts.MapOfMessagesFacts.{pairs_back}
use Rattle.buffa_fields.specs.MapsOfMessages.{pair_levels, pair_records, pair_slots}
use Rattle.buffa_fields.specs.facts.OrderedFacts.{ascending_put}
use Rattle.buffa_fields.specs.facts.ValidRecordFacts.{pair_valid}
use Rattle.buffa_recursive.specs.TakenByAnother.{taken_through}
use Rattle.buffa_recursive.specs.facts.TakenByAnotherFacts.{back_through, written_through}
use Rattle.buffa_recursive.specs.MessageTree.{TreeList, MessageTree, first_tree, children_height, tree_height, no_trees}
use Rattle.buffa_recursive.specs.RecursiveSchema.{CostAlike, MergeAlike, SayAlike}
use Rattle.buffa_recursive.specs.MapShape.{pairs_shape, reading_by}
use Rattle.buffa_recursive.specs.MapTree.{pairs_again, pairs_in, child_pairs, pairs_by_semantics}
use Rattle.buffa_recursive.specs.InnerMessages.{Semantics, encoding_by}

-- ---- a level down: a map of messages is read by what the level below alone means and costs
module _ {K X : Type 0} (key : Reading K) (blank other : X) (merged meant : ℕ → X → List ℕ → Option X) (cost costs : ℕ → List ℕ → BudgetLeft) where
  abbrev AlikeBelow : ℕ → Type 0
  AlikeBelow d = (blank ≡ other) × ((e : ℕ) → suc e ≡ d → merged e ≡ meant e)

  entry_alike : (d : ℕ) → AlikeBelow d → (r : Result (List ℕ × List ℕ) DecodeError) → whole_entry_in key (message_reading blank merged cost) d r ≡ whole_entry_in key (message_reading other meant costs) d r
  entry_alike d h (Err e) = refl
  entry_alike d h (Ok (b, x ∷ xs)) = refl
  entry_alike zero h (Ok (b, [])) = λ i. whole_entry_in key (message_reading (h.0 i) (λ _ _ _. None) (λ _ _. nothing)) zero (Ok (b, []))
  entry_alike (suc d) h (Ok (b, [])) = λ i. whole_entry_in key (message_reading (h.0 i) (λ _. h.1 d refl i) (λ _ _. nothing)) (suc d) (Ok (b, []))

  paid_alike : (each d : ℕ) → AlikeBelow d → ((e : ℕ) → suc e ≡ d → cost e ≡ costs e) → (r : Result (List ℕ × List ℕ) DecodeError) →
      charge_by r (λ e. charge_of key (message_reading blank merged cost) d each e.0) ≡ charge_by r (λ e. charge_of key (message_reading other meant costs) d each e.0)
  unfolding charge_at
  paid_alike each d h j (Err e) = refl
  paid_alike each zero h j (Ok p) = λ i. charge_of key (message_reading (h.0 i) (λ _ _ _. None) (λ _ _. nothing)) zero each p.0
  paid_alike each (suc d) h j (Ok p) = λ i. charge_of key (message_reading (h.0 i) (λ _. h.1 d refl i) (λ _. j d refl i)) (suc d) each p.0

  pub pair_taken_alike : (d : ℕ) → AlikeBelow d → (puts : List (K × X) → K → X → List (K × X)) → pair_taken key (message_reading blank merged cost) puts d ≡ pair_taken key (message_reading other meant costs) puts d
  unfolding entry_taken
  pair_taken_alike d h puts = λ i ps n w p. if same_wire LengthDelimited w then option_map (λ x. stepped puts ps x.1) (entry_alike d h (delimited_at p) i) else None

  pub pair_cost_alike : (d : ℕ) → AlikeBelow d → ((e : ℕ) → suc e ≡ d → cost e ≡ costs e) → (each : ℕ) → pair_cost key (message_reading blank merged cost) each d ≡ pair_cost key (message_reading other meant costs) each d
  unfolding entry_cost
  pair_cost_alike d h j each = λ i n w bs. if same_wire LengthDelimited w then paid_alike each d h j (delimited_at bs) i else nothing

-- two words are alike, of a member
abbrev pub PairsAlike : {K W : Type 0} → Keys K → Semantics (MessageTree W) → Semantics (MessageTree W) → ℕ → List K × TreeList W → Type 0
PairsAlike keys v w k b =
    let s = pairs_by_semantics keys v in
    let t = pairs_by_semantics keys w in
    (s.records k b ≡ t.records k b) × (s.slots b ≡ t.slots b) × (s.levels b ≡ t.levels b) × (s.normal b → t.normal b)

module _ {K W : Type 0} (keys : Keys K) (v w : Semantics (MessageTree W)) where
  pub pairs_takes_alike : (d : ℕ) → MergeAlike v w d → (pairs_by_semantics keys v).takes d ≡ (pairs_by_semantics keys w).takes d
  pairs_takes_alike d h = λ i b n wire p.
      option_map pairs_in (pair_taken_alike keys.reading v.blank w.blank v.merged w.merged v.cost w.cost d h (insert_entry keys.order) i (child_pairs b.0 b.1) n wire p)

  pub pairs_charge_alike : (d : ℕ) → MergeAlike v w d → CostAlike v w d → (pairs_shape keys v).charge d ≡ (pairs_shape keys w).charge d
  pairs_charge_alike d h j =
      pair_cost_alike keys.reading v.blank w.blank v.merged w.merged v.cost w.cost d h j.1 (keys.cost + v.each)
      ∙ ap (λ k. pair_cost keys.reading (reading_by w) (keys.cost + k) d) j.0

  module _ (h : ℕ) (alike : (x : MessageTree W) → tree_height x ≤ h → SayAlike v w x) where
    inner_records : (k : ℕ) (js : List K) (ks : TreeList W) → children_height ks ≤ h → pair_records keys.writing (encoding_by v) k (child_pairs js ks) ≡ pair_records keys.writing (encoding_by w) k (child_pairs js ks)
    unfolding pair_records
    inner_records k [] ks low = refl
    inner_records k (j ∷ js) no_trees low = refl
    inner_records k (j ∷ js) (first_tree t ks) low =
        let one = alike t (omega (arith, low)) in
        let others = inner_records k js ks (omega (arith, low)) in
        λ i. (k, bytes (entry_encoding keys.writing (delimited_writing (λ (b : List ℕ). b)) (j, records_encoding (one.0 i)))) ∷ others i

    inner_slots : (js : List K) (ks : TreeList W) → children_height ks ≤ h → pair_slots (encoding_by v) v.slots (child_pairs js ks) ≡ pair_slots (encoding_by w) w.slots (child_pairs js ks)
    unfolding pair_slots
    inner_slots [] ks low = refl
    inner_slots (j ∷ js) no_trees low = refl
    inner_slots (j ∷ js) (first_tree t ks) low =
        let one = alike t (omega (arith, low)) in
        let others = inner_slots js ks (omega (arith, low)) in
        λ i. cap (length (records_encoding (one.0 i))) ∷ one.1 i ++ others i

    inner_levels : (js : List K) (ks : TreeList W) → children_height ks ≤ h → pair_levels v.levels (child_pairs js ks) ≡ pair_levels w.levels (child_pairs js ks)
    inner_levels [] ks low = refl
    inner_levels (j ∷ js) no_trees low = refl
    inner_levels (j ∷ js) (first_tree t ks) low =
        let one = alike t (omega (arith, low)) in
        let others = inner_levels js ks (omega (arith, low)) in
        λ i. max (suc (one.2 i)) (others i)

    inner_normal : (js : List K) (ks : TreeList W) → children_height ks ≤ h → AllHold keys.Normal (FitsInside v.normal v.records) (child_pairs js ks) → AllHold keys.Normal (FitsInside w.normal w.records) (child_pairs js ks)
    inner_normal [] ks low normal = tt
    inner_normal (j ∷ js) no_trees low normal = tt
    inner_normal (j ∷ js) (first_tree t ks) low normal =
        let one = alike t (omega (arith, low)) in
        (normal.0, (one.3 normal.1.0, subst (λ rs. Fits (records_of rs)) one.0 normal.1.1), inner_normal js ks (omega (arith, low)) normal.2)

  pub pairs_say_alike : (k h : ℕ) (b : List K × TreeList W) → children_height b.1 ≤ h → ((x : MessageTree W) → tree_height x ≤ h → SayAlike v w x) → PairsAlike keys v w k b
  pairs_say_alike k h b low alike =
      (inner_records h alike k b.0 b.1 low, inner_slots h alike b.0 b.1 low, inner_levels h alike b.0 b.1 low, λ normal. (normal.0, (inner_normal h alike b.0 b.1 low normal.1.0, normal.1.1)))

-- ---- it reads back
module _ {K W : Type 0} (keys : Keys K) (good : KeysReadBack keys) (w : Semantics (MessageTree W)) where
  pairs_itself : ReadsBackTo (pairs_shape keys w)
  pairs_itself = record {
    valid = λ n number ps normal. pair_valid n number keys.writing (encoding_by w) ps;
    back = λ n number d ps fits normal low.
        pairs_back w.merged w.blank w.cost (encoding_by w) w.levels (FitsInside w.normal w.records) (λ d x ok low. w.back d x ok.1 ok.0 low)
        keys.reading keys.writing good.wires (insert_entry keys.order) keys.Normal good.back n number d ps fits normal.0 (ascending_put good.total ps normal.1) low;
    exact = λ exact. record {
      numbers = pair_numbers keys.writing (encoding_by w);
      least = λ n d ps normal taken.
          pairs_low keys.reading keys.writing good.wires keys.Normal good.back w.merged w.blank w.cost (encoding_by w) w.records w.normal w.levels exact (insert_entry keys.order) n d ps normal.0 taken;
    };
  }

  pub pairs_back_by_semantics : ReadsBackTo (pairs_by_semantics keys w)
  pairs_back_by_semantics =
      let s = pairs_shape keys w in record {
        valid = λ k number b normal. pairs_itself.valid k number (child_pairs b.0 b.1) normal.1;
        back = λ k number d b fits normal low.
            subst (λ z. ReadsBack (taken_through pairs_in (λ a. child_pairs a.0 a.1) s.takes) (λ n. n == k) d (pairs_in []) (records_encoding (s.records k (child_pairs b.0 b.1))) z) normal.0
            (back_through pairs_in (λ a. child_pairs a.0 a.1) pairs_again s.takes d (λ n. n == k) [] (child_pairs b.0 b.1) _ (pairs_itself.back k number d (child_pairs b.0 b.1) fits normal.1 low));
        exact = λ exact. let one = pairs_itself.exact exact in record {
          numbers = λ k b. one.numbers k (child_pairs b.0 b.1);
          least = λ k d b normal h. one.least k d (child_pairs b.0 b.1) normal.1 (written_through pairs_in (λ a. child_pairs a.0 a.1) s.takes d (s.records k (child_pairs b.0 b.1)) h);
        };
      }
