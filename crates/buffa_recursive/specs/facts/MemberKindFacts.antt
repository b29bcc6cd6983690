-- What is proved of the kinds of members of a message that holds itself.
use Rattle.std.proofs.Common.{◌≡◌, ℕ, zero, suc, ◌≤◌, ◌==◌, max, List, [], ◌∷◌, ◌++◌, length, Option, None, Result, Ok, Err, refl, subst, arith, if◌then◌else◌}
use Rattle.std.specs.List.{AllByRecursion}
use Rattle.std.specs.Option.{option_map}
use Rattle.buffa_bytes.specs.Readings.{delimited_at, same_wire}
use Rattle.buffa_bytes.specs.declared.error.DecodeError.{DecodeError}
use Rattle.buffa_bytes.specs.declared.wire_type.WireType.TheVariants.{LengthDelimited}
use Rattle.buffa_wire.specs.BudgetLeft.{BudgetLeft, nothing, plus, units}
use Rattle.buffa_wire.specs.Encoding.{records_encoding}
use Rattle.buffa_wire.specs.Message.{cost_of_payload}
use Rattle.buffa_wire.specs.Passes.{cap}
use Rattle.buffa_wire.specs.Records.{bytes, records_of}
use Rattle.buffa_wire.specs.Parse.{Fits}
use Rattle.buffa_wire.specs.Takes.{ReadsBack}
use Rattle.buffa_fields.specs.Framing.{cost_as, each_cost_as, taken_as}
use Rattle.buffa_fields.specs.facts.FramingFacts.{behind_back, behind_least, behind_valid, delimited_holds, there_back, there_least, there_valid}
use Rattle.buffa_fields.specs.Framings.{delimited}
use Rattle.buffa_fields.specs.Schema.{ReadsBackTo, Shape}
use Rattle.buffa_fields.specs.facts.LevelKindFacts.{element_numbers, explicit_numbers}
use Rattle.buffa_fields.specs.Lists.{element_records}
use Rattle.buffa_fields.specs.MemberRecords.{explicit_records}
use Rattle.buffa_fields.specs.Submessages.{FitsInside, inside, message_levels, message_slots, taken_there}
use Rattle.buffa_fields.specs.RepeatedMessages.{messages_levels, messages_slots}
use Rattle.buffa_fields.specs.Values.{IfThere}
use Rattle.buffa_recursive.specs.facts.TakenByAnotherFacts.{back_through, written_through}
use Rattle.buffa_recursive.specs.MessageTree.{TreeList, MessageTree, Maybe, first_tree, children_height, tree_height, children_list, list_of-of_list, maybe_height, no_trees, no_tree, of_list, of_list-list_of, of_option, of_option-option_of, option_of, option_of-of_option, some_tree}
use Rattle.buffa_recursive.specs.RecursiveSchema.{CostAlike, MergeAlike, SayAlike}
use Rattle.buffa_recursive.specs.InnerMessages.{Semantics, as_other, encoding_by, list_shape, messages_by, child_shape}
use Rattle.buffa_recursive.specs.TakenByAnother.{taken_through}

-- ---- a level down
paid_alike : (c k : ℕ → List ℕ → BudgetLeft) (d : ℕ) → ((e : ℕ) → suc e ≡ d → c e ≡ k e) → (r : Result (List ℕ × List ℕ) DecodeError) → cost_of_payload c d r ≡ cost_of_payload k d r
paid_alike c k zero h (Ok p) = refl
paid_alike c k (suc e) h (Ok p) = λ i. h e refl i p.0
paid_alike c k zero h (Err e) = refl
paid_alike c k (suc d) h (Err e) = refl

each_cost_alike : (a b : ℕ) (c k : ℕ → List ℕ → BudgetLeft) (d : ℕ) → a ≡ b → ((e : ℕ) → suc e ≡ d → c e ≡ k e) → each_cost_as LengthDelimited a (delimited.cost c) d ≡ each_cost_as LengthDelimited b (delimited.cost k) d
unfolding each_cost_as
each_cost_alike a b c k d same h = λ i n w bs. if same_wire LengthDelimited w then plus (units (same i)) (paid_alike c k d h (delimited_at bs) i) else nothing

module _ {X : Type 0} where
  inside_alike : (m n : ℕ → X → List ℕ → Option X) (d : ℕ) → ((e : ℕ) → suc e ≡ d → m e ≡ n e) → (v : X) (r : Result (List ℕ × List ℕ) DecodeError) → inside m d v r ≡ inside n d v r
  inside_alike m n zero h v (Ok (b, [])) = refl
  inside_alike m n (suc e) h v (Ok (b, [])) = λ i. h e refl i v b
  inside_alike m n zero h v (Ok (b, x ∷ xs)) = refl
  inside_alike m n (suc e) h v (Ok (b, x ∷ xs)) = refl
  inside_alike m n zero h v (Err e) = refl
  inside_alike m n (suc d) h v (Err e) = refl

  message_alike : (m n : ℕ → X → List ℕ → Option X) (d : ℕ) → ((e : ℕ) → suc e ≡ d → m e ≡ n e) → taken_as LengthDelimited (delimited.makes m) d ≡ taken_as LengthDelimited (delimited.makes n) d
  unfolding taken_as
  message_alike m n d h = λ i v k w p. if same_wire LengthDelimited w then inside_alike m n d h v (delimited_at p) i else None

-- ---- a member that is told in another way
module _ {A B : Type 0} (to : A → B) (from : B → A) (again : (a : A) → from (to a) ≡ a) (whole : (b : B) → to (from b) ≡ b) (s : Shape A A) (back : ReadsBackTo s) where
  other_back : ReadsBackTo (as_other to from s)
  other_back = record {
    valid = λ k number b normal. back.valid k number (from b) normal;
    back = λ k number d b fits normal low.
        subst (λ z. ReadsBack (taken_through to from s.takes) (λ n. n == k) d (to s.blank) (records_encoding (s.records k (from b))) z) (whole b) (back_through to from again s.takes d (λ n. n == k) s.blank (from b) _ (back.back k number d (from b) fits normal low));
    exact = λ exact. let one = back.exact exact in record {
      numbers = λ k b. one.numbers k (from b);
      least = λ k d b normal h. one.least k d (from b) normal (written_through to from s.takes d (s.records k (from b)) h);
    };
  }

module _ {W : Type 0} (v w : Semantics (MessageTree W)) where
  -- ---- lists
  pub list_takes_alike : (d : ℕ) → MergeAlike v w d → (as_other of_list children_list (list_shape v)).takes d ≡ (as_other of_list children_list (list_shape w)).takes d
  list_takes_alike d h =
      let alike = message_alike v.merged w.merged d h.1 in
      λ i ks n wire p. option_map of_list (option_map (λ x. children_list ks ++ x ∷ []) (alike i (h.0 i) n wire p))

  pub list_cost_alike : (d : ℕ) → CostAlike v w d → (list_shape v).charge d ≡ (list_shape w).charge d
  list_cost_alike d h = each_cost_alike v.each w.each v.cost w.cost d h.0 h.1

  module _ (h : ℕ) (alike : (x : MessageTree W) → tree_height x ≤ h → SayAlike v w x) where
    children_records : (k : ℕ) (ks : TreeList W) → children_height ks ≤ h → element_records (λ x. bytes (encoding_by v x)) k (children_list ks) ≡ element_records (λ x. bytes (encoding_by w x)) k (children_list ks)
    unfolding element_records
    children_records k no_trees low = refl
    children_records k (first_tree t ks) low =
        let one = alike t (omega (arith, low)) in
        let others = children_records k ks (omega (arith, low)) in
        λ i. (k, bytes (records_encoding (one.0 i))) ∷ others i

    children_slots : (ks : TreeList W) → children_height ks ≤ h → messages_slots (encoding_by v) v.slots (children_list ks) ≡ messages_slots (encoding_by w) w.slots (children_list ks)
    unfolding messages_slots
    children_slots no_trees low = refl
    children_slots (first_tree t ks) low =
        let one = alike t (omega (arith, low)) in
        let others = children_slots ks (omega (arith, low)) in
        λ i. (cap (length (records_encoding (one.0 i))) ∷ one.1 i) ++ others i

    children_levels : (ks : TreeList W) → children_height ks ≤ h → messages_levels v.levels (children_list ks) ≡ messages_levels w.levels (children_list ks)
    children_levels no_trees low = refl
    children_levels (first_tree t ks) low =
        let one = alike t (omega (arith, low)) in
        let others = children_levels ks (omega (arith, low)) in
        λ i. max (suc (one.2 i)) (others i)

    children_normal : (ks : TreeList W) → children_height ks ≤ h → AllByRecursion (FitsInside v.normal v.records) (children_list ks) → AllByRecursion (FitsInside w.normal w.records) (children_list ks)
    children_normal no_trees low normal = tt
    children_normal (first_tree t ks) low normal =
        let one = alike t (omega (arith, low)) in
        ((one.3 normal.0.0, subst (λ rs. Fits (records_of rs)) one.0 normal.0.1), children_normal ks (omega (arith, low)) normal.1)

  pub list_say_alike : (k h : ℕ) (ks : TreeList W) → children_height ks ≤ h → ((x : MessageTree W) → tree_height x ≤ h → SayAlike v w x) →
      (element_records (λ x. bytes (encoding_by v x)) k (children_list ks) ≡ element_records (λ x. bytes (encoding_by w x)) k (children_list ks))
      × (messages_slots (encoding_by v) v.slots (children_list ks) ≡ messages_slots (encoding_by w) w.slots (children_list ks)) × (messages_levels v.levels (children_list ks) ≡ messages_levels w.levels (children_list ks))
      × (AllByRecursion (FitsInside v.normal v.records) (children_list ks) → AllByRecursion (FitsInside w.normal w.records) (children_list ks))
  list_say_alike k h ks low alike = (children_records h alike k ks low, children_slots h alike ks low, children_levels h alike ks low, children_normal h alike ks low)

  -- ---- one that may be there
  pub one_takes_alike : (d : ℕ) → MergeAlike v w d → (as_other of_option option_of (child_shape v)).takes d ≡ (as_other of_option option_of (child_shape w)).takes d
  one_takes_alike d h =
      let alike = message_alike v.merged w.merged d h.1 in
      λ i m n wire p. option_map of_option (taken_there (h.0 i) (λ d. alike i) d (option_of m) n wire p)

  pub one_cost_alike : (d : ℕ) → CostAlike v w d → (child_shape v).charge d ≡ (child_shape w).charge d
  one_cost_alike d h = each_cost_alike v.each w.each v.cost w.cost d h.0 h.1

  pub one_say_alike : (k h : ℕ) (m : Maybe W) → maybe_height m ≤ h → ((x : MessageTree W) → tree_height x ≤ h → SayAlike v w x) →
      (explicit_records (λ x. bytes (encoding_by v x)) k (option_of m) ≡ explicit_records (λ x. bytes (encoding_by w x)) k (option_of m))
      × (message_slots (encoding_by v) v.slots (option_of m) ≡ message_slots (encoding_by w) w.slots (option_of m)) × (message_levels v.levels (option_of m) ≡ message_levels w.levels (option_of m))
      × (IfThere (FitsInside v.normal v.records) (option_of m) → IfThere (FitsInside w.normal w.records) (option_of m))
  unfolding explicit_records message_slots
  one_say_alike k h no_tree low alike = (refl, refl, refl, λ normal. normal)
  one_say_alike k h (some_tree t) low alike =
      let one = alike t low in (
        λ i. (k, bytes (records_encoding (one.0 i))) ∷ [],
        λ i. cap (length (records_encoding (one.0 i))) ∷ one.1 i,
        λ i. suc (one.2 i),
        λ normal. (one.3 normal.0, subst (λ rs. Fits (records_of rs)) one.0 normal.1),
      )

-- ---- they read back
module _ {W : Type 0} (w : Semantics (MessageTree W)) where
  list_itself : ReadsBackTo (list_shape w)
  list_itself = record {
    valid = behind_valid delimited delimited_holds (messages_by w);
    back = behind_back delimited delimited_holds (messages_by w);
    exact = λ exact. record {
      numbers = element_numbers (λ x. bytes (encoding_by w x));
      least = behind_least delimited delimited_holds (messages_by w) exact;
    };
  }

  pub children_back : ReadsBackTo (as_other of_list children_list (list_shape w))
  children_back = other_back of_list children_list list_of-of_list of_list-list_of (list_shape w) list_itself

  one_itself : ReadsBackTo (child_shape w)
  one_itself = record {
    valid = there_valid delimited delimited_holds (messages_by w);
    back = there_back delimited delimited_holds (messages_by w);
    exact = λ exact. record {
      numbers = explicit_numbers (λ x. bytes (encoding_by w x));
      least = there_least delimited delimited_holds (messages_by w) exact;
    };
  }

  pub child_back : ReadsBackTo (as_other of_option option_of (child_shape w))
  child_back = other_back of_option option_of option_of-of_option of_option-option_of (child_shape w) one_itself
