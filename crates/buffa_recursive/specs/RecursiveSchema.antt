-- How a message that holds itself is laid out: its members, one after the other, by what is told of the messages inside.
-- Source: the protobuf encoding guide, "Message Structure" and "Submessages".
use Rattle.std.specs.Prelude.{◌≡◌, ◌≤◌, ◌<◌, ℕ, suc, List, Option, Some, length}
use Rattle.std.proofs.Common.{get_or}
use Rattle.std.specs.List.{Contains}
use Rattle.std.specs.Map.{values_of}
use Rattle.buffa_wire.specs.Takes.{Taker}
use Rattle.buffa_fields.specs.Schema.{Schema, Shape}
use Rattle.buffa_recursive.specs.TakenByAnother.{taken_through}
use Rattle.buffa_recursive.specs.InnerMessages.{AreExactBy, Semantics, as_other, list_shape, lossless, child_shape}
use Rattle.buffa_recursive.specs.MapShape.{pairs_shape}
use Rattle.buffa_recursive.specs.MapKeys.{Keys}

-- ---- words that are alike
module _ {X : Type 0} (v w : Semantics X) where
  -- in what is merged a level below
  abbrev pub MergeAlike : ℕ → Type 0
  MergeAlike d = (v.blank ≡ w.blank) × ((e : ℕ) → suc e ≡ d → v.merged e ≡ w.merged e)

  abbrev pub CostAlike : ℕ → Type 0
  CostAlike d = (v.each ≡ w.each) × ((e : ℕ) → suc e ≡ d → v.cost e ≡ w.cost e) × MergeAlike d

  -- in what is told of a message
  abbrev pub SayAlike : X → Type 0
  SayAlike x = (v.records x ≡ w.records x) × (v.slots x ≡ w.slots x) × (v.levels x ≡ w.levels x) × (v.normal x → w.normal x)

-- lists of members that are, of a value
abbrev pub SchemasAlike : {M Y : Type 0} → Schema M Y → Schema M Y → Y → Type 0
SchemasAlike l m y = (l.records y ≡ m.records y) × (l.slots y ≡ m.slots y) × (l.levels y ≡ m.levels y) × (l.normal y → m.normal y)

-- What a type of messages is that hold themselves; its values are knots, of which a member may hold some.
pub record RecursiveSchema (X : Type 0) : Type 1 where
  -- how high a value is, and those in a member: more than those in it
  pub height : X → ℕ
  -- those in a member that is a list, or that may hold one
  pub TreeList : Type 0
  pub of_list : List X → TreeList
  pub children_list : TreeList → List X
  pub list_again : (xs : List X) → children_list (of_list xs) ≡ xs
  pub children_height : TreeList → ℕ
  pub tree_low : (xs : List X) (i : ℕ) (x : X) → i < length xs → height (get_or xs i x) ≤ children_height (of_list xs)
  pub Maybe : Type 0
  pub of_option : Option X → Maybe
  pub option_of : Maybe → Option X
  pub option_again : (o : Option X) → option_of (of_option o) ≡ o
  pub maybe_height : Maybe → ℕ
  pub one_low : (x : X) → height x ≤ maybe_height (of_option (Some x))
  -- those in a member that is a map, by their keys
  pub Pairs : Type 0 → Type 0
  pub of_pairs : {K : Type 0} → List (K × X) → Pairs K
  pub pairs_from : {K : Type 0} → Pairs K → List (K × X)
  pub pairs_again : {K : Type 0} (ps : List (K × X)) → pairs_from (of_pairs ps) ≡ ps
  pub pairs_height : {K : Type 0} → Pairs K → ℕ
  pub pair_low : {K : Type 0} (ps : List (K × X)) (x : X) → Contains (values_of ps) x → height x ≤ pairs_height (of_pairs ps)
  -- a value as what its members mean, one after the other, and back; and the default
  pub Y : Type 0
  pub out : X → Y
  pub into : Y → X
  pub again : (y : Y) → out (into y) ≡ y
  pub blank : Y
  -- what the members owe that hold other messages, for reading back and for exact levels
  pub Owes : Type 0
  pub Exact : Type 0
  pub schema : Semantics X → Schema X Y
  pub meaning_is : (w : Semantics X) (x : X) → (schema w).meaning x ≡ out x
  pub blank_is : (w : Semantics X) → (schema w).blank ≡ blank
  -- by words that are alike members are
  pub takes_alike : (v w : Semantics X) (d : ℕ) → MergeAlike v w d → (schema v).takes d ≡ (schema w).takes d
  pub charge_alike : (v w : Semantics X) (d : ℕ) → CostAlike v w d → (schema v).charge d ≡ (schema w).charge d
  pub say_alike : (v w : Semantics X) (x : X) → ((k : X) → height k < height x → SayAlike v w k) → SchemasAlike (schema v) (schema w) (out x)
  pub owes : (w : Semantics X) → Owes → (schema w).Owes
  pub exact : (w : Semantics X) → Exact → AreExactBy w → (schema w).Exact

-- what a field makes of a value, by the members
abbrev pub whole_takes : {X : Type 0} (o : RecursiveSchema X) → Semantics X → Taker X
whole_takes o w = taken_through o.into o.out (o.schema w).takes

-- the members that hold messages of the type itself, by what is told of these
abbrev pub children_shape : {X : Type 0} (o : RecursiveSchema X) → Semantics X → Shape o.TreeList o.TreeList
children_shape o w = as_other o.of_list o.children_list (list_shape w)

abbrev pub maybe_shape : {X : Type 0} (o : RecursiveSchema X) → Semantics X → Shape o.Maybe o.Maybe
maybe_shape o w = as_other o.of_option o.option_of (child_shape w)

abbrev pub map_shape : {X K : Type 0} (o : RecursiveSchema X) → Keys K → Semantics X → Shape (o.Pairs K) (o.Pairs K)
map_shape o keys w = lossless o.of_pairs o.pairs_from (pairs_shape keys w)
