-- What a node is: scores by text, children by number, shades by number, each in the order of its keys, and the records of
-- fields that it doesn't declare. Source: the protobuf language guide, "Maps" and "Unknown Fields".
use Rattle.std.specs.Prelude.{◌≡◌, ℕ, ℤ, List, [], Option, None, Some, if◌then◌else◌, pos}
use Rattle.std.specs.Ordering.{int_eq}
use Rattle.buffa_wire.specs.Enums.{Numbers, numbers}
use Rattle.buffa_wire.specs.Records.{FieldData}
use Rattle.buffa_recursive.specs.MessageTree.{MessageTree, TreeList, message_tree, many, no_trees, no_inner}
use Rattle.buffa_recursive.specs.MapTree.{keys_in, values_in}
use Rattle.sample_node.specs.declared.shade.Shade.{Shade}
use Rattle.sample_node.specs.declared.shade.Shade.TheVariants.{A, B}

-- the shades by their numbers
abbrev pub shade_of : ℤ → Option Shade
shade_of n = if int_eq n (pos 0) then Some A else if int_eq n (pos 1) then Some B else None

abbrev pub shade_number : Shade → ℤ
shade_number A = pos 0
shade_number B = pos 1

abbrev pub shade_numbers : Numbers
shade_numbers = numbers shade_of (pos 0)

-- scores by the bytes of their texts, shades by their numbers, and what is kept beside them
abbrev pub Scores : Type 0
Scores = List (List ℕ × ℤ)

abbrev pub Shades : Type 0
Shades = List (ℤ × ℤ)

abbrev pub NodeKept : Type 0
NodeKept = List (ℕ × FieldData)

-- what a node has of its own: all but the children, of which it has the keys
abbrev pub NodeOwn : Type 0
NodeOwn = Scores × (List ℤ × (Shades × NodeKept))

-- a node: what it has of its own, and its children in one slot, in the order of their keys
abbrev pub Branch : Type 0
Branch = MessageTree NodeOwn

pattern abbrev pub branch : Scores → List ℤ → TreeList NodeOwn → Shades → NodeKept → Branch
branch a ks cs h r = message_tree (a, (ks, (h, r))) (many cs no_inner)

-- the node of these scores, children, shades, and what is kept
abbrev pub node_of : Scores → List (ℤ × Branch) → Shades → NodeKept → Branch
node_of a es h r = branch a (keys_in es) (values_in es) h r

-- what a struct `Node` holds is such a node
abbrev pub IsNode : Branch → Type 0
IsNode t = (a : Scores) × (es : List (ℤ × Branch)) × (h : Shades) × (r : NodeKept) × (t ≡ node_of a es h r)

-- the one with nothing in it
abbrev pub blank_node : Branch
blank_node = branch [] [] no_trees [] []
