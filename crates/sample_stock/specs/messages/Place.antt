-- Words for what shop.Place means, made of stock.proto by protoc-gen-buffa.
use Rattle.buffa_fields.specs.Terms.{FieldData}
use Rattle.buffa_recursive.specs.MessageTree.{MessageTree, children_list, head_many, many, of_list, rest_of, tail_inner, tree_of}
use Rattle.std.specs.Prelude.{List, ℕ}

abbrev pub Own : Type 0
Own = List ℕ × List (ℕ × FieldData)

abbrev pub Meaning : Type 0
Meaning = MessageTree Own

-- string name = 1;
abbrev pub name : Meaning → List ℕ
name m = (rest_of m).0.0

abbrev pub with_name : List ℕ → Meaning → Meaning
with_name x m = tree_of ((x, (rest_of m).0.1), (rest_of m).1)

-- repeated Place places = 2;
abbrev pub places : Meaning → List Meaning
places m = children_list (head_many (rest_of m).1)

abbrev pub with_places : List Meaning → Meaning → Meaning
with_places x m = tree_of ((rest_of m).0, many (of_list x) (tail_inner (rest_of m).1))

-- the fields that aren't declared
abbrev pub unknown_fields : Meaning → List (ℕ × FieldData)
unknown_fields m = (rest_of m).0.1

abbrev pub with_unknown_fields : List (ℕ × FieldData) → Meaning → Meaning
with_unknown_fields x m = tree_of (((rest_of m).0.0, x), (rest_of m).1)
