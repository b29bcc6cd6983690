-- What contracts see of a message that holds itself, by its members, one after the other: the author's `Model` says it so.
use Rattle.std.specs.Prelude.{List, ℕ, Option}
use Rattle.buffa_wire.specs.Records.{FieldData}
use Rattle.buffa_map.specs.Pairs.{means}
use Rattle.buffa_recursive.specs.MessageTree.{MessageTree, Rest, many, no_inner, of_list, of_option, one}
use Rattle.buffa_fields.specs.Schema.{Shape}
use Rattle.buffa_fields.specs.OneOfParts.{OneOf, case_means}
use Rattle.buffa_recursive.specs.MapTree.{keys_in, values_in}

-- the type of what a member of this shape means
abbrev pub MeaningOf : {P A : Type 0} → Shape P A → Type 0
MeaningOf {A = A} s = A

-- the type of what a oneof means
abbrev pub CaseMeaningOf : {O X : Type 0} → OneOf O X → Type 0
CaseMeaningOf {X = X} e = Option X

module _ {W : Type 0} where
  -- a member of another type, of which this is what it means
  abbrev pub has : {A B : Type 0} → A → Rest W B → Rest W (A × B)
  has a r = ((a, r.0), r.1)

  -- a oneof
  abbrev pub has_case : {O X B : Type 0} → OneOf O X → Option O → Rest W B → Rest W (Option X × B)
  has_case e o r = has (case_means e o) r

  -- a list of the message's own type
  abbrev pub has_list : {B : Type 0} → List (MessageTree W) → Rest W B → Rest W B
  has_list ts r = (r.0, many (of_list ts) r.1)

  -- one message of the message's own type, that may be there
  abbrev pub has_one : {B : Type 0} → Option (MessageTree W) → Rest W B → Rest W B
  has_one o r = (r.0, one (of_option o) r.1)

  -- a map of the message's own type, whose keys mean this
  abbrev pub has_map : {J K B : Type 0} → (J → K) → List (J × MessageTree W) → Rest W B → Rest W (List K × B)
  has_map f ps r = let qs = means f (λ m. m) ps in ((keys_in qs, r.0), many (values_in qs) r.1)

  -- the fields that are kept
  abbrev pub has_unknown_fields : List (ℕ × FieldData) → Rest W (List (ℕ × FieldData))
  has_unknown_fields rs = (rs, no_inner)

  -- none are
  abbrev pub has_none : Rest W (Unit {0})
  has_none = (tt, no_inner)
