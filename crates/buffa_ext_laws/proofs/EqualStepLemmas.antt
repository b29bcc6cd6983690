-- Steps are told to be equal exactly where they are one step.
use Rattle.std.proofs.Common.{◌≡◌, Bool, true, false, ◌&&◌, List, [], ◌∷◌, map, refl, nat_eq}
use Rattle.std.specs.Cmp.{first_so, second_so}
use Rattle.std.specs.Cmp.Lexicographic.{pointwise}
use Rattle.std.proofs.lemmas.Bool.Decides.{Decides-eqb}
use Rattle.std.proofs.lemmas.Bool.{and_from, false≢true}
use Rattle.buffa_wire.specs.Equal.{field_data_eq, field_data_eq-Decides}
use Rattle.buffa_wire.specs.RecordsOfValues.{field_data_of}
use Rattle.buffa_wire.specs.declared.unknown_fields.UnknownFieldData.{UnknownFieldData}
use Rattle.buffa_ext.specs.SetsAndClears.{step_of, clear, set}
use Rattle.buffa_ext.specs.declared.sets_and_clears.Step.{Step}
use Rattle.buffa_ext.specs.declared.sets_and_clears.Step.TheVariants.{Set, Clear}

-- two payloads hold the same
abbrev hold_one : UnknownFieldData → UnknownFieldData → Bool
hold_one x y = field_data_eq (field_data_of x) (field_data_of y)

pub payloads_are : (xs ys : List UnknownFieldData) → pointwise hold_one xs ys ≡ true → map field_data_of xs ≡ map field_data_of ys
payloads_are [] [] h = refl
payloads_are [] (y ∷ ys) h = absurd (false≢true h)
payloads_are (x ∷ xs) [] h = absurd (false≢true h)
payloads_are (x ∷ xs) (y ∷ ys) h = λ i.
    (field_data_eq-Decides (field_data_of x) (field_data_of y)).0 (first_so (hold_one x y) (pointwise hold_one xs ys) h) i ∷ payloads_are xs ys (second_so (hold_one x y) (pointwise hold_one xs ys) h) i

pub payloads_found : (xs ys : List UnknownFieldData) → map field_data_of xs ≡ map field_data_of ys → pointwise hold_one xs ys ≡ true
payloads_found [] [] e = refl
payloads_found [] (y ∷ ys) e = cc
payloads_found (x ∷ xs) [] e = cc
payloads_found (x ∷ xs) (y ∷ ys) e = and_from (hold_one x y) (pointwise hold_one xs ys) ((field_data_eq-Decides (field_data_of x) (field_data_of y)).1 (cc)) (payloads_found xs ys (cc))

-- ---- steps

abbrev reported : Step → Step → Bool
reported (Set m xs) (Set n ys) = nat_eq m n && pointwise hold_one xs.items ys.items
reported (Clear m) (Clear n) = nat_eq m n
reported (Set m xs) (Clear n) = false
reported (Clear m) (Set n ys) = false

pub steps_are : (a b : Step) → reported a b ≡ true → step_of a ≡ step_of b
steps_are (Set m xs) (Set n ys) h = λ i.
    set ((Decides-eqb m n).0 (first_so (nat_eq m n) (pointwise hold_one xs.items ys.items) h) i) (payloads_are xs.items ys.items (second_so (nat_eq m n) (pointwise hold_one xs.items ys.items) h) i)
steps_are (Clear m) (Clear n) h = λ i. clear ((Decides-eqb m n).0 h i)
steps_are (Set m xs) (Clear n) h = absurd (false≢true h)
steps_are (Clear m) (Set n ys) h = absurd (false≢true h)

pub steps_reported : (a b : Step) → step_of a ≡ step_of b → reported a b ≡ true
steps_reported (Set m xs) (Set n ys) e = and_from (nat_eq m n) (pointwise hold_one xs.items ys.items) ((Decides-eqb m n).1 (cc)) (payloads_found xs.items ys.items (cc))
steps_reported (Clear m) (Clear n) e = (Decides-eqb m n).1 (cc)
steps_reported (Set m xs) (Clear n) e = cc
steps_reported (Clear m) (Set n ys) e = cc
