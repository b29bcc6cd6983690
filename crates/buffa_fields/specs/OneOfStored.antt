-- How the logic stores what a oneof means.
use Rattle.std.proofs.Common.{◌≡◌, inl, inr, refl}
use Rattle.std.specs.Prelude.{◌⊎◌}
use Rattle.std.specs.Coded.{Coded, code_by, coded⊎}
use Rattle.buffa_fields.specs.declared.meaning.Or.{Or}
use Rattle.buffa_fields.specs.declared.meaning.Or.TheVariants.{This, Other}

module _ {A B : Type 0} where
  abbrev of_either : Or A B → A ⊎ B
  of_either (This a) = inl a
  of_either (Other b) = inr b

  abbrev either_of : A ⊎ B → Or A B
  either_of (inl a) = This a
  either_of (inr b) = Other b

  pub either_of-of_either : (o : Or A B) → either_of (of_either o) ≡ o
  either_of-of_either (This a) = refl
  either_of-of_either (Other b) = refl

  abbrev pub coded_or : Coded A → Coded B → Coded (Or A B)
  coded_or a b = code_by (A ⊎ B) (coded⊎ a b) of_either either_of either_of-of_either
