-- What is proved of the laws of members that hold messages of the message's own type.
use Rattle.std.proofs.Common.{◌≡◌, Option, Some, None, refl, ap}
use Rattle.std.specs.Option.{option_map}

pub had_again : {A B : Type 0} (to : A → B) (from : B → A) → ((a : A) → from (to a) ≡ a) → (o : Option A) → option_map from (option_map to o) ≡ o
had_again to from again None = refl
had_again to from again (Some a) = ap (λ x. Some x) (again a)
