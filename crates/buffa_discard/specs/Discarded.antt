-- What is left of messages in an option, in a list and in a map, when the fields are taken out that their types don't declare.
use Rattle.std.specs.Prelude.{◌≡◌, List, [], ◌∷◌, Option, Some, None}

module _ {M : Type 0} (Discarded : M → M → Type 0) where
  -- none, or one without them
  abbrev pub IfThereDiscarded : Option M → Option M → Type 0
  IfThereDiscarded None new = new ≡ None
  IfThereDiscarded (Some old) new = (m : M) × (new ≡ Some m) × Discarded old m

  -- as many, and each in its place without them
  abbrev pub EachDiscarded : List M → List M → Type 0
  EachDiscarded [] new = new ≡ []
  EachDiscarded (old ∷ olds) new = (m : M) × (ms : List M) × (new ≡ m ∷ ms) × Discarded old m × EachDiscarded olds ms

  -- the same of the values of a map: its keys stay, and their order
  abbrev pub ValuesDiscarded : {K : Type 0} → List (K × M) → List (K × M) → Type 0
  ValuesDiscarded [] new = new ≡ []
  ValuesDiscarded (old ∷ olds) new = (m : M) × (ms : List (_ × M)) × (new ≡ (old.0, m) ∷ ms) × Discarded old.1 m × ValuesDiscarded olds ms
