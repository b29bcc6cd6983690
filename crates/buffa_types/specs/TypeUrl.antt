-- The URL by which an Any says its type, as the comments of google/protobuf/any.proto have it.
use Rattle.std.specs.Prelude.{◌≡◌, ℕ, List, [], ◌∷◌, ◌++◌, codes}
use Rattle.std.specs.List.{Contains}

-- The byte of `/`.
abbrev pub slash : ℕ
slash = 47

-- The name stands behind the last slash: there is one, and none is in the name.
abbrev pub NamesType : List ℕ → List ℕ → Type 0
NamesType url name = ((host : List ℕ) × (url ≡ host ++ slash ∷ name)) × (Contains name slash → ⊥)

-- The URL that is written for a type with this full name.
abbrev pub url_of : List ℕ → List ℕ
url_of name = codes "type.googleapis.com/" ++ name
